-- Proofs: a drive keeps the clauses that all stations share.
use Rattle.std.specs.Prelude.{◌≡◌, ℕ, Bool, true, false, cond, List, [], ◌∷◌, ◌++◌, length, drop, ◌==◌, refl}
use Rattle.std.proofs.Common.{sym, ap, ◌∙◌, append-nil, drop-drop}
use Rattle.std.proofs.lemmas.Bool.{and_parts}
use Rattle.bus.specs.Wishes.{offers, is_off}
use Rattle.bus.specs.Meaning.{Lawful, left, says_yes}
use Rattle.bus.proofs.Clauses.{begins}
use Rattle.drive.specs.declared.drive.Stage.{Stage}
use Rattle.drive.specs.declared.drive.Stage.TheVariants.{Idle, MessageOut, Command, Reply, Complete, Leaving}
use Rattle.drive.specs.declared.drive.Drive.{Drive}
use Rattle.drive.specs.declared.sending.Sending.{Sending}
use Rattle.drive.specs.Images.{first_of}
use Rattle.drive.specs.Drives.{left_of, reply_bytes, reply_wish, reply_goes, wants_at, waiting_at, next_stage, store_of, at_stage, called_on, drive_meaning}

abbrev shown : List ℕ → Stage → List ℕ
shown store s = offers (wants_at store s)

-- an answer shows the first byte that is left
reply_shows : (xs : List ℕ) (status : ℕ) → xs ≡ offers (reply_wish (first_of xs) status) ++ drop (length (offers (reply_wish (first_of xs) status))) xs
reply_shows [] status = refl
reply_shows (b ∷ bs) status = refl

shows : (store : List ℕ) (s : Stage) → waiting_at store s ≡ shown store s ++ drop (length (shown store s)) (waiting_at store s)
shows store Idle = refl
shows store MessageOut = refl
shows store (Command c) = refl
shows store (Reply s) = reply_shows (left_of store s) s.reply.status
shows store Complete = refl
shows store Leaving = refl

-- an answer that goes on leaves all but that byte
reply_leaves : (store : List ℕ) (s : Sending) (xs : List ℕ) → left_of store s ≡ xs → waiting_at store (reply_goes (first_of xs) s) ≡ drop (length (offers (reply_wish (first_of xs) s.reply.status))) xs
reply_leaves store s [] e = refl
reply_leaves store s (b ∷ bs) e = sym (drop-drop 1 s.sent (reply_bytes store s.reply)) ∙ ap (drop 1) e

-- what joins at a Told
joining : List ℕ → Stage → ℕ → List ℕ
joining store Idle b = []
joining store MessageOut b = []
joining store (Command c) b = waiting_at store (next_stage store (Command c) b)
joining store (Reply s) b = []
joining store Complete b = []
joining store Leaving b = []

joins : (store : List ℕ) (s : Stage) (b : ℕ) → waiting_at store (next_stage store s b) ≡ drop (length (shown store s)) (waiting_at store s) ++ joining store s b
unfolding joining
joins store Idle b = refl
joins store MessageOut b = refl
joins store (Command c) b = refl
joins store (Reply s) b = reply_leaves store s (left_of store s) refl ∙ sym (append-nil _)
joins store Complete b = refl
joins store Leaving b = refl

never_off : (xs : List ℕ) (status : ℕ) → is_off (reply_wish (first_of xs) status) ≡ false
never_off [] status = refl
never_off (b ∷ bs) status = refl

-- a drive that is off is idle
off_idle : (store : List ℕ) (s : Stage) → is_off (wants_at store s) ≡ true → s ≡ Idle
off_idle store Idle h = refl
off_idle store MessageOut h = cc
off_idle store (Command c) h = cc
off_idle store (Reply s) h = let no = never_off (left_of store s) s.reply.status in cc
off_idle store Complete h = cc
off_idle store Leaving h = cc

none_waits : (store : List ℕ) (atn : Bool) → waiting_at store (called_on atn) ≡ []
none_waits store true = refl
none_waits store false = refl

yes_keeps : (d : Drive) (a : ℕ) (atn : Bool) → says_yes drive_meaning d a ≡ true → waiting_at (store_of d) (cond (says_yes drive_meaning d a) (called_on atn) d.stage) ≡ waiting_at (store_of d) d.stage
yes_keeps d a atn e =
    let idle = off_idle (store_of d) d.stage (and_parts (is_off (wants_at (store_of d) d.stage)) (d.address.number == a) e).0 in
    rw e (none_waits (store_of d) atn ∙ sym (ap (waiting_at (store_of d)) idle))

rests : (d : Drive) (b : ℕ) → is_off (wants_at (store_of d) d.stage) ≡ true → at_stage d (next_stage (store_of d) d.stage b) ≡ d
rests d b h =
    let idle = off_idle (store_of d) d.stage h in
    ap (λ s. at_stage d (next_stage (store_of d) s b)) idle ∙ ap (at_stage d) (sym idle)

pub drive_lawful : Lawful drive_meaning
drive_lawful = record {
  shows = λ d. shows (store_of d) d.stage;
  joins = λ d b. begins (left drive_meaning d) (joining (store_of d) d.stage b) _ (joins (store_of d) d.stage b);
  rests = rests;
  keeps = yes_keeps;
  refuses = λ d a atn e. ap (λ yes. at_stage d (cond yes (called_on atn) d.stage)) e;
  stays_told = λ d b. refl;
  stays_chosen = λ d a atn. refl;
}
