-- A drive serves any command from its choosing to Off.
use Rattle.std.proofs.Common.{◌≡◌, ℕ, ◌+◌, ◌*◌, ◌/◌, ◌≤◌, min, Bool, true, false, cond, leb, List, [], ◌∷◌, ◌++◌, map, length, get_or, take, drop, sym, refl, ap, ◌∙◌, mul-div_cancel, arith, lit<, lit≤, length-drop, length-take-le, drop-drop}
use native.Mathlib.Nat.{min-eq_left, mod-add-div'}
use Rattle.std.proofs.lemmas.Bool.{eq-eqb, ne_eqb, le-leb, lt-leb}
use Rattle.bus.specs.Courses.{wishes, told_all}
use Rattle.drive.specs.declared.command.Command.TheVariants.{TestUnitReady, Read, Other}
use Rattle.drive.specs.declared.command.Reply.{Reply as ReplyOf}
use Rattle.drive.specs.declared.drive.Stage.TheVariants.{Idle, Reply}
use Rattle.drive.specs.declared.drive.Drive.{Drive}
use Rattle.drive.specs.Images.{blocks_in, stored, first_of}
use Rattle.drive.specs.Commands.{decoded, reply, reply_to, read_first, read_count}
use Rattle.drive.specs.Drives.{store_of, at_stage, called_on, sending, left_of, reply_bytes, reply_goes, drive_meaning}
use Rattle.drive.specs.Services.{answer_to, sent_for, status_for, Right, data_wish, closing_wishes, message_wishes, command_wishes, Serves, ServesAll, Edge}

module _ (store c : List ℕ) where
  is_ready : get_or c 0 0 ≡ 0 → decoded c ≡ TestUnitReady
  is_ready e = rw e

  is_read : get_or c 0 0 ≡ 8 → decoded c ≡ Read (read_first c) (read_count c)
  is_read e = rw e

  is_other : (get_or c 0 0 ≡ 0 → ⊥) → (get_or c 0 0 ≡ 8 → ⊥) → decoded c ≡ Other
  is_other z r = rw (ne_eqb (get_or c 0 0) 0 z, ne_eqb (get_or c 0 0) 8 r)

  -- an answer is its data and its status
  parts : (r : ReplyOf) → answer_to store c ≡ r → (sent_for store c ≡ reply_bytes store r) × (status_for store c ≡ r.status)
  parts r e = (ap (reply_bytes store) e, ap (λ x. x.status) e)

  in_range : (t : Bool) → leb (read_first c + read_count c) (blocks_in store) ≡ t → get_or c 0 0 ≡ 8 → answer_to store c ≡ cond t (reply (read_first c) (read_count c) 0) (reply 0 0 2)
  in_range t h e = ap (reply_to (blocks_in store)) (is_read e) ∙ ap (λ x. cond x (reply (read_first c) (read_count c) 0) (reply 0 0 2)) h

  right : Right store c (sent_for store c) (status_for store c)
  right = record {
    ready = λ e. parts (reply 0 0 0) (ap (reply_to (blocks_in store)) (is_ready e));
    within = λ e h. parts _ (in_range true (le-leb _ _ h) e);
    beyond = λ e h. parts _ (in_range false (lt-leb _ _ h) e);
    unknown = λ z r. parts (reply 0 0 2) (ap (reply_to (blocks_in store)) (is_other z r));
  }

module _ (d : Drive) (x y z : ℕ) (r : ReplyOf) where
  -- one more byte of an answer was sent
  onward : (b : ℕ) (bs : List ℕ) (k : ℕ) → left_of (store_of d) (sending r k) ≡ b ∷ bs → left_of (store_of d) (sending r (k + 1)) ≡ bs
  onward b bs k e = sym (drop-drop 1 k (reply_bytes (store_of d) r)) ∙ ap (drop 1) e

  -- from an answer of which these bytes are left
  sends : (ys : List ℕ) (k : ℕ) (inputs : List ℕ) → left_of (store_of d) (sending r k) ≡ ys → length inputs ≡ length ys → wishes drive_meaning (inputs ++ (x ∷ y ∷ z ∷ [])) (at_stage d (Reply (sending r k))) ≡ map data_wish ys ++ closing_wishes r.status
  sends [] k [] e h = rw e
  sends [] k (i ∷ is) e h = let no : ⊥ = omega arith in absurd no
  sends (b ∷ bs) k [] e h = let no : ⊥ = omega arith in absurd no
  sends (b ∷ bs) k (i ∷ is) e h = rw e (ap (λ l. data_wish b ∷ l) (sends bs (k + 1) is (onward b bs k e) (omega arith)))

  ends : (ys : List ℕ) (k : ℕ) (inputs : List ℕ) → left_of (store_of d) (sending r k) ≡ ys → length inputs ≡ length ys → told_all drive_meaning (inputs ++ (x ∷ y ∷ z ∷ [])) (at_stage d (Reply (sending r k))) ≡ at_stage d Idle
  ends [] k [] e h = rw e
  ends [] k (i ∷ is) e h = let no : ⊥ = omega arith in absurd no
  ends (b ∷ bs) k [] e h = let no : ⊥ = omega arith in absurd no
  ends (b ∷ bs) k (i ∷ is) e h =
      ap (λ l. told_all drive_meaning (is ++ (x ∷ y ∷ z ∷ [])) (at_stage d (reply_goes (first_of l) (sending r k)))) e
      ∙ ends bs (k + 1) is (onward b bs k e) (omega arith)

module _ (d : Drive) (idle : d.stage ≡ Idle) where
  chosen : (atn : Bool) → drive_meaning.after_chosen d d.address.number atn ≡ at_stage d (called_on atn)
  chosen atn = ap (at_stage d) (rw (idle, eq-eqb d.address.number d.address.number refl))

  module _ (message c0 c1 c2 c3 c4 c5 : ℕ) (inputs : List ℕ) (x y z : ℕ) (h : length inputs ≡ length (sent_for (store_of d) (c0 ∷ c1 ∷ c2 ∷ c3 ∷ c4 ∷ c5 ∷ []))) where
    abbrev command : List ℕ
    command = c0 ∷ c1 ∷ c2 ∷ c3 ∷ c4 ∷ c5 ∷ []

    abbrev answer : ReplyOf
    answer = answer_to (store_of d) command

    shown : wishes drive_meaning (inputs ++ (x ∷ y ∷ z ∷ [])) (at_stage d (Reply (sending answer 0))) ≡ map data_wish (sent_for (store_of d) command) ++ closing_wishes answer.status
    shown = sends d x y z answer (sent_for (store_of d) command) 0 inputs refl h

    over : told_all drive_meaning (inputs ++ (x ∷ y ∷ z ∷ [])) (at_stage d (Reply (sending answer 0))) ≡ d
    over = ends d x y z answer (sent_for (store_of d) command) 0 inputs refl h ∙ ap (at_stage d) (sym idle)

    -- the message if ATN was on, and the command
    abbrev sent : Bool → List ℕ
    sent atn = cond atn (message ∷ []) [] ++ command

    abbrev all_sent : Bool → List ℕ
    all_sent atn = cond atn (message ∷ []) [] ++ (command ++ (inputs ++ (x ∷ y ∷ z ∷ [])))

    pub by : (atn : Bool) → Serves d atn message command inputs (x ∷ y ∷ z ∷ [])
    by true = record {
      right = right (store_of d) command;
      waits = ap (λ (s : Drive). drive_meaning.waiting (told_all drive_meaning (sent true) s)) (chosen true);
      shows = ap (wishes drive_meaning (all_sent true)) (chosen true) ∙ ap (λ l. message_wishes true ++ (command_wishes ++ l)) shown;
      back = ap (told_all drive_meaning (all_sent true)) (chosen true) ∙ over;
    }
    by false = record {
      right = right (store_of d) command;
      waits = ap (λ (s : Drive). drive_meaning.waiting (told_all drive_meaning (sent false) s)) (chosen false);
      shows = ap (wishes drive_meaning (all_sent false)) (chosen false) ∙ ap (λ l. command_wishes ++ l) shown;
      back = ap (told_all drive_meaning (all_sent false)) (chosen false) ∙ over;
    }

  pub serves : ServesAll d
  serves atn message c0 c1 c2 c3 c4 c5 inputs x y z h = by message c0 c1 c2 c3 c4 c5 inputs x y z h atn

-- an image with so many blocks, all of which count
module _ (image : List ℕ) (n : ℕ) (few : n ≤ 4096) (has : blocks_in image ≡ n) where
  count : length (stored image) ≡ n * 512
  count =
      let enough : n * 512 ≤ length image = omega (arith, mod-add-div' (length image) 512) in
      ap (λ k. length (take (min k 4096 * 512) image)) has
      ∙ ap (λ k. length (take (k * 512) image)) (min-eq_left few)
      ∙ length-take-le (n * 512) image enough

  keeps_all : blocks_in (stored image) ≡ n
  keeps_all = ap (λ k. k / 512) count ∙ mul-div_cancel n (lit< tt)

-- an answer to a READ of block 1 with a count byte of zero, from so many blocks
abbrev edge_answer : ℕ → ReplyOf
edge_answer n = reply_to n (Read 1 256)

pub edge : (image : List ℕ) → Edge image
edge image = record {
  short = λ h.
      let n : blocks_in (stored image) ≡ 256 = keeps_all image 256 (lit≤ tt) h in
      (ap (λ k. reply_bytes (stored image) (edge_answer k)) n, ap (λ k. (edge_answer k).status) n);
  long = λ h.
      let n : blocks_in (stored image) ≡ 257 = keeps_all image 257 (lit≤ tt) h in
      let room : 131072 ≤ length (drop 512 (stored image)) = simp length-drop (omega (arith, count image 257 (lit≤ tt) h)) in (
        ap (λ k. length (reply_bytes (stored image) (edge_answer k))) n ∙ length-take-le 131072 (drop 512 (stored image)) room,
        ap (λ k. (edge_answer k).status) n,
      );
}
