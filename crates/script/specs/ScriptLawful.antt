-- Proofs: a script keeps the clauses that all stations share.
use Rattle.std.specs.Prelude.{◌≡◌, ℕ, ◌-◌, Bool, true, false, cond, List, [], ◌++◌, length, get_or, drop, ◌==◌, slice_index_or, refl}
use Rattle.std.proofs.Common.{sym, ap, ◌∙◌, append-nil, arith}
use Rattle.std.proofs.Math.Seq.{drop-append_seam}
use Rattle.std.proofs.lemmas.List.{get_or_default}
use Rattle.std.proofs.lemmas.Bool.{and_parts}
use Rattle.bus.specs.Wishes.{offers, is_off}
use Rattle.bus.specs.Meaning.{Lawful, left, says_yes}
use Rattle.bus.proofs.Clauses.{off_offers, begins}
use Rattle.chain.specs.Chain.{gather, after, chain_from, leads, Stands}
use Rattle.chain.proofs.Steps.{led, step, on, off}
use Rattle.script.specs.declared.row.Row.{Row}
use Rattle.script.specs.declared.script.Place.{Place}
use Rattle.script.specs.declared.script.Place.TheVariants.{At, End, Leaving}
use Rattle.script.specs.declared.script.Script.{Script}
use Rattle.script.specs.Records.{row_byte}
use Rattle.script.specs.Scripts.{next_of, no_row, follow, next_place, wants_at, waiting_at, moved, script_meaning}

abbrev bytes_from : List Row → ℕ → List ℕ
bytes_from rows n = gather row_byte (chain_from next_of rows n)

-- the bytes from a record on are its own, and those of the chain from what follows it on
pub at_record : (rows : List Row) (n : ℕ) (r : Row) → Stands next_of rows n r → bytes_from rows n ≡ waiting_at rows (At n r)
at_record rows n r s = ap (gather row_byte) (step next_of rows n r s)

-- where the chain goes, the bytes of what follows wait
pub followed : (rows : List Row) (n m : ℕ) → waiting_at rows (follow rows n m) ≡ bytes_from rows (after n m)
followed rows n m = by (leads (length rows) n m) refl
  where
    by : (t : Bool) → leads (length rows) n m ≡ t → waiting_at rows (cond t (At m (slice_index_or rows (m - 1) no_row)) End) ≡ bytes_from rows (after n m)
    by false e = sym (ap (gather row_byte) (off next_of rows n m e))
    by true e =
        let up = led (length rows) n m e in
        let r = get_or rows (m - 1) no_row in
        let stands : Stands next_of rows m r = record { counted = omega arith; within = up.1; is = get_or_default rows (m - 1) no_row r (omega arith) } in
        sym (ap (bytes_from rows) (on next_of rows n m e) ∙ at_record rows m r stands)

-- moving on leaves all but the byte that the wish shows
moves : (rows : List Row) (p : Place) → waiting_at rows (next_place rows p) ≡ drop (length (offers (wants_at p))) (waiting_at rows p)
moves rows (At n r) = followed rows n r.next ∙ sym (drop-append_seam (row_byte r) (bytes_from rows (after n r.next)))
moves rows End = refl
moves rows Leaving = refl

shows : (rows : List Row) (p : Place) → waiting_at rows p ≡ offers (wants_at p) ++ drop (length (offers (wants_at p))) (waiting_at rows p)
shows rows (At n r) = begins (row_byte r) (bytes_from rows (after n r.next)) (waiting_at rows (At n r)) refl
shows rows End = refl
shows rows Leaving = refl

module _ (s : Script) where
  abbrev now_waits : List ℕ
  now_waits = waiting_at s.rows.now s.place

  -- off, no byte leaves
  off_left : is_off (wants_at s.place) ≡ true → now_waits ≡ left script_meaning s
  off_left e = sym (ap (λ l. drop (length l) now_waits) (off_offers (wants_at s.place) e))

  -- a Told takes the byte that the wish shows, and nothing joins
  pub told_leaves : (b : ℕ) → script_meaning.waiting (script_meaning.after_told s b) ≡ left script_meaning s
  told_leaves b = by (is_off (wants_at s.place)) refl
    where
      by : (o : Bool) → is_off (wants_at s.place) ≡ o → script_meaning.waiting (cond o s (moved s)) ≡ left script_meaning s
      by true e = off_left e
      by false e = moves s.rows.now s.place

  told_address : (o : Bool) → (cond o s (moved s)).address.number ≡ s.address.number
  told_address true = refl
  told_address false = refl

  chosen_address : (yes : Bool) → (cond yes (moved s) s).address.number ≡ s.address.number
  chosen_address true = refl
  chosen_address false = refl

  yes_keeps : (a : ℕ) → says_yes script_meaning s a ≡ true → script_meaning.waiting (cond (says_yes script_meaning s a) (moved s) s) ≡ now_waits
  yes_keeps a e =
      let off_wish = (and_parts (is_off (wants_at s.place)) (s.address.number == a) e).0 in
      rw e (moves s.rows.now s.place ∙ sym (off_left off_wish))

pub script_lawful : Lawful script_meaning
script_lawful = record {
  shows = λ s. shows s.rows.now s.place;
  joins = λ s b. begins (left script_meaning s) [] _ (told_leaves s b ∙ sym (append-nil (left script_meaning s)));
  rests = λ s b e. rw e;
  keeps = λ s a atn e. yes_keeps s a e;
  refuses = λ s a atn e. rw e;
  stays_told = λ s b. told_address s (is_off (wants_at s.place));
  stays_chosen = λ s a atn. chosen_address s (says_yes script_meaning s a);
}
