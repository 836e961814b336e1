-- Two runs with complete records tell their stations apart.
use Rattle.std.proofs.Common.{◌≡◌, ℕ, ◌+◌, Bool, true, cond, eqb, List, [], ◌∷◌, ◌++◌, length, drop, Some, None, Option, Ok, Err, Result, sym, refl, ap, ◌∙◌, zero-add}
use Rattle.std.proofs.lemmas.Bool.{and_parts, and_from, eqb-true, eq-eqb}
use Rattle.bus.specs.Meaning.{Meaning}
use Rattle.registers.specs.declared.answer.Answer.{Answer}
use Rattle.registers.specs.declared.call.CallRow.{CallRow as Row}
use Rattle.registers.specs.declared.call.Ran.{Ran}
use Rattle.registers.specs.declared.call.RunRefusal.{RunRefusal}
use Rattle.account.specs.Fates.{Entry, record_of, lost_of}
use Rattle.account.specs.Lines.{Line, line}
use Rattle.chip.specs.Outcomes.{made_new}
use Rattle.registers.specs.declared.call.Call.{Call}
use Rattle.account.specs.Laws.{step_of}
use Rattle.registers.specs.Calls.{call_of}
use Rattle.account.specs.Runs.{listed_step, row_step, noted, answered, recorded}
use Rattle.account.proofs.Records.{complete_record}
use Rattle.fates.specs.Trials.{answer_reads, answer_loses, record_in, lost_data, same, put_up, Trial, TrialGives, Whole, RunsCompare}

-- what a call of a list and its answer tell, the entries tell too, if the rest does
byte_noted : {S : Type 0} (m : Meaning S) (o : Option Call) (l : Line S) (k : ℕ) (bytes : List ℕ) (es : List Entry) → bytes ≡ record_of es → cond (answer_reads o (listed_step m o l).answer) ((listed_step m o l).answer.value ∷ []) [] ++ bytes ≡ record_of (noted o k (listed_step m o l).answer ++ es)
unfolding record_of
byte_noted m (Some c) l k bytes es h = ap (λ r. cond (answer_reads (Some c) (step_of m c l).answer) ((step_of m c l).answer.value ∷ []) [] ++ r) h
byte_noted m None l k bytes es h = h

loss_noted : {S : Type 0} (m : Meaning S) (o : Option Call) (l : Line S) (k n : ℕ) (es : List Entry) → n ≡ lost_of es → cond (answer_loses (listed_step m o l).answer) (listed_step m o l).answer.lost 0 + n ≡ lost_of (noted o k (listed_step m o l).answer ++ es)
unfolding lost_of
loss_noted m (Some c) l k n es h = ap (λ r. cond (answer_loses (step_of m c l).answer) (step_of m c l).answer.lost 0 + r) h
loss_noted m None l k n es h = zero-add n ∙ h

-- what the calls and their answers tell is what the entries tell, whatever stands behind the answers
record_is : {S : Type 0} (m : Meaning S) (cs : List Row) (l : Line S) (more : List Answer) → record_in cs (answered m cs l ++ more) ≡ record_of (recorded m cs l)
unfolding answered recorded record_of
record_is m [] l more = refl
record_is m (c ∷ cs) l more = byte_noted m (call_of c) l l.chip.registers.command _ _ (record_is m cs (row_step m c l).left more)

lost_is : {S : Type 0} (m : Meaning S) (cs : List Row) (l : Line S) (more : List Answer) → lost_data cs (answered m cs l ++ more) ≡ lost_of (recorded m cs l)
unfolding answered recorded lost_of
lost_is m [] l more = refl
lost_is m (c ∷ cs) l more = loss_noted m (call_of c) l l.chip.registers.command _ _ (lost_is m cs (row_step m c l).left more)

same_equal : (xs ys : List ℕ) → same xs ys ≡ true → xs ≡ ys
same_equal [] [] h = refl
same_equal [] (y ∷ ys) h = cc
same_equal (x ∷ xs) [] h = cc
same_equal (x ∷ xs) (y ∷ ys) h =
    let both = and_parts (eqb x y) (same xs ys) h in
    let heads = eqb-true x y both.0 in
    let tails = same_equal xs ys both.1 in
    (λ i. heads i ∷ tails i)

equal_same : (xs : List ℕ) → same xs xs ≡ true
equal_same [] = refl
equal_same (x ∷ xs) = and_from (eqb x x) (same xs xs) (eq-eqb x x refl) (equal_same xs)

module _ {S : Type 0} (m : Meaning S) (i : ℕ) (s : S) (cs : List Row) (room : List Answer) (l : Line S) (room' : List Answer) (t : Ran) (ran : Trial m i s cs room l room' t) where
  read_bytes : record_in cs room' ≡ record_of (recorded m cs (line (made_new i) s))
  read_bytes = ap (record_in cs) ran.ran.answers ∙ record_is m cs (line (made_new i) s) (drop (length cs) room)

  -- a complete record is what the station put up
  is_put_up : Whole m cs room' l → put_up m i s cs ≡ record_in cs room'
  is_put_up w =
      complete_record m _ _ l ran.account.fates (record { waits = w.waits; holds = w.holds; lost = sym (ap (lost_data cs) ran.ran.answers ∙ lost_is m cs (line (made_new i) s) (drop (length cs) room)) ∙ w.lost })
      ∙ sym read_bytes

module _ {P Q : Type 0} (m : Meaning P) (n : Meaning Q) (i j : ℕ) (p : P) (q : Q) (cs ds : List Row) where
  pub compares : (room : List Answer) (l : Line P) (room' : List Answer) (r : Result Ran RunRefusal) → TrialGives m i p cs room l room' r → (more : List Answer) (k : Line Q) (more' : List Answer) (u : Result Ran RunRefusal) → TrialGives n j q ds more k more' u → (equal : Bool) → equal ≡ same (record_in cs room') (record_in ds more') → RunsCompare m n i j p q cs ds room' l r more' k u equal
  compares room l room' (Ok t) a more k more' (Ok u) b equal e = λ w x.
      let first = is_put_up m i p cs room l room' t a w in
      let second = is_put_up n j q ds more k more' u b x in (
        λ h. first ∙ same_equal _ _ (sym e ∙ h) ∙ sym second,
        λ h. e ∙ ap (λ ys. same (record_in cs room') ys) (sym second ∙ sym h ∙ first) ∙ equal_same (record_in cs room'),
      )
  compares room l room' (Ok t) a more k more' (Err x) b equal e = tt
  compares room l room' (Err x) a more k more' u b equal e = tt
