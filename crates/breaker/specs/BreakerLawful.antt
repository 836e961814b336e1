-- Proofs: a breaker keeps the clauses where the station below it does.
use Rattle.std.specs.Prelude.{◌≡◌, ℕ, Bool, true, false, cond, ◌&&◌, [], ◌++◌, length, drop, ◌==◌, refl}
use Rattle.std.proofs.Common.{sym, ap, ◌∙◌, append-nil}
use Rattle.std.proofs.lemmas.Bool.{and_parts}
use Rattle.bus.specs.declared.wish.Wish.{Wish}
use Rattle.bus.specs.declared.wish.Wish.TheVariants.{Off, Back, Hold, Req, Go}
use Rattle.bus.specs.Wishes.{offers, shows_data, is_off}
use Rattle.bus.specs.Meaning.{Meaning, Lawful, left, joined, says_yes}
use Rattle.bus.proofs.Clauses.{begins}
use Rattle.breaker.specs.declared.Stage.{Stage}
use Rattle.breaker.specs.declared.Stage.TheVariants.{Through, Saving, Disconnecting, Leaving, Returning, Identifying}
use Rattle.breaker.specs.declared.Breaker.{Breaker}
use Rattle.breaker.specs.Breakers.{is_through, stage_wish, stage_after, passed_after, standing, breaker_meaning}

-- a station that shows a byte is not off
data_off : (w : Wish) → shows_data w ≡ true → is_off w ≡ false
data_off Off h = cc
data_off (Back id q) h = refl
data_off (Hold p) h = refl
data_off (Req p b q) h = refl
data_off Go h = refl

off_data : (w : Wish) → is_off w ≡ true → shows_data w ≡ false
off_data Off h = refl
off_data (Back id q) h = refl
off_data (Hold p) h = refl
off_data (Req p b q) h = cc
off_data Go h = refl

-- a stage other than Through shows no Data In byte, and is not off
module _ (a h : ℕ) (w : Wish) where
  break_shows : (st : Stage) → is_through st ≡ false → offers (stage_wish st a h w) ≡ []
  break_shows Through e = cc
  break_shows Saving e = refl
  break_shows Disconnecting e = refl
  break_shows Leaving e = refl
  break_shows Returning e = refl
  break_shows Identifying e = refl

  break_on : (st : Stage) → is_through st ≡ false → is_off (stage_wish st a h w) ≡ false
  break_on Through e = cc
  break_on Saving e = refl
  break_on Disconnecting e = refl
  break_on Leaving e = refl
  break_on Returning e = refl
  break_on Identifying e = refl

  through_wish : (st : Stage) → is_through st ≡ true → stage_wish st a h w ≡ w
  through_wish Through e = refl
  through_wish Saving e = cc
  through_wish Disconnecting e = cc
  through_wish Leaving e = cc
  through_wish Returning e = cc
  through_wish Identifying e = cc

through_is : (st : Stage) → is_through st ≡ true → st ≡ Through
through_is Through e = refl
through_is Saving e = cc
through_is Disconnecting e = cc
through_is Leaving e = cc
through_is Returning e = cc
through_is Identifying e = cc

module _ {S : Type 0} (m : Meaning S) (l : Lawful m) (s : Breaker S) where
  abbrev wish_below : Wish
  wish_below = m.wants s.below

  abbrev here : Wish
  here = (breaker_meaning m).wants s

  abbrev through : Bool
  through = is_through (standing m s)

  -- without a break, the wish is the one below
  pub wish_through : through ≡ true → here ≡ wish_below
  wish_through = through_wish (m.address s.below) s.progress.host.number wish_below (standing m s)

  -- in a break no Data In byte is shown
  pub shows_none : through ≡ false → offers here ≡ []
  shows_none = break_shows (m.address s.below) s.progress.host.number wish_below (standing m s)

  pub left_through : through ≡ true → left (breaker_meaning m) s ≡ left m s.below
  left_through t = ap (λ w. drop (length (offers w)) (m.waiting s.below)) (wish_through t)

  pub left_break : through ≡ false → left (breaker_meaning m) s ≡ m.waiting s.below
  left_break t = ap (λ o. drop (length o) (m.waiting s.below)) (shows_none t)

  shows : m.waiting s.below ≡ offers here ++ left (breaker_meaning m) s
  shows = by through refl
    where
      by : (t : Bool) → through ≡ t → m.waiting s.below ≡ offers here ++ left (breaker_meaning m) s
      by true e = l.shows s.below ∙ sym (ap (λ w. offers w ++ drop (length (offers w)) (m.waiting s.below)) (wish_through e))
      by false e = sym (ap (λ o. o ++ drop (length o) (m.waiting s.below)) (shows_none e))

  joins : (b : ℕ) → m.waiting (cond through (m.after_told s.below b) s.below) ≡ left (breaker_meaning m) s ++ joined (breaker_meaning m) s b
  joins b = by through refl
    where
      by : (t : Bool) → through ≡ t → m.waiting (cond through (m.after_told s.below b) s.below) ≡ left (breaker_meaning m) s ++ joined (breaker_meaning m) s b
      by true e = begins (left (breaker_meaning m) s) (joined m s.below b) _
          (ap (λ t. m.waiting (cond t (m.after_told s.below b) s.below)) e ∙ l.joins s.below b ∙ ap (λ x. x ++ joined m s.below b) (sym (left_through e)))
      by false e = begins (left (breaker_meaning m) s) [] _
          (ap (λ t. m.waiting (cond t (m.after_told s.below b) s.below)) e ∙ sym (left_break e) ∙ sym (append-nil (left (breaker_meaning m) s)))

  -- a breaker that is off has no break, and the station below is off
  off_through : is_off here ≡ true → through ≡ true
  off_through e = by through refl
    where
      by : (t : Bool) → through ≡ t → t ≡ true
      by true _ = refl
      by false t = let no = break_on (m.address s.below) s.progress.host.number wish_below (standing m s) t in cc

  off_below : is_off here ≡ true → is_off wish_below ≡ true
  off_below e = sym (ap is_off (wish_through (off_through e))) ∙ e

  abbrev rebuilt : S → ℕ → Stage → Breaker S
  rebuilt x n st = record { below = x; progress = record { after = s.progress.after; host = s.progress.host; passed = n; stage = st } }

  rests : (b : ℕ) → is_off here ≡ true → (breaker_meaning m).after_told s b ≡ s
  rests b e =
      let t : standing m s ≡ Through = through_is (standing m s) (off_through e) in
      let still : m.after_told s.below b ≡ s.below = l.rests s.below b (off_below e) in
      let below : cond through (m.after_told s.below b) s.below ≡ s.below = ap (λ st. cond (is_through st) (m.after_told s.below b) s.below) t ∙ still in
      let count : passed_after (standing m s) (shows_data wish_below) s.progress.after s.progress.passed ≡ s.progress.passed =
      ap (λ st. passed_after st (shows_data wish_below) s.progress.after s.progress.passed) t
      ∙ ap (λ d. passed_after Through d s.progress.after s.progress.passed) (off_data wish_below (off_below e)) in
      let stage : stage_after (standing m s) s.progress.stage ≡ s.progress.stage = ap (λ st. stage_after st s.progress.stage) t in
      (λ i. rebuilt (below i) (count i) (stage i))

  -- where a breaker says no, so does the station below if it is asked
  no_below : (a : ℕ) → through ≡ true → says_yes (breaker_meaning m) s a ≡ false → says_yes m s.below a ≡ false
  no_below a t e = ap (λ w. is_off w && m.address s.below == a) (sym (wish_through t)) ∙ e

  refuses : (a : ℕ) (atn : Bool) → says_yes (breaker_meaning m) s a ≡ false → (breaker_meaning m).after_chosen s a atn ≡ s
  refuses a atn e = ap (λ x. rebuilt x s.progress.passed s.progress.stage) (by through refl)
    where
      by : (t : Bool) → through ≡ t → cond t (m.after_chosen s.below a atn) s.below ≡ s.below
      by true t = l.refuses s.below a atn (no_below a t e)
      by false t = refl

  keeps : (a : ℕ) (atn : Bool) → says_yes (breaker_meaning m) s a ≡ true → m.waiting (cond through (m.after_chosen s.below a atn) s.below) ≡ m.waiting s.below
  keeps a atn e =
      let t = off_through (and_parts (is_off here) (m.address s.below == a) e).0 in
      let yes : says_yes m s.below a ≡ true = ap (λ w. is_off w && m.address s.below == a) (sym (wish_through t)) ∙ e in
      ap (λ b. m.waiting (cond b (m.after_chosen s.below a atn) s.below)) t ∙ l.keeps s.below a atn yes

  -- what is the same of both ways is the same of the way taken
  same_address : (t : Bool) (x : S) → m.address x ≡ m.address s.below → m.address (cond t x s.below) ≡ m.address s.below
  same_address true x e = e
  same_address false x e = refl

pub breaker_lawful : {S : Type 0} (m : Meaning S) → Lawful m → Lawful (breaker_meaning m)
breaker_lawful m l = record {
  shows = shows m l;
  joins = joins m l;
  rests = rests m l;
  keeps = keeps m l;
  refuses = refuses m l;
  stays_told = λ s b. same_address m l s (is_through (standing m s)) (m.after_told s.below b) (l.stays_told s.below b);
  stays_chosen = λ s a atn. same_address m l s (is_through (standing m s)) (m.after_chosen s.below a atn) (l.stays_chosen s.below a atn);
}
