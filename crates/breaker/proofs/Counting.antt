-- A breaker breaks after each so many bytes.
use Rattle.std.proofs.Common.{◌≡◌, ℕ, ◌+◌, ◌*◌, ◌<◌, ◌≤◌, Bool, true, false, cond, ◌&&◌, eqb, ltb, leb, List, [], ◌∷◌, ◌++◌, length, sym, refl, ap, ◌∙◌, subst, add-zero, add-mul, one-mul, zero-add, zero-mul, arith, length-append}
use Rattle.std.proofs.lemmas.Bool.{and_parts, lt-ltb, leb-true, leb-false}
use mathlib.Core.Bool.{and-true}
use Rattle.bus.specs.declared.wish.Wish.{Wish}
use Rattle.bus.specs.declared.wish.Wish.TheVariants.{Off, Back, Hold, Req, Go}
use Rattle.bus.specs.Phases.{phase_number}
use Rattle.bus.specs.Wishes.{offers, shows_data}
use Rattle.bus.specs.Meaning.{Meaning}
use Rattle.bus.specs.Courses.{Course}
use Rattle.bus.specs.Courses.Course.{begun as nothing, told, chosen}
use Rattle.breaker.specs.declared.Stage.{Stage}
use Rattle.breaker.specs.declared.Stage.TheVariants.{Through, Saving, Disconnecting, Leaving, Returning, Identifying}
use Rattle.breaker.specs.declared.Breaker.{Breaker}
use Rattle.breaker.specs.Breakers.{begun, is_through, stage_wish, stage_after, passed_after, standing, breaker_meaning}
use Rattle.breaker.specs.Breaks.{ends_break, breaks_in, Spaced, Breaks}

-- how many bytes a wish shows
one_or_none : (t : Bool) (b : ℕ) → length (cond t (b ∷ []) []) ≡ cond t 1 0
one_or_none true b = refl
one_or_none false b = refl

shown_count : (w : Wish) → length (offers w) ≡ cond (shows_data w) 1 0
shown_count Off = refl
shown_count (Back id q) = refl
shown_count (Hold p) = refl
shown_count (Req p b q) = one_or_none (eqb (phase_number p) 4) b
shown_count Go = refl

-- and how many at a stage
stage_count : (st : Stage) (a h : ℕ) (w : Wish) → length (offers (stage_wish st a h w)) ≡ cond (is_through st && shows_data w) 1 0
stage_count Through a h w = shown_count w
stage_count Saving a h w = refl
stage_count Disconnecting a h w = refl
stage_count Leaving a h w = refl
stage_count Returning a h w = refl
stage_count Identifying a h w = refl

-- Over the numbers alone: k breaks are over, n bytes went through since, and len in all.
pub record Count (after : ℕ) (k n len : ℕ) (stage : Stage) : Type 0 where
  pub all : len ≡ k * after + n
  pub few : n ≤ after
  pub full : is_through stage ≡ false → n ≡ after

module _ (after k n len : ℕ) (shown : Bool) where
  abbrev due : Bool
  due = ltb 0 after && (leb after n && shown)

  -- the count after a Told at the stage st, which was stored as sg
  abbrev Next : Stage → Stage → Type 0
  Next st sg = Count after (cond (ends_break st) 1 0 + k) (passed_after st shown after n) (len + cond (is_through st && shown) 1 0) (stage_after st sg)

  -- a Told in a break counts nothing
  in_break : (sg later : Stage) → n ≡ after → Count after k n len sg → Count after (0 + k) n (len + 0) later
  in_break sg later e c = record { all = simp (zero-add, add-zero) c.all; few = c.few; full = λ _. e }

  -- one that goes through counts the byte that it takes, and then there is room for it
  goes_through : (s : Bool) → 0 < after → (ltb 0 after && (leb after n && s)) ≡ false → Count after k n len Through → Count after (0 + k) (passed_after Through s after n) (len + cond s 1 0) Through
  goes_through false pos e c = record { all = simp (zero-add, add-zero) c.all; few = c.few; full = λ t. cc }
  goes_through true pos e c =
      let not_yet : leb after n ≡ false = sym (and-true (leb after n)) ∙ rw (lt-ltb 0 after pos) at e in
      let room : n < after = leb-false after n not_yet in
      rw (lt-ltb n after room, zero-add k) (record { all = omega (arith, c.all); few = omega arith; full = λ t. cc })

  step : (sg : Stage) → 0 < after → Count after k n len sg → Next (begun due sg) sg
  step Through pos c = by due refl
    where
      by : (d : Bool) → due ≡ d → Next (begun d Through) Through
      by true e =
          let reached : after ≤ n = leb-true after n (and_parts (leb after n) shown (and_parts (ltb 0 after) (leb after n && shown) e).1).0 in
          in_break Through Disconnecting (omega (arith, c.few)) c
      by false e = goes_through shown pos e c
  step Saving pos c = in_break Saving Disconnecting (c.full refl) c
  step Disconnecting pos c = in_break Disconnecting Leaving (c.full refl) c
  step Leaving pos c = in_break Leaving Returning (c.full refl) c
  step Returning pos c = in_break Returning Identifying (c.full refl) c
  step Identifying pos c = record {
    all = rw (add-mul 1 k after, one-mul after) (omega (arith, c.all, c.full refl));
    few = omega arith;
    full = λ t. cc;
  }

module _ {S : Type 0} (m : Meaning S) (new : Breaker S) (fresh : new.progress.passed ≡ 0) (start : new.progress.stage ≡ Through) where
  -- the number after which it breaks never changes
  same_after : (taken up : List ℕ) (s : Breaker S) → Course (breaker_meaning m) new taken up s → s.progress.after ≡ new.progress.after
  same_after taken up s nothing = refl
  same_after taken up s (told before joining t c b) = same_after before joining t c
  same_after taken up s (chosen before joining t c a atn) = same_after before joining t c

  counts : 0 < new.progress.after → (taken up : List ℕ) (s : Breaker S) (c : Course (breaker_meaning m) new taken up s) → Count new.progress.after (breaks_in m new taken up s c) s.progress.passed (length taken) s.progress.stage
  counts pos taken up s nothing = record { all = omega (arith, zero-mul new.progress.after); few = omega arith; full = λ t. let no = ap is_through start in cc }
  counts pos taken up s (told before joining t c b) =
      let same = same_after before joining t c in
      let k = breaks_in m new before joining t c in
      let st = standing m t in
      let w = m.wants t.below in
      let so_far : Count t.progress.after k t.progress.passed (length before) t.progress.stage = subst (λ a. Count a k t.progress.passed (length before) t.progress.stage) (sym same) (counts pos before joining t c) in
      let next = step t.progress.after k t.progress.passed (length before) (shows_data w) t.progress.stage (subst (λ a. 0 < a) (sym same) pos) so_far in
      let long : length before + cond (is_through st && shows_data w) 1 0 ≡ length (before ++ offers ((breaker_meaning m).wants t)) =
      ap (λ x. length before + x) (sym (stage_count st (m.address t.below) t.progress.host.number w)) ∙ sym (length-append before _) in
      let counted : Count new.progress.after _ _ _ _ = subst (λ a. Count a (cond (ends_break st) 1 0 + k) (passed_after st (shows_data w) t.progress.after t.progress.passed) (length before + cond (is_through st && shows_data w) 1 0) (stage_after st t.progress.stage)) same next in
      subst (λ n. Count new.progress.after (cond (ends_break st) 1 0 + k) (passed_after st (shows_data w) t.progress.after t.progress.passed) n (stage_after st t.progress.stage)) long counted
  counts pos taken up s (chosen before joining t c a atn) = counts pos before joining t c

  -- in a break just so many bytes went through: one began there, or they had before
  in_full : (sg : Stage) (after n : ℕ) (shown : Bool) → n ≤ after → (is_through sg ≡ false → n ≡ after) → is_through (begun (ltb 0 after && (leb after n && shown)) sg) ≡ false → n ≡ after
  in_full Through after n shown few full e =
      by (ltb 0 after && (leb after n && shown)) refl e
    where
      by : (d : Bool) → (ltb 0 after && (leb after n && shown)) ≡ d → is_through (begun d Through) ≡ false → n ≡ after
      by false _ t = cc
      by true h t =
          let reached : after ≤ n = leb-true after n (and_parts (leb after n) shown (and_parts (ltb 0 after) (leb after n && shown) h).1).0 in
          omega arith
  in_full Saving after n shown few full e = full refl
  in_full Disconnecting after n shown few full e = full refl
  in_full Leaving after n shown few full e = full refl
  in_full Returning after n shown few full e = full refl
  in_full Identifying after n shown few full e = full refl

  spaced : 0 < new.progress.after → (taken up : List ℕ) (s : Breaker S) (c : Course (breaker_meaning m) new taken up s) → Spaced m new taken up s c
  spaced pos taken up s c =
      let n = counts pos taken up s c in
      let same = same_after taken up s c in
      record {
        all = n.all;
        few = n.few;
        full = λ t. in_full s.progress.stage s.progress.after s.progress.passed (shows_data (m.wants s.below)) (omega (arith, n.few)) (λ b. n.full b ∙ sym same) t ∙ same;
      }

  -- a breaker whose number is zero stays through
  stays : new.progress.after ≡ 0 → (taken up : List ℕ) (s : Breaker S) → Course (breaker_meaning m) new taken up s → s.progress.stage ≡ Through
  stays zero taken up s nothing = start
  stays zero taken up s (told before joining t c b) =
      let at_through = stays zero before joining t c in
      let none : t.progress.after ≡ 0 = same_after before joining t c ∙ zero in
      let still : standing m t ≡ Through = rw (none, at_through) in
      ap (λ st. stage_after st t.progress.stage) still ∙ at_through
  stays zero taken up s (chosen before joining t c a atn) = stays zero before joining t c

  pub breaks : Breaks m new
  breaks = record {
    spaced = spaced;
    never = λ zero taken up s c.
        let none : s.progress.after ≡ 0 = same_after taken up s c ∙ zero in
        rw (none, stays zero taken up s c);
  }
