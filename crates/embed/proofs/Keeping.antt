-- Any station that is kept as numbers: the same numbers show the same, and what shows the same has the same numbers.
use Rattle.std.proofs.Common.{◌≡◌, ℕ, List, Result, sym, refl, ap, ◌∙◌, subst}
use Rattle.bus.specs.Meaning.{Meaning, Lawful}
use Rattle.registers.specs.declared.answer.Answer.{Answer}
use Rattle.registers.specs.declared.call.CallRow.{CallRow as Row}
use Rattle.registers.specs.declared.call.Ran.{Ran}
use Rattle.registers.specs.declared.call.RunRefusal.{RunRefusal}
use Rattle.chip.specs.Model.{model}
use Rattle.account.specs.Alike.{SeenAs, seen}
use Rattle.account.specs.Lines.{Line, line}
use Rattle.account.specs.Runs.{RunSays}
use Rattle.breaker.specs.declared.Breaker.{Breaker}
use Rattle.breaker.specs.declared.Progress.{Progress}
use Rattle.breaker.specs.Breakers.{progress_of, breaker_meaning}
use Rattle.breaker.specs.BreakerLawful.{breaker_lawful}
use Rattle.saved.proofs.One.{one_chip}
use Rattle.saved.proofs.OneBreaker.{one_progress}
use Rattle.embed.specs.States.{Numbers, StandsAt, KeptString, NamesOne, Seen, seen_of, Serves, Stays, Lasts}
use Rattle.embed.specs.declared.state.Kind.{Kind}
use Rattle.embed.specs.declared.state.Parts.{Parts}
use Rattle.embed.specs.declared.state.SavedString.{SavedString}
use Rattle.embed.proofs.Seeing.{breaker_seen, breaker_like}
use Rattle.embed.proofs.Serving.{serves, run_keeps}

module _
    {S L M : Type 0} (m : Meaning S) (law : Lawful m) (stands : S → M) (lent_to : S → L) (n : Meaning (Seen L M)) (like : SeenAs m n (seen_of m lent_to stands))
    (k : Kind) (lent : L) (within : M → Type 0) (holds : M → SavedString → Type 0) (one : NamesOne within holds) where
  abbrev Is : SavedString → Line (Breaker S) → Type 0
  Is = KeptString m stands lent_to lent k within holds

  abbrev view : Breaker S → Breaker (Seen L M)
  view = breaker_seen m n (seen_of m lent_to stands) like

  -- what is seen of a breaker, by its parts
  abbrev shown : Progress → L → ℕ → M → Breaker (Seen L M)
  shown p over a x = record { below = record { lent = over; address = a; mark = x }; progress = p }

  seen_parts : (s : SavedString) (l : Line (Breaker S)) (is : Is s l) → view l.station ≡ shown is.parts.progress lent is.parts.address.number is.parts.mark
  seen_parts s l is = (λ i. shown (is.progress i) (is.below.over i) (is.below.address i) (is.below.mark i))

  same : (s : SavedString) (l j : Line (Breaker S)) → Is s l → Is s j → seen view l ≡ seen view j
  same s l j p q =
      let chip = one_chip p.parts.chip q.parts.chip (p.numbers.chip ∙ sym q.numbers.chip) in
      let progress = one_progress p.parts.progress q.parts.progress (p.numbers.breaker ∙ sym q.numbers.breaker) in
      let address = p.numbers.address ∙ sym q.numbers.address in
      let mark = one s p.parts.mark q.parts.mark p.is_within q.is_within p.numbers.mark q.numbers.mark in
      let chips = p.chip ∙ chip ∙ sym q.chip in
      let stations = seen_parts s l p ∙ (λ i. shown (progress i) lent (address i) (mark i)) ∙ sym (seen_parts s j q) in
      (λ i. line (chips i) (stations i))

  moves : (s : SavedString) (l j : Line (Breaker S)) → Is s l → seen view l ≡ seen view j → Is s j
  moves s l j p e =
      let e' = sym e in
      record {
        parts = p.parts;
        is_within = p.is_within;
        numbers = p.numbers;
        chip = ap (λ x. x.chip) e' ∙ p.chip;
        progress = ap (λ x. progress_of x.station) e' ∙ p.progress;
        below = record {
          address = ap (λ x. x.station.below.address) e' ∙ p.below.address;
          mark = ap (λ x. x.station.below.mark) e' ∙ p.below.mark;
          over = ap (λ x. x.station.below.lent) e' ∙ p.below.over;
        };
      }

  -- what a run does to one string with these numbers is done to each
  pub kept_serves :
      (s : SavedString) (calls : List Row) (l₀ : Line (Breaker S)) (room : List Answer) (s' : SavedString) (l₁ : Line (Breaker S)) (room' : List Answer) (r : Result Ran RunRefusal)
      → Is s l₀ → RunSays (breaker_meaning m) calls l₀ room l₁ room' r → Is s' l₁ → Serves (breaker_meaning m) Is s calls room s' room' r
  kept_serves = serves (breaker_meaning m) (breaker_meaning n) view (breaker_like m n (seen_of m lent_to stands) like) (breaker_lawful m law) Is same moves

  -- A string with these parts is put together, run, and what it has become is kept.
  module _ (lasts : Lasts m stands lent_to lent within) where
    abbrev Keeps : S → Type 0
    Keeps = Stays m stands lent_to lent within

    pub kept_run :
        (p q : Parts M) (s s' : SavedString) (made below : S) (b c : Breaker S) (calls : List Row) (room room' : List Answer) (r : Result Ran RunRefusal)
        → within p.mark → Numbers k holds p s → StandsAt m stands lent_to lent p.address p.mark made → b.below ≡ made → progress_of b ≡ p.progress
        → RunSays (breaker_meaning m) calls (line (model p.chip) b) room (line (model q.chip) c) room' r
        → q.progress ≡ progress_of c → below ≡ c.below → q.address.number ≡ m.address below → q.mark ≡ stands below → Numbers k holds q s'
        → Serves (breaker_meaning m) Is s calls room s' room' r
    kept_run p q s s' made below b c calls room room' r is_within numbers made_is on_made progress did left_progress parted address mark left =
        let here : StandsAt m stands lent_to lent p.address p.mark b.below = subst (StandsAt m stands lent_to lent p.address p.mark) (sym on_made) made_is in
        let first = line (model p.chip) b in
        let last = line (model q.chip) c in
        let stands_in = subst within (sym here.mark) is_within in
        let kept : Keeps c.below = run_keeps m Keeps lasts.told lasts.chosen calls first last room room' r did (here.over, stands_in) in
        let marked = mark ∙ ap stands parted in
        let before : Is s first = record { parts = p; is_within = is_within; numbers = numbers; chip = refl; progress = progress; below = here } in
        let after : Is s' last = record {
          parts = q;
          is_within = subst within (sym marked) kept.1;
          numbers = left;
          chip = refl;
          progress = sym left_progress;
          below = record { address = sym (address ∙ ap m.address parted); mark = sym marked; over = kept.0 };
        } in
        kept_serves s calls first room s' last room' r before did after
