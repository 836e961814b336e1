-- One call more of a list.
use Rattle.std.proofs.Common.{◌≡◌, ℕ, ◌+◌, ◌<◌, ◌≤◌, List, [], ◌∷◌, ◌++◌, length, get_or, take, drop, set, sym, refl, ap, ◌∙◌, append_assoc, append-nil, arith, take-append-drop, drop-set-lt}
use Rattle.std.proofs.lemmas.List.{drop_more, take_more_set, drop-drop, drop_all}
use Rattle.bus.specs.Meaning.{Meaning}
use Rattle.account.specs.Lines.{Line}
use Rattle.account.specs.Runs.{row_step, walked, answered, lost_in, RanAs}
use Rattle.registers.specs.declared.answer.Answer.{Answer}
use Rattle.registers.specs.declared.call.CallRow.{CallRow as Row}

module _ {S : Type 0} (m : Meaning S) (cs : List Row) (i : ℕ) (d : Row) (l l' : Line S) (h : i < length cs) (left : l' ≡ (row_step m (get_or cs i d) l).left) where
  pub walked_next : walked m (drop (i + 1) cs) l' ≡ walked m (drop i cs) l
  unfolding walked
  walked_next = ap (walked m (drop (i + 1) cs)) left ∙ sym (ap (λ r. walked m r l) (drop_more cs i d h))

  pub answered_next : answered m (drop i cs) l ≡ (row_step m (get_or cs i d) l).answer ∷ answered m (drop (i + 1) cs) l'
  unfolding answered
  answered_next =
      ap (λ r. answered m r l) (drop_more cs i d h) ∙ sym (ap (λ x. (row_step m (get_or cs i d) l).answer ∷ answered m (drop (i + 1) cs) x) left)

-- the answer goes behind those that stand there
module _ (xs xs' : List Answer) (i : ℕ) (a : Answer) (is : xs' ≡ set xs i a) where
  pub filled_next : (rest all more : List Answer) → i < length xs → rest ≡ a ∷ more → take i xs ++ rest ≡ all → take (i + 1) xs' ++ more ≡ all
  filled_next rest all more h here e =
      ap (λ r. take (i + 1) r ++ more) is ∙ ap (λ r. r ++ more) (take_more_set xs i a h) ∙ append_assoc (take i xs) (a ∷ []) more ∙ sym (ap (λ r. take i xs ++ r) here) ∙ e

  pub beyond_next : (ys : List Answer) → drop i xs ≡ drop i ys → drop (i + 1) xs' ≡ drop (i + 1) ys
  beyond_next ys e = ap (drop (i + 1)) is ∙ drop-set-lt (i + 1) xs i a (omega arith) ∙ sym (drop-drop 1 i xs) ∙ ap (drop 1) e ∙ drop-drop 1 i ys

pub lost_next : (rest more : List Answer) (a : Answer) (n n' all : ℕ) → n' ≡ n + a.lost → rest ≡ a ∷ more → n + lost_in rest ≡ all → n' + lost_in more ≡ all
unfolding lost_in
lost_next rest more a n n' all is here e = let k : lost_in rest ≡ a.lost + lost_in more = ap lost_in here in omega arith

-- at the end of the list
pub all_ran : {S : Type 0} (m : Meaning S) (cs : List Row) (i n : ℕ) (l l₀ : Line S) (room room₀ : List Answer) → length cs ≤ i → i ≤ length cs → length cs ≤ length room₀ → length cs ≤ 65536 → walked m (drop i cs) l ≡ walked m cs l₀ → take i room ++ answered m (drop i cs) l ≡ answered m cs l₀ → drop i room ≡ drop i room₀ → n + lost_in (answered m (drop i cs) l) ≡ lost_in (answered m cs l₀) → RanAs m cs l₀ room₀ l room record { calls = length cs; lost = n }
unfolding walked answered lost_in
all_ran m cs i n l l₀ room room₀ past within fits few w a b k =
    let none : drop i cs ≡ [] = drop_all i cs past in
    let at : i ≡ length cs = omega arith in
    let front : take i room ≡ answered m cs l₀ = sym (append-nil (take i room)) ∙ sym (ap (λ r. take i room ++ answered m r l) none) ∙ a in
    let last : lost_in (answered m (drop i cs) l) ≡ 0 = ap (λ r. lost_in (answered m r l)) none in
    record {
      fits = fits;
      few = few;
      string = sym (ap (λ r. walked m r l) none) ∙ w;
      answers = sym (take-append-drop i room) ∙ ap (λ r. r ++ drop i room) front ∙ ap (λ r. answered m cs l₀ ++ r) (b ∙ ap (λ j. drop j room₀) at);
      count = refl;
      lost = omega arith;
    }
