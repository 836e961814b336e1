-- What is seen of a breaker over a station, by what is seen of that.
use Rattle.std.proofs.Common.{◌≡◌, Bool, true, false, cond, ◌&&◌, ltb, leb, refl, ◌∙◌}
use Rattle.bus.specs.Meaning.{Meaning}
use Rattle.bus.specs.Wishes.{shows_data}
use Rattle.bus.specs.declared.wish.Wish.{Wish}
use Rattle.account.specs.Alike.{SeenAs}
use Rattle.breaker.specs.declared.Breaker.{Breaker}
use Rattle.breaker.specs.declared.Stage.{Stage as Break}
use Rattle.breaker.specs.Breakers.{begun, is_through, stage_wish, stage_after, passed_after, standing, breaker_meaning}

module _ {S V : Type 0} (m : Meaning S) (n : Meaning V) (view : S → V) (like : SeenAs m n view) where
  abbrev pub breaker_seen : Breaker S → Breaker V
  breaker_seen b = record { below = view b.below; progress = b.progress }

  -- the stage depends on what the station below wishes
  abbrev stage_by : Breaker S → Wish → Break
  stage_by b w = begun (ltb 0 b.progress.after && (leb b.progress.after b.progress.passed && shows_data w)) b.progress.stage

  wish_same : (b : Breaker S) → m.wants b.below ≡ n.wants (view b.below)
  wish_same b = like.wants b.below

  pub breaker_like : SeenAs (breaker_meaning m) (breaker_meaning n) breaker_seen
  breaker_like = record {
    wants = λ b. (λ i. stage_wish (stage_by b (wish_same b i)) (like.address b.below i) b.progress.host.number (wish_same b i));
    address = λ b. like.address b.below;
    waiting = λ b. like.waiting b.below;
    told = λ b x.
        let below = cond_seen (is_through (standing m b)) (m.after_told b.below x) b.below ∙ (λ i. cond (is_through (stage_by b (wish_same b i))) (like.told b.below x i) (view b.below)) in
        (λ i. record { below = below i; progress = record { after = b.progress.after; host = b.progress.host; passed = passed_after (stage_by b (wish_same b i)) (shows_data (wish_same b i)) b.progress.after b.progress.passed; stage = stage_after (stage_by b (wish_same b i)) b.progress.stage } });
    chosen = λ b a atn.
        let below = cond_seen (is_through (standing m b)) (m.after_chosen b.below a atn) b.below ∙ (λ i. cond (is_through (stage_by b (wish_same b i))) (like.chosen b.below a atn i) (view b.below)) in
        (λ i. record { below = below i; progress = b.progress });
  }
    where
      cond_seen : (t : Bool) (x y : S) → view (cond t x y) ≡ cond t (view x) (view y)
      cond_seen true x y = refl
      cond_seen false x y = refl
