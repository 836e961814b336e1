-- What one call does to the bytes, at the chip.
use Rattle.std.proofs.Common.{◌≡◌, ℕ, Bool, true, false, cond, eqb, List, [], ◌++◌, length, Option, sym, refl, ap, ◌∙◌, append-nil, arith}
use mathlib.Core.Bool.{false≢true}
use Rattle.bus.specs.declared.phase.Phase.{Phase}
use Rattle.bus.specs.declared.wish.Wish.{Wish}
use Rattle.registers.specs.declared.refusal.Refusal.{Refusal}
use Rattle.registers.specs.declared.state.State.{State}
use Rattle.chip.specs.declared.chip.Written.{Written}
use Rattle.registers.specs.declared.answer.Answer.{Answer}
use Rattle.registers.specs.declared.answer.Reaction.{Reaction}
use Rattle.registers.specs.declared.answer.Reaction.TheVariants.{Nothing, Tell, Choose}
use Rattle.account.proofs.Shares.{other_share}
use Rattle.bus.specs.Wishes.{offers}
use Rattle.chip.specs.Outcomes.{Outcome, gives, silent, tells, refused, dropping_ack, quiet}
use Rattle.chip.specs.Views.{View}
use Rattle.account.specs.Fates.{entry, Share, held}
use Rattle.account.specs.Sound.{Sound, SoundOf, Outward}
use Rattle.registers.specs.States.{is_transferring}
use Rattle.registers.specs.declared.call.Call.{Call}

-- what leaves the station's list
abbrev pub taken : Wish → Reaction → List ℕ
taken w Nothing = []
taken w (Tell b) = offers w
taken w (Choose a atn) = []

-- while ACK is on, the station offers no Data In byte
abbrev pub Quiet : Bool → Wish → Type 0
Quiet ack w = ack ≡ true → offers w ≡ []

abbrev pub is_choose : Reaction → Bool
is_choose Nothing = false
is_choose (Tell b) = false
is_choose (Choose a atn) = true

-- the share leaves at the front, what is taken from the station comes in behind
pub record Fate (c : Call) (v : View) (w : Wish) (o : Outcome) : Type 0 where
  pub share : List ℕ
  pub is : Share (entry c v.registers.command o.answer) share
  pub sound : SoundOf o.chip
  pub all : held v ++ taken w o.reaction ≡ share ++ held o.chip
  pub acked : o.chip.flags.ack ≡ true → (o.reaction ≡ Nothing) × (offers w ≡ [])
  pub chosen : is_choose o.reaction ≡ true → held o.chip ≡ held v

-- a chip that is in no transfer and holds no received byte
pub at_rest : {s : State} {command interrupt : ℕ} {p : Phase} {received : List ℕ} {written : Option Written} → is_transferring s ≡ false → received ≡ [] → Outward written → Sound s command interrupt p received written
at_rest m e o = record { settled = λ _. e; info = λ t. absurd (false≢true (sym m ∙ t)); alone = λ t. absurd (false≢true (sym m ∙ t)); calm = λ t. absurd (false≢true (sym m ∙ t)); outward = o; few = omega (arith, ap length e) }

-- an answer without a phase accounts for nothing
pub nothing : (c : Call) (k : ℕ) (a : Answer) → a.phase ≡ 0 → Share (entry c k a) []
nothing c k a e = other_share c k a (ap (λ n. eqb n 4) e)

module _ {c : Call} {v : View} {w : Wish} where
  pub either : (b : Bool) {x y : Outcome} → (b ≡ true → Fate c v w x) → (b ≡ false → Fate c v w y) → Fate c v w (cond b x y)
  either true p q = p refl
  either false p q = q refl

  -- the station hears nothing, and the bytes stay
  pub silently : (u : View) (a : Answer) → Share (entry c v.registers.command a) [] → SoundOf u → held u ≡ held v → Quiet u.flags.ack w → Fate c v w (gives u Nothing a)
  silently u a is s e q = record { share = []; is = is; sound = s; all = append-nil _ ∙ sym e; acked = λ h. (refl, q h); chosen = λ t. absurd (false≢true t) }

  -- the station hears something while it offers no byte, and the bytes stay
  pub aloud : (u : View) (b : ℕ) (a : Answer) → Share (entry c v.registers.command a) [] → SoundOf u → held u ≡ held v → offers w ≡ [] → u.flags.ack ≡ false → Fate c v w (gives u (Tell b) a)
  aloud u b a is s e n f = record { share = []; is = is; sound = s; all = ap (λ r. held v ++ r) n ∙ append-nil _ ∙ sym e; acked = λ h. absurd (false≢true (sym f ∙ h)); chosen = λ t. absurd (false≢true t) }

  -- nothing that matters changes
  pub stays : (u : View) → SoundOf u → held u ≡ held v → Quiet u.flags.ack w → Fate c v w (silent u)
  stays u h e q = silently u (quiet u) (nothing c _ (quiet u) refl) h e q

  pub refuses : (n : Refusal) → SoundOf v → Quiet v.flags.ack w → Fate c v w (refused n v)
  refuses n h q = silently v _ (nothing c _ _ refl) h refl q

  pub hears : (u : View) (b : ℕ) → SoundOf u → held u ≡ held v → offers w ≡ [] → u.flags.ack ≡ false → Fate c v w (tells b u)
  hears u b h e n f = aloud u b (quiet u) (nothing c _ (quiet u) refl) h e n f

-- ACK goes off, and the station is tells if it was on: no byte leaves
pub none_taken : (w : Wish) (ack : Bool) → Quiet ack w → taken w (dropping_ack ack) ≡ []
none_taken w true q = q refl
none_taken w false q = refl

pub none_chosen : {A : Type 0} (ack : Bool) → is_choose (dropping_ack ack) ≡ true → A
none_chosen true e = absurd (false≢true e)
none_chosen false e = absurd (false≢true e)
