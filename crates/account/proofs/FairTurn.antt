-- A turn keeps the laws at the chip.
use Rattle.std.proofs.Common.{◌≡◌, ℕ, ◌+◌, Bool, true, false, ◌&&◌, eqb, ltb, [], ◌∷◌, ◌++◌, length, Some, None, Option, sym, refl, ◌∙◌, true≢false, append-nil}
use mathlib.Core.Bool.{false≢true}
use lib.Bits.{bit_and}
use Rattle.bus.specs.declared.address.IdByte.{IdByte}
use Rattle.bus.specs.declared.parity.Parity.{Parity}
use Rattle.bus.specs.declared.parity.Parity.TheVariants.{Good, Bad}
use Rattle.bus.specs.declared.phase.Phase.{Phase}
use Rattle.bus.specs.declared.phase.Phase.TheVariants.{MessageIn}
use Rattle.bus.specs.declared.wish.Wish.{Wish}
use Rattle.bus.specs.declared.wish.Wish.TheVariants.{Off, Back, Hold, Req, Go}
use Rattle.bus.specs.Ids.{decoded}
use Rattle.bus.specs.Phases.{same_phase, is_input}
use Rattle.registers.specs.declared.answer.Reaction.TheVariants.{Choose}
use Rattle.registers.specs.declared.refusal.Refusal.TheVariants.{ChipDisabled}
use Rattle.registers.specs.declared.state.State.{State}
use Rattle.registers.specs.declared.state.State.TheVariants.{Idle, Arbitrating, Selecting, Waiting, Asked, Transferring, Disabled}
use Rattle.registers.specs.States.{is_transferring, is_disabled}
use Rattle.chip.specs.declared.chip.Written.{Written}
use Rattle.chip.specs.Outcomes.{Outcome, silent, asking, raised, gone_idle, completed, let_go, is_empty, is_pad, left}
use Rattle.chip.specs.Places.{places}
use Rattle.chip.specs.Turns.{ack_turn, reselected, back_turn, idle_turn, arbitrating_turn, held_turn, waiting_turn, asked_turn, counted_down, kept, ends, took_in, takes, sends_byte, sends, once_empty, transferring_turn, state_turn, turned}
use Rattle.chip.specs.Views.{View, to_state, to_source, to_atn}
use Rattle.account.specs.RefusalTable.{first, clock_table}
use Rattle.account.proofs.Fair.{Fair, either, whether, refuses, plain, stays, hears}

module _ (v : View) where
  -- the laws for a turn that is not refused
  abbrev Calm : Outcome → Type 0
  Calm o = Fair false (is_pad v.registers.command) v 0 o

  stay : Calm (silent v)
  stay = stays v refl refl

  reselects : (n : Option ℕ) → Calm (reselected v n)
  reselects None = stay
  reselects (Some n) = hears (raised 16 (to_state Waiting (to_source (128 + n) v))) 0 refl refl

  backs : (i : IdByte) (q : Parity) → Calm (back_turn v i q)
  backs i Good = whether (eqb (bit_and v.registers.control 2) 0) (λ _. stay) (λ _. reselects (decoded v.id i.bits))
  backs i Bad = stay

  holds : (p : Phase) → Calm (held_turn v p)
  holds p = whether (same_phase p v.latched) (λ _. hears v 0 refl refl) (λ _. hears (asking p v) 0 refl refl)

  lets_go : Calm (let_go v)
  lets_go = hears (raised 4 (gone_idle v)) 0 refl refl

  idles : (w : Wish) → Calm (idle_turn v w)
  idles Off = stay
  idles (Back i q) = backs i q
  idles (Hold p) = hears v 0 refl refl
  idles (Req p b q) = stay
  idles Go = hears v 0 refl refl

  arbitrates : (w : Wish) → Calm (arbitrating_turn v w)
  arbitrates Off = stays (to_state Selecting (to_atn _ v)) refl refl
  arbitrates (Back i q) = backs i q
  arbitrates (Hold p) = hears v 0 refl refl
  arbitrates (Req p b q) = stay
  arbitrates Go = hears v 0 refl refl

  waits : (w : Wish) → Calm (waiting_turn v w)
  waits Off = stay
  waits (Back i q) = stay
  waits (Hold p) = holds p
  waits (Req p b q) = stays (asking p v) refl refl
  waits Go = lets_go

  is_asked : (w : Wish) → Calm (asked_turn v w)
  is_asked Off = stay
  is_asked (Back i q) = stay
  is_asked (Hold p) = holds p
  is_asked (Req p b q) = whether (same_phase p v.latched) (λ _. stay) (λ _. stays (asking p v) refl refl)
  is_asked Go = lets_go

  -- Pad takes a byte and loses it
  pads : is_pad v.registers.command ≡ true → (u : View) (t : Bool) (b : ℕ) → Calm (took_in t b 1 u)
  pads pad u true b = record { refusal = refl; unchanged = λ h. absurd (h refl); in_order = λ f. absurd (true≢false (sym pad ∙ f)); choosing = λ t. absurd (false≢true t) }
  pads pad u false b = record { refusal = refl; unchanged = λ h. absurd (h refl); in_order = λ f. absurd (true≢false (sym pad ∙ f)); choosing = λ t. absurd (false≢true t) }

  -- Info keeps it, behind those that it holds
  keeps : (u : View) (t : Bool) (b : ℕ) → u.received ≡ v.received ++ (b ∷ []) → Calm (took_in t b 0 u)
  keeps u true b e = record { refusal = refl; unchanged = λ h. absurd (h refl); in_order = λ _. sym e; choosing = λ t. absurd (false≢true t) }
  keeps u false b e = record { refusal = refl; unchanged = λ h. absurd (h refl); in_order = λ _. sym e; choosing = λ t. absurd (false≢true t) }

  take : (b : ℕ) (q : Parity) → Calm (takes v b q)
  unfolding takes
  take b q =
      whether (is_pad v.registers.command) (λ pad. pads pad (counted_down v) (ends (counted_down v) MessageIn) b)
      (λ _. whether (ltb (length v.received) places)
      (λ _. keeps (counted_down (kept v b q)) (ends (counted_down (kept v b q)) MessageIn) b refl)
      (λ _. stay))

  send_byte : (o : Option Written) → Calm (sends_byte v o)
  send_byte None = stay
  send_byte (Some x) = record { refusal = refl; unchanged = λ h. absurd (h refl); in_order = λ _. append-nil v.received; choosing = λ t. absurd (false≢true t) }

  send : Calm (sends v)
  unfolding sends
  send = send_byte v.written

  once : (o : Outcome) → Calm o → Calm (once_empty v o)
  once o f = whether (is_empty v.received) (λ _. f) (λ _. stay)

  transfers : (w : Wish) → Calm (transferring_turn v w)
  transfers Off = stay
  transfers (Back i q) = stay
  transfers (Hold p) = once _ (holds p)
  transfers (Req p b q) =
      whether (same_phase p v.latched && ltb 0 (left v))
      (λ _. whether (is_input v.latched) (λ _. take b q) (λ _. send))
      (λ _. once _ (stays (asking p v) refl refl))
  transfers Go = once _ lets_go

  acks : Calm (ack_turn v)
  acks = whether (is_transferring v.state && is_empty v.received) (λ _. stays (completed v) refl refl) (λ _. stay)

  in_state : (s : State) (w : Wish) → is_disabled s ≡ false → Calm (state_turn s v w)
  in_state Idle w e = idles w
  in_state Arbitrating w e = arbitrates w
  in_state Selecting w e = plain v (Choose v.registers.destination v.flags.atn) _ refl refl refl refl
  in_state Waiting w e = waits w
  in_state Asked w e = is_asked w
  in_state Transferring w e = transfers w
  in_state Disabled w e = absurd (true≢false e)

  pub turn_fair : (w : Wish) → Fair false (is_pad v.registers.command) v (first (clock_table v)) (turned v w)
  turn_fair w =
      either (is_disabled v.state) (λ _. refuses ChipDisabled)
      (λ on. whether (eqb v.registers.interrupt 0) (λ _. whether v.flags.ack (λ _. acks) (λ _. in_state v.state w on)) (λ _. stay))
