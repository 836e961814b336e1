-- A turn accounts for its bytes.
use Rattle.std.proofs.Common.{◌≡◌, ℕ, ◌<◌, Bool, true, false, cond, ◌&&◌, eqb, ltb, [], ◌∷◌, ◌++◌, length, Some, None, Option, sym, refl, ap, ◌∙◌, true≢false, append-nil, arith, length-append}
use mathlib.Core.Bool.{false≢true}
use lib.Bits.{bit_and}
use Rattle.std.proofs.lemmas.Bool.{and_parts, ltb-true}
use Rattle.bus.specs.declared.phase.Phase.{Phase}
use Rattle.bus.specs.declared.phase.Phase.TheVariants.{MessageIn}
use Rattle.bus.specs.declared.address.IdByte.{IdByte}
use Rattle.bus.specs.declared.parity.Parity.{Parity}
use Rattle.bus.specs.declared.parity.Parity.TheVariants.{Good, Bad}
use Rattle.bus.specs.declared.wish.Wish.{Wish}
use Rattle.bus.specs.declared.wish.Wish.TheVariants.{Off, Back, Hold, Req, Go}
use Rattle.registers.specs.declared.state.State.{State}
use Rattle.registers.specs.declared.state.State.TheVariants.{Idle, Arbitrating, Selecting, Waiting, Asked, Transferring, Disabled}
use Rattle.chip.specs.declared.chip.Written.{Written}
use Rattle.account.proofs.Shares.{other_share, idle_share, lost_share}
use Rattle.account.proofs.Phases.{same_is, in_data_in_append, out_none, empty_held, both_empty, empty_is}
use Rattle.account.proofs.Fate.{Fate, Quiet, at_rest, either, nothing, silently, aloud, stays, refuses, hears}
use Rattle.bus.specs.Ids.{decoded}
use Rattle.bus.specs.Phases.{phase_number, same_phase, is_input, in_data_in}
use Rattle.chip.specs.Outcomes.{asking, left, Outcome, silent, completed, let_go, is_pad, is_empty}
use Rattle.chip.specs.Places.{places}
use Rattle.chip.specs.Turns.{reselected, back_turn, idle_turn, arbitrating_turn, selecting_turn, held_turn, waiting_turn, asked_turn, counted_down, kept, ends, took_in, takes, used_up, ended_message, sends_byte, sends, once_empty, transferring_turn, state_turn, ack_turn, turned}
use Rattle.chip.specs.Views.{View, to_ack}
use Rattle.account.specs.Fates.{held}
use Rattle.account.specs.Sound.{SoundOf, Outward}
use Rattle.registers.specs.States.{is_transferring, is_disabled}
use Rattle.registers.specs.declared.refusal.Refusal.TheVariants.{ChipDisabled}
use Rattle.registers.specs.declared.call.Call.TheVariants.{Turn as turn}
use Rattle.registers.specs.declared.call.Call.{Call}
use Rattle.account.specs.Laws.{reads_data, may_lose}

used_outward : (t : Bool) (o : Option Written) → Outward o → Outward (cond t o None)
used_outward true o h = h
used_outward false o h = tt

-- a turn of a chip whose ACK is off
module _ (c : Call) (reads : reads_data c ≡ false) (v : View) (h : SoundOf v) (f : v.flags.ack ≡ false) where
  hush : {A : Type 0} → v.flags.ack ≡ true → A
  hush e = absurd (false≢true (sym f ∙ e))

  stay : {w : Wish} → Fate c v w (silent v)
  stay = stays v h refl hush

  back : (i : IdByte) (q : Parity) (o : Option ℕ) → v.received ≡ [] → Fate c v (Back i q) (reselected v o)
  back i q None e = stay
  back i q (Some n) e = hears _ 0 (at_rest refl e h.outward) refl refl f

  backs : (i : IdByte) (q : Parity) → v.received ≡ [] → Fate c v (Back i q) (back_turn v i q)
  backs i Good e = either (eqb (bit_and v.registers.control 2) 0) (λ _. stay) (λ _. back i Good (decoded v.id i.bits) e)
  backs i Bad e = stay

  idle : (w : Wish) → v.received ≡ [] → Fate c v w (idle_turn v w)
  idle Off e = stay
  idle (Back i q) e = backs i q e
  idle (Hold p) e = hears v 0 h refl refl f
  idle (Req p b q) e = stay
  idle Go e = hears v 0 h refl refl f

  arbitrating : (w : Wish) → v.received ≡ [] → Fate c v w (arbitrating_turn v w)
  arbitrating Off e = stays _ (at_rest refl e h.outward) refl hush
  arbitrating (Back i q) e = backs i q e
  arbitrating (Hold p) e = hears v 0 h refl refl f
  arbitrating (Req p b q) e = stay
  arbitrating Go e = hears v 0 h refl refl f

  selected : (w : Wish) → Fate c v w (selecting_turn v)
  selected w = record { share = []; is = nothing c _ _ refl; sound = h; all = append-nil _; acked = hush; chosen = λ _. refl }

  asks : {w : Wish} (p : Phase) → v.received ≡ [] → Fate c v w (silent (asking p v))
  asks p e = stays _ (at_rest refl e h.outward) (both_empty p v.latched _ e) hush

  holds : (p : Phase) → v.received ≡ [] → Fate c v (Hold p) (held_turn v p)
  holds p e = either (same_phase p v.latched) (λ _. hears v 0 h refl refl f) (λ _. hears (asking p v) 0 (at_rest refl e h.outward) (both_empty p v.latched _ e) refl f)

  goes : v.received ≡ [] → Fate c v Go (let_go v)
  goes e = hears _ 0 (at_rest refl e h.outward) refl refl refl

  waits : (w : Wish) → v.received ≡ [] → Fate c v w (waiting_turn v w)
  waits Off e = stay
  waits (Back i q) e = stay
  waits (Hold p) e = holds p e
  waits (Req p b q) e = asks p e
  waits Go e = goes e

  asked : (w : Wish) → v.received ≡ [] → Fate c v w (asked_turn v w)
  asked Off e = stay
  asked (Back i q) e = stay
  asked (Hold p) e = holds p e
  asked (Req p b q) e = either (same_phase p v.latched) (λ _. stay) (λ _. asks p e)
  asked Go e = goes e

  -- an input byte of a transfer: Info keeps it, Pad loses it; the last byte of a message leaves ACK on
  module _ (losing : may_lose c v.registers.command ≡ is_pad v.registers.command) (p : Phase) (b : ℕ) (q : Parity) (on : p ≡ v.latched) (m : is_transferring v.state ≡ true) where
    last_none : (u : View) → u.latched ≡ v.latched → ends u MessageIn ≡ true → v.latched ≡ MessageIn
    last_none u l e = sym l ∙ same_is u.latched MessageIn (and_parts (eqb (left u) 0) (same_phase u.latched MessageIn) e).1

    pads : (t : Bool) → (t ≡ true → v.latched ≡ MessageIn) → is_pad v.registers.command ≡ true → Fate c v (Req p b q) (took_in t b 1 (counted_down v))
    pads true z pad =
        let l = z refl in
        silently (to_ack true (counted_down v)) _ (other_share c _ _ (ap (λ x. eqb (phase_number x) 4) l)) h refl (λ _. ap (λ x. in_data_in x (b ∷ [])) (on ∙ l))
    pads false z pad =
        let none : held v ≡ [] = empty_held v.latched _ (h.info m pad) in
        record {
          share = in_data_in v.latched (b ∷ []);
          is = lost_share c _ _ v.latched (b ∷ []) reads (losing ∙ pad) refl refl;
          sound = h;
          all = ap (λ r. r ++ in_data_in p (b ∷ [])) none ∙ ap (λ x. in_data_in x (b ∷ [])) on ∙ sym (append-nil _) ∙ sym (ap (λ r. in_data_in v.latched (b ∷ []) ++ r) none);
          acked = hush;
          chosen = λ t. absurd (false≢true t);
        }

    keeps : (t : Bool) → (t ≡ true → v.latched ≡ MessageIn) → is_pad v.registers.command ≡ false → length v.received < places → Fate c v (Req p b q) (took_in t b 0 (counted_down (kept v b q)))
    keeps t z pad room =
        from t z
      where
        more : SoundOf (counted_down (kept v b q))
        more = record { settled = λ e. absurd (true≢false (sym m ∙ e)); info = λ _ e. absurd (false≢true (sym pad ∙ e)); alone = h.alone; calm = h.calm; outward = h.outward; few = omega (arith, length-append v.received (b ∷ [])) }

        from : (t : Bool) → (t ≡ true → v.latched ≡ MessageIn) → Fate c v (Req p b q) (took_in t b 0 (counted_down (kept v b q)))
        from true z =
            let l = z refl in
            silently (to_ack true (counted_down (kept v b q))) _ (idle_share c _ _ reads refl) more (ap (λ x. in_data_in x (v.received ++ (b ∷ []))) l ∙ sym (ap (λ x. in_data_in x v.received) l)) (λ _. ap (λ x. in_data_in x (b ∷ [])) (on ∙ l))
        from false z = record { share = []; is = idle_share c _ _ reads refl; sound = more; all = ap (λ x. held v ++ in_data_in x (b ∷ [])) on ∙ in_data_in_append v.latched v.received (b ∷ []); acked = hush; chosen = λ t. absurd (false≢true t) }

    take : Fate c v (Req p b q) (takes v b q)
    unfolding takes
    take =
        either (is_pad v.registers.command) (λ pad. pads (ends (counted_down v) MessageIn) (last_none (counted_down v) refl) pad)
        (λ pad. either (ltb (length v.received) places) (λ room. keeps (ends (counted_down (kept v b q)) MessageIn) (last_none (counted_down (kept v b q)) refl) pad (ltb-true _ _ room)) (λ _. stay))

    -- an output byte
    send_of : (o : Option Written) → is_input v.latched ≡ false → Fate c v (Req p b q) (sends_byte v o)
    send_of None out = stay
    send_of (Some x) out =
        aloud (ended_message (counted_down (used_up v))) x.byte _ (idle_share c _ _ reads refl) (record { settled = h.settled; info = h.info; alone = λ _ e. absurd (false≢true (sym out ∙ e)); calm = h.calm; outward = used_outward (is_pad v.registers.command) v.written h.outward; few = h.few }) refl (ap (λ x. in_data_in x (b ∷ [])) on ∙ out_none v.latched _ out) f

    send : is_input v.latched ≡ false → Fate c v (Req p b q) (sends v)
    unfolding sends
    send out = send_of v.written out

  -- nothing while received bytes are held
  freely : {w : Wish} {o : Outcome} → (v.received ≡ [] → Fate c v w o) → Fate c v w (once_empty v o)
  freely t = either (is_empty v.received) (λ e. t (empty_is _ e)) (λ _. stay)

  transfer : may_lose c v.registers.command ≡ is_pad v.registers.command → is_transferring v.state ≡ true → (w : Wish) → Fate c v w (transferring_turn v w)
  transfer losing m Off = stay
  transfer losing m (Back i q) = stay
  transfer losing m (Hold p) = freely (λ e. holds p e)
  transfer losing m (Req p b q) =
      either (same_phase p v.latched && ltb 0 (left v))
      (λ e. let on = same_is p v.latched (and_parts (same_phase p v.latched) _ e).0 in either (is_input v.latched) (λ _. take losing p b q on m) (λ out. send losing p b q on m out))
      (λ _. freely (λ e. asks p e))
  transfer losing m Go = freely (λ e. goes e)

  by_state : may_lose c v.registers.command ≡ is_pad v.registers.command → (s : State) → v.state ≡ s → (w : Wish) → Fate c v w (state_turn s v w)
  by_state losing Idle e w = idle w (h.settled (ap is_transferring e))
  by_state losing Arbitrating e w = arbitrating w (h.settled (ap is_transferring e))
  by_state losing Selecting e w = selected w
  by_state losing Waiting e w = waits w (h.settled (ap is_transferring e))
  by_state losing Asked e w = asked w (h.settled (ap is_transferring e))
  by_state losing Transferring e w = transfer losing (ap is_transferring e) w
  by_state losing Disabled e w = refuses ChipDisabled h hush

pub turn_fate : (v : View) (w : Wish) → SoundOf v → Quiet v.flags.ack w → Fate turn v w (turned v w)
turn_fate v w h q =
    either (is_disabled v.state) (λ _. refuses ChipDisabled h q)
    (λ _. either (eqb v.registers.interrupt 0)
    (λ _. either v.flags.ack (λ _. acks) (λ f. by_state turn refl v h f refl v.state refl w))
    (λ _. stays v h refl q))
  where
    acks : Fate turn v w (ack_turn v)
    acks =
        either (is_transferring v.state && is_empty v.received)
        (λ e. stays (completed v) (at_rest refl (empty_is _ (and_parts (is_transferring v.state) _ e).1) h.outward) refl q)
        (λ _. stays v h refl q)
