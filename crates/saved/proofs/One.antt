-- What has the same numbers is the same.
use Rattle.std.proofs.Common.{◌≡◌, ℕ, ◌<◌, ◌≤◌, Bool, true, false, cond, eqb, List, [], ◌∷◌, length, take, Some, None, Option, unwrap_or, sym, refl, ap, ◌∙◌, subst, arith, length-take}
use native.Mathlib.Bridge.{le_prop}
use Rattle.bus.specs.declared.address.StationAddress.{StationAddress}
use Rattle.bus.specs.declared.phase.Phase.{Phase}
use Rattle.bus.specs.declared.phase.Phase.TheVariants.{DataOut, UnspecifiedOut, Command, MessageOut, DataIn, UnspecifiedIn, Status, MessageIn}
use Rattle.bus.specs.Phases.{phase_number, phase_numbered}
use Rattle.registers.specs.declared.state.State.{State}
use Rattle.registers.specs.declared.state.State.TheVariants.{Idle, Arbitrating, Selecting, Waiting, Asked, Transferring, Disabled}
use Rattle.registers.specs.States.{state_number, state_numbered}
use Rattle.chip.specs.declared.chip.Flags.{Flags}
use Rattle.chip.specs.declared.chip.Ncr5385e.{Ncr5385e}
use Rattle.chip.specs.declared.chip.Written.{Written}
use Rattle.chip.specs.Model.{items, model}
use Rattle.chip.specs.Views.{View}
use Rattle.saved.specs.Chips.{flag_number, flag_numbers, received_numbers, written_numbers, chip_in}
use Rattle.saved.specs.declared.numbers.SavedChip.{SavedChip}
use Rattle.saved.specs.declared.numbers.SavedFlags.{SavedFlags}
use Rattle.saved.specs.declared.numbers.SavedReceived.{SavedReceived}
use Rattle.saved.specs.declared.numbers.SavedWritten.{SavedWritten}

abbrev state_in : ℕ → State
state_in n = unwrap_or (state_numbered n) Idle

state_round : (s : State) → state_in (state_number s) ≡ s
state_round Idle = refl
state_round Arbitrating = refl
state_round Selecting = refl
state_round Waiting = refl
state_round Asked = refl
state_round Transferring = refl
state_round Disabled = refl

abbrev phase_in : ℕ → Phase
phase_in n = unwrap_or (phase_numbered n) DataOut

phase_round : (p : Phase) → phase_in (phase_number p) ≡ p
phase_round DataOut = refl
phase_round UnspecifiedOut = refl
phase_round Command = refl
phase_round MessageOut = refl
phase_round DataIn = refl
phase_round UnspecifiedIn = refl
phase_round Status = refl
phase_round MessageIn = refl

flag_round : (b : Bool) → eqb (flag_number b) 1 ≡ b
flag_round true = refl
flag_round false = refl

abbrev flags_in : SavedFlags → Flags
flags_in s = record { paused = eqb s.paused 1; parity_error = eqb s.parity_error 1; atn = eqb s.atn 1; ack = eqb s.ack 1 }

flags_round : (f : Flags) → flags_in (flag_numbers f) ≡ f
flags_round f = (λ i. record { paused = flag_round f.paused i; parity_error = flag_round f.parity_error i; atn = flag_round f.atn i; ack = flag_round f.ack i })

abbrev received_back : SavedReceived → List ℕ
received_back s = take s.count (s.first ∷ s.second ∷ [])

received_round : (xs : List ℕ) → length xs ≤ 2 → received_back (received_numbers xs) ≡ xs
received_round [] h = refl
received_round (a ∷ []) h = refl
received_round (a ∷ b ∷ []) h = refl
received_round (a ∷ b ∷ c ∷ xs) h = absurd (omega arith)

abbrev written_back : SavedWritten → Option Written
written_back s = cond (eqb s.count 0) None (Some (record { byte = s.byte; phase = phase_in s.phase }))

written_round : (o : Option Written) → written_back (written_numbers o) ≡ o
written_round None = refl
written_round (Some w) = ap (λ p. Some (record { byte = w.byte; phase = p })) (phase_round w.phase)

abbrev view_in : SavedChip → View
view_in s = record {
  id = s.id;
  state = state_in s.state;
  latched = phase_in s.latched;
  single = s.single;
  registers = s.registers;
  flags = flags_in s.flags;
  received = received_back s.received;
  written = written_back s.written;
}

chip_round : (k : Ncr5385e) → view_in (chip_in k) ≡ model k
chip_round k =
    let l = length-take k.received.count k.received.bytes in
    let fits = k.received.fits in
    let st = state_round k.state in
    let ph = phase_round k.latched in
    let fl = flags_round k.flags in
    let rc = received_round (items k.received) (omega arith) in
    let wr = written_round k.written in
    (λ i. record { id = k.id.number; state = st i; latched = ph i; single = k.single; registers = k.registers; flags = fl i; received = rc i; written = wr i })

pub one_chip : (k j : Ncr5385e) → chip_in k ≡ chip_in j → model k ≡ model j
one_chip k j e = sym (chip_round k) ∙ ap view_in e ∙ chip_round j

pub one_address : (a b : StationAddress) → a.number ≡ b.number → a ≡ b
one_address a b e =
    let Q : ℕ → Type 0 = λ n. (h : n < 8) → a ≡ record { number = n; within = h } in
    subst Q e (λ h. ap (λ w. record { number = a.number; within = w }) (le_prop a.within h)) b.within
