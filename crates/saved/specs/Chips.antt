-- The numbers of a chip, and the chip of such numbers.
use Rattle.std.specs.Prelude.{◌≡◌, ℕ, Bool, cond, not, ◌&&◌, ◌||◌, List, length, Some, None, Ok, Err, Option, Result, ◌==◌, ◌≢◌, nat_le, slice_index}
use Rattle.bus.specs.Phases.{phase_number}
use Rattle.registers.specs.States.{state_number}
use Rattle.chip.specs.declared.chip.Flags.{Flags}
use Rattle.chip.specs.declared.chip.Ncr5385e.{Ncr5385e}
use Rattle.chip.specs.declared.chip.Received.{Received}
use Rattle.chip.specs.declared.chip.Written.{Written}
use Rattle.chip.specs.Model.{items, model}
use Rattle.chip.specs.Views.{View}
use Rattle.saved.specs.declared.numbers.SavedChip.{SavedChip}
use Rattle.saved.specs.declared.numbers.SavedFlags.{SavedFlags}
use Rattle.saved.specs.declared.numbers.SavedReceived.{SavedReceived}
use Rattle.saved.specs.declared.numbers.SavedWritten.{SavedWritten}

-- what numbers are unpacked to: one that has exactly these numbers, or an error where there is none
abbrev pub Unpacks : {X N E : Type 0} → (X → N) → N → Result X E → Type 0
Unpacks numbers saved (Ok x) = numbers x ≡ saved
Unpacks numbers saved (Err e) = (x : _) → numbers x ≢ saved

abbrev pub flag_number : Bool → ℕ
flag_number b = cond b 1 0

abbrev pub flag_numbers : Flags → SavedFlags
flag_numbers f = record { paused = flag_number f.paused; parity_error = flag_number f.parity_error; atn = flag_number f.atn; ack = flag_number f.ack }

-- a place that is free has zero
abbrev pub received_numbers : List ℕ → SavedReceived
received_numbers xs = record { count = length xs; first = slice_index xs 0; second = slice_index xs 1 }

abbrev pub written_numbers : Option Written → SavedWritten
written_numbers None = record { count = 0; byte = 0; phase = 0 }
written_numbers (Some w) = record { count = 1; byte = w.byte; phase = phase_number w.phase }

abbrev pub chip_numbers : View → SavedChip
chip_numbers v = record {
  registers = v.registers;
  id = v.id;
  state = state_number v.state;
  latched = phase_number v.latched;
  single = v.single;
  flags = flag_numbers v.flags;
  received = received_numbers v.received;
  written = written_numbers v.written;
}

abbrev pub received_in : Received → SavedReceived
received_in h = received_numbers (items h)

abbrev pub chip_in : Ncr5385e → SavedChip
chip_in k = chip_numbers (model k)

-- bytes are received only in a transfer, and of an input, and then none is written
abbrev pub keeps_settled : SavedChip → Bool
keeps_settled s = s.state == 5 || s.received.count == 0

abbrev pub keeps_inward : SavedChip → Bool
keeps_inward s = nat_le 4 s.latched || s.received.count == 0

abbrev pub keeps_alone : SavedChip → Bool
keeps_alone s = not (s.state == 5) || (not (nat_le 4 s.latched) || s.written.count == 0)

-- a transfer goes on only while no interrupt is pending
abbrev pub keeps_calm : SavedChip → Bool
keeps_calm s = not (s.state == 5) || s.registers.interrupt == 0

-- ACK is on only in a transfer or waiting
abbrev pub keeps_acked : SavedChip → Bool
keeps_acked s = s.flags.ack == 0 || (s.state == 5 || s.state == 3)

-- what a chip always keeps, by its numbers
abbrev pub together : SavedChip → Bool
together s = keeps_settled s && (keeps_inward s && (keeps_alone s && (keeps_calm s && keeps_acked s)))
