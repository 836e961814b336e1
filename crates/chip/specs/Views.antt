-- What a chip holds, without the proofs of its invariant, and one setter for each field that a call changes.
use Rattle.std.specs.Prelude.{ℕ, Bool, List, Option}
use Rattle.bus.specs.declared.phase.Phase.{Phase}
use Rattle.registers.specs.declared.state.State.{State}
use Rattle.chip.specs.declared.chip.Registers.{Registers}
use Rattle.chip.specs.declared.chip.Flags.{Flags}
use Rattle.chip.specs.declared.chip.Written.{Written}

pub record View : Type 0 where
  pub id : ℕ
  pub state : State
  pub latched : Phase
  pub single : ℕ
  pub registers : Registers
  pub flags : Flags
  pub received : List ℕ
  pub written : Option Written

abbrev pub to_state : State → View → View
to_state x v = record v { state = x }

abbrev pub to_latched : Phase → View → View
to_latched x v = record v { latched = x }

abbrev pub to_single : ℕ → View → View
to_single x v = record v { single = x }

abbrev pub to_registers : Registers → View → View
to_registers x v = record v { registers = x }

abbrev pub to_flags : Flags → View → View
to_flags x v = record v { flags = x }

abbrev pub to_received : List ℕ → View → View
to_received x v = record v { received = x }

abbrev pub to_written : Option Written → View → View
to_written x v = record v { written = x }

abbrev pub to_command : ℕ → View → View
to_command x v = to_registers (record v.registers { command = x }) v

abbrev pub to_control : ℕ → View → View
to_control x v = to_registers (record v.registers { control = x }) v

abbrev pub to_destination : ℕ → View → View
to_destination x v = to_registers (record v.registers { destination = x }) v

abbrev pub to_counter : ℕ → View → View
to_counter x v = to_registers (record v.registers { counter = x }) v

abbrev pub to_interrupt : ℕ → View → View
to_interrupt x v = to_registers (record v.registers { interrupt = x }) v

abbrev pub to_source : ℕ → View → View
to_source x v = to_registers (record v.registers { source = x }) v

abbrev pub to_paused : Bool → View → View
to_paused x v = to_flags (record v.flags { paused = x }) v

abbrev pub to_parity_error : Bool → View → View
to_parity_error x v = to_flags (record v.flags { parity_error = x }) v

abbrev pub to_atn : Bool → View → View
to_atn x v = to_flags (record v.flags { atn = x }) v

abbrev pub to_ack : Bool → View → View
to_ack x v = to_flags (record v.flags { ack = x }) v
