-- Reading and writing registers and bytes of data, ticks and the reset: what each leaves and answers.
use Rattle.std.specs.Prelude.{ℕ, ◌+◌, ◌-◌, ◌*◌, ◌/◌, ◌%◌, Bool, false, cond, not, ◌&&◌, ◌||◌, drop, is_some, Some, None, Option, Ok, Err, Result, ◌==◌, bit_and, nat_lt, slice_index}
use Rattle.bus.specs.Phases.{phase_number}
use Rattle.registers.specs.declared.answer.Reaction.TheVariants.{Nothing}
use Rattle.registers.specs.declared.refusal.Refusal.{Refusal}
use Rattle.registers.specs.declared.refusal.Refusal.TheVariants.{NoRegister, ReadOnly, ChipDisabled, Busy, NoByte, Dma}
use Rattle.registers.specs.declared.register.Register.{Register}
use Rattle.registers.specs.declared.register.Register.TheVariants.{Data, Command, Control, DestinationId, AuxiliaryStatus, Id, Interrupt, SourceId, DiagnosticStatus, CounterHigh, CounterMiddle, CounterLow}
use Rattle.registers.specs.Commands.{code_of, command_of}
use Rattle.registers.specs.Registers.{register_at}
use Rattle.registers.specs.States.{is_busy, is_selecting, is_disabled}
use Rattle.chip.specs.Views.{View, to_control, to_destination, to_counter, to_interrupt, to_parity_error, to_received, to_written}
use Rattle.chip.specs.Outcomes.{Outcome, gives, silent, refused, dropping_ack, raised, gone_idle, quiet, valued, is_empty, in_dma, wants_byte}
use Rattle.chip.specs.Orders.{commanded}

-- Auxiliary Status: Full weighs 128, Parity Error 64, the latched phase 8, Paused 4 and Counter Zero 2
abbrev pub status_of : View → ℕ
status_of v =
    cond (not (is_empty v.received) || is_some v.written) 128 0 + cond v.flags.parity_error 64 0 + phase_number v.latched * 8
    + cond v.flags.paused 4 0 + cond (v.registers.counter == 0) 2 0

abbrev pub shows : ℕ → View → Outcome
shows x v = gives v Nothing (valued x 0 v)

-- without the oldest received byte
abbrev pub shifted : View → View
shifted v = to_received (drop 1 v.received) v

-- the oldest received byte is read
abbrev pub takes_data : View → Outcome
takes_data v =
    cond (is_empty v.received) (refused NoByte v)
    (gives (shifted v) Nothing (valued (slice_index v.received 0) (phase_number v.latched) (shifted v)))

-- a byte is written, for the transfer in the latched phase
abbrev pub writing : ℕ → View → View
writing x v = to_written (Some (record { byte = x; phase = v.latched })) v

abbrev pub puts_data : View → ℕ → Outcome
puts_data v x = cond (wants_byte v) (gives (writing x v) Nothing (valued 0 (phase_number v.latched) (writing x v))) (refused NoByte v)

-- reading Interrupt clears it and Parity Error
abbrev pub cleared : View → View
cleared v = to_interrupt 0 (to_parity_error false v)

abbrev pub read_register : View → Register → Outcome
read_register v Data = cond (in_dma v) (refused Dma v) (takes_data v)
read_register v Command = shows v.registers.command v
read_register v Control = shows v.registers.control v
read_register v DestinationId = shows v.registers.destination v
read_register v AuxiliaryStatus = shows (status_of v) v
read_register v Id = shows v.id v
read_register v Interrupt = gives (cleared v) Nothing (valued v.registers.interrupt 0 (cleared v))
read_register v SourceId = shows v.registers.source v
read_register v DiagnosticStatus = shows 128 v
read_register v CounterHigh = shows (v.registers.counter / 65536) v
read_register v CounterMiddle = shows (v.registers.counter / 256 % 256) v
read_register v CounterLow = shows (v.registers.counter % 256) v

-- where there is no register, the read is refused
abbrev pub read_at : View → Option Register → Outcome
read_at v None = refused NoRegister v
read_at v (Some r) = read_register v r

-- a register read
abbrev pub reads : View → ℕ → Outcome
reads v a = cond (is_disabled v.state) (refused ChipDisabled v) (read_at v (register_at a))

abbrev pub unless_busy : View → View → Outcome
unless_busy v u = cond (is_busy v.state) (refused Busy v) (silent u)

abbrev pub write_register : View → Register → ℕ → Outcome
write_register v Data x = cond (in_dma v) (refused Dma v) (puts_data v x)
write_register v Command x = commanded v (command_of x) x
write_register v Control x = silent (to_control (bit_and x 7) v)
write_register v DestinationId x = unless_busy v (to_destination (bit_and x 7) v)
write_register v AuxiliaryStatus x = refused ReadOnly v
write_register v Id x = refused ReadOnly v
write_register v Interrupt x = refused ReadOnly v
write_register v SourceId x = refused ReadOnly v
write_register v DiagnosticStatus x = refused ReadOnly v
write_register v CounterHigh x = unless_busy v (to_counter (x * 65536 + v.registers.counter % 65536) v)
write_register v CounterMiddle x = unless_busy v (to_counter (v.registers.counter / 65536 * 65536 + x * 256 + v.registers.counter % 256) v)
write_register v CounterLow x = unless_busy v (to_counter (v.registers.counter / 256 * 256 + x) v)

-- where there is no register, the write is refused
abbrev pub write_at : View → Option Register → ℕ → Outcome
write_at v None x = refused NoRegister v
write_at v (Some r) x = write_register v r x

-- Chip Reset written to Command, which a disabled chip takes too
abbrev pub is_chip_reset : ℕ → ℕ → Bool
is_chip_reset a x = a == 1 && code_of x == 0

-- a register write
abbrev pub writes : View → ℕ → ℕ → Outcome
writes v a x = cond (is_disabled v.state && not (is_chip_reset a x)) (refused ChipDisabled v) (write_at v (register_at a) x)

-- what only a DMA transfer takes
abbrev pub by_dma : View → Outcome → Outcome
by_dma v o = cond (is_disabled v.state) (refused ChipDisabled v) (cond (in_dma v) o (refused Dma v))

-- why DMA is refused, if it is
abbrev pub dma_check : View → Result (Unit {0}) Refusal
dma_check v = cond (is_disabled v.state) (Err ChipDisabled) (cond (in_dma v) (Ok tt) (Err Dma))

abbrev pub dma_reads : View → Outcome
dma_reads v = by_dma v (takes_data v)

abbrev pub dma_writes : View → ℕ → Outcome
dma_writes v x = by_dma v (puts_data v x)

-- the time for a selection runs out: idle, 04h
abbrev pub runs_out : View → Outcome
runs_out v = gives (raised 4 (gone_idle (to_counter 0 v))) (dropping_ack v.flags.ack) (quiet (raised 4 (gone_idle (to_counter 0 v))))

-- a tick counts while selecting, and only a counter above zero
abbrev pub ticks : View → Outcome
ticks v =
    cond (is_disabled v.state) (refused ChipDisabled v)
    (cond (is_selecting v.state && nat_lt 0 v.registers.counter)
    (cond (v.registers.counter == 1) (runs_out v) (silent (to_counter (v.registers.counter - 1) v)))
    (silent v))
