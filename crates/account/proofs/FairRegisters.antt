-- Registers, commands, DMA, ticks and the reset keep the laws at the chip.
use Rattle.std.proofs.Common.{◌≡◌, ℕ, ◌-◌, Bool, true, false, cond, not, ◌&&◌, eqb, ltb, List, [], ◌∷◌, get_or, drop, Some, None, Option, refl, ◌∙◌, true≢false, append-nil}
use mathlib.Core.Bool.{false≢true}
use Rattle.bus.specs.Phases.{phase_number}
use Rattle.registers.specs.declared.answer.Reaction.TheVariants.{Nothing}
use Rattle.registers.specs.declared.command.Command.{Command}
use Rattle.registers.specs.declared.command.Command.TheVariants.{ChipReset, Disconnect, Pause, SetAtn, MessageAccepted, ChipDisable, Unused, Select, Transfer, Invalid}
use Rattle.registers.specs.declared.refusal.Refusal.TheVariants.{NoRegister, ReadOnly, ChipDisabled, InterruptPending, Busy, NoByte, Dma}
use Rattle.registers.specs.declared.register.Register.{Register}
use Rattle.registers.specs.declared.register.Register.TheVariants.{Data, Command as CommandRegister, Control, DestinationId, AuxiliaryStatus, Id, Interrupt, SourceId, DiagnosticStatus, CounterHigh, CounterMiddle, CounterLow}
use Rattle.registers.specs.declared.state.State.{State}
use Rattle.registers.specs.declared.state.State.TheVariants.{Idle, Arbitrating, Selecting, Waiting, Asked, Transferring, Disabled}
use Rattle.registers.specs.Commands.{command_of, is_select, is_transfer}
use Rattle.registers.specs.Registers.{register_at}
use Rattle.registers.specs.States.{is_busy, is_connected, is_free, is_selecting, is_disabled}
use Rattle.chip.specs.Orders.{resets, accepted, starts, started, accepts, offered, commanded}
use Rattle.chip.specs.Outcomes.{gives, silent, refused, dropping_ack, raised, gone_idle, in_dma, wants_byte, is_empty, quiet, valued}
use Rattle.chip.specs.Reads.{shifted, takes_data, writing, puts_data, cleared, read_register, read_at, reads, write_register, write_at, is_chip_reset, writes, dma_reads, dma_writes, ticks}
use Rattle.chip.specs.Views.{View, to_counter, to_atn, to_ack, to_paused, to_control, to_destination}
use Rattle.account.specs.RefusalTable.{first, there, rows_at, is_data, is_command, discards, takes_command, read_rows, read_table, command_rows, write_rows, write_table, dma_read_table, dma_write_table, clock_table}
use Rattle.account.proofs.Fair.{Fair, either, unless, whether, refuses, plain, stays, hears, loses}

-- the oldest byte, and the others
split : (xs : List ℕ) → is_empty xs ≡ false → xs ≡ get_or xs 0 0 ∷ drop 1 xs
split [] e = absurd (true≢false e)
split (b ∷ bs) e = refl

module _ (v : View) where
  took : is_empty v.received ≡ false → Fair true false v 0 (gives (shifted v) Nothing (valued (get_or v.received 0 0) (phase_number v.latched) (shifted v)))
  took e = record {
    refusal = refl;
    unchanged = λ h. absurd (h refl);
    in_order = λ _. append-nil v.received ∙ split v.received e;
    choosing = λ t. absurd (false≢true t);
  }

  takes : Fair true false v (cond (is_empty v.received) 6 0) (takes_data v)
  takes = either (is_empty v.received) (λ _. refuses NoByte) took

  puts : {losing : Bool} (x : ℕ) → Fair false losing v (cond (not (wants_byte v)) 6 0) (puts_data v x)
  puts x = unless (wants_byte v) (λ _. plain (writing x v) Nothing _ refl refl refl refl) (λ _. refuses NoByte)

  read_of : (r : Register) → Fair (is_data r) false v (first (read_rows v r)) (read_register v r)
  read_of Data = either (in_dma v) (λ _. refuses Dma) (λ _. takes)
  read_of CommandRegister = plain v Nothing _ refl refl refl refl
  read_of Control = plain v Nothing _ refl refl refl refl
  read_of DestinationId = plain v Nothing _ refl refl refl refl
  read_of AuxiliaryStatus = plain v Nothing _ refl refl refl refl
  read_of Id = plain v Nothing _ refl refl refl refl
  read_of Interrupt = plain (cleared v) Nothing _ refl refl refl refl
  read_of SourceId = plain v Nothing _ refl refl refl refl
  read_of DiagnosticStatus = plain v Nothing _ refl refl refl refl
  read_of CounterHigh = plain v Nothing _ refl refl refl refl
  read_of CounterMiddle = plain v Nothing _ refl refl refl refl
  read_of CounterLow = plain v Nothing _ refl refl refl refl

  read_there : (o : Option Register) → Fair (there is_data o) false v (first (rows_at v (read_rows v) o)) (read_at v o)
  read_there None = refuses NoRegister
  read_there (Some r) = read_of r

  pub read_fair : (a : ℕ) → Fair (there is_data (register_at a)) false v (first (read_table v a)) (reads v a)
  read_fair a = either (is_disabled v.state) (λ _. refuses ChipDisabled) (λ _. read_there (register_at a))

  start : {losing : Bool} (known : Bool) (s : State) (x : ℕ) → Fair false losing v 0 (started known s v x)
  start true s x = plain (starts s x v) Nothing _ refl refl refl refl
  start false s x = plain (raised 64 (accepted v)) Nothing _ refl refl refl refl

  accept : {losing : Bool} (s : State) (o : Command) (x : ℕ) → Fair false losing v (cond (not (takes_command s)) 5 0) (accepts s v o x)
  accept Idle o x = start (is_select o) Arbitrating x
  accept Arbitrating o x = refuses Busy
  accept Selecting o x = refuses Busy
  accept Waiting o x = refuses Busy
  accept Asked o x = start (is_transfer o) Transferring x
  accept Transferring o x = refuses Busy
  accept Disabled o x = refuses Busy

  offer : {losing : Bool} (o : Command) (x : ℕ) → Fair false losing v (cond (not (eqb v.registers.interrupt 0)) 4 (cond (not (takes_command v.state)) 5 0)) (offered v o x)
  offer o x = unless (eqb v.registers.interrupt 0) (λ _. accept v.state o x) (λ _. refuses InterruptPending)

  drops : {losing : Bool} (u : View) (ack : Bool) → u.received ≡ v.received → Fair false losing v 0 (gives u (dropping_ack ack) (quiet u))
  drops u ack e = plain u (dropping_ack ack) (quiet u) refl refl refl e

  command : (o : Command) (x : ℕ) → Fair false (discards o) v (first (command_rows v o)) (commanded v o x)
  command ChipReset x = loses refl _ v.flags.ack _ refl
  command Disconnect x = whether (is_connected v.state) (λ _. loses refl _ v.flags.ack _ refl) (λ _. stays v refl refl)
  command Pause x = whether (is_free v.state && eqb v.registers.interrupt 0) (λ _. drops (to_paused true (gone_idle v)) v.flags.ack refl) (λ _. stays v refl refl)
  command SetAtn x = whether (is_connected v.state) (λ _. stays (to_atn true v) refl refl) (λ _. stays v refl refl)
  command MessageAccepted x = whether (v.flags.ack && not (is_busy v.state)) (λ _. hears (to_ack false v) 0 refl refl) (λ _. stays v refl refl)
  command ChipDisable x = loses refl _ v.flags.ack _ refl
  command Unused x = stays v refl refl
  command Select x = offer Select x
  command Transfer x = offer Transfer x
  command Invalid x = offer Invalid x

  set_first : (u : View) → u.received ≡ v.received → Fair false false v (cond (is_busy v.state) 5 0) (cond (is_busy v.state) (refused Busy v) (silent u))
  set_first u e = either (is_busy v.state) (λ _. refuses Busy) (λ _. stays u refl e)

  write_of : (r : Register) (x : ℕ) → Fair false (is_command r && discards (command_of x)) v (first (write_rows v r (command_of x))) (write_register v r x)
  write_of Data x = either (in_dma v) (λ _. refuses Dma) (λ _. puts x)
  write_of CommandRegister x = command (command_of x) x
  write_of Control x = stays (to_control _ v) refl refl
  write_of DestinationId x = set_first (to_destination _ v) refl
  write_of AuxiliaryStatus x = refuses ReadOnly
  write_of Id x = refuses ReadOnly
  write_of Interrupt x = refuses ReadOnly
  write_of SourceId x = refuses ReadOnly
  write_of DiagnosticStatus x = refuses ReadOnly
  write_of CounterHigh x = set_first (to_counter _ v) refl
  write_of CounterMiddle x = set_first (to_counter _ v) refl
  write_of CounterLow x = set_first (to_counter _ v) refl

  write_there : (o : Option Register) (x : ℕ) → Fair false (there is_command o && discards (command_of x)) v (first (rows_at v (λ r. write_rows v r (command_of x)) o)) (write_at v o x)
  write_there None x = refuses NoRegister
  write_there (Some r) x = write_of r x

  pub write_fair : (a x : ℕ) → Fair false (there is_command (register_at a) && discards (command_of x)) v (first (write_table v a x)) (writes v a x)
  write_fair a x = either (is_disabled v.state && not (is_chip_reset a x)) (λ _. refuses ChipDisabled) (λ _. write_there (register_at a) x)

  pub dma_read_fair : Fair true false v (first (dma_read_table v)) (dma_reads v)
  dma_read_fair = either (is_disabled v.state) (λ _. refuses ChipDisabled) (λ _. unless (in_dma v) (λ _. takes) (λ _. refuses Dma))

  pub dma_write_fair : (x : ℕ) → Fair false false v (first (dma_write_table v)) (dma_writes v x)
  dma_write_fair x = either (is_disabled v.state) (λ _. refuses ChipDisabled) (λ _. unless (in_dma v) (λ _. puts x) (λ _. refuses Dma))

  pub tick_fair : Fair false false v (first (clock_table v)) (ticks v)
  tick_fair =
      either (is_disabled v.state) (λ _. refuses ChipDisabled)
      (λ _. whether (is_selecting v.state && ltb 0 v.registers.counter)
      (λ _. whether (eqb v.registers.counter 1) (λ _. drops (raised 4 (gone_idle (to_counter 0 v))) v.flags.ack refl) (λ _. stays (to_counter (v.registers.counter - 1) v) refl refl))
      (λ _. stays v refl refl))

  pub reset_fair : Fair false true v 0 (resets v)
  reset_fair = loses refl _ v.flags.ack _ refl
