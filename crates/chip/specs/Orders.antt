-- What a command written to the chip does.
use Rattle.std.specs.Prelude.{ℕ, Bool, true, false, cond, not, ◌&&◌, is_some, None, ◌==◌}
use Rattle.registers.specs.declared.answer.Answer.{Answer}
use Rattle.registers.specs.declared.answer.Reaction.TheVariants.{Nothing}
use Rattle.registers.specs.declared.command.Command.{Command}
use Rattle.registers.specs.declared.command.Command.TheVariants.{ChipReset, Disconnect, Pause, SetAtn, MessageAccepted, ChipDisable, Unused, Select, Transfer, Invalid}
use Rattle.registers.specs.declared.refusal.Refusal.TheVariants.{InterruptPending, Busy}
use Rattle.registers.specs.declared.state.State.{State}
use Rattle.registers.specs.declared.state.State.TheVariants.{Idle, Arbitrating, Selecting, Waiting, Asked, Transferring, Disabled}
use Rattle.registers.specs.Commands.{is_select, is_transfer}
use Rattle.registers.specs.States.{is_busy, is_connected, is_free}
use Rattle.chip.specs.Views.{View, to_state, to_single, to_command, to_paused, to_atn, to_ack, to_written}
use Rattle.chip.specs.Outcomes.{Outcome, gives, silent, tells, refused, dropping_ack, raised, gone_idle, emptied, made_new, written_phase, losing, quiet, loss, is_single}

-- as new, but for the ID; what is held is lost
abbrev pub resets : View → Outcome
resets v = gives (made_new v.id) (dropping_ack v.flags.ack) (losing v (made_new v.id))

-- a code from 08h on, once accepted, loses a written byte and clears Paused
abbrev pub accepted : View → View
accepted v = to_written None (to_paused false v)

-- Single Byte leaves one byte to move
abbrev pub starts : State → ℕ → View → View
starts s x v = to_single (cond (is_single x) 1 0) (to_command x (to_state s (accepted v)))

-- what is answered for a written byte that is lost
abbrev pub written_loss : View → View → Answer
written_loss v u = loss (cond (is_some v.written) 1 0) (written_phase v.written) u

abbrev pub begins : View → View → Outcome
begins v u = gives u Nothing (written_loss v u)

-- a command that the state has begins, and any other raises 40h
abbrev pub started : Bool → State → View → ℕ → Outcome
started true s v x = begins v (starts s x v)
started false s v x = begins v (raised 64 (accepted v))

-- a code from 08h on, in each state
abbrev pub accepts : State → View → Command → ℕ → Outcome
accepts Idle v o x = started (is_select o) Arbitrating v x
accepts Arbitrating v o x = refused Busy v
accepts Selecting v o x = refused Busy v
accepts Waiting v o x = refused Busy v
accepts Asked v o x = started (is_transfer o) Transferring v x
accepts Transferring v o x = refused Busy v
accepts Disabled v o x = refused Busy v

abbrev pub offered : View → Command → ℕ → Outcome
offered v o x = cond (v.registers.interrupt == 0) (accepts v.state v o x) (refused InterruptPending v)

-- held bytes are lost, and the chip goes idle
abbrev pub disconnects : View → Outcome
disconnects v = gives (gone_idle (emptied v)) (dropping_ack v.flags.ack) (losing v (gone_idle (emptied v)))

abbrev pub pauses : View → Outcome
pauses v = gives (to_paused true (gone_idle v)) (dropping_ack v.flags.ack) (quiet (to_paused true (gone_idle v)))

-- held bytes are lost; the other registers are kept, and nobody can read them
abbrev pub shut_down : View → View
shut_down v = to_state Disabled (to_command 0 (to_atn false (to_ack false (emptied v))))

abbrev pub disables : View → Outcome
disables v = gives (shut_down v) (dropping_ack v.flags.ack) (losing v (shut_down v))

-- a command written while the chip is enabled, or Chip Reset
abbrev pub commanded : View → Command → ℕ → Outcome
commanded v ChipReset x = resets v
commanded v Disconnect x = cond (is_connected v.state) (disconnects v) (silent v)
commanded v Pause x = cond (is_free v.state && v.registers.interrupt == 0) (pauses v) (silent v)
commanded v SetAtn x = cond (is_connected v.state) (silent (to_atn true v)) (silent v)
commanded v MessageAccepted x = cond (v.flags.ack && not (is_busy v.state)) (tells 0 (to_ack false v)) (silent v)
commanded v ChipDisable x = disables v
commanded v Unused x = silent v
commanded v Select x = offered v Select x
commanded v Transfer x = offered v Transfer x
commanded v Invalid x = offered v Invalid x
