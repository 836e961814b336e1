-- What the calls are made of: answers, outcomes, and the changes of a chip that have a name.
use Rattle.std.specs.Prelude.{ℕ, ◌+◌, ◌%◌, Bool, true, false, cond, not, ◌&&◌, ◌||◌, List, [], ◌∷◌, length, is_some, Some, None, Option, ◌==◌, bit_and, nat_le, nat_lt}
use Rattle.bus.specs.declared.phase.Phase.{Phase}
use Rattle.bus.specs.declared.phase.Phase.TheVariants.{DataOut}
use Rattle.bus.specs.Phases.{phase_number, is_input}
use Rattle.registers.specs.declared.answer.Answer.{Answer}
use Rattle.registers.specs.declared.answer.Response.{Response}
use Rattle.registers.specs.declared.answer.Reaction.{Reaction}
use Rattle.registers.specs.declared.answer.Reaction.TheVariants.{Nothing, Tell}
use Rattle.registers.specs.declared.refusal.Refusal.{Refusal}
use Rattle.registers.specs.declared.state.State.{State}
use Rattle.registers.specs.declared.state.State.TheVariants.{Idle, Arbitrating, Selecting, Waiting, Asked, Transferring, Disabled}
use Rattle.registers.specs.Commands.{code_of}
use Rattle.registers.specs.Refusals.{refusal_number}
use Rattle.registers.specs.States.{is_transferring, is_connected, is_disabled}
use Rattle.chip.specs.declared.chip.Written.{Written}
use Rattle.chip.specs.Views.{View, to_state, to_latched, to_command, to_interrupt, to_source, to_atn, to_ack, to_received, to_written}

abbrev pub is_empty : List ℕ → Bool
is_empty [] = true
is_empty (b ∷ bs) = false

-- Single Byte, bit 6 of the command
abbrev pub is_single : ℕ → Bool
is_single command = not (bit_and command 64 == 0)

-- Transfer Pad, code 15h
abbrev pub is_pad : ℕ → Bool
is_pad command = code_of command == 21

-- left: the bytes that the command under way has yet to move
abbrev pub left : View → ℕ
left v = cond (is_single v.registers.command) v.single v.registers.counter

-- a transfer with DMA, bit 7 of the command
abbrev pub in_dma : View → Bool
in_dma v = is_transferring v.state && nat_le 128 v.registers.command

-- an output transfer waits for a byte to be written
abbrev pub wants_byte : View → Bool
wants_byte v = is_transferring v.state && (not (is_input v.latched) && (nat_lt 0 (left v) && not (is_some v.written)))

abbrev pub dreq : View → Bool
dreq v = in_dma v && (not (is_empty v.received) || wants_byte v)

-- INT weighs 1, DREQ 2, ATN 4, ACK 8 and connected 16; a disabled chip drives none
unfoldable pub lines_of : View → ℕ
lines_of v =
    cond (is_disabled v.state) 0
    (cond (not (v.registers.interrupt == 0)) 1 0 + cond (dreq v) 2 0 + cond v.flags.atn 4 0 + cond v.flags.ack 8 0 + cond (is_connected v.state) 16 0)

-- an answer that tells the lines and nothing else
abbrev pub quiet : View → Answer
quiet v = record { refusal = 0; value = 0; lines = lines_of v; cable = 0; byte = 0; phase = 0; lost = 0 }

abbrev pub refusal_answer : Refusal → View → Answer
refusal_answer r v = record { refusal = refusal_number r; value = 0; lines = lines_of v; cable = 0; byte = 0; phase = 0; lost = 0 }

-- a value read; with the phase in which it came where it is a byte of data
abbrev pub valued : ℕ → ℕ → View → Answer
valued x p v = record { refusal = 0; value = x; lines = lines_of v; cable = 0; byte = 0; phase = p; lost = 0 }

-- a byte that moved on the cable
abbrev pub moved : ℕ → ℕ → ℕ → ℕ → View → Answer
moved way b p n v = record { refusal = 0; value = 0; lines = lines_of v; cable = way; byte = b; phase = p; lost = n }

-- bytes lost, with their phase
abbrev pub loss : ℕ → ℕ → View → Answer
loss n p v = record { refusal = 0; value = 0; lines = lines_of v; cable = 0; byte = 0; phase = p; lost = n }

-- what a call leaves of the chip, what the station is to hear, and the answer
pub record Outcome : Type 0 where
  pub chip : View
  pub reaction : Reaction
  pub answer : Answer

-- what a method of the chip answers, with the chip as it leaves it
abbrev pub outcome : View → Response → Outcome
outcome v r = record { chip = v; reaction = r.reaction; answer = r.answer }

abbrev pub gives : View → Reaction → Answer → Outcome
gives v r a = record { chip = v; reaction = r; answer = a }

-- the station hears nothing
abbrev pub silent : View → Outcome
silent v = gives v Nothing (quiet v)

-- the station is told
abbrev pub tells : ℕ → View → Outcome
tells b v = gives v (Tell b) (quiet v)

-- nothing changes, and only the number and the lines are answered
abbrev pub refused : Refusal → View → Outcome
refused r v = gives v Nothing (refusal_answer r v)

-- where ACK goes off the station is told
abbrev pub dropping_ack : Bool → Reaction
dropping_ack true = Tell 0
dropping_ack false = Nothing

-- an interrupt is raised: Interrupt has its number, and no command is under way any more
abbrev pub raised : ℕ → View → View
raised n v = to_interrupt n (to_command 0 v)

-- a phase is latched, and 02h raised
abbrev pub asking : Phase → View → View
asking p v = raised 2 (to_latched p (to_state Asked v))

-- off the cable: idle, with ATN and ACK off, and no valid Source ID
abbrev pub gone_idle : View → View
gone_idle v = to_command 0 (to_atn false (to_ack false (to_source (v.registers.source % 128) (to_state Idle v))))

-- a command is done, and the chip connected: 01h
abbrev pub completed : View → View
completed v = raised 1 (to_state Waiting v)

-- a yes counts while selecting
abbrev pub heard_in : State → View → View
heard_in Idle v = v
heard_in Arbitrating v = v
heard_in Selecting v = completed v
heard_in Waiting v = v
heard_in Asked v = v
heard_in Transferring v = v
heard_in Disabled v = v

abbrev pub heard_yes : View → View
heard_yes v = heard_in v.state v

-- the station dropped BSY: idle, 04h
abbrev pub let_go : View → Outcome
let_go v = tells 0 (raised 4 (gone_idle v))

abbrev pub emptied : View → View
emptied v = to_received [] (to_written None v)

-- a new chip of that address
abbrev pub made_new : ℕ → View
made_new i = record { id = i; state = Idle; latched = DataOut; single = 0; registers = record { command = 0; control = 0; destination = 0; counter = 0; interrupt = 0; source = 7 }; flags = record { paused = false; parity_error = false; atn = false; ack = false }; received = []; written = None }

-- how many bytes are held, and the phase in which they came
abbrev pub held_count : List ℕ → Option Written → ℕ
held_count xs o = cond (is_empty xs) (cond (is_some o) 1 0) (length xs)

abbrev pub written_phase : Option Written → ℕ
written_phase None = 0
written_phase (Some x) = phase_number x.phase

abbrev pub held_phase : Phase → List ℕ → Option Written → ℕ
held_phase p xs o = cond (is_empty xs) (written_phase o) (phase_number p)

-- the answer of a call that loses all that v holds, and leaves u
abbrev pub losing : View → View → Answer
losing v u = loss (held_count v.received v.written) (held_phase v.latched v.received v.written) u
