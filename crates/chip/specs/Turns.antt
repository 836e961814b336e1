-- What a turn does: one function for each state, by the wish, in the order of the rules.
use Rattle.std.specs.Prelude.{ℕ, ◌+◌, ◌-◌, Bool, true, false, cond, not, ◌&&◌, ◌||◌, [], ◌∷◌, ◌++◌, length, Some, None, Option, ◌==◌, bit_and, nat_lt}
use Rattle.bus.specs.declared.address.IdByte.{IdByte}
use Rattle.bus.specs.declared.parity.Parity.{Parity}
use Rattle.bus.specs.declared.parity.Parity.TheVariants.{Good, Bad}
use Rattle.bus.specs.declared.phase.Phase.{Phase}
use Rattle.bus.specs.declared.phase.Phase.TheVariants.{MessageOut, MessageIn}
use Rattle.bus.specs.declared.wish.Wish.{Wish}
use Rattle.bus.specs.declared.wish.Wish.TheVariants.{Off, Back, Hold, Req, Go}
use Rattle.bus.specs.Ids.{decoded}
use Rattle.bus.specs.Parities.{parity_number}
use Rattle.bus.specs.Phases.{phase_number, same_phase, is_input}
use Rattle.registers.specs.declared.answer.Reaction.TheVariants.{Nothing, Tell, Choose}
use Rattle.registers.specs.declared.refusal.Refusal.TheVariants.{ChipDisabled}
use Rattle.registers.specs.declared.state.State.{State}
use Rattle.registers.specs.declared.state.State.TheVariants.{Idle, Arbitrating, Selecting, Waiting, Asked, Transferring, Disabled}
use Rattle.registers.specs.Commands.{code_of}
use Rattle.registers.specs.States.{is_transferring, is_disabled}
use Rattle.chip.specs.declared.chip.Written.{Written}
use Rattle.chip.specs.Places.{places}
use Rattle.chip.specs.Views.{View, to_state, to_source, to_atn, to_ack, to_parity_error, to_single, to_counter, to_received, to_written}
use Rattle.chip.specs.Outcomes.{Outcome, gives, silent, tells, refused, raised, asking, let_go, completed, quiet, moved, is_empty, is_pad, is_single, left}

-- With ACK on only a transfer goes on, once it holds no received byte: waiting, 01h.
abbrev pub ack_turn : View → Outcome
ack_turn v = cond (is_transferring v.state && is_empty v.received) (silent (completed v)) (silent v)

-- A reselection: the other station's address, with ID Valid; waiting, 10h.
abbrev pub reselected : View → Option ℕ → Outcome
reselected v None = silent v
reselected v (Some n) = tells 0 (raised 16 (to_state Waiting (to_source (128 + n) v)))

-- under Reselect Enable, with good parity
abbrev pub back_turn : View → IdByte → Parity → Outcome
back_turn v i Good = cond (bit_and v.registers.control 2 == 0) (silent v) (reselected v (decoded v.id i.bits))
back_turn v i Bad = silent v

abbrev pub idle_turn : View → Wish → Outcome
idle_turn v Off = silent v
idle_turn v (Back i q) = back_turn v i q
idle_turn v (Hold p) = tells 0 v
idle_turn v (Req p b q) = silent v
idle_turn v Go = tells 0 v

-- the cable is free: selecting, with ATN for Select with ATN
abbrev pub arbitrating_turn : View → Wish → Outcome
arbitrating_turn v Off = silent (to_state Selecting (to_atn (code_of v.registers.command == 8 || v.flags.atn) v))
arbitrating_turn v (Back i q) = back_turn v i q
arbitrating_turn v (Hold p) = tells 0 v
arbitrating_turn v (Req p b q) = silent v
arbitrating_turn v Go = tells 0 v

-- the station with the Destination ID is chosen
abbrev pub selecting_turn : View → Outcome
selecting_turn v = gives v (Choose v.registers.destination v.flags.atn) (quiet v)

-- a Hold is told, and latched where its phase is another
abbrev pub held_turn : View → Phase → Outcome
held_turn v p = cond (same_phase p v.latched) (tells 0 v) (tells 0 (asking p v))

abbrev pub waiting_turn : View → Wish → Outcome
waiting_turn v Off = silent v
waiting_turn v (Back i q) = silent v
waiting_turn v (Hold p) = held_turn v p
waiting_turn v (Req p b q) = silent (asking p v)
waiting_turn v Go = let_go v

abbrev pub asked_turn : View → Wish → Outcome
asked_turn v Off = silent v
asked_turn v (Back i q) = silent v
asked_turn v (Hold p) = held_turn v p
asked_turn v (Req p b q) = cond (same_phase p v.latched) (silent v) (silent (asking p v))
asked_turn v Go = let_go v

-- one byte acknowledged takes one off what is left
abbrev pub counted_down : View → View
counted_down v =
    to_counter (cond (is_single v.registers.command) v.registers.counter (v.registers.counter - 1))
    (to_single (cond (is_single v.registers.command) 0 v.single) v)

-- bad parity counts under Parity Enable
abbrev pub garbled : View → Parity → Bool
garbled v q = not (bit_and v.registers.control 4 == 0) && parity_number q == 1

-- an input byte is kept; bad parity sets Parity Error and ATN
abbrev pub kept : View → ℕ → Parity → View
kept v b q = to_received (v.received ++ (b ∷ [])) (to_parity_error (garbled v q || v.flags.parity_error) (to_atn (garbled v q || v.flags.atn) v))

-- the last byte of the transfer has moved, in that phase
abbrev pub ends : View → Phase → Bool
ends v p = left v == 0 && same_phase v.latched p

-- after an input byte the station is told, but after the last one of Message In ACK stays on
abbrev pub took_in : Bool → ℕ → ℕ → View → Outcome
took_in true b n v = gives (to_ack true v) Nothing (moved 1 b (phase_number v.latched) n (to_ack true v))
took_in false b n v = gives v (Tell 0) (moved 1 b (phase_number v.latched) n v)

abbrev pub took : View → ℕ → ℕ → Outcome
took v b n = took_in (ends v MessageIn) b n v

-- Transfer Pad throws an input byte away
abbrev pub discards_byte : View → ℕ → Outcome
discards_byte v b = took (counted_down v) b 1

-- Transfer Info keeps it
abbrev pub keeps_byte : View → ℕ → Parity → Outcome
keeps_byte v b q = took (counted_down (kept v b q)) b 0

-- an input byte: Pad loses it, Info keeps it if there is a place
unfoldable pub takes : View → ℕ → Parity → Outcome
takes v b q =
    cond (is_pad v.registers.command) (took (counted_down v) b 1)
    (cond (nat_lt (length v.received) places) (took (counted_down (kept v b q)) b 0) (silent v))

-- Info uses the written byte up, Pad keeps it
abbrev pub used_up : View → View
used_up v = to_written (cond (is_pad v.registers.command) v.written None) v

-- the last byte of Message Out turns ATN off
abbrev pub ended_message : View → View
ended_message v = to_atn (not (ends v MessageOut) && v.flags.atn) v

-- the station is told a byte, after ATN is settled
abbrev pub tells_byte : View → Written → Outcome
tells_byte v x = gives (ended_message v) (Tell x.byte) (moved 2 x.byte (phase_number x.phase) 0 (ended_message v))

abbrev pub sends_byte : View → Option Written → Outcome
sends_byte v None = silent v
sends_byte v (Some x) =
    gives (ended_message (counted_down (used_up v))) (Tell x.byte)
    (moved 2 x.byte (phase_number x.phase) 0 (ended_message (counted_down (used_up v))))

-- the written byte is sent, where there is one
unfoldable pub sends : View → Outcome
sends v = sends_byte v v.written

-- a byte moves
abbrev pub move_turn : View → ℕ → Parity → Outcome
move_turn v b q = cond (is_input v.latched) (takes v b q) (sends v)

-- nothing while received bytes are held
abbrev pub once_empty : View → Outcome → Outcome
once_empty v o = cond (is_empty v.received) o (silent v)

abbrev pub transferring_turn : View → Wish → Outcome
transferring_turn v Off = silent v
transferring_turn v (Back i q) = silent v
transferring_turn v (Hold p) = once_empty v (held_turn v p)
transferring_turn v (Req p b q) = cond (same_phase p v.latched && nat_lt 0 (left v)) (move_turn v b q) (once_empty v (silent (asking p v)))
transferring_turn v Go = once_empty v (let_go v)

abbrev pub state_turn : State → View → Wish → Outcome
state_turn Idle v w = idle_turn v w
state_turn Arbitrating v w = arbitrating_turn v w
state_turn Selecting v w = selecting_turn v
state_turn Waiting v w = waiting_turn v w
state_turn Asked v w = asked_turn v w
state_turn Transferring v w = transferring_turn v w
state_turn Disabled v w = refused ChipDisabled v

-- With an interrupt pending nothing happens.
abbrev pub turned : View → Wish → Outcome
turned v w =
    cond (is_disabled v.state) (refused ChipDisabled v)
    (cond (v.registers.interrupt == 0) (cond v.flags.ack (ack_turn v) (state_turn v.state v w)) (silent v))
