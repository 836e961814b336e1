-- What a drive means.
use Rattle.std.specs.Prelude.{◌≡◌, ℕ, ◌+◌, Bool, cond, ◌&&◌, List, [], drop, Some, None, Option, ◌==◌, nat_lt, slice_set}
use Rattle.bus.specs.declared.address.StationAddress.{StationAddress}
use Rattle.bus.specs.declared.parity.Parity.TheVariants.{Good}
use Rattle.bus.specs.declared.phase.Phase.TheVariants.{DataIn, Status, MessageOut as MessageOutPhase, MessageIn, Command as CommandPhase}
use Rattle.bus.specs.declared.wish.Wish.{Wish}
use Rattle.bus.specs.declared.wish.Wish.TheVariants.{Off, Req, Go}
use Rattle.bus.specs.Wishes.{is_off}
use Rattle.bus.specs.Meaning.{Meaning}
use Rattle.drive.specs.declared.command.CommandBlock.{CommandBlock}
use Rattle.drive.specs.declared.command.Reply.{Reply as ReplyOf}
use Rattle.drive.specs.declared.drive.Stage.{Stage}
use Rattle.drive.specs.declared.drive.Stage.TheVariants.{Idle, MessageOut, Command, Reply, Complete, Leaving}
use Rattle.drive.specs.declared.drive.Drive.{Drive}
use Rattle.drive.specs.declared.sending.Sending.{Sending}
use Rattle.drive.specs.Images.{stored, blocks_in, blocks_from, first_of}
use Rattle.drive.specs.Commands.{no_command, decoded, reply_to}

-- the bytes that an answer sends: those of its blocks
abbrev pub reply_bytes : List ℕ → ReplyOf → List ℕ
reply_bytes store r = blocks_from store r.first r.count

-- an answer of which so many bytes were sent
abbrev pub sending : ReplyOf → ℕ → Sending
sending r k = record { reply = r; sent = k }

-- a byte of a command comes: it is kept until the sixth, which has the command answered
abbrev pub received : List ℕ → CommandBlock → ℕ → Stage
received store c b =
    cond (nat_lt c.taken 5) (Command (record { bytes = slice_set c.bytes c.taken b; taken = c.taken + 1 }))
    (Reply (sending (reply_to (blocks_in store) (decoded (slice_set c.bytes 5 b))) 0))

-- while a byte is left the answer goes on with it; then comes the status
abbrev pub reply_wish : Option ℕ → ℕ → Wish
reply_wish None status = Req Status status Good
reply_wish (Some b) status = Req DataIn b Good

abbrev pub reply_goes : Option ℕ → Sending → Stage
reply_goes None s = Complete
reply_goes (Some b) s = Reply (sending s.reply (s.sent + 1))

-- the bytes of an answer that are left
abbrev pub left_of : List ℕ → Sending → List ℕ
left_of store s = drop s.sent (reply_bytes store s.reply)

abbrev pub wants_at : List ℕ → Stage → Wish
wants_at store Idle = Off
wants_at store MessageOut = Req MessageOutPhase 0 Good
wants_at store (Command c) = Req CommandPhase 0 Good
wants_at store (Reply s) = reply_wish (first_of (left_of store s)) s.reply.status
wants_at store Complete = Req MessageIn 0 Good
wants_at store Leaving = Go

-- the bytes of the blocks that were asked for, from the next one on
abbrev pub waiting_at : List ℕ → Stage → List ℕ
waiting_at store Idle = []
waiting_at store MessageOut = []
waiting_at store (Command c) = []
waiting_at store (Reply s) = left_of store s
waiting_at store Complete = []
waiting_at store Leaving = []

abbrev pub next_stage : List ℕ → Stage → ℕ → Stage
next_stage store Idle b = Idle
next_stage store MessageOut b = Command no_command
next_stage store (Command c) b = received store c b
next_stage store (Reply s) b = reply_goes (first_of (left_of store s)) s
next_stage store Complete b = Leaving
next_stage store Leaving b = Idle

-- the drive's blocks
abbrev pub store_of : Drive → List ℕ
store_of d = d.image.bytes.now

abbrev pub at_stage : Drive → Stage → Drive
at_stage d s = record d { stage = s }

-- chosen, it waits for a message if ATN is on, and for the command
abbrev pub called_on : Bool → Stage
called_on atn = cond atn MessageOut (Command no_command)

abbrev pub drive_meaning : Meaning Drive
drive_meaning = record {
  wants = λ d. wants_at (store_of d) d.stage;
  address = λ d. d.address.number;
  waiting = λ d. waiting_at (store_of d) d.stage;
  after_told = λ d b. at_stage d (next_stage (store_of d) d.stage b);
  after_chosen = λ d a atn. at_stage d (cond (is_off (wants_at (store_of d) d.stage) && d.address.number == a) (called_on atn) d.stage);
}

-- a drive over an image, at a stage
pub record DriveAt (image : List ℕ) (a : StationAddress) (stage : Stage) (d : Drive) : Type 0 where
  pub store_is : store_of d ≡ stored image
  pub address_is : d.address ≡ a
  pub stage_is : d.stage ≡ stage

-- a drive off the cable
pub record IdleDrive (image : List ℕ) (a : StationAddress) (d : Drive) : Type 0 where
  pub store_is : store_of d ≡ stored image
  pub address_is : d.address ≡ a
  pub stage_is : d.stage ≡ Idle
