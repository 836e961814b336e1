-- One whole service of a drive, in the words of the command set.
use Rattle.std.specs.Prelude.{◌≡◌, ℕ, ◌+◌, ◌<◌, ◌≤◌, Bool, cond, List, [], ◌∷◌, ◌++◌, map, length, ◌≢◌, slice_index, slice_index_or}
use Rattle.bus.specs.declared.parity.Parity.TheVariants.{Good}
use Rattle.bus.specs.declared.phase.Phase.TheVariants.{DataIn, Status, MessageOut, MessageIn, Command}
use Rattle.bus.specs.declared.wish.Wish.{Wish}
use Rattle.bus.specs.declared.wish.Wish.TheVariants.{Req, Go}
use Rattle.bus.specs.Courses.{wishes, told_all}
use Rattle.drive.specs.declared.command.Reply.{Reply}
use Rattle.drive.specs.declared.drive.Drive.{Drive}
use Rattle.drive.specs.Images.{stored, blocks_in, blocks_from}
use Rattle.drive.specs.Commands.{decoded, reply_to, read_first, read_count}
use Rattle.drive.specs.Drives.{store_of, reply_bytes, drive_meaning}

-- what the drive sends for a command, and its status
abbrev pub answer_to : List ℕ → List ℕ → Reply
answer_to store c = reply_to (blocks_in store) (decoded c)

abbrev pub sent_for : List ℕ → List ℕ → List ℕ
sent_for store c = reply_bytes store (answer_to store c)

abbrev pub status_for : List ℕ → List ℕ → ℕ
status_for store c = (answer_to store c).status

-- These data and this status are right for a command. TEST UNIT READY (00h) is good. A READ (08h) that ends within the
-- store gets exactly the bytes of its blocks and is good. Any other gets no data, and 02h.
pub record Right (store c data_bytes : List ℕ) (status : ℕ) : Type 0 where
  pub ready : slice_index_or c 0 0 ≡ 0 → (data_bytes ≡ []) × (status ≡ 0)
  pub within : slice_index_or c 0 0 ≡ 8 → read_first c + read_count c ≤ blocks_in store → (data_bytes ≡ blocks_from store (read_first c) (read_count c)) × (status ≡ 0)
  pub beyond : slice_index_or c 0 0 ≡ 8 → blocks_in store < read_first c + read_count c → (data_bytes ≡ []) × (status ≡ 2)
  pub unknown : (slice_index c 0 ≢ 0) → (slice_index c 0 ≢ 8) → (data_bytes ≡ []) × (status ≡ 2)

-- a message is asked for where ATN was on
abbrev pub message_wishes : Bool → List Wish
message_wishes atn = cond atn (Req MessageOut 0 Good ∷ []) []

abbrev pub command_wishes : List Wish
command_wishes = Req Command 0 Good ∷ Req Command 0 Good ∷ Req Command 0 Good ∷ Req Command 0 Good ∷ Req Command 0 Good ∷ Req Command 0 Good ∷ []

abbrev pub data_wish : ℕ → Wish
data_wish b = Req DataIn b Good

-- the status, the message Command Complete, and the end
abbrev pub closing_wishes : ℕ → List Wish
closing_wishes status = Req Status status Good ∷ Req MessageIn 0 Good ∷ Go ∷ []

-- A drive that is off the cable is chosen. Told the message, the command, and whatever comes at its inputs, it shows
-- exactly these wishes: for the message, for the command, for each byte of the data, and the closing. Then it is what
-- it was.
pub record Serves (d : Drive) (atn : Bool) (message : ℕ) (command inputs last : List ℕ) : Type 0 where
  pub right : Right (store_of d) command (sent_for (store_of d) command) (status_for (store_of d) command)
  pub waits : drive_meaning.waiting (told_all drive_meaning (cond atn (message ∷ []) [] ++ command) (drive_meaning.after_chosen d d.address.number atn)) ≡ sent_for (store_of d) command
  pub shows : wishes drive_meaning (cond atn (message ∷ []) [] ++ (command ++ (inputs ++ last))) (drive_meaning.after_chosen d d.address.number atn)
      ≡ message_wishes atn ++ (command_wishes ++ (map data_wish (sent_for (store_of d) command) ++ closing_wishes (status_for (store_of d) command)))
  pub back : told_all drive_meaning (cond atn (message ∷ []) [] ++ (command ++ (inputs ++ last))) (drive_meaning.after_chosen d d.address.number atn) ≡ d

-- so it serves any command of six bytes, with ATN on or off
abbrev pub ServesAll : Drive → Type 0
ServesAll d =
    (atn : Bool) (message c0 c1 c2 c3 c4 c5 : ℕ) (inputs : List ℕ) (x y z : ℕ)
    → length inputs ≡ length (sent_for (store_of d) (c0 ∷ c1 ∷ c2 ∷ c3 ∷ c4 ∷ c5 ∷ []))
    → Serves d atn message (c0 ∷ c1 ∷ c2 ∷ c3 ∷ c4 ∷ c5 ∷ []) inputs (x ∷ y ∷ z ∷ [])

-- READ of block 1 with a count byte of zero, which asks for 256 blocks: an image of 256 blocks is one too short, and one
-- of 257 gives all but its first block
pub record Edge (image : List ℕ) : Type 0 where
  pub short : blocks_in image ≡ 256 → (sent_for (stored image) (8 ∷ 0 ∷ 0 ∷ 1 ∷ 0 ∷ 0 ∷ []) ≡ []) × (status_for (stored image) (8 ∷ 0 ∷ 0 ∷ 1 ∷ 0 ∷ 0 ∷ []) ≡ 2)
  pub long : blocks_in image ≡ 257 → (length (sent_for (stored image) (8 ∷ 0 ∷ 0 ∷ 1 ∷ 0 ∷ 0 ∷ [])) ≡ 131072) × (status_for (stored image) (8 ∷ 0 ∷ 0 ∷ 1 ∷ 0 ∷ 0 ∷ []) ≡ 0)
