-- The worked cases.
use Rattle.std.specs.Prelude.{◌≡◌, List, [], ◌∷◌, ◌++◌, ℕ, length}
use Rattle.std.specs.Borrow.{Bor}
use Rattle.chip.specs.Outcomes.{made_new}
use Rattle.chip.specs.Reads.{reads}
use Rattle.account.specs.Fates.{held}
use Rattle.registers.specs.declared.call.Call.{Call}
use Rattle.registers.specs.declared.call.Call.TheVariants.{Read as read, Write as write, Tick as tick, Turn as turn}
use Rattle.script.specs.declared.row.Row.{Row}
use Rattle.script.specs.Scripts.{script_meaning}
use Rattle.drive.specs.declared.image.Image.{Image}
use Rattle.drive.specs.Drives.{drive_meaning}
use Rattle.drive.specs.Images.{blocks_in}
use Rattle.cases.specs.Sessions.{after, answer, shows, ticks, row, with_script, with_drive, selecting, asked_by, sending}

-- a new chip with ID 7
pub record Made : Type 0 where
  pub status : (reads (made_new 7) 4).answer.value ≡ 2
  pub id : (reads (made_new 7) 5).answer.value ≡ 7
  pub interrupt : (reads (made_new 7) 6).answer.value ≡ 0
  pub source : (reads (made_new 7) 7).answer.value ≡ 7
  pub diagnostic : (reads (made_new 7) 9).answer.value ≡ 128

abbrev pub off_only : List Row
off_only = row 0 0 0 0 ∷ []

-- Nobody answers to 2. With a counter of 1 a tick ends the selection; with a counter of 0 no number of ticks does, and
-- Pause gives status 06h.
pub record Unanswered (place : Bor (List Row)) : Type 0 where
  pub ends : shows script_meaning 6 (selecting 2 1 8 ++ (turn ∷ turn ∷ tick ∷ [])) (with_script place off_only) ≡ 4
  pub goes_on : (n : ℕ) → shows script_meaning 6 (ticks n) (after script_meaning (selecting 2 0 8 ++ (turn ∷ turn ∷ [])) (with_script place off_only)) ≡ 0
  pub pauses : (n : ℕ) → shows script_meaning 4 (write 1 2 ∷ []) (after script_meaning (ticks n) (after script_meaning (selecting 2 0 8 ++ (turn ∷ turn ∷ [])) (with_script place off_only))) ≡ 6

-- a drive is selected, and asks for its command
pub record Selected (image : Image) : Type 0 where
  pub chosen : shows drive_meaning 6 (selecting 2 0 9 ++ (turn ∷ turn ∷ [])) (with_drive image) ≡ 1
  pub status : shows drive_meaning 4 (asked_by 2) (with_drive image) ≡ 18
  pub interrupt : shows drive_meaning 6 (asked_by 2) (with_drive image) ≡ 2

-- chosen, it offers three bytes
abbrev pub three : List Row
three = row 0 0 0 2 ∷ row 3 4 65 3 ∷ row 3 4 66 4 ∷ row 3 4 67 0 ∷ []

-- a Transfer Info of so many bytes
abbrev pub informing : ℕ → List Call
informing count = asked_by 3 ++ (read 6 ∷ write 14 count ∷ write 1 20 ∷ [])

abbrev pub three_turns : List Call
three_turns = informing 3 ++ (turn ∷ turn ∷ turn ∷ [])

-- two bytes are held, and a Chip Reset loses both; the third waits
pub record TwoHeld (place : Bor (List Row)) : Type 0 where
  pub holds : held (after script_meaning three_turns (with_script place three)).chip ≡ 65 ∷ 66 ∷ []
  pub status : shows script_meaning 4 three_turns (with_script place three) ≡ 160
  pub loses : (answer script_meaning (write 1 0) three_turns (with_script place three)).lost ≡ 2
  pub waits : script_meaning.waiting (after script_meaning (three_turns ++ (write 1 0 ∷ [])) (with_script place three)).station ≡ 67 ∷ []

-- nothing is left to move: the next Req raises 02h
pub record NothingLeft (place : Bor (List Row)) : Type 0 where
  pub raises : shows script_meaning 6 (informing 0 ++ (turn ∷ [])) (with_script place three) ≡ 2
  pub holds : held (after script_meaning (informing 0 ++ (turn ∷ [])) (with_script place three)).chip ≡ []
  pub waits : script_meaning.waiting (after script_meaning (informing 0 ++ (turn ∷ [])) (with_script place three)).station ≡ 65 ∷ 66 ∷ 67 ∷ []

-- chosen, it has one message, and goes
abbrev pub message : List Row
message = row 0 0 0 2 ∷ row 3 7 9 3 ∷ row 4 0 0 0 ∷ []

abbrev pub taking_message : List Call
taking_message = asked_by 3 ++ (read 6 ∷ write 1 84 ∷ turn ∷ [])

-- the last byte of a message leaves ACK on
pub record MessageTaken (place : Bor (List Row)) : Type 0 where
  pub status : shows script_meaning 4 taking_message (with_script place message) ≡ 186
  pub byte : shows script_meaning 0 taking_message (with_script place message) ≡ 9
  pub raises : shows script_meaning 6 (taking_message ++ (read 0 ∷ turn ∷ [])) (with_script place message) ≡ 1
  -- INT, ACK and connected
  pub lines : (answer script_meaning turn (taking_message ++ (read 0 ∷ [])) (with_script place message)).lines ≡ 25

-- what Source ID and the chip's state tell after a Back with this ID byte
abbrev pub source_after : Bor (List Row) → ℕ → ℕ
source_after place id = shows script_meaning 7 (write 2 2 ∷ turn ∷ []) (with_script place (row 1 0 id 0 ∷ []))

-- a reselection counts with the chip's bit and exactly one other; any other Back leaves chip and station as they are
pub record Reselected (place : Bor (List Row)) : Type 0 where
  pub by_two : source_after place 132 ≡ 130
  pub by_itself : after script_meaning (turn ∷ []) (after script_meaning (write 2 2 ∷ []) (with_script place (row 1 0 128 0 ∷ []))) ≡ after script_meaning (write 2 2 ∷ []) (with_script place (row 1 0 128 0 ∷ []))
  pub by_two_others : after script_meaning (turn ∷ []) (after script_meaning (write 2 2 ∷ []) (with_script place (row 1 0 134 0 ∷ []))) ≡ after script_meaning (write 2 2 ∷ []) (with_script place (row 1 0 134 0 ∷ []))

-- READ of block 1 with a count byte of zero
abbrev pub read_command : List ℕ
read_command = 8 ∷ 0 ∷ 0 ∷ 1 ∷ 0 ∷ 0 ∷ []

abbrev pub commanding : List Call
commanding = asked_by 2 ++ (read 6 ∷ write 14 6 ∷ write 1 20 ∷ sending read_command)

-- one byte of the phase that comes next
abbrev pub one_byte : List Call
one_byte = turn ∷ read 6 ∷ write 1 84 ∷ turn ∷ []

-- 256 blocks are one too few: status 02h, and no data
pub record Beyond (image : Image) : Type 0 where
  pub waits : drive_meaning.waiting (after drive_meaning commanding (with_drive image)).station ≡ []
  pub phase : shows drive_meaning 4 (turn ∷ []) (after drive_meaning commanding (with_drive image)) ≡ 50
  pub status : shows drive_meaning 0 one_byte (after drive_meaning commanding (with_drive image)) ≡ 2

pub record WorkedCases : Type 0 where
  pub made : Made
  pub unanswered : (place : Bor (List Row)) → Unanswered place
  pub selected : (image : Image) → Selected image
  pub two_held : (place : Bor (List Row)) → TwoHeld place
  pub nothing_left : (place : Bor (List Row)) → NothingLeft place
  pub message_taken : (place : Bor (List Row)) → MessageTaken place
  pub reselected : (place : Bor (List Row)) → Reselected place
  pub beyond : (image : Image) → blocks_in image.bytes.now ≡ 256 → Beyond image
  -- and 257 blocks are enough
  pub within : (image : Image) → blocks_in image.bytes.now ≡ 257 → length (drive_meaning.waiting (after drive_meaning commanding (with_drive image)).station) ≡ 131072
