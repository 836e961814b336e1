-- What the six bytes of a command mean, and what the drive answers.
use Rattle.std.specs.Prelude.{ℕ, ◌+◌, ◌*◌, ◌%◌, cond, List, [], ◌∷◌, ◌==◌, nat_le, slice_index}
use Rattle.drive.specs.declared.command.Command.{Command}
use Rattle.drive.specs.declared.command.Command.TheVariants.{TestUnitReady, Read, Other}
use Rattle.drive.specs.declared.command.CommandBlock.{CommandBlock}
use Rattle.drive.specs.declared.command.Reply.{Reply}

-- a command of which no byte came yet
abbrev pub no_command : CommandBlock
no_command = record { bytes = 0 ∷ 0 ∷ 0 ∷ 0 ∷ 0 ∷ 0 ∷ []; taken = 0 }

-- the block that a READ begins at, and how many it asks for
abbrev pub read_first : List ℕ → ℕ
read_first c = (slice_index c 1 % 32) * 65536 + slice_index c 2 * 256 + slice_index c 3

abbrev pub read_count : List ℕ → ℕ
read_count c = cond (slice_index c 4 == 0) 256 (slice_index c 4)

-- 00h is TEST UNIT READY and 08h is READ
abbrev pub decoded : List ℕ → Command
decoded c = cond (slice_index c 0 == 0) TestUnitReady (cond (slice_index c 0 == 8) (Read (read_first c) (read_count c)) Other)

abbrev pub reply : ℕ → ℕ → ℕ → Reply
reply b n s = record { first = b; count = n; status = s }

-- a READ that ends within the blocks sends them; only that one and TEST UNIT READY are good
abbrev pub reply_to : ℕ → Command → Reply
reply_to blocks TestUnitReady = reply 0 0 0
reply_to blocks (Read b n) = cond (nat_le (b + n) blocks) (reply b n 0) (reply 0 0 2)
reply_to blocks Other = reply 0 0 2
