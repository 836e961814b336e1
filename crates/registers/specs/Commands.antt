-- The commands of the chip, by their codes.
use Rattle.std.specs.Prelude.{ℕ, Bool, true, false, cond, ◌||◌, ◌==◌, bit_and, nat_lt}
use Rattle.registers.specs.declared.command.Command.{Command}
use Rattle.registers.specs.declared.command.Command.TheVariants.{ChipReset, Disconnect, Pause, SetAtn, MessageAccepted, ChipDisable, Unused, Select, Transfer, Invalid}

-- the five code bits of a value written to Command
abbrev pub code_of : ℕ → ℕ
code_of x = bit_and x 31

abbrev pub command_table : ℕ → Command
command_table k =
    cond (k == 0) ChipReset (cond (k == 1) Disconnect (cond (k == 2) Pause (cond (k == 3) SetAtn
    (cond (k == 4) MessageAccepted (cond (k == 5) ChipDisable (cond (nat_lt k 8) Unused
    (cond (k == 8 || k == 9) Select (cond (k == 20 || k == 21) Transfer Invalid))))))))

-- what a value written to Command orders
unfoldable pub command_of : ℕ → Command
command_of x = command_table (code_of x)

abbrev pub is_select : Command → Bool
is_select ChipReset = false
is_select Disconnect = false
is_select Pause = false
is_select SetAtn = false
is_select MessageAccepted = false
is_select ChipDisable = false
is_select Unused = false
is_select Select = true
is_select Transfer = false
is_select Invalid = false

abbrev pub is_transfer : Command → Bool
is_transfer ChipReset = false
is_transfer Disconnect = false
is_transfer Pause = false
is_transfer SetAtn = false
is_transfer MessageAccepted = false
is_transfer ChipDisable = false
is_transfer Unused = false
is_transfer Select = false
is_transfer Transfer = true
is_transfer Invalid = false
