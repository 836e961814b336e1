-- How many received bytes a chip holds at most, and where ACK can stay on.
use Rattle.std.specs.Prelude.{ℕ, Bool, true, false}
use Rattle.registers.specs.declared.state.State.{State}
use Rattle.registers.specs.declared.state.State.TheVariants.{Idle, Arbitrating, Selecting, Waiting, Asked, Transferring, Disabled}

abbrev pub places : ℕ
places = 2

abbrev pub holds_ack : State → Bool
holds_ack Idle = false
holds_ack Arbitrating = false
holds_ack Selecting = false
holds_ack Waiting = true
holds_ack Asked = false
holds_ack Transferring = true
holds_ack Disabled = false
