-- What a chip keeps true of itself over any history, and the law of bytes rests on.
use Rattle.std.specs.Prelude.{◌≡◌, ℕ, ◌≤◌, true, false, List, [], length, Some, None, Option}
use Rattle.bus.specs.declared.phase.Phase.{Phase}
use Rattle.bus.specs.Phases.{is_input}
use Rattle.registers.specs.declared.state.State.{State}
use Rattle.registers.specs.States.{is_transferring}
use Rattle.chip.specs.declared.chip.Written.{Written}
use Rattle.chip.specs.Outcomes.{is_pad}
use Rattle.chip.specs.Places.{places}
use Rattle.chip.specs.Views.{View}

-- a written byte is one for an output
abbrev pub Outward : Option Written → Type 0
Outward None = Unit {0}
Outward (Some x) = is_input x.phase ≡ false

-- over the parts that matter, so that a change of any other leaves the same statement
pub record Sound (s : State) (command interrupt : ℕ) (p : Phase) (received : List ℕ) (written : Option Written) : Type 0 where
  pub settled : is_transferring s ≡ false → received ≡ []
  pub info : is_transferring s ≡ true → is_pad command ≡ true → received ≡ []
  pub alone : is_transferring s ≡ true → is_input p ≡ true → written ≡ None
  pub calm : is_transferring s ≡ true → interrupt ≡ 0
  pub outward : Outward written
  pub few : length received ≤ places

abbrev pub SoundOf : View → Type 0
SoundOf v = Sound v.state v.registers.command v.registers.interrupt v.latched v.received v.written
