-- The numbers of drives, scripts and breakers.
use Rattle.std.specs.Prelude.{◌≡◌, ℕ, List, [], ◌∷◌, Ok, Err, Result, ◌≢◌}
use Rattle.drive.specs.declared.drive.Stage.{Stage}
use Rattle.drive.specs.declared.drive.Stage.TheVariants.{Idle, MessageOut, Command, Reply, Complete, Leaving}
use Rattle.breaker.specs.declared.Progress.{Progress}
use Rattle.breaker.specs.Stages.{stage_number}
use Rattle.chain.specs.Chain.{Stands}
use Rattle.script.specs.declared.row.Row.{Row}
use Rattle.script.specs.declared.script.Place.{Place}
use Rattle.script.specs.declared.script.Place.TheVariants.{At, End, Leaving as LeavingScript}
use Rattle.script.specs.Scripts.{next_of}
use Rattle.saved.specs.declared.numbers.SavedScript.{SavedScript}
use Rattle.saved.specs.declared.numbers.SavedBreaker.{SavedBreaker}
use Rattle.saved.specs.declared.numbers.SavedDrive.{SavedDrive}

abbrev pub no_bytes : List ℕ
no_bytes = 0 ∷ 0 ∷ 0 ∷ 0 ∷ 0 ∷ 0 ∷ []

-- a stage that has no numbers of its own
abbrev pub plain : ℕ → SavedDrive
plain n = record { first = 0; sent = 0; count = 0; stage = n; taken = 0; status = 0; bytes = no_bytes }

abbrev pub drive_numbers : Stage → SavedDrive
drive_numbers Idle = plain 0
drive_numbers MessageOut = plain 1
drive_numbers (Command c) = record { first = 0; sent = 0; count = 0; stage = 2; taken = c.taken; status = 0; bytes = c.bytes }
drive_numbers (Reply s) = record { first = s.reply.first; sent = s.sent; count = s.reply.count; stage = 3; taken = 0; status = s.reply.status; bytes = no_bytes }
drive_numbers Complete = plain 4
drive_numbers Leaving = plain 5

abbrev pub progress_numbers : Progress → SavedBreaker
progress_numbers p = record { after = p.after; passed = p.passed; host = p.host.number; stage = stage_number p.stage }

abbrev pub script_numbers : Place → SavedScript
script_numbers (At n r) = record { number = n; place = 0 }
script_numbers End = record { number = 0; place = 1 }
script_numbers LeavingScript = record { number = 0; place = 2 }

-- A place in a table: its row is the one that has its number there.
abbrev pub InTable : List Row → Place → Type 0
InTable rows (At n r) = Stands next_of rows n r
InTable rows End = Unit {0}
InTable rows LeavingScript = Unit {0}

-- numbers of a script are unpacked to the place in the table that has them, or to an error where there is none
abbrev pub Places : {E : Type 0} → List Row → SavedScript → Result Place E → Type 0
Places rows saved (Err e) = (p : Place) → InTable rows p → script_numbers p ≢ saved
Places rows saved (Ok p) = InTable rows p × (script_numbers p ≡ saved)
