-- Stations with the same numbers are at the same stage, place or break.
use Rattle.std.proofs.Common.{◌≡◌, ℕ, ◌-◌, cond, eqb, List, get_or, unwrap_or, sym, refl, ap, ◌∙◌, arith}
use Rattle.std.proofs.lemmas.List.{get_or_default}
use Rattle.drive.specs.declared.drive.Stage.{Stage}
use Rattle.drive.specs.declared.drive.Stage.TheVariants.{Idle, MessageOut, Command, Reply, Complete, Leaving}
use Rattle.breaker.specs.declared.Stage.{Stage as Break}
use Rattle.breaker.specs.declared.Stage.TheVariants.{Through, Saving, Disconnecting, Leaving as LeavingBreak, Returning, Identifying}
use Rattle.breaker.specs.Stages.{stage_number, stage_numbered}
use Rattle.script.specs.declared.row.Row.{Row}
use Rattle.script.specs.declared.script.Place.{Place}
use Rattle.script.specs.declared.script.Place.TheVariants.{At, End, Leaving as LeavingScript}
use Rattle.script.specs.Scripts.{no_row}
use Rattle.saved.specs.Stations.{drive_numbers, script_numbers, InTable}
use Rattle.saved.specs.declared.numbers.SavedDrive.{SavedDrive}
use Rattle.saved.specs.declared.numbers.SavedScript.{SavedScript}

abbrev stage_in : SavedDrive → Stage
stage_in s =
    cond (eqb s.stage 0) Idle (cond (eqb s.stage 1) MessageOut (cond (eqb s.stage 2) (Command (record { bytes = s.bytes; taken = s.taken }))
    (cond (eqb s.stage 3) (Reply (record { reply = record { first = s.first; count = s.count; status = s.status }; sent = s.sent })) (cond (eqb s.stage 4) Complete Leaving))))

stage_round : (x : Stage) → stage_in (drive_numbers x) ≡ x
stage_round Idle = refl
stage_round MessageOut = refl
stage_round (Command c) = refl
stage_round (Reply s) = refl
stage_round Complete = refl
stage_round Leaving = refl

pub one_stage : (x y : Stage) → drive_numbers x ≡ drive_numbers y → x ≡ y
one_stage x y e = sym (stage_round x) ∙ ap stage_in e ∙ stage_round y

abbrev break_in : ℕ → Break
break_in n = unwrap_or (stage_numbered n) Through

break_round : (x : Break) → break_in (stage_number x) ≡ x
break_round Through = refl
break_round Saving = refl
break_round Disconnecting = refl
break_round LeavingBreak = refl
break_round Returning = refl
break_round Identifying = refl

pub one_break : (x y : Break) → stage_number x ≡ stage_number y → x ≡ y
one_break x y e = sym (break_round x) ∙ ap break_in e ∙ break_round y

abbrev place_in : List Row → SavedScript → Place
place_in rows s = cond (eqb s.place 0) (At s.number (get_or rows (s.number - 1) no_row)) (cond (eqb s.place 1) End LeavingScript)

place_round : (rows : List Row) (p : Place) → InTable rows p → place_in rows (script_numbers p) ≡ p
place_round rows (At n r) h =
    let counted = h.counted in
    let within = h.within in
    ap (At n) (sym (h.is ∙ get_or_default rows (n - 1) r no_row (omega arith)))
place_round rows End h = refl
place_round rows LeavingScript h = refl

pub one_place : (rows : List Row) (p q : Place) → InTable rows p → InTable rows q → script_numbers p ≡ script_numbers q → p ≡ q
one_place rows p q hp hq e = sym (place_round rows p hp) ∙ ap (place_in rows) e ∙ place_round rows q hq
