-- Proofs: what holds of a drive that is kept as numbers, by what is seen of it.
use Rattle.std.specs.Prelude.{ℕ, cond, ◌&&◌, List, ◌==◌, refl}
use Rattle.std.proofs.Common.{sym, ◌∙◌}
use Rattle.bus.specs.Meaning.{Meaning}
use Rattle.bus.specs.Wishes.{is_off}
use Rattle.account.specs.Alike.{SeenAs}
use Rattle.drive.specs.declared.drive.Drive.{Drive}
use Rattle.drive.specs.declared.drive.Stage.{Stage}
use Rattle.drive.specs.Drives.{wants_at, waiting_at, next_stage, called_on, store_of, drive_meaning}
use Rattle.saved.proofs.OneStation.{one_stage}
use Rattle.embed.specs.States.{Seen, seen_of, any_stage, drive_holds, NamesOne, Lasts}

abbrev to_stage : Seen (List ℕ) Stage → Stage → Seen (List ℕ) Stage
to_stage d x = record { lent = d.lent; address = d.address; mark = x }

abbrev pub drive_seen : Meaning (Seen (List ℕ) Stage)
drive_seen = record {
  wants = λ d. wants_at d.lent d.mark;
  address = λ d. d.address;
  waiting = λ d. waiting_at d.lent d.mark;
  after_told = λ d b. to_stage d (next_stage d.lent d.mark b);
  after_chosen = λ d a atn. to_stage d (cond (is_off (wants_at d.lent d.mark) && d.address == a) (called_on atn) d.mark);
}

pub drive_like : SeenAs drive_meaning drive_seen (seen_of drive_meaning store_of (λ (d : Drive). d.stage))
drive_like = record { wants = λ d. refl; address = λ d. refl; waiting = λ d. refl; told = λ d b. refl; chosen = λ d a atn. refl }

pub drive_names_one : NamesOne any_stage drive_holds
drive_names_one s x y hx hy p q = one_stage x y (p ∙ sym q)

pub drive_lasts : (store : List ℕ) → Lasts drive_meaning (λ (d : Drive). d.stage) store_of store any_stage
drive_lasts store = record { told = λ d b h. h; chosen = λ d a atn h. h }
