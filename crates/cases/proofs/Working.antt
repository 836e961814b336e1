-- Each case by computing; where a number is any, or an image is, by what does not depend on it.
use mathlib.Core.Path.{◌≡◌, refl, sym, ap, subst}
use mathlib.Core.List.{List, [], ◌∷◌, ◌++◌}
use Prim.Native.Nat.{ℕ, zero, suc, ◌/◌}
use native.Mathlib.Omega.{arith}
use lib.ListN.{length, length-take, length-drop}
use denote.Ref.{Bor}
use Rattle.registers.specs.Commands.{command_of}
use Rattle.registers.specs.Registers.{register_at}
use Rattle.chip.specs.Outcomes.{lines_of}
use Rattle.chip.specs.Turns.{takes, sends}
use Rattle.registers.specs.declared.call.Call.TheVariants.{Write as write, Turn as turn}
use Rattle.account.specs.Lines.{Line, line}
use Rattle.script.specs.declared.row.Row.{Row}
use Rattle.script.specs.declared.script.Script.{Script}
use Rattle.script.specs.Scripts.{script_meaning}
use Rattle.drive.specs.declared.command.Reply.{Reply as ReplyOf}
use Rattle.drive.specs.declared.drive.Drive.{Drive}
use Rattle.drive.specs.declared.drive.Stage.TheVariants.{Reply}
use Rattle.drive.specs.declared.image.Image.{Image}
use Rattle.drive.specs.Commands.{decoded, reply, reply_to}
use Rattle.drive.specs.Drives.{drive_meaning, left_of}
use Rattle.drive.specs.Images.{blocks_in}
use Rattle.cases.specs.Sessions.{after, shows, ticks, with_script, with_drive, selecting}
use Rattle.cases.specs.Cases.{WorkedCases, Unanswered, Beyond, off_only, read_command, commanding, one_byte}

-- a string that selects nobody, with a counter of zero
abbrev asking : Bor (List Row) → Line Script
asking place = after script_meaning (selecting 2 0 8 ++ (turn ∷ turn ∷ [])) (with_script place off_only)

-- ticks leave it as it is
still : (place : Bor (List Row)) (n : ℕ) → after script_meaning (ticks n) (asking place) ≡ asking place
unfolding register_at command_of
still place zero = refl
still place (suc n) = still place n

unanswered : (place : Bor (List Row)) → Unanswered place
unfolding register_at command_of
unanswered place = record {
  ends = refl;
  goes_on = λ n. ap (λ l. shows script_meaning 6 [] l) (still place n);
  pauses = λ n. ap (λ l. shows script_meaning 4 (write 1 2 ∷ []) l) (still place n);
}

-- the string after the command, with whatever the drive replies
abbrev replying : Image → ReplyOf → Line Drive
replying image r =
    let l = after drive_meaning commanding (with_drive image) in
    line l.chip (record { image = image; address = l.station.address; stage = Reply (record { reply = r; sent = 0 }) })

abbrev replied : ℕ → ReplyOf
replied blocks = reply_to blocks (decoded read_command)

beyond : (image : Image) → blocks_in image.bytes.now ≡ 256 → Beyond image
unfolding takes sends register_at command_of
beyond image h =
    let e : reply 0 0 2 ≡ replied (blocks_in image.bytes.now) = sym (ap replied h) in
    let W : ReplyOf → Type 0 = λ r. drive_meaning.waiting (replying image r).station ≡ [] in
    let P : ReplyOf → Type 0 = λ r. shows drive_meaning 4 (turn ∷ []) (replying image r) ≡ 50 in
    let S : ReplyOf → Type 0 = λ r. shows drive_meaning 0 one_byte (replying image r) ≡ 2 in
    record { waits = subst W e refl; phase = subst P e refl; status = subst S e refl }

long : (bytes : List ℕ) → length bytes / 512 ≡ 257 → length (left_of bytes (record { reply = reply 1 256 0; sent = 0 })) ≡ 131072
long bytes h = simp (length-take, length-drop) (omega arith)

within : (image : Image) → blocks_in image.bytes.now ≡ 257 → length (drive_meaning.waiting (after drive_meaning commanding (with_drive image)).station) ≡ 131072
unfolding takes sends register_at command_of
within image h =
    let e : reply 1 256 0 ≡ replied (blocks_in image.bytes.now) = sym (ap replied h) in
    let L : ReplyOf → Type 0 = λ r. length (drive_meaning.waiting (replying image r).station) ≡ 131072 in
    subst L e (long image.bytes.now h)

pub cases : WorkedCases
unfolding takes sends lines_of register_at command_of
cases = record {
  made = record { status = refl; id = refl; interrupt = refl; source = refl; diagnostic = refl };
  unanswered = unanswered;
  selected = λ image. record { chosen = refl; status = refl; interrupt = refl };
  two_held = λ place. record { holds = refl; status = refl; loses = refl; waits = refl };
  nothing_left = λ place. record { raises = refl; holds = refl; waits = refl };
  message_taken = λ place. record { status = refl; byte = refl; raises = refl; lines = refl };
  reselected = λ place. record { by_two = refl; by_itself = refl; by_two_others = refl };
  beyond = beyond;
  within = within;
}
