-- A string that is kept as numbers, and what a call does to it.
use Rattle.std.specs.Prelude.{◌≡◌, ℕ, Bool, List, Ok, Err, Result}
use Rattle.bus.specs.declared.address.StationAddress.{StationAddress}
use Rattle.bus.specs.Meaning.{Meaning}
use Rattle.registers.specs.declared.answer.Answer.{Answer}
use Rattle.registers.specs.declared.call.CallRow.{CallRow as Row}
use Rattle.registers.specs.declared.call.Ran.{Ran}
use Rattle.registers.specs.declared.call.RunRefusal.{RunRefusal}
use Rattle.chip.specs.Model.{model}
use Rattle.account.specs.Accounts.{RunKeepsAccount}
use Rattle.account.specs.Lines.{Line}
use Rattle.account.specs.Runs.{RunSays}
use Rattle.breaker.specs.declared.Breaker.{Breaker}
use Rattle.breaker.specs.Breakers.{progress_of}
use Rattle.drive.specs.declared.drive.Drive.{Drive}
use Rattle.drive.specs.declared.drive.Stage.{Stage}
use Rattle.drive.specs.Drives.{store_of, drive_meaning}
use Rattle.drive.specs.Images.{stored}
use Rattle.script.specs.declared.row.Row.{Row as ScriptRow}
use Rattle.script.specs.declared.script.Place.{Place}
use Rattle.script.specs.declared.script.Script.{Script}
use Rattle.script.specs.Scripts.{table, script_meaning}
use Rattle.saved.specs.Chips.{chip_in}
use Rattle.saved.specs.Stations.{drive_numbers, script_numbers, progress_numbers, InTable}
use Rattle.embed.specs.Kinds.{kind_number}
use Rattle.embed.specs.declared.refusal.ServeRefusal.{ServeRefusal}
use Rattle.embed.specs.declared.refusal.ServeRefusal.TheVariants.{NoString as NoSuchString, Run}
use Rattle.embed.specs.declared.state.Kind.{Kind}
use Rattle.embed.specs.declared.state.Kind.TheVariants.{Drive as DriveKind, Script as ScriptKind}
use Rattle.embed.specs.declared.state.Parts.{Parts}
use Rattle.embed.specs.declared.state.SavedString.{SavedString}

-- the numbers of a string with these parts; `holds` says where those of the mark are
pub record Numbers {M : Type 0} (k : Kind) (holds : M → SavedString → Type 0) (p : Parts M) (s : SavedString) : Type 0 where
  pub chip : chip_in p.chip ≡ s.chip
  pub breaker : progress_numbers p.progress ≡ s.breaker
  pub mark : holds p.mark s
  pub kind : kind_number k ≡ s.kind
  pub address : p.address.number ≡ s.address

-- what stands beside the numbers of stations is as it was
pub record SameBeside (s s' : SavedString) : Type 0 where
  pub chip : s'.chip ≡ s.chip
  pub breaker : s'.breaker ≡ s.breaker
  pub kind : s'.kind ≡ s.kind
  pub address : s'.address ≡ s.address

module _ {M : Type 0} (within : M → Type 0) (holds : M → SavedString → Type 0) where
  -- the mark that has these numbers, among those that there can be, or an error where none has
  abbrev pub MarkIn : {E : Type 0} → SavedString → Result M E → Type 0
  MarkIn s (Ok x) = within x × holds x s
  MarkIn s (Err e) = (x : M) → within x → holds x s → ⊥

  -- and so for all the parts of a string
  abbrev pub PartsIn : {E : Type 0} → Kind → SavedString → Result (Parts M) E → Type 0
  PartsIn k s (Ok p) = within p.mark × Numbers k holds p s
  PartsIn k s (Err e) = (p : Parts M) → within p.mark → Numbers k holds p s → ⊥

-- `stands` is where a station stands, and `lent_to` what it goes over
module _ {S L M : Type 0} (m : Meaning S) (stands : S → M) (lent_to : S → L) (lent : L) where
  -- a station over what is lent, at an address and a mark
  pub record StandsAt (a : StationAddress) (x : M) (s : S) : Type 0 where
    pub address : m.address s ≡ a.number
    pub mark : stands s ≡ x
    pub over : lent_to s ≡ lent

  -- the string over such a station that has these numbers
  pub record KeptString (k : Kind) (within : M → Type 0) (holds : M → SavedString → Type 0) (s : SavedString) (l : Line (Breaker S)) : Type 0 where
    pub parts : Parts M
    pub is_within : within parts.mark
    pub numbers : Numbers k holds parts s
    pub chip : l.chip ≡ model parts.chip
    pub progress : progress_of l.station ≡ parts.progress
    pub below : StandsAt parts.address parts.mark l.station.below

  abbrev pub Stays : (M → Type 0) → S → Type 0
  Stays within s = (lent_to s ≡ lent) × within (stands s)

  -- what is lent, and that the mark is one of those that there can be over it, last through every call
  pub record Lasts (within : M → Type 0) : Type 0 where
    pub told : (s : S) (b : ℕ) → Stays within s → Stays within (m.after_told s b)
    pub chosen : (s : S) (a : ℕ) (atn : Bool) → Stays within s → Stays within (m.after_chosen s a atn)

-- what is seen of a station: what it goes over, its address, and where it stands
pub record Seen (L M : Type 0) : Type 0 where
  pub lent : L
  pub address : ℕ
  pub mark : M

abbrev pub seen_of : {S L M : Type 0} → Meaning S → (S → L) → (S → M) → S → Seen L M
seen_of m lent_to stands s = record { lent = lent_to s; address = m.address s; mark = stands s }

-- numbers name one mark
abbrev pub NamesOne : {M : Type 0} → (M → Type 0) → (M → SavedString → Type 0) → Type 0
NamesOne within holds = (s : SavedString) (x y : _) → within x → within y → holds x s → holds y s → x ≡ y

-- where the numbers of a drive and of a script are
abbrev pub drive_holds : Stage → SavedString → Type 0
drive_holds x s = drive_numbers x ≡ s.drive

abbrev pub script_holds : Place → SavedString → Type 0
script_holds x s = script_numbers x ≡ s.script

-- a drive stands at any stage
abbrev pub any_stage : Stage → Type 0
any_stage x = Unit {0}

-- the string of a drive over this image that has these numbers
abbrev pub DriveString : List ℕ → SavedString → Line (Breaker Drive) → Type 0
DriveString image = KeptString drive_meaning (λ d. d.stage) store_of (stored image) DriveKind any_stage drive_holds

-- the string of a script over these rows that has these numbers: its place is one of the table
abbrev pub ScriptString : List ScriptRow → SavedString → Line (Breaker Script) → Type 0
ScriptString rows = KeptString script_meaning (λ s. s.place) (λ s. s.rows.now) (table rows) ScriptKind (InTable (table rows)) script_holds

module _ {S : Type 0} (m : Meaning S) (Is : SavedString → Line S → Type 0) where
  -- What calls do to a string with these numbers: they are made on it, the numbers afterwards are those of the string that
  -- it has become, and the account of every byte goes on. So nothing is lost on the way through the host.
  pub record Did (l : Line S) (calls : List Row) (room : List Answer) (s' : SavedString) (room' : List Answer) (r : Result Ran RunRefusal) : Type 0 where
    pub left : Line S
    pub says : RunSays m calls l room left room' r
    pub is : Is s' left
    pub fates : RunKeepsAccount m calls l left r

  -- there is a string with these numbers, and this is done to each that has them
  pub record Serves (s : SavedString) (calls : List Row) (room : List Answer) (s' : SavedString) (room' : List Answer) (r : Result Ran RunRefusal) : Type 0 where
    pub one : Line S
    pub has : Is s one
    pub does : (l : Line S) → Is s l → Did l calls room s' room' r

  -- no string has these numbers, and nothing changes
  pub record Refuses (s : SavedString) (room : List Answer) (s' : SavedString) (room' : List Answer) : Type 0 where
    pub none : (l : Line S) → Is s l → ⊥
    pub same : s' ≡ s
    pub kept : room' ≡ room

  abbrev pub Served : SavedString → List Row → List Answer → SavedString → List Answer → Result Ran ServeRefusal → Type 0
  Served s calls room s' room' (Ok t) = Serves s calls room s' room' (Ok t)
  Served s calls room s' room' (Err (Run e)) = Serves s calls room s' room' (Err e)
  Served s calls room s' room' (Err NoSuchString) = Refuses s room s' room'
