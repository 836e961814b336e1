-- What a script means.
use Rattle.std.specs.Prelude.{◌≡◌, ℕ, ◌-◌, cond, ◌&&◌, List, [], ◌∷◌, ◌++◌, length, take, Some, None, Option, ◌==◌, slice_index_or}
use Rattle.bus.specs.declared.address.StationAddress.{StationAddress}
use Rattle.bus.specs.declared.wish.Wish.{Wish}
use Rattle.bus.specs.declared.wish.Wish.TheVariants.{Off, Go}
use Rattle.bus.specs.Wishes.{is_off}
use Rattle.bus.specs.Meaning.{Meaning}
use Rattle.bus.specs.Courses.{Course}
use Rattle.chain.specs.Chain.{gather, after, chain_from, leads}
use Rattle.script.specs.declared.row.Row.{Row}
use Rattle.script.specs.declared.script.Place.{Place}
use Rattle.script.specs.declared.script.Place.TheVariants.{At, End, Leaving}
use Rattle.script.specs.declared.script.Script.{Script}
use Rattle.script.specs.Records.{played, row_byte}

-- the rows that count
abbrev pub table : List Row → List Row
table rows = take 4096 rows

abbrev pub next_of : Row → ℕ
next_of r = r.next

-- the Data In bytes of a table's chain
abbrev pub chain_bytes : List Row → List ℕ
chain_bytes rows = gather row_byte (chain_from next_of rows 1)

-- what is read beyond a table, which nothing does
abbrev pub no_row : Row
no_row = record { kind = 0; phase = 0; byte = 0; parity = 0; next = 0 }

-- play begins at record 1; an empty table is at its end
abbrev pub opening : List Row → Place
opening [] = End
opening (r ∷ rs) = At 1 r

-- from the record n to the record m, where the chain goes on to it, and otherwise to the end
abbrev pub follow : List Row → ℕ → ℕ → Place
follow rows n m = cond (leads (length rows) n m) (At m (slice_index_or rows (m - 1) no_row)) End

-- Moving on: from a record by its next. At the end it goes, once, when it was chosen, and then is at the end again.
abbrev pub next_place : List Row → Place → Place
next_place rows (At n r) = follow rows n r.next
next_place rows End = Leaving
next_place rows Leaving = End

abbrev pub record_number : Place → Option ℕ
record_number (At n r) = Some n
record_number End = None
record_number Leaving = None

abbrev pub wants_at : Place → Wish
wants_at (At n r) = played r
wants_at End = Off
wants_at Leaving = Go

-- the Data In byte of the present record, and those of the chain from what follows it on
abbrev pub waiting_at : List Row → Place → List ℕ
waiting_at rows (At n r) = row_byte r ++ gather row_byte (chain_from next_of rows (after n r.next))
waiting_at rows End = []
waiting_at rows Leaving = []

abbrev pub moved : Script → Script
moved s = record s { place = next_place s.rows.now s.place }

-- a yes, or a Told on any wish but Off, moves on
abbrev pub script_meaning : Meaning Script
script_meaning = record {
  wants = λ s. wants_at s.place;
  address = λ s. s.address.number;
  waiting = λ s. waiting_at s.rows.now s.place;
  after_told = λ s b. cond (is_off (wants_at s.place)) s (moved s);
  after_chosen = λ s a atn. cond (is_off (wants_at s.place) && s.address.number == a) (moved s) s;
}

-- a script over a table, at a place
pub record ScriptAt (rows : List Row) (a : StationAddress) (place : Place) (s : Script) : Type 0 where
  pub rows_are : s.rows.now ≡ table rows
  pub address_is : s.address ≡ a
  pub place_is : s.place ≡ place

-- a new script over a table
pub record Opened (rows : List Row) (a : StationAddress) (s : Script) : Type 0 where
  pub rows_are : s.rows.now ≡ table rows
  pub address_is : s.address ≡ a
  pub place_is : s.place ≡ opening (table rows)

-- From a new script on, whatever calls come: the Data In bytes taken so far, and those that wait, are the bytes of the
-- chain's Data In records, in the chain's order. Nothing ever joins.
abbrev pub PutsUp : List Row → Script → Type 0
PutsUp rows new =
    (taken up : List ℕ) (s : Script) → Course script_meaning new taken up s
    → (taken ++ script_meaning.waiting s ≡ chain_bytes (table rows)) × (up ≡ [])
