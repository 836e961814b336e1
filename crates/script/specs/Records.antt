-- What the five numbers of a row say.
use Rattle.std.specs.Prelude.{◌≡◌, ℕ, cond, List, Ok, Err, Result, ◌==◌, nat_le, nat_lt}
use Rattle.std.specs.Option as options
use Rattle.std.specs.Result as results
use Rattle.bus.specs.declared.parity.Parity.{Parity}
use Rattle.bus.specs.declared.parity.Parity.TheVariants.{Good}
use Rattle.bus.specs.declared.phase.Phase.{Phase}
use Rattle.bus.specs.declared.phase.Phase.TheVariants.{DataOut}
use Rattle.bus.specs.declared.wish.Wish.{Wish}
use Rattle.bus.specs.declared.wish.Wish.TheVariants.{Off, Back, Hold, Go}
use Rattle.bus.specs.Phases.{phase_numbered}
use Rattle.bus.specs.Parities.{parity_numbered}
use Rattle.bus.specs.Wishes.{wish_kind, wish_phase, wish_byte, wish_parity, asking, offers}
use Rattle.script.specs.declared.refusal.RecordRefusal.{RecordRefusal}
use Rattle.script.specs.declared.refusal.RecordRefusal.TheVariants.{Kind, Phase as PhaseRefused, Parity as ParityRefused}
use Rattle.script.specs.declared.row.Row.{Row}

-- the row of the record that a row makes, or the first reason why it makes none
abbrev pub made : Row → Result Row RecordRefusal
made r =
    cond (nat_lt 4 r.kind) (Err Kind) (cond (nat_lt 7 r.phase) (Err PhaseRefused) (cond (nat_lt 1 r.parity) (Err ParityRefused) (Ok r)))

-- the phase and the parity of a record, whose numbers exist
abbrev pub phase_of : Row → Phase
phase_of r = options.unwrap_or (phase_numbered r.phase) DataOut

abbrev pub parity_of : Row → Parity
parity_of r = options.unwrap_or (parity_numbered r.parity) Good

-- the wish of a record
abbrev pub wish_of : Row → Wish
wish_of r =
    cond (r.kind == 0) Off (cond (r.kind == 1) (Back (record { bits = r.byte }) (parity_of r))
    (cond (r.kind == 2) (Hold (phase_of r)) (cond (r.kind == 3) (asking (phase_of r) r.byte (parity_of r)) Go)))

-- A wish read off a record: its kind is the record's, and so are its phase, its byte and its parity where a wish of that
-- kind has them. An output has no byte to show.
pub record Reads (r : Row) (w : Wish) : Type 0 where
  pub kind : wish_kind w ≡ r.kind
  pub held : r.kind ≡ 2 → wish_phase w ≡ r.phase
  pub asked : r.kind ≡ 3 → wish_phase w ≡ r.phase
  pub byte : r.kind ≡ 3 → wish_byte w ≡ cond (nat_le 4 r.phase) r.byte 0
  pub parity : r.kind ≡ 3 → wish_parity w ≡ cond (nat_le 4 r.phase) r.parity 0
  pub id : r.kind ≡ 1 → wish_byte w ≡ r.byte
  pub id_parity : r.kind ≡ 1 → wish_parity w ≡ r.parity

-- what a row is played as: Off where it makes no record
abbrev pub played : Row → Wish
played r = cond (results.is_ok (made r)) (wish_of r) Off

-- the Data In byte that a row puts up
abbrev pub row_byte : Row → List ℕ
row_byte r = offers (played r)
