-- Proofs: what holds of a script that is kept as numbers, by what is seen of it.
use Rattle.std.specs.Prelude.{◌≡◌, Bool, true, false, cond, ◌&&◌, List, ◌==◌, refl}
use Rattle.std.proofs.Common.{sym, ◌∙◌, subst}
use Rattle.bus.specs.Meaning.{Meaning}
use Rattle.bus.specs.Wishes.{is_off}
use Rattle.account.specs.Alike.{SeenAs}
use Rattle.script.specs.declared.row.Row.{Row}
use Rattle.script.specs.declared.script.Place.{Place}
use Rattle.script.specs.declared.script.Script.{Script}
use Rattle.script.specs.Scripts.{next_place, moved, script_meaning, wants_at, waiting_at}
use Rattle.saved.specs.Stations.{InTable}
use Rattle.saved.proofs.OneStation.{one_place}
use Rattle.saved.proofs.Tables.{next_within}
use Rattle.embed.specs.States.{Seen, seen_of, script_holds, NamesOne, Stays, Lasts}

abbrev on_to : Seen (List Row) Place → Place → Seen (List Row) Place
on_to s x = record { lent = s.lent; address = s.address; mark = x }

abbrev pub script_seen : Meaning (Seen (List Row) Place)
script_seen = record {
  wants = λ s. wants_at s.mark;
  address = λ s. s.address;
  waiting = λ s. waiting_at s.lent s.mark;
  after_told = λ s b. cond (is_off (wants_at s.mark)) s (on_to s (next_place s.lent s.mark));
  after_chosen = λ s a atn. cond (is_off (wants_at s.mark) && s.address == a) (on_to s (next_place s.lent s.mark)) s;
}

abbrev pub rows_of : Script → List Row
rows_of s = s.rows.now

abbrev pub place_at : Script → Place
place_at s = s.place

abbrev view : Script → Seen (List Row) Place
view = seen_of script_meaning rows_of place_at

either_seen : (t : Bool) (x y : Script) → view (cond t x y) ≡ cond t (view x) (view y)
either_seen true x y = refl
either_seen false x y = refl

pub script_like : SeenAs script_meaning script_seen view
script_like = record {
  wants = λ s. refl;
  address = λ s. refl;
  waiting = λ s. refl;
  told = λ s b. either_seen (is_off (wants_at s.place)) s (moved s);
  chosen = λ s a atn. either_seen (is_off (wants_at s.place) && s.address.number == a) (moved s) s;
}

pub script_names_one : (table : List Row) → NamesOne (InTable table) script_holds
script_names_one table s x y hx hy p q = one_place table x y hx hy (p ∙ sym q)

module _ (table : List Row) where
  -- it goes over these rows, and stands at a place of them
  abbrev Keeps : Script → Type 0
  Keeps = Stays script_meaning place_at rows_of table (InTable table)

  moved_keeps : (s : Script) → Keeps s → Keeps (moved s)
  moved_keeps s h = (h.0, subst (λ x. InTable x (next_place s.rows.now s.place)) h.0 (next_within s.rows.now s.place))

  either : (t : Bool) (x y : Script) → Keeps x → Keeps y → Keeps (cond t x y)
  either true x y p q = p
  either false x y p q = q

  pub script_lasts : Lasts script_meaning place_at rows_of table (InTable table)
  script_lasts = record {
    told = λ s b h. either (is_off (wants_at s.place)) s (moved s) h (moved_keeps s h);
    chosen = λ s a atn h. either (is_off (wants_at s.place) && s.address.number == a) (moved s) s (moved_keeps s h) h;
  }
