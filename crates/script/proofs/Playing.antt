-- From its making on, a script puts up the bytes of its chain and no other.
use Rattle.std.proofs.Common.{◌≡◌, ℕ, List, [], ◌∷◌, ◌++◌, length, drop, sym, refl, ap, ◌∙◌, append-nil, arith}
use lib.Seq.{drop-length}
use Rattle.bus.specs.declared.address.StationAddress.{StationAddress}
use Rattle.bus.specs.Meaning.{left, joined}
use Rattle.bus.specs.Courses.{Course}
use Rattle.bus.specs.Courses.Course.{begun, told, chosen}
use Rattle.bus.proofs.Courses.{taken_or_waiting}
use Rattle.script.specs.declared.row.Row.{Row}
use Rattle.script.specs.declared.script.Script.{Script}
use Rattle.script.specs.Scripts.{table, chain_bytes, opening, waiting_at, script_meaning, Opened, PutsUp}
use Rattle.script.specs.ScriptLawful.{script_lawful, told_leaves, at_record}

-- nothing joins at a Told
none_joins : (s : Script) (b : ℕ) → joined script_meaning s b ≡ []
none_joins s b = ap (drop (length (left script_meaning s))) (told_leaves s b) ∙ drop-length (left script_meaning s)

none_joined : (new : Script) (taken up : List ℕ) (s : Script) → Course script_meaning new taken up s → up ≡ []
none_joined new taken up s begun = refl
none_joined new taken up s (told before joining t c b) =
    ap (λ l. l ++ joined script_meaning t b) (none_joined new before joining t c) ∙ none_joins t b
none_joined new taken up s (chosen before joining t c a atn) = none_joined new before joining t c

-- at the start, the bytes of the whole chain wait
opens : (rows : List Row) → waiting_at rows (opening rows) ≡ chain_bytes rows
opens [] = refl
opens (r ∷ rs) = sym (at_record (r ∷ rs) 1 r (record { counted = omega arith; within = omega arith; is = refl }))

pub puts_up : (rows : List Row) (a : StationAddress) (new : Script) → Opened rows a new → PutsUp rows new
puts_up rows a new o taken up s c =
    let none : up ≡ [] = none_joined new taken up s c in
    let waits : script_meaning.waiting new ≡ chain_bytes (table rows) =
    (λ i. waiting_at (o.rows_are i) (o.place_is i)) ∙ opens (table rows) in
    let all = taken_or_waiting script_meaning script_lawful new taken up s c in
    (sym all ∙ ap (λ l. script_meaning.waiting new ++ l) none ∙ append-nil (script_meaning.waiting new) ∙ waits, none)
