-- What a station wants of the cable: the number of each case and the numbers that it carries.
use Rattle.std.specs.Prelude.{ℕ, Bool, false, cond, not, List, [], ◌∷◌, ◌==◌}
use Rattle.bus.specs.declared.phase.Phase.{Phase}
use Rattle.bus.specs.declared.parity.Parity.{Parity}
use Rattle.bus.specs.declared.parity.Parity.TheVariants.{Good}
use Rattle.bus.specs.declared.wish.Wish.{Wish}
use Rattle.bus.specs.declared.wish.Wish.TheVariants.{Off, Back, Hold, Req, Go}
use Rattle.bus.specs.Phases.{phase_number, is_input, in_data_in}
use Rattle.bus.specs.Parities.{parity_number}

abbrev pub wish_kind : Wish → ℕ
wish_kind Off = 0
wish_kind (Back id q) = 1
wish_kind (Hold p) = 2
wish_kind (Req p b q) = 3
wish_kind Go = 4

-- the number of a wish's phase, zero where it has none
abbrev pub wish_phase : Wish → ℕ
wish_phase Off = 0
wish_phase (Back id q) = 0
wish_phase (Hold p) = phase_number p
wish_phase (Req p b q) = phase_number p
wish_phase Go = 0

-- the byte that a wish puts on the data lines, zero where it has none
abbrev pub wish_byte : Wish → ℕ
wish_byte Off = 0
wish_byte (Back id q) = id.bits
wish_byte (Hold p) = 0
wish_byte (Req p b q) = cond (is_input p) b 0
wish_byte Go = 0

-- the parity of that byte, zero where there is none
abbrev pub wish_parity : Wish → ℕ
wish_parity Off = 0
wish_parity (Back id q) = parity_number q
wish_parity (Hold p) = 0
wish_parity (Req p b q) = cond (is_input p) (parity_number q) 0
wish_parity Go = 0

-- a Req in a phase, with nothing to show in an output
abbrev pub asking : Phase → ℕ → Parity → Wish
asking p b q = Req p (cond (is_input p) b 0) (cond (is_input p) q Good)

-- the Data In byte that a wish shows, as a list of one or none
abbrev pub offers : Wish → List ℕ
offers Off = []
offers (Back id q) = []
offers (Hold p) = []
offers (Req p b q) = in_data_in p (b ∷ [])
offers Go = []

-- a Req in Data In
abbrev pub shows_data : Wish → Bool
shows_data Off = false
shows_data (Back id q) = false
shows_data (Hold p) = false
shows_data (Req p b q) = phase_number p == 4
shows_data Go = false

-- a Req in an output phase
abbrev pub takes_byte : Wish → Bool
takes_byte Off = false
takes_byte (Back id q) = false
takes_byte (Hold p) = false
takes_byte (Req p b q) = not (is_input p)
takes_byte Go = false

abbrev pub is_off : Wish → Bool
is_off w = wish_kind w == 0
