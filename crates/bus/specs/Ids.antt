-- ID bytes: a bit for each station.
use Rattle.std.specs.Prelude.{ℕ, ◌/◌, ◌%◌, ◌^◌, Bool, cond, not, ◌&&◌, ◌||◌, List, [], ◌∷◌, Some, None, Option, ◌==◌, bit_and, bit_xor, count_ones}
use Rattle.std.specs.Int.Count.{count_trailing_zeros}

-- the ID byte of one station alone
abbrev pub station_bit : ℕ → ℕ
station_bit n = 2 ^ n

-- whether station n has its bit set
abbrev pub carries : ℕ → ℕ → Bool
carries bits n = bits / 2 ^ n % 2 == 1

abbrev pub every_station : List ℕ
every_station = 0 ∷ 1 ∷ 2 ∷ 3 ∷ 4 ∷ 5 ∷ 6 ∷ 7 ∷ []

-- those of a list of stations that have their bit set, without the station own
abbrev pub others : ℕ → ℕ → List ℕ → List ℕ
others own bits [] = []
others own bits (n ∷ ns) = cond (carries bits n && not (n == own)) (n ∷ others own bits ns) (others own bits ns)

-- the element of a list that has exactly one
abbrev pub only : List ℕ → Option ℕ
only [] = None
only (n ∷ []) = Some n
only (n ∷ m ∷ ns) = None

-- the other station, where exactly the bits of own and of one other are set
abbrev pub decoded : ℕ → ℕ → Option ℕ
decoded own bits = cond (carries bits own) (only (others own bits every_station)) None

-- the same by the bits of an ID byte: it has the own bit, and without it a single one is left
abbrev pub scanned : ℕ → ℕ → Option ℕ
scanned own_bit bits =
    cond (bit_and bits own_bit == 0 || not (count_ones (bit_xor bits own_bit) == 1)) None (Some (count_trailing_zeros 8 (bit_xor bits own_bit)))
