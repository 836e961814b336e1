-- The address that a number is.
use Rattle.std.specs.Prelude.{◌≡◌, ℕ, ◌<◌, Result, MatchResult}
use Rattle.bus.specs.declared.address.NoSuchAddress.{NoSuchAddress}
use Rattle.bus.specs.declared.address.StationAddress.{StationAddress}

-- that of the station with this number, or none, and then the number is handed back
abbrev pub AddressOf : ℕ → Result StationAddress NoSuchAddress → Type 0
AddressOf n r = MatchResult r (λ a. a.number ≡ n) (λ e. (e.0 ≡ n) × (7 < n))
