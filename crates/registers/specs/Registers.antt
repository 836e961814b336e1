-- The registers of the chip, by their addresses.
use Rattle.std.specs.Prelude.{◌≡◌, ℕ, cond, Some, None, Option, ◌==◌}
use Rattle.registers.specs.declared.register.Register.{Register}
use Rattle.registers.specs.declared.register.Register.TheVariants.{Data, Command, Control, DestinationId, AuxiliaryStatus, Id, Interrupt, SourceId, DiagnosticStatus, CounterHigh, CounterMiddle, CounterLow}

-- the register at an address, if there is one
unfoldable pub register_at : ℕ → Option Register
register_at a =
    cond (a == 0) (Some Data) (cond (a == 1) (Some Command) (cond (a == 2) (Some Control) (cond (a == 3) (Some DestinationId)
    (cond (a == 4) (Some AuxiliaryStatus) (cond (a == 5) (Some Id) (cond (a == 6) (Some Interrupt) (cond (a == 7) (Some SourceId)
    (cond (a == 9) (Some DiagnosticStatus) (cond (a == 12) (Some CounterHigh) (cond (a == 13) (Some CounterMiddle)
    (cond (a == 14) (Some CounterLow) None)))))))))))

abbrev pub register_address : Register → ℕ
register_address Data = 0
register_address Command = 1
register_address Control = 2
register_address DestinationId = 3
register_address AuxiliaryStatus = 4
register_address Id = 5
register_address Interrupt = 6
register_address SourceId = 7
register_address DiagnosticStatus = 9
register_address CounterHigh = 12
register_address CounterMiddle = 13
register_address CounterLow = 14

-- the address of a register, which leads back to it
abbrev pub AddressOf : Register → ℕ → Type 0
AddressOf r a = (a ≡ register_address r) × (register_at a ≡ Some r)
