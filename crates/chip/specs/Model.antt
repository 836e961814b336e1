-- A chip by its values.
use Rattle.std.specs.Prelude.{ℕ, List, take}
use Rattle.chip.specs.declared.chip.Received.{Received}
use Rattle.chip.specs.declared.chip.Ncr5385e.{Ncr5385e}
use Rattle.chip.specs.Views.{View}

-- the received bytes, oldest first
abbrev pub items : Received → List ℕ
items h = take h.count h.bytes

abbrev pub model : Ncr5385e → View
model c = record { id = c.id.number; state = c.state; latched = c.latched; single = c.single; registers = c.registers; flags = c.flags; received = items c.received; written = c.written }
