-- Where in a file its faults are reported, and readings of the parts that have numbers.
use Rattle.std.specs.Prelude.{ℕ, List, Result}
use Rattle.sdd_base.specs.Readings.{along}
use Rattle.sdd_catalog.specs.declared.fault.CatFault.{CatFault}
use Rattle.sdd_catalog.specs.declared.fault.CatRule.{CatRule}
use Rattle.sdd_catalog.specs.declared.fault.Part.{Part}
use Rattle.sdd_catread.specs.declared.location.Location.{Location}

-- a rule that is broken at a location
abbrev pub broken : Location → CatRule → CatFault
broken location rule = record { rule = rule; part = location.part; number = location.number }

abbrev pub numbered_location : Part → ℕ → Location
numbered_location part number = record { part = part; number = number }

-- members that are locations of their own, numbered from 1
abbrev pub numbered : {A B : Type 0} → (Location → A → Result B CatFault) → Part → List A → Result (List B) CatFault
numbered f part xs = along (λ number. f (numbered_location part number)) 1 xs
