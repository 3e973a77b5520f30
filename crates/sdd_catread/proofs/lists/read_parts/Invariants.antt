use Rattle.std.proofs.Common.{◌≡◌, map, drop, ◌+◌}
use Rattle.toml.specs.View.{view as data_of}
use Rattle.sdd_base.specs.Readings.{along}
use Rattle.sdd_catread.specs.Faults.{numbered, numbered_location}
use Rattle.sdd_base.proofs.ReadingLaws.{with_front}
use Rattle.sdd_catread.proofs.lists.read_parts.Given as goal

abbrev pub invariant-tables : goal.invariant-tables
invariant-tables g l =
    with_front l.items.items
    (along (λ number. g.T.Spelled.spelled (numbered_location l.part number)) (l.index + 1)
    (map data_of (drop l.index l.tables))) ≡ numbered g.T.Spelled.spelled l.part (map data_of l.tables)
