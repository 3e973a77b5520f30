use Rattle.std.proofs.Common.{◌≡◌, map, drop, ◌+◌}
use Rattle.toml.specs.View.{view as data_of}
use Rattle.sdd_base.specs.Readings.{along}
use Rattle.sdd_base.proofs.ReadingLaws.{with_front}
use Rattle.sdd_catread.proofs.lists.read_each.Given as goal

abbrev pub invariant-values : goal.invariant-values
invariant-values g l =
    with_front l.items.items (along (λ _. g.T.Spelled.spelled l.location) (l.value-index + 1) (map data_of (drop l.value-index l.values))) ≡ along
    (λ _. g.T.Spelled.spelled l.location) 1 (map data_of l.values)
