use Rattle.sdd_backups.proofs.All.{replicate, ◌≡◌}
use Rattle.sdd_backups.proofs.table.Table.new.Given as goal

abbrev pub invariant-fill : goal.invariant-fill
invariant-fill g l = l.items.items ≡ replicate l.counter l.item
