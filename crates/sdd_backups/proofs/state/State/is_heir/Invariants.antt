use Rattle.sdd_backups.proofs.All.{every_from, heir_in, knows_in, ◌-◌, ◌≡◌}
use Rattle.sdd_backups.proofs.state.State.is_heir.Given as goal

abbrev pub invariant-lower : goal.invariant-lower
invariant-lower l = heir_in l.self l.site ≡ every_from (knows_in l.self l.site) l.other (l.site - l.other)
