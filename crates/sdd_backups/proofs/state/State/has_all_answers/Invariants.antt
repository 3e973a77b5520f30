use Rattle.sdd_backups.proofs.All.{answered_in, every_from, ◌+◌, ◌-◌, ◌≡◌}
use Rattle.sdd_backups.proofs.state.State.has_all_answers.Given as goal

abbrev pub invariant-higher : goal.invariant-higher
invariant-higher l =
    every_from (answered_in l.self l.site) (l.site + 1) (l.self.backups - l.site)
    ≡ every_from (answered_in l.self l.site) l.other (l.self.backups + 1 - l.other)
