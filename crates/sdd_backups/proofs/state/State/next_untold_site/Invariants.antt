use Rattle.sdd_backups.proofs.All.{first_from, untold_in, ◌+◌, ◌-◌, ◌≡◌}
use Rattle.sdd_backups.proofs.state.State.next_untold_site.Given as goal

abbrev pub invariant-higher : goal.invariant-higher
invariant-higher l =
    first_from (untold_in l.self l.site) (l.site + 1) (l.self.backups - l.site)
    ≡ first_from (untold_in l.self l.site) l.other (l.self.backups + 1 - l.other)
