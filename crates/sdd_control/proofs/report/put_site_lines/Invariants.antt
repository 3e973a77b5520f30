use Rattle.sdd_control.proofs.All.{site_lines, ◌++◌, ◌+◌, ◌-◌, ◌≡◌}
use Rattle.sdd_control.proofs.report.put_site_lines.Given as goal

abbrev pub invariant-sites : goal.invariant-sites
invariant-sites l =
    l.out.items ++ site_lines l.control.value.log l.site (l.backups + 1 - l.site)
    ≡ l.initial.out.items ++ site_lines l.control.value.log 0 (l.backups + 1)
