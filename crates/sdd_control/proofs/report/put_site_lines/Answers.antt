use Rattle.sdd_control.proofs.All.{site_lines, ◌++◌, ◌+◌}
use Rattle.sdd_control.proofs.Ends.{one_site_more}
use Rattle.sdd_control.proofs.report.put_site_lines.Goals as goal

pub sites-preserved : goal.sites-preserved
sites-preserved c =
    let log = c.args.control.now.value.log in
    one_site_more log c.sites.out.items c.put_site_line.new.out.items
    (c.args.out.now.items ++ site_lines log 0 (c.args.backups + 1)) c.sites.site (c.args.backups + 1)
    c.sites-test.true c.in_ok-put_site_line.ensures c.sites.invariant
