use Rattle.sdd_moments.proofs.All.{calls_of}
use Rattle.sdd_moments.proofs.on_links.may_change.Goals as goal

pub count_sent-requires : goal.count_sent-requires
count_sent-requires c =
    let r = c.requires in (r.0.catalogue.tms, r.0.catalogue.dms, calls_of r.1, c.mail.ensures r.0 r.1 r.2, r.3)
