use Rattle.sdd_watch.proofs.All.{calls_of, ◌∙◌}
use Rattle.sdd_watch.proofs.foreseen.delivered_upto.Goals as goal

pub direction-requires : goal.direction-requires
direction-requires c =
    let r = c.requires in (r.0.catalogue.tms, r.0.catalogue.dms, calls_of r.1, c.mail.ensures r.0 r.1 r.2, r.3)

pub returns : goal.returns
returns c = λ g log calm linked.
    c.count.ensures ∙ (c.direction.ensures g.catalogue.tms g.catalogue.dms (calls_of log) (c.mail.ensures g log calm) linked).received.count
