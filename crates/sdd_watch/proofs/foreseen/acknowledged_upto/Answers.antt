use Rattle.sdd_watch.proofs.All.{ap, calls_of, link_back, ◌∙◌}
use Rattle.sdd_watch.proofs.foreseen.acknowledged_upto.Goals as goal

pub direction-requires : goal.direction-requires
direction-requires c =
    let r = c.requires in
    let tms = r.0.catalogue.tms in
    let dms = r.0.catalogue.dms in
    (tms, dms, calls_of r.1, c.mail.ensures r.0 r.1 r.2, link_back tms dms c.args.from c.args.to r.3)

pub returns : goal.returns
returns c = λ g log calm linked.
    let tms = g.catalogue.tms in
    let dms = g.catalogue.dms in
    c.acked_upto.ensures
    ∙ ap (λ k. k.value.acked) (c.direction.ensures tms dms (calls_of log) (c.mail.ensures g log calm) (link_back tms dms c.args.from c.args.to linked)).sender
