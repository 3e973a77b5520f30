use Rattle.sdd_watch.proofs.All.{ap, calls_of, is_empty, link_of, spelled, ◌∙◌}
use Rattle.sdd_watch.proofs.FoundBy.{none_unacked}
use Rattle.sdd_watch.proofs.foreseen.is_acknowledged.Goals as goal

pub direction-requires : goal.direction-requires
direction-requires c =
    let r = c.requires in (r.0.catalogue.tms, r.0.catalogue.dms, calls_of r.1, c.mail.ensures r.0 r.1 r.2, r.3)

pub returns : goal.returns
returns c = λ g log calm linked.
    let m = c.direction.ensures g.catalogue.tms g.catalogue.dms (calls_of log) (c.mail.ensures g log calm) linked in
    let way = (link_of c.args.from c.args.to log).there in
    c.is_done.ensures ∙ ap (λ k. is_empty k.value.unacked) m.sender ∙ none_unacked spelled way.acked 0 way.sent
