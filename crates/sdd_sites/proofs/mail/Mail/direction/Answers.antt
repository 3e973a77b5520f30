use Rattle.sdd_sites.proofs.All.{Matches, ap, in_bytes, link_map, spelled, subst}
use Rattle.sdd_sites.proofs.InBytes.{represents_in}
use Rattle.sdd_sites.proofs.mail.Mail.direction.Goals as goal

pub returns : goal.returns
returns c tms dms calls carries linked =
    subst (λ w. Matches c.direction.result.now w)
    (ap (λ l. l.there) (link_map spelled c.args.from c.args.to calls))
    (c.direction.ensures.calls (in_bytes calls) (represents_in c.args.self.now c.self.inside.net c.self.inside.live tms dms calls c.self.view_is carries))
