use Rattle.sdd_sites.proofs.All.{in_bytes, spelled, ◌∙◌}
use Rattle.sdd_sites.proofs.InBytes.{represents_in}
use Rattle.sdd_sites.proofs.Quietness.{packet_same}
use Rattle.sdd_sites.proofs.mail.Mail.lose.Goals as goal

pub returns-clause-there : goal.returns-clause-there
returns-clause-there c tms dms calls carries =
    c.lose.ensures.there (in_bytes calls) (represents_in c.args.self.now c.self.inside.net c.self.inside.live tms dms calls c.self.view_is carries)
    ∙ packet_same spelled c.args.from c.args.to c.args.place calls
