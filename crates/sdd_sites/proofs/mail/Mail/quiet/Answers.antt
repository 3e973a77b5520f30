use Rattle.sdd_sites.proofs.All.{in_bytes, ◌∙◌}
use Rattle.sdd_sites.proofs.InBytes.{represents_in, quiet_in}
use Rattle.sdd_sites.proofs.mail.Mail.quiet.Goals as goal

pub returns : goal.returns
returns c tms dms calls carries =
    c.quiet.ensures (in_bytes calls) (represents_in c.args.self.now c.self.inside.net c.self.inside.live tms dms calls c.self.view_is carries)
    ∙ quiet_in c.args.self.now c.self.inside.net c.self.inside.live tms dms calls c.self.view_is carries
