use Rattle.sdd_sites.proofs.All.{in_bytes, spelled, ◌∙◌}
use Rattle.sdd_sites.proofs.InBytes.{represents_in}
use Rattle.sdd_sites.proofs.Quietness.{unacked_same}
use Rattle.sdd_sites.proofs.mail.Mail.resend.Goals as goal

pub returns-clause-some : goal.returns-clause-some
returns-clause-some c tms dms calls carries =
    c.in_ok-some.ensures.some (in_bytes calls) (represents_in c.args.self.now c.self.inside.net c.self.inside.live tms dms calls c.self.view_is carries)
    ∙ unacked_same spelled c.args.from c.args.to calls
