use Rattle.sdd_sites.proofs.InBytes.{round_in}
use Rattle.sdd_sites.proofs.mail.Mail.round.Goals as goal

pub returns : goal.returns
returns c = round_in c.args.self.now c.self.inside.net c.self.inside.live c.round.result c.self.view_is c.round.ensures
