use Rattle.sdd_sites.proofs.All.{HasLink, IsTrue, subst, ◌↔◌}
use Rattle.sdd_sites.proofs.mail.Mail.has_link.Goals as goal

pub returns : goal.returns
returns c = subst (λ n. IsTrue c.has_link.result ↔ HasLink n c.args.from c.args.to) c.self.view_is c.has_link.ensures
