use Rattle.sdd_sites.proofs.All.{in_bytes, spelled, ◌∙◌}
use Rattle.sdd_sites.proofs.InBytes.{represents_in}
use Rattle.sdd_sites.proofs.Quietness.{count_same}
use Rattle.sdd_sites.proofs.mail.Mail.count_sent.Goals as goal

pub returns : goal.returns
returns c tms dms calls carries linked =
    c.sent.ensures.calls (in_bytes calls) (represents_in c.args.self.now c.self.inside.net c.self.inside.live tms dms calls c.self.view_is carries)
    ∙ count_same spelled c.args.from c.args.to calls
