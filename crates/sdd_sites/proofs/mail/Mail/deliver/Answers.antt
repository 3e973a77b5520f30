use Rattle.sdd_sites.proofs.All.{delivery, link}
use Rattle.sdd_sites.proofs.InBytes.{spells_in}
use Rattle.sdd_sites.proofs.ReadMessages.{same_found}
use Rattle.sdd_sites.proofs.mail.Mail.deliver.Goals as goal

pub open-requires : goal.open-requires
open-requires c = (
  delivery c.args.place (link c.args.from c.args.to c.requires.2),
  spells_in c.args.self.now c.self.inside.net c.self.inside.live c.in_ok-given.given c.args.from c.args.to c.args.place
      c.self.view_is c.in_ok-given.ensures.given c.requires.0 c.requires.1 c.requires.2 c.requires.3,
)

pub returns-clause-given : goal.returns-clause-given
returns-clause-given c tms dms calls carries =
    same_found c.in_ok-given.given c.in_ok-found.found (delivery c.args.place (link c.args.from c.args.to calls)) c.in_ok-found.ensures
    (spells_in c.args.self.now c.self.inside.net c.self.inside.live c.in_ok-given.given c.args.from c.args.to c.args.place
    c.self.view_is c.in_ok-given.ensures.given tms dms calls carries)
