use Rattle.sdd_sites.proofs.ReadMessages.{are_spellings}
use Rattle.sdd_sites.proofs.opening.open.Goals as goal

pub open_all-requires : goal.open_all-requires
open_all-requires c = are_spellings c.args.given c.in-Messages.spellings c.in-Messages.is c.requires
