use Rattle.sdd_sites.proofs.FirstModules.{all_begun}
use Rattle.sdd_sites.proofs.sites.Sites.new.Goals as goal

pub returns : goal.returns
returns c = λ g txns begun.
    all_begun c.args.whole.now c.args.catalogue.now c.args.table.now txns c.in_ok-u.u c.in_ok-tms.tms.items c.args.modules.items c.in_ok-u.ensures
    c.in_ok-tms.ensures g begun
