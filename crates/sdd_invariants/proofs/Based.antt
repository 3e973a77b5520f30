-- A Commit that is due has the reply and the changes of the effect on the database that is given for its attempt.
use Rattle.sdd_invariants.proofs.All.{Act, Bases, IsBased, Setting, arith, in_mapped}
use Rattle.sdd_log.specs.site_module.SiteLog as site
use Rattle.sdd_log.specs.tm.Due as tm
use Rattle.sdd_log.specs.tm.Views as tm_views
use Rattle.sdd_log.specs.umod.Due as um
use Rattle.sdd_log.specs.umod.Views as um_views

pub t_based : (s : Setting) (bases : Bases) (log : site.Log) (act : Act) → tm.IsDue s.catalogue bases (tm_views.view_of s log) act → IsBased s bases log act
t_based s bases log act h5 = grind (arith, in_mapped)

pub u_based : (s : Setting) (bases : Bases) (log : site.Log) (act : Act) → um.IsDue s.catalogue bases (um_views.view_of s log) act → IsBased s bases log act
u_based s bases log act h5 = grind (arith)
