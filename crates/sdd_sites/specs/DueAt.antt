-- What is due at a site of any kind.
use Rattle.std.specs.Prelude.{Option}
use Rattle.sdd_needs.specs.All.{Act, Bases, D, Setting, Site, T, U}
use Rattle.sdd_needs.specs.site_module.SiteLog as site
use Rattle.sdd_needs.specs.dm.Due as dm
use Rattle.sdd_needs.specs.tm.Due as tm
use Rattle.sdd_needs.specs.umod.Due as um

-- the act that is due next at a site, by its kind
abbrev pub next_of : Site → Setting → Bases → site.Log → Option Act
next_of U s bases log = um.next s bases log
next_of (T t) s bases log = tm.next s bases log
next_of (D d) s bases log = dm.next s bases log
