-- A module that is down.
use Rattle.std.specs.Prelude.{Bool, false, true}
use Rattle.sdd_obligations.specs.base.Sites.{same_site}
use Rattle.sdd_obligations.specs.base.declared.event.Event.TheVariants.{Up}
use Rattle.sdd_obligations.specs.base.declared.site.Site.{Site}
use Rattle.sdd_obligations.specs.logs.Entries.{Entry, Mark}
use Rattle.sdd_obligations.specs.site_module.SiteLog as site

-- whether the entry is an event that brings this module up
abbrev pub brings_up : Site → Entry → Bool
brings_up at (Mark (Up m)) = same_site m at
brings_up at _ = false

-- whether a module takes part by this entry of its log: a message is handed to it, or it does something
abbrev pub takes_part_by : site.Entry → Bool
takes_part_by (site.Handed from m) = true
takes_part_by (site.Did act) = true
takes_part_by _ = false
