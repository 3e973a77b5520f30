-- Which logs the modules of all sites represent.
use Rattle.std.specs.Prelude.{ℕ, ◌≡◌, Bool, true, false}
use Rattle.sdd_needs.specs.All.{Era, Input, IsSiteOf, Kept, Log, Setting, Site, local_of, same_site, setting_of, takes_part, with_era}
use Rattle.sdd_needs.specs.site_module.SiteLog as site
use Rattle.sdd_dm.specs.Represents as dm
use Rattle.sdd_tm.specs.Represents as tm
use Rattle.sdd_umod.specs.Represents as um
use Rattle.sdd_dm.specs.State as dm_state
use Rattle.sdd_needs.specs.tm.State as tm_state
use Rattle.sdd_needs.specs.umod.State as um_state
use Rattle.sdd_sites.specs.AtSites.{Lives, Representation, RepresentsAt}
use Rattle.sdd_sites.specs.declared.sites.Sites.{Sites}

abbrev pub LivesU : Representation (Kept um_state.State)
LivesU = Lives (λ k. k.live) um.Represents

-- a transaction module that is down only keeps what its log says: what is due waits until it is up
abbrev pub LivesT : Bool → Representation (Kept tm_state.State)
LivesT true = Lives (λ k. k.live) tm.Represents
LivesT false = Lives (λ k. k.live) tm.Queues

abbrev pub LivesD : Representation (Kept dm_state.State)
LivesD = Lives (λ k. k.live) dm.Represents

-- the module of a site, which takes part or not, is live and represents a log
abbrev pub Represent : Sites → Bool → Site → Setting → site.Log → Type 0
Represent m part = RepresentsAt LivesU (LivesT part) LivesD m.u m.tms.items m.dms.items

-- the modules of all other sites represent what they represented
abbrev pub StayAtOthers : Sites → Sites → Site → Type 0
StayAtOthers old new at =
    (b : Site) (part : Bool) (setting : Setting) (log : site.Log) → same_site b at ≡ false → Represent old part b setting log
    → Represent new part b setting log

-- the modules of all sites of the network represent their logs
abbrev pub AllRepresent : Sites → Input → Log → Type 0
AllRepresent m g log = (at : Site) → IsSiteOf g at → Represent m (takes_part at log) at (setting_of g at) (local_of g at log)

-- and those of the transaction modules for logs in which this class list is put in force last, at a time
abbrev pub AreRedeclared : Sites → Input → Log → Era → ℕ → Type 0
AreRedeclared m g log era t = (at : Site) → IsSiteOf g at → Represent m (takes_part at log) at (setting_of g at) (with_era at era t (local_of g at log))
