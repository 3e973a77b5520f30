-- How a site has a transaction, by its log.
use Rattle.std.specs.Prelude.{ℕ, map}
use Rattle.sdd_needs.specs.All.{ClassState, Setting, Site, Standing, standing_among, standing_in, state_of}
use Rattle.sdd_needs.specs.site_module.SiteLog.{Log}
use Rattle.sdd_sites.specs.AtSites.{standing_at}
use Rattle.sdd_needs.specs.umod.State as um

-- a transaction module: in the queues of its classes and their active attempts
abbrev pub standing_at_t : Setting → Log → ℕ → Standing
standing_at_t s log n = standing_among (map (λ (k : ClassState). k.line) (state_of s log).classes) n

-- U: in its one queue
abbrev pub standing_at_u : Setting → Log → ℕ → Standing
standing_at_u s log n = standing_in (um.state_of s log) n

-- the module of any site
abbrev pub standing_of : Site → Setting → Log → ℕ → Standing
standing_of = standing_at standing_at_u standing_at_t
