-- A module of the network is one of the catalogue.
use Rattle.sdd_run.proofs.All.{Catalogue, D, Input, Log, NoneIsDown, Site, T, U, Workload, false, le-leb, nat_le, refl, subst, true, whole_in, ℕ, ◌&&◌, ◌≡◌, ◌≤◌}
use Rattle.sdd_progress.proofs.obligations.net.Directions.{within}
use Rattle.sdd_progress.specs.obligations.All.{IsModuleOf, is_down}
use Rattle.sdd_run.proofs.Whole.{same_dms, same_tms}
use Rattle.sdd_script.specs.Valid.{IsModule}

pub numbered : (n most : ℕ) → 1 ≤ n → n ≤ most → (nat_le 1 n && nat_le n most) ≡ true
numbered n most l u = rw (le-leb 1 n l, le-leb n most u) refl

pub module_of : (g : Input) (at : Site) → IsModule g.catalogue at → IsModuleOf g at
module_of g U h = h
module_of g (T t) h = numbered t.0 g.catalogue.tms h.0 h.1
module_of g (D d) h = numbered d.0 g.catalogue.dms h.0 h.1

pub is_module : (g : Input) (at : Site) → IsModuleOf g at → IsModule g.catalogue at
is_module g U h = h
is_module g (T t) h = within t.0 g.catalogue.tms h
is_module g (D d) h = within d.0 g.catalogue.dms h

-- the whole catalogue has the modules of the catalogue
pub module_in : (cat : Catalogue) (work : Workload) (at : Site) → IsModule (whole_in cat work) at → IsModule cat at
module_in cat work U h = h
module_in cat work (T t) h = (h.0, subst (λ n. t.0 ≤ n) (same_tms cat work) h.1)
module_in cat work (D d) h = (h.0, subst (λ n. d.0 ≤ n) (same_dms cat work) h.1)

-- where none of the catalogue is down none of the network is
pub all_up : (g : Input) (log : Log) → NoneIsDown g.catalogue log → (at : Site) → IsModuleOf g at → is_down at log ≡ false
all_up g log up at here = up at (is_module g at here)
