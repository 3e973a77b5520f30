-- The modules of a system before its first event: each represents the beginning of its site's log.
use Rattle.sdd_sites.proofs.All.{AllBegin, At, BeginsD, BeginsT, Catalogue, D, Entry, Input, IsBegun, IsSiteOf, Kept, List, LivesD, LivesT, LivesU, None, Option, Redeclared, Representation, RepresentsAt, Setting, Site, Some, T, There, Txn, U, [], and_parts, beginning, leb-true, nat_le, refl, rows_of, setting_of, slice_get, subst, sym, takes_part, true, ◌-◌, ◌∷◌, ◌≡◌, ◌≤◌}
use Rattle.sdd_dm.specs.Represents as dm
use Rattle.sdd_dm.specs.State as dm_state
use Rattle.sdd_tm.specs.Represents as tm
use Rattle.sdd_needs.specs.tm.State as tm_state
use Rattle.sdd_umod.specs.Represents as um
use Rattle.sdd_needs.specs.umod.State as um_state
use Rattle.sdd_needs.specs.site_module.SiteLog as site

-- what the one that is found has, as what holds of it at its site
found_at : {V : Type 0} (P : V → Type 0) (q : Representation V) (o : Option V) (s : Setting) (log : site.Log) → ((v : V) → P v → q v s log) → There P o → At q o s log
found_at P q None s log f h = h
found_at P q (Some v) s log f h = f v h

pub all_begun : (whole cat : Catalogue) (table : List Entry) (txns : List Txn) (u : Kept um_state.State)
    (tms : List (Kept tm_state.State)) (dms : List (Kept dm_state.State))
    → ((s : Setting) → s.catalogue ≡ whole → s.site ≡ U → um.Represents u s []) → AllBegin (BeginsT whole cat table) whole.tms tms
    → (g : Input) → IsBegun g whole cat table txns dms → (at : Site) → IsSiteOf g at
    → RepresentsAt LivesU (LivesT (takes_part at [])) LivesD u tms dms at (setting_of g at) (beginning g at)
all_begun whole cat table txns u tms dms at_u at_t g made U here =
    let s = at_u (setting_of g U) made.catalogue_is refl in
    record { live = s.live; represents_log = s }
all_begun whole cat table txns u tms dms at_u at_t g made (T n) here =
    let p = and_parts (nat_le 1 n.0) (nat_le n.0 g.catalogue.tms) here in
    let low = leb-true 1 n.0 p.0 in
    let high : n.0 ≤ whole.tms = subst (λ c. n.0 ≤ c.tms) made.catalogue_is (leb-true n.0 g.catalogue.tms p.1) in
    let at = T n in
    let live : (v : Kept tm_state.State) → BeginsT whole cat table n.0 v → LivesT true v (setting_of g at) (beginning g at) = λ v b.
    let s : tm.Represents v (setting_of g at) (beginning g at) =
    subst (λ f. tm.Represents v (setting_of g at) (Redeclared f 0 ∷ [])) (sym made.era_is) (b (setting_of g at) made.catalogue_is refl) in
    record { live = s.live; represents_log = s } in
    (low, found_at (BeginsT whole cat table n.0) (LivesT true) (slice_get tms (n.0 - 1)) (setting_of g at) (beginning g at) live (at_t.each n.0 low high))
all_begun whole cat table txns u tms dms at_u at_t g made (D n) here =
    let p = and_parts (nat_le 1 n.0) (nat_le n.0 g.catalogue.dms) here in
    let low = leb-true 1 n.0 p.0 in
    let high : n.0 ≤ whole.dms = subst (λ c. n.0 ≤ c.dms) made.catalogue_is (leb-true n.0 g.catalogue.dms p.1) in
    let at = D n in
    let start : Catalogue → Setting = λ c. record { catalogue = c; site = at; rows = rows_of g at } in
    let live : (v : Kept dm_state.State) → BeginsD whole (rows_of g at) n.0 v → LivesD v (setting_of g at) (beginning g at) = λ v b.
    let s : dm.Represents v (setting_of g at) [] = subst (λ c. dm.Represents v (start c) []) (sym made.catalogue_is) b in
    record { live = s.live; represents_log = s } in
    (low, found_at (BeginsD whole (rows_of g at) n.0) LivesD (slice_get dms (n.0 - 1)) (setting_of g at) (beginning g at) live (made.made.each n.0 low high))
