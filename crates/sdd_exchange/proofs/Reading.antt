-- The modules of READs, in both forms.
use Rattle.sdd_exchange.proofs.All.{DmNo, List, Msg, Site, arith, dm_with_use, filter_map, map, map-filter_map, map-filter_map_all, map_both, module_of, module_read, option_map, refl, with_use, ℕ, ◌≡◌}
use Rattle.sdd_exchange.specs.Modules.{numbered}

same_module : (r : Site × Msg) → option_map numbered (module_of r) ≡ module_read r
same_module r = grind arith

pub modules_read : (reads : List (Site × Msg)) → map numbered (filter_map module_of reads) ≡ filter_map module_read reads
modules_read reads = map-filter_map_all numbered module_of module_read same_module reads

pub all_numbered : (ms : List (DmNo × List ℕ)) → map (λ (n : DmNo). n.0) (map (λ (m : DmNo × List ℕ). m.0) ms) ≡ map (λ (m : ℕ × List ℕ). m.0) (map numbered ms)
all_numbered ms = map_both (λ (m : DmNo × List ℕ). m.0) (λ (n : DmNo). n.0) numbered (λ (m : ℕ × List ℕ). m.0) (λ m. refl) ms

pub modules_with_use : (ms : List (DmNo × List ℕ)) (u : ℕ) → map (λ n. n.0) (filter_map (dm_with_use u) ms) ≡ with_use (map numbered ms) u
modules_with_use ms u = grind (arith, map-filter_map)
