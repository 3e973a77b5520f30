-- Messages to modules, in both forms.
use Rattle.sdd_exchange.proofs.All.{DmNo, List, Msg, addressed, map, map_both, numbered, refl, to_all, ◌≡◌}

pub all_addressed : (m : Msg) (dms : List DmNo) → map numbered (addressed m dms) ≡ to_all m (map (λ d. d.0) dms)
all_addressed m dms = map_both (λ (d : DmNo). (d, m)) numbered (λ (d : DmNo). d.0) (λ n. (n, m)) (λ d. refl) dms
