-- The sites of the network by their numbers, and the ends of its links.
use Rattle.sdd_obligations.proofs.All.{All-at, D, DmNo, Input, IsTrue, Site, Some, T, TmNo, U, all_links, and_left, and_right, arith, at_map, dm_no, in_either, in_left, in_mapped, in_range, in_right, is_link, is_site, le_is, link_parts, links, links_exist, map, nat_le, range_with_len, refl, sites, slice_get, subst, suc, tm_no, true, ℕ, ◌&&◌, ◌-◌, ◌≡◌, ◌≤◌}
use Rattle.sdd_obligations.proofs.Sums.{range_at}
use Rattle.sdd_needs.proofs.OfNext.{IsThere}

pub t_of_sites : (tms dms : ℕ) (t : TmNo) → IsThere (sites tms dms) (T t) → (1 ≤ t.0) × (t.0 ≤ tms)
t_of_sites tms dms t h4 = grind (arith, in_either, range_with_len, in_mapped, in_range)

pub d_of_sites : (tms dms : ℕ) (d : DmNo) → IsThere (sites tms dms) (D d) → (1 ≤ d.0) × (d.0 ≤ dms)
d_of_sites tms dms d h4 = grind (arith, in_either, range_with_len, in_mapped, in_range)

-- a site that exists is there, and so are the ends of a link

there_in : (n k : ℕ) → (nat_le 1 k && nat_le k n) ≡ true → IsThere (range_with_len 1 n) k
there_in n k e =
    let a = le_is 1 k (and_left _ _ e) in let b = le_is k n (and_right _ _ e) in
    (k - 1, subst (λ x. slice_get (range_with_len 1 n) (k - 1) ≡ Some x) (omega (arith, a)) (range_at 1 n (k - 1) (omega (arith, a, b))))

pub site_there : (tms dms : ℕ) (at : Site) → is_site tms dms at ≡ true → IsThere (sites tms dms) at
site_there tms dms U e = (0, refl)
site_there tms dms (T t) e =
    let i = there_in tms t.0 e in
    let p = in_left (map (λ n. T (tm_no n)) (range_with_len 1 tms)) (map (λ n. D (dm_no n)) (range_with_len 1 dms)) i.0 (T t)
    (at_map (λ n. T (tm_no n)) (range_with_len 1 tms) i.0 t.0 i.1) in
    (suc i.0, p)
site_there tms dms (D d) e =
    let i = there_in dms d.0 e in
    let p = in_right (map (λ n. T (tm_no n)) (range_with_len 1 tms)) (map (λ n. D (dm_no n)) (range_with_len 1 dms)) i.0 (D d)
    (at_map (λ n. D (dm_no n)) (range_with_len 1 dms) i.0 d.0 i.1) in
    (suc p.0, p.1)

pub link_of_links : (tms dms : ℕ) (a b : Site) → IsThere (links tms dms) (a, b) → is_link tms dms a b ≡ true
link_of_links tms dms a b k = All-at (λ (l : Site × Site). IsTrue (is_link tms dms l.0 l.1)) (links tms dms) k.0 (a, b) k.1 (links_exist tms dms)

pub from_there : (g : Input) (a b : Site) → IsThere (all_links g) (a, b) → IsThere (sites g.catalogue.tms g.catalogue.dms) a
from_there g a b k =
    site_there g.catalogue.tms g.catalogue.dms a (link_parts g.catalogue.tms g.catalogue.dms a b (link_of_links g.catalogue.tms g.catalogue.dms a b k)).from
