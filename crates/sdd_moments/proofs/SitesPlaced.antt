-- The sites stand in their order: the place of each is its number in it.
use Rattle.sdd_moments.proofs.All.{D, List, Some, Site, T, U, None, ap, arith, map, place_of, range_with_len, sites, slice_get, suc, sym, zero, ℕ, ◌++◌, ◌+◌, ◌∙◌, ◌≡◌}

t_at : (tms a n k : ℕ) (rest : List Site) (x : Site) → ((j : ℕ) (y : Site) → slice_get rest j ≡ Some y → place_of tms y ≡ a + n + j)
    → slice_get (map (λ n. T (record { 0 = n })) (range_with_len a n) ++ rest) k ≡ Some x → place_of tms x ≡ a + k
t_at tms a zero k rest x later e = let h = later k x e in omega (arith, h)
t_at tms a (suc n) zero rest x later e =
    let is : T (record { 0 = a }) ≡ x = cc in
    ap (place_of tms) (sym is) ∙ omega arith
t_at tms a (suc n) (suc k) rest x later e =
    let h = t_at tms (a + 1) n k rest x (λ j y f. let l = later j y f in omega (arith, l)) e in omega (arith, h)

d_at : (tms a n k : ℕ) (x : Site) → slice_get (map (λ n. D (record { 0 = n })) (range_with_len a n)) k ≡ Some x → place_of tms x ≡ tms + (a + k)
d_at tms a zero k x e = absurd (let no : None ≡ Some x = e in cc)
d_at tms a (suc n) zero x e =
    let is : D (record { 0 = a }) ≡ x = cc in
    ap (place_of tms) (sym is) ∙ omega arith
d_at tms a (suc n) (suc k) x e = let h = d_at tms (a + 1) n k x e in omega (arith, h)

pub site_place : (tms dms k : ℕ) (x : Site) → slice_get (sites tms dms) k ≡ Some x → place_of tms x ≡ k
site_place tms dms zero x e = let is : U ≡ x = cc in ap (place_of tms) (sym is)
site_place tms dms (suc k) x e =
    let h = t_at tms 1 tms k (map (λ n. D (record { 0 = n })) (range_with_len 1 dms)) x
    (λ j y f. let l = d_at tms 1 dms j y f in omega (arith, l)) e in
    omega (arith, h)
