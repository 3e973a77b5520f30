-- How many rows are counted of a use.
use Rattle.sdd_exchange.proofs.All.{Bool, DmNo, List, None, Some, [], ap, arith, at_drop_more, cond, cons_option, count_in, count_of, counted, drop, filter, filter_map, fold, get_or, is_other, length, map, map-append, map-filter, not, sum, sym, ℕ, ◌&&◌, ◌++◌, ◌+◌, ◌<◌, ◌==◌, ◌∙◌, ◌∷◌, ◌≡◌}
use Rattle.sdd_exchange.specs.Counts.{numbered}

sum_from : (a : ℕ) (ns : List ℕ) → fold ◌+◌ a ns ≡ a + sum ns
sum_from a [] = omega arith
sum_from a (n ∷ ns) = omega (arith, sum_from (a + n) ns, sum_from (0 + n) ns)

sum_first : (n : ℕ) (ns : List ℕ) → sum (n ∷ ns) ≡ n + sum ns
sum_first n ns = omega (arith, sum_from (0 + n) ns)

sum_by_test : (t : Bool) (n : ℕ) (ns : List ℕ) → sum (cons_option (cond t (Some n) None) ns) ≡ cond t n 0 + sum ns
sum_by_test t n ns = grind (arith, sum_first)

count_first : (e : (ℕ × DmNo) × ℕ) (es : List ((ℕ × DmNo) × ℕ)) (u : ℕ) → count_of (map numbered (e ∷ es)) u ≡ count_in u e + count_of (map numbered es) u
count_first e es u = sum_by_test (e.0.0 == u) e.1 (filter_map (λ (c : (ℕ × ℕ) × ℕ). cond (c.0.0 == u) (Some c.1) None) (map numbered es))

pub count_more : (es : List ((ℕ × DmNo) × ℕ)) (i : ℕ) (e : (ℕ × DmNo) × ℕ) (u rows all : ℕ) → i < length es → e ≡ get_or es i e
    → rows + count_of (map numbered (drop i es)) u ≡ all → rows + count_in u e + count_of (map numbered (drop (i + 1) es)) u ≡ all
count_more es i e u rows all within is h =
    let here : count_of (map numbered (drop i es)) u ≡ count_in u e + count_of (map numbered (drop (i + 1) es)) u =
    at_drop_more (λ l. count_of (map numbered l) u) es i e within ∙ ap (λ z. count_of (map numbered (z ∷ drop (i + 1) es)) u) (sym is)
    ∙ count_first e (drop (i + 1) es) u in
    omega (arith, here, h)

-- a count is put in the place of an earlier one
pub count_put : (old kept new : List ((ℕ × DmNo) × ℕ)) (counts : List ((ℕ × ℕ) × ℕ)) (dm : DmNo) (u n : ℕ) → map numbered old ≡ counts
    → kept ≡ filter (is_other dm.0 u) old → new ≡ kept ++ ((u, dm), n) ∷ [] → map numbered new ≡ counted dm.0 ((u, n) ∷ []) counts
count_put old kept new counts dm u n e f g =
    ap (map numbered) g ∙ map-append numbered kept (((u, dm), n) ∷ []) ∙ ap (λ l. l ++ ((u, dm.0), n) ∷ [])
    (ap (map numbered) f ∙ map-filter numbered (λ c. not ((c.0.0 == u) && (c.0.1 == dm.0))) old ∙ ap (filter (λ c. not ((c.0.0 == u) && (c.0.1 == dm.0)))) e)
