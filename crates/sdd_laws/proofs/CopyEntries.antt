-- The entries that a copy gives a database: they ascend, each comes from a dated change, and lies in the fragment.
use Rattle.sdd_laws.proofs.All.{AllByRecursion, ArePlaced, Catalogue, Change, Contains, Dated, IsStrictlySortedBy, Item, Less, List, Row, Some, [], ap, arith, contents, entries_of, fragment_at, fragment_of, int_cmp, item_cmp, keys_of, map, nat_tests, rules, sorted_head, sorted_nil, sorted_tail, sym, ℕ, ℤ, ◌==◌, ◌∙◌, ◌∷◌, ◌≡◌}
use Rattle.sdd_laws.proofs.Latest.{contents_ascend, contents_left}
use Rattle.sdd_laws.proofs.LookUps.{sorted_cons}
use Rattle.sdd_laws.proofs.Members.{Contains-from_map, Contains-from_filter}
use Rattle.sdd_laws.proofs.Values.{fragment_is}

-- the entries of a copy, in order

each_above : (r : ℕ) (k : ℤ) (es : List (ℤ × Row)) → AllByRecursion (λ y. int_cmp k y ≡ Less) (keys_of es)
    → AllByRecursion (λ (y : Item). item_cmp (r, k) y ≡ Less) (keys_of (map (λ (e : ℤ × Row). ((r, e.0), e.1)) es))
each_above r k [] all = tt
each_above r k (e ∷ es) all = search (rules, each_above r k es all.1)

items_ascend : (r : ℕ) (es : List (ℤ × Row)) → IsStrictlySortedBy int_cmp (keys_of es)
    → IsStrictlySortedBy item_cmp (keys_of (map (λ (e : ℤ × Row). ((r, e.0), e.1)) es))
items_ascend r [] sorted = sorted_nil item_cmp
items_ascend r (e ∷ es) sorted =
    sorted_cons item_cmp (r, e.0) (keys_of (map (λ (e : ℤ × Row). ((r, e.0), e.1)) es))
    (each_above r e.0 es (sorted_head int_cmp e.0 (keys_of es) sorted))
    (items_ascend r es (sorted_tail int_cmp e.0 (keys_of es) sorted))

pub entries_ascend : (cat : Catalogue) (f : ℕ) (xs : Dated)
    → IsStrictlySortedBy item_cmp (keys_of (entries_of cat f (contents f xs)))
entries_ascend cat f xs = items_ascend (fragment_at cat f).rel.0 (contents f xs) (contents_ascend f xs)

-- what a copy holds comes from a dated change

pub record IsHeldBy (cat : Catalogue) (f : ℕ) (xs : Dated) (e : Item × Row) (x : ℕ × Change) : Type 0 where
  pub there : Contains xs x
  pub frag : x.1.frag.0 ≡ f
  pub item : ((fragment_at cat f).rel.0, x.1.key) ≡ e.0
  pub row : x.1.row ≡ Some e.1

pub held_by : (cat : Catalogue) (f : ℕ) (xs : Dated) (e : Item × Row) → Contains (entries_of cat f (contents f xs)) e
    → (x : ℕ × Change) × IsHeldBy cat f xs e x
held_by cat f xs e h =
    let m = Contains-from_map (λ (d : ℤ × Row). (((fragment_at cat f).rel.0, d.0), d.1)) (contents f xs) e h in
    let d : ℤ × Row = m.0 in
    let l = contents_left f xs d.0 d.1 m.1 in
    let k = Contains-from_filter (λ (x : ℕ × Change). x.1.frag.0 == f) xs l.0 l.1.among in
    grind (arith, nat_tests, fragment_at)

-- so it lies in the fragment
pub lies_there : (cat : Catalogue) (f : ℕ) (xs : Dated) (e : Item × Row) → ArePlaced cat xs
    → Contains (entries_of cat f (contents f xs)) e → fragment_of cat e.0.0 e.0.1 ≡ f
lies_there cat f xs e placed h =
    let g = held_by cat f xs e h in
    sym (fragment_is cat xs e.0 g.0 placed g.1.there (ap (λ n. ((fragment_at cat n).rel.0, (g.0).1.key)) g.1.frag ∙ g.1.item)) ∙ g.1.frag
