-- Sites that are the same, and messages among those sent to one.
use Rattle.sdd_invariants.proofs.All.{AllGt, D, IsStrict, List, Msg, None, Option, Site, Some, [], arith, cons_option, dm_no, eq-eqb, eqb-true, false, filter_map, if◌then◌else◌, inl, inr, map, range_with_len, refl, same_site, slice_get, subst, suc, sym, to_site, true, zero, ℕ, ◌+◌, ◌<◌, ◌∷◌, ◌≡◌, ◌≤◌, ◌⊎◌}
use Rattle.sdd_invariants.proofs.Bools.{differ, same_number, same_or_not}
use Rattle.sdd_invariants.proofs.Lists.{in_if}

pub site_is : (a b : Site) → same_site a b ≡ true → a ≡ b
site_is a b e = grind (arith, eqb-true)

pub site_self : (a : Site) → same_site a a ≡ true
site_self a = grind (arith, eq-eqb)

-- the only message of a send
pub the_one : (b to : Site) (x : Msg) (k : ℕ) (m : Msg) → slice_get (to_site b ((to, x) ∷ [])) k ≡ Some m → (b ≡ to) × (x ≡ m)
the_one b to x k m e = let i = in_if (same_site b to) x k m e in (site_is b to i.0, i.1)

-- one message to each of some modules

pub other_module : (b : Site) (a d : ℕ) → same_site b (D (dm_no a)) ≡ true → a < d → same_site b (D (dm_no d)) ≡ false
other_module b a d e l = grind (arith, same_or_not, eqb-true)

none_of : (f : ℕ → Msg) (b : Site) (a : ℕ) (dms : List ℕ) → same_site b (D (dm_no a)) ≡ true → AllGt a dms → to_site b (map (λ d. (D (dm_no d), f d)) dms) ≡ []
none_of f b a [] e h = refl
none_of f b a (d ∷ dms) e h = rw (other_module b a d e h.0) (none_of f b a dms e h.1)

-- one to each module of an ascending list: to a site at most one
pub one_of_each : (f : ℕ → Msg) (b : Site) (dms : List ℕ) → IsStrict dms
    → (to_site b (map (λ d. (D (dm_no d), f d)) dms) ≡ []) ⊎ ((d : ℕ) × (to_site b (map (λ d. (D (dm_no d), f d)) dms) ≡ f d ∷ []))
one_of_each f b [] h = inl refl
one_of_each f b (d ∷ dms) h = grind (arith, none_of, one_of_each f b dms h.1)

-- to each module at most one
abbrev pub GoesTo : (ℕ → Option (Site × Msg)) → Type 0
GoesTo f = (d : ℕ) → (f d ≡ None) ⊎ ((m : Msg) × (f d ≡ Some (D (dm_no d), m)))

pub none_to : (f : ℕ → Option (Site × Msg)) (b : Site) (a n : ℕ) → GoesTo f → ((d : ℕ) → a ≤ d → same_site b (D (dm_no d)) ≡ false)
    → to_site b (filter_map f (range_with_len a n)) ≡ []
none_to f b a zero g h = refl
none_to f b a (suc n) g h = grind (arith, (none_to f b (a + 1) n g (λ d l. h d (omega arith))))

-- so of those that it makes of a range at most one goes to a site
pub one_to : (f : ℕ → Option (Site × Msg)) (b : Site) (a n : ℕ) → GoesTo f
    → (to_site b (filter_map f (range_with_len a n)) ≡ []) ⊎ ((d : ℕ) × (m : Msg) × (f d ≡ Some (D (dm_no d), m)) × (to_site b (filter_map f (range_with_len a n)) ≡ m ∷ []))
one_to f b a zero g = inl refl
one_to f b a (suc n) g = grind (arith, none_to, other_module, one_to f b (a + 1) n g)

to_cons : (b : Site) (p : Site × Msg) (ps : List (Site × Msg)) (k : ℕ) (m : Msg) → slice_get (to_site b ps) k ≡ Some m
    → (j : ℕ) × (slice_get (to_site b (p ∷ ps)) j ≡ Some m)
to_cons b p ps k m e =
    elim (same_site b p.0) as (λ x. (j : ℕ) × (slice_get (if x then p.1 ∷ to_site b ps else to_site b ps) j ≡ Some m)) [ true ↦ (suc k, e) | false ↦ (k, e) ]

-- and to a module of the range the one that it makes
pub some_to : (f : ℕ → Option (Site × Msg)) (a n d : ℕ) (m : Msg) → a ≤ d → d < a + n → f d ≡ Some (D (dm_no d), m)
    → (k : ℕ) × (slice_get (to_site (D (dm_no d)) (filter_map f (range_with_len a n))) k ≡ Some m)
some_to f a zero d m l h e = absurd (omega arith)
some_to f a (suc n) d m l h e = elim (same_or_not a d) [
  | inl p ↦ (let q : f a ≡ Some (D (dm_no d), m) = subst (λ x. f x ≡ Some (D (dm_no d), m)) (sym p) e in (0, rw (q, same_number d) refl))
  | inr p ↦ (let ne : (a ≡ d → ⊥) = λ q. differ a d p q in
      let i = some_to f (a + 1) n d m (omega arith) (omega arith) e in
      elim (f a) as (λ o. (k : ℕ) × (slice_get (to_site (D (dm_no d)) (cons_option o (filter_map f (range_with_len (a + 1) n)))) k ≡ Some m)) [
        | None ↦ i
        | Some x ↦ to_cons (D (dm_no d)) x (filter_map f (range_with_len (a + 1) n)) i.0 m i.1
      ])
]
