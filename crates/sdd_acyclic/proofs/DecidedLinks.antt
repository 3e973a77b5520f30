-- Which edges of a graph are linked can be decided, so every graph has block numbers.
use Rattle.sdd_acyclic.proofs.All.{AllByRecursion, AreBlocks, Differ, Has, IsDistinct-cons, IsSimpleCycle, IsWalk, Joins, Linked, List, Option, ShareACycle, Some, Step, [], ap, arith, cases_Bool, cases_eq, cases_lt, edges_of, eqb, eqb-true, false, inl, inr, last, length, length-le_from_distinct_below, list_any, more, nat_tests, ne_eqb, refl, rules, slice_get, slice_get_within, subst, suc, sym, true, zero, ℕ, ◌+◌, ◌<◌, ◌∷◌, ◌≡◌, ◌⊎◌}
use Rattle.std.specs.List.{IsDistinct}
use Rattle.sdd_acyclic.proofs.BlocksBy.{Decided, blocks_by}

-- what is decided of numbers and lists

both : {A B : Type 0} → Decided A → Decided B → Decided (A × B)
both e b = grind arith

either : {A B : Type 0} → Decided A → Decided B → Decided (A ⊎ B)
either e b = grind arith

negated : {A : Type 0} → Decided A → Decided (A → ⊥)
negated e = grind arith

same : (a b : ℕ) → Decided (a ≡ b)
same a b = elim (cases_eq a b) [ inl e ↦ inl e | inr other ↦ inr other ]

-- whether one of the first n numbers has it
some_below : (n : ℕ) (P : ℕ → Type 0) → ((x : ℕ) → Decided (P x)) → Decided ((x : ℕ) × (x < n) × P x)
some_below zero P d = inr (λ p. (let less = p.1 in absurd (omega (arith, less))))
some_below (suc n) P d = elim (some_below n P d) [
  | inl p ↦ (let less = p.1 in inl (p.0, omega (arith, less), p.2))
  | inr none ↦ elim (d n) [
    | inl here ↦ inl (n, omega arith, here)
    | inr not_here ↦ grind (arith, nat_tests, cases_lt)
  ]
]

has : (xs : List ℕ) (a : ℕ) → Decided (Has xs a)
has [] a = inr (λ h. h)
has (x ∷ xs) a = either (same x a) (has xs a)

differ : (xs : List ℕ) → Decided (Differ xs)
differ [] = inl tt
differ (x ∷ xs) = both (negated (has xs x)) (differ xs)

-- steps of a graph, and lists of them

abbrev AreSmall : ℕ → ℕ → List Step → Type 0
AreSmall n top [] = Unit {0}
AreSmall n top (s ∷ steps) = ((s.edge < n) × (s.to < top)) × AreSmall n top steps

abbrev SomeSteps : ℕ → ℕ → ℕ → (List Step → Type 0) → Type 0
SomeSteps n top count P = (steps : List Step) × AreSmall n top steps × (length steps ≡ count) × P steps

abbrev step : ℕ → ℕ → Step
step e t = record { edge = e; to = t }

no_more : (n top count : ℕ) (P : List Step → Type 0)
    → (((e : ℕ) × (e < n) × ((t : ℕ) × (t < top) × SomeSteps n top count (λ steps. P (step e t ∷ steps)))) → ⊥)
    → SomeSteps n top (suc count) P → ⊥
no_more n top count P none ([], small, long, p) = absurd (omega (arith, long))
no_more n top count P none ((s ∷ steps), small, long, p) =
    none (s.edge, small.0.0, (s.to, small.0.1, (steps, small.1, omega (arith, long), p)))

some_steps : (n top count : ℕ) (P : List Step → Type 0) → ((steps : List Step) → Decided (P steps)) → Decided (SomeSteps n top count P)
some_steps n top zero P d = elim (d []) [
  | inl p ↦ inl ([], tt, refl, p)
  | inr none ↦ inr (λ q. none (nothing q.0 q.2 q.3))
]
  where
    nothing : (steps : List Step) → length steps ≡ 0 → P steps → P []
    nothing [] long p = p
    nothing (s ∷ steps) long p = absurd (omega (arith, long))
some_steps n top (suc count) P d =
    let after : (e t : ℕ) → Decided (SomeSteps n top count (λ steps. P (step e t ∷ steps))) =
    λ e t. some_steps n top count (λ steps. P (step e t ∷ steps)) (λ steps. d (step e t ∷ steps)) in
    elim (some_below n (λ e. (t : ℕ) × (t < top) × SomeSteps n top count (λ steps. P (step e t ∷ steps)))
    (λ e. some_below top (λ t. SomeSteps n top count (λ steps. P (step e t ∷ steps))) (after e))) [
      | inl q ↦
          (let e = q.2 in
          let r = e.2 in
          let long = r.2 in
          inl (step q.0 e.0 ∷ r.0, ((q.1, e.1), r.1), omega (arith, long), r.3))
      | inr none ↦ inr (no_more n top count P none)
    ]

-- the nodes of a graph lie below this
abbrev top : List (ℕ × ℕ) → ℕ
top [] = 0
top (e ∷ edges) = suc (e.0 + e.1) + top edges

ends_below : (edges : List (ℕ × ℕ)) (k a b : ℕ) → slice_get edges k ≡ Some (a, b) → (a < top edges) × (b < top edges)
ends_below [] k a b e = absurd cc
ends_below ((x, y) ∷ edges) zero a b e = grind arith
ends_below (p ∷ edges) (suc k) a b e = let r = ends_below edges k a b e in let f = r.0 in let g = r.1 in (omega (arith, f), omega (arith, g))

-- the edges of small steps, of which no two are one

as_many : (steps : List Step) → length (edges_of steps) ≡ length steps
as_many [] = refl
as_many (s ∷ steps) = ap suc (as_many steps)

not_there : (x : ℕ) (xs : List ℕ) → (Has xs x → ⊥) → AllByRecursion (λ y. eqb x y ≡ false) xs
not_there x [] none = tt
not_there x (y ∷ xs) none = (ne_eqb x y (λ e. none (inl (sym e))), not_there x xs (λ h. none (inr h)))

distinct : (xs : List ℕ) → Differ xs → IsDistinct eqb xs
unfolding IsDistinct
distinct [] h = tt
distinct (x ∷ xs) h = IsDistinct-cons eqb x xs (not_there x xs h.0) (distinct xs h.1)

edge_small : (n t : ℕ) (steps : List Step) → AreSmall n t steps → (q : ℕ) → list_any (eqb q) (edges_of steps) ≡ true → q < n
edge_small n t [] small q e = absurd cc
edge_small n t (s ∷ steps) small q e = grind (arith, cases_Bool, same, eqb-true, (edge_small n t steps small.1 q))

module _ (edges : List (ℕ × ℕ)) where
  record AreWithin (k a b : ℕ) : Type 0 where
    pub edge : k < length edges
    pub from : a < top edges
    pub to : b < top edges

  joins_by : (o : Option (ℕ × ℕ)) (a b : ℕ) → Decided (o ≡ Some (a, b))
  joins_by o a b = grind arith

  joins : (k a b : ℕ) → Decided (Joins edges k a b)
  joins k a b = either (joins_by (slice_get edges k) a b) (joins_by (slice_get edges k) b a)

  walk : (from to : ℕ) (steps : List Step) → Decided (IsWalk edges from steps to)
  walk from to [] = same from to
  walk from to (s ∷ steps) = both (joins s.edge from s.to) (walk s.to to steps)

  cycle : (start : ℕ) (steps : List Step) → Decided (IsSimpleCycle edges start steps)
  cycle start steps = grind (arith, walk, differ)

  -- the steps of a walk are small

  joins_small : (k a b : ℕ) → Joins edges k a b → AreWithin k a b
  joins_small k a b h4 = grind (arith, nat_tests, ends_below, slice_get_within)

  walk_small : (from to : ℕ) (steps : List Step) → IsWalk edges from steps to → AreSmall (length edges) (top edges) steps
  walk_small from to [] w = tt
  walk_small from to (s ∷ steps) w =
      let j = joins_small s.edge from s.to w.0 in ((j.edge, j.to), walk_small s.to to steps w.1)

  start_small : (start : ℕ) (steps : List Step) → IsSimpleCycle edges start steps → start < top edges
  start_small start [] c = (let long = c.long in absurd (omega (arith, long)))
  start_small start (s ∷ steps) c = (joins_small s.edge start s.to c.closed.0).from

  few_steps : (start : ℕ) (steps : List Step) → IsSimpleCycle edges start steps → length steps < suc (length edges)
  few_steps start steps c =
      let few = length-le_from_distinct_below (edges_of steps) (length edges) (distinct (edges_of steps) c.edges_differ)
      (edge_small (length edges) (top edges) steps (walk_small start start steps c.closed)) in
      omega (arith, few, (as_many steps))

  -- so whether two edges share a simple cycle is decided

  abbrev Shares : ℕ → ℕ → ℕ → List Step → Type 0
  Shares j k start steps = IsSimpleCycle edges start steps × (Has (edges_of steps) j × Has (edges_of steps) k)

  share : (j k : ℕ) → Decided (ShareACycle edges j k)
  share j k =
      let some = some_below (top edges)
      (λ start. (count : ℕ) × (count < suc (length edges)) × SomeSteps (length edges) (top edges) count (Shares j k start))
      (λ start. some_below (suc (length edges)) (λ count. SomeSteps (length edges) (top edges) count (Shares j k start))
      (λ count. some_steps (length edges) (top edges) count (Shares j k start)
      (λ steps. both (cycle start steps) (both (has (edges_of steps) j) (has (edges_of steps) k))))) in
      elim some [
        | inl p ↦ grind (arith, nat_tests, cycle)
        | inr none ↦ inr (λ c. none (
          c.start,
          start_small c.start c.steps c.cycle,
          (
            length c.steps,
            few_steps c.start c.steps c.cycle,
            (c.steps, walk_small c.start c.start c.steps c.cycle.closed, refl, (c.cycle, (c.first, c.second))),
          ),
        ))
      ]

  -- chains over edges below a number

  data Through (m : ℕ) : ℕ → ℕ → Type 0 where
    ends : {j k : ℕ} → ShareACycle edges j k → Through m j k
    goes : {j k l : ℕ} → ShareACycle edges j k → k < m → Through m k l → Through m j l

  through_linked : (m j l : ℕ) → Through m j l → Linked edges j l
  through_linked m j l (ends c) = last c
  through_linked m j l (goes {k = k} c less rest) = more c (through_linked m k l rest)

  has_small : (n t : ℕ) (steps : List Step) (k : ℕ) → AreSmall n t steps → Has (edges_of steps) k → k < n
  has_small n t [] k small h = absurd h
  has_small n t (s ∷ steps) k small (inl e) = subst (λ x. x < n) e small.0.0
  has_small n t (s ∷ steps) k small (inr h) = has_small n t steps k small.1 h

  linked_through : (j l : ℕ) → Linked edges j l → Through (length edges) j l
  linked_through j l (last c) = ends c
  linked_through j l (more {k = k} c rest) =
      goes c (has_small (length edges) (top edges) c.steps k (walk_small c.start c.start c.steps c.cycle.closed) c.second) (linked_through k l rest)

  wider : (m j l : ℕ) → Through m j l → Through (suc m) j l
  wider m j l (ends c) = ends c
  wider m j l (goes {k = k} c less rest) = goes c (omega (arith, less)) (wider m k l rest)

  meets : (m j k l : ℕ) → k ≡ m → Through m j k → Through m k l → Through (suc m) j l
  meets m j k l e (ends c) h = goes c (omega (arith, e)) (wider m k l h)
  meets m j k l e (goes {k = i} c less rest) h = goes c (omega (arith, less)) (meets m i k l e rest h)

  at_middle : (m j k l : ℕ) → k ≡ m → ShareACycle edges j k → (Through m k l ⊎ (Through m k m × Through m m l))
      → Through m j l ⊎ (Through m j m × Through m m l)
  at_middle m j k l e c h = search (rules, ends)

  parted : (m j l : ℕ) → Through (suc m) j l → Through m j l ⊎ (Through m j m × Through m m l)
  parted m j l (ends c) = inl (ends c)
  parted m j l (goes {k = k} c less rest) = elim (cases_lt k m) [
    | inl below ↦ elim (parted m k l rest) [ inl r ↦ inl (goes c below r) | inr p ↦ inr (goes c below p.0, p.1) ]
    | inr above ↦ at_middle m j k l (omega (arith, less, above)) c (parted m k l rest)
  ]

  no_goes : (j l : ℕ) → Through 0 j l → ShareACycle edges j l
  no_goes j l e = grind arith

  through : (m j l : ℕ) → Decided (Through m j l)
  through zero j l = elim (share j l) [ inl c ↦ inl (ends c) | inr none ↦ inr (λ t. none (no_goes j l t)) ]
  through (suc m) j l = elim (either (through m j l) (both (through m j m) (through m m l))) [
    | inl s ↦ elim s [ inl t ↦ inl (wider m j l t) | inr p ↦ inl (meets m j m l refl p.0 p.1) ]
    | inr none ↦ inr (λ t. none (parted m j l t))
  ]

  pub linked : (j l : ℕ) → Decided (Linked edges j l)
  linked j l = elim (through (length edges) j l) [
    | inl t ↦ inl (through_linked (length edges) j l t)
    | inr none ↦ inr (λ h. none (linked_through j l h))
  ]

-- so every graph has block numbers
pub each_has_blocks : (edges : List (ℕ × ℕ)) → (blocks : List ℕ) × AreBlocks edges blocks
each_has_blocks edges = blocks_by edges (λ k l j m. linked edges j k)
