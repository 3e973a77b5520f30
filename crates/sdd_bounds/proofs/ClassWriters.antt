-- The writers by which attempts of a class are rejected: each is of another class, and has a later timestamp than those before.
use Rattle.sdd_bounds.proofs.All.{AllByRecursion, Bool, Committed, Contains, Contains-cases, Contains-nil, History, IsAttempt, IsCommitted, IsDistinct-cons, List, [], ap, arith, cases_Bool, committed, committed_elsewhere, cond, eq-eqb, eqb, eqb-true, false, filter, in_committed, inl, inr, length, length-le_from_is_member, length-map, list_any, map, nat_eq_equiv, ne_eqb, not, refl, subst, suc, sym, true, ℕ, ◌<◌, ◌==◌, ◌∙◌, ◌||◌, ◌∷◌, ◌≡◌, ◌≢◌, ◌≤◌}
use Rattle.std.specs.List.{IsDistinct}
use Rattle.sdd_progress.specs.obligations.links.Attempts.{Attempt}

-- committed transactions of other classes than c, whose timestamps fall, the first one below the bound
abbrev pub AreWriters : History → ℕ → ℕ → List Committed → Type 0
AreWriters h c bound [] = Unit {0}
AreWriters h c bound (t ∷ ts) = IsCommitted h t × (t.start.class ≢ c) × (t.start.ts < bound) × AreWriters h c t.start.ts ts

pub writers_up : (h : History) (c low high : ℕ) (ts : List Committed) → low ≤ high → AreWriters h c low ts → AreWriters h c high ts
writers_up h c low high [] l w = tt
writers_up h c low high (t ∷ ts) l w = (w.0, w.1, omega (arith, w.2), w.3)

abbrev time_of : Committed → ℕ
time_of t = t.start.ts

-- so no two have one timestamp

all_below : (h : History) (c bound most : ℕ) (ts : List Committed) → bound ≤ most → AreWriters h c bound ts → AllByRecursion (λ k. eqb most k ≡ false) (map time_of ts)
all_below h c bound most [] l w = tt
all_below h c bound most (t ∷ ts) l w =
    let below = w.2 in
    (ne_eqb most t.start.ts (λ e. absurd (omega arith)), all_below h c t.start.ts most ts (omega arith) w.3)

times_differ : (h : History) (c bound : ℕ) (ts : List Committed) → AreWriters h c bound ts → IsDistinct eqb (map time_of ts)
unfolding IsDistinct
times_differ h c bound [] w = tt
times_differ h c bound (t ∷ ts) w =
    IsDistinct-cons eqb t.start.ts (map time_of ts) (all_below h c t.start.ts t.start.ts ts (omega arith) w.3) (times_differ h c t.start.ts ts w.3)

-- each is among the committed transactions of other classes

abbrev elsewhere : ℕ → Committed → Bool
elsewhere c t = not (t.start.class == c)

among : (c : ℕ) (t : Committed) (all : List Committed) → t.start.class ≢ c → Contains all t → list_any (eqb t.start.ts) (map time_of (filter (elsewhere c) all)) ≡ true
among c t [] other m = absurd (Contains-nil t m)
among c t (u ∷ all) other m =
    elim (Contains-cases u all t m) [
      | inl same ↦
          let passes : elsewhere c u ≡ true = ap (elsewhere c) (sym same) ∙ ap not (ne_eqb t.start.class c other) in
          let time : eqb t.start.ts u.start.ts ≡ true = eq-eqb t.start.ts u.start.ts (ap time_of same) in
          rw passes (ap (λ b. b || list_any (eqb t.start.ts) (map time_of (filter (elsewhere c) all))) time)
      | inr later ↦
          let rest = among c t all other later in
          elim (cases_Bool (elsewhere c u)) [
            | inl passes ↦ rw passes (elim (eqb t.start.ts u.start.ts) as (λ b. (b || list_any (eqb t.start.ts) (map time_of (filter (elsewhere c) all))) ≡ true) [ true ↦ refl | false ↦ rest ])
            | inr passes ↦ rw passes rest
          ]
    ]

module _ (h : History) (one_start : (a b : Attempt) → IsAttempt h a → IsAttempt h b → a.txn ≡ b.txn → a.number ≡ b.number → a.place ≡ b.place) where
  each_among : (c bound : ℕ) (ts : List Committed) → AreWriters h c bound ts → (k : ℕ) → list_any (eqb k) (map time_of ts) ≡ true
      → list_any (eqb k) (map time_of (filter (elsewhere c) (committed h))) ≡ true
  each_among c bound [] w k e = absurd (cc)
  each_among c bound (t ∷ ts) w k e =
      elim (cases_Bool (eqb k t.start.ts)) [
        | inl same ↦ subst (λ j. list_any (eqb j) (map time_of (filter (elsewhere c) (committed h))) ≡ true) (sym (eqb-true k t.start.ts same))
            (among c t (committed h) w.1 (in_committed h one_start t w.0))
        | inr other ↦ each_among c t.start.ts ts w.3 k (rw other at e)
      ]

  pub few_writers : (c bound : ℕ) (ts : List Committed) → AreWriters h c bound ts → length ts ≤ committed_elsewhere h c
  few_writers c bound ts w =
      omega (
        arith,
        length-le_from_is_member nat_eq_equiv (map time_of ts) (map time_of (filter (elsewhere c) (committed h))) (times_differ h c bound ts w) (each_among c bound ts w),
        length-map ts time_of,
        length-map (filter (elsewhere c) (committed h)) time_of,
      )
