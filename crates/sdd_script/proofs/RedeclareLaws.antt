-- Where a `redeclare` may stand: the test of a line, and what holds of all events.
use Rattle.sdd_script.proofs.All.{AreTimely, Bool, Catalogue, D, Event, IsModule, List, MayRedeclare, Redeclare, Site, Some, T, U, [], ap, arith, both_hold, cases_lt, count_by, dm_no, false, inl, inr, is_down, is_redeclare, length, list_any, ltb-true, may_follow, may_redeclare, nat_lt, not, numbers_to, or_false, range_with_len, refl, slice_get, some_down, subst, suc, sym, take, take-append-le, take-append_seam, tm_no, true, zero, ℕ, ◌++◌, ◌+◌, ◌<◌, ◌∙◌, ◌∷◌, ◌≡◌, ◌≤◌}
use Rattle.sdd_script.proofs.StepLaws.{not_true, some_is}

-- ---- no number of a range passes a test

none_passes : (p : ℕ → Bool) (a n : ℕ) → list_any p (range_with_len a n) ≡ false → (k : ℕ) → a ≤ k → k < a + n → p k ≡ false
none_passes p a zero e k lo hi = absurd (omega arith)
none_passes p a (suc n) e k lo hi =
    let h = or_false (p a) (list_any p (range_with_len (a + 1) n)) e in
    elim (cases_lt a k) as (λ o. p k ≡ false) [
      | inl lt ↦ none_passes p (a + 1) n h.1 k (omega arith) (omega arith)
      | inr le ↦ let same : a ≡ k = omega arith in subst (λ (x : ℕ). p x ≡ false) same h.0
    ]

passes_none : (p : ℕ → Bool) (a n : ℕ) → ((k : ℕ) → a ≤ k → k < a + n → p k ≡ false) → list_any p (range_with_len a n) ≡ false
passes_none p a zero h = refl
passes_none p a (suc n) h = grind (arith, list_any, range_with_len, (passes_none p (a + 1) n (λ k lo hi. h k (omega (arith, lo)) (omega (arith, hi)))))

-- ---- a line

pub may_redeclare_takes : (cat : Catalogue) (lists : ℕ) (events : List Event) → may_redeclare cat lists events ≡ true → MayRedeclare cat lists events
may_redeclare_takes cat lists events e =
    let h = both_hold (nat_lt (count_by is_redeclare events) lists) (not (some_down cat events)) e in
    record { left = ltb-true (count_by is_redeclare events) lists h.0; up = none_down (not_true (some_down cat events) h.1) }
  where
    none_down : some_down cat events ≡ false → (at : Site) → IsModule cat at → is_down at events ≡ false
    none_down none U there = absurd there
    none_down none (T tm) there =
        let h =
        or_false (list_any (λ n. is_down (T (tm_no n)) events) (numbers_to cat.tms)) (list_any (λ n. is_down (D (dm_no n)) events) (numbers_to cat.dms)) none in
        none_passes (λ n. is_down (T (tm_no n)) events) 1 cat.tms h.0 tm.0 there.0 (omega (arith, there.1))
    none_down none (D dm) there =
        let h =
        or_false (list_any (λ n. is_down (T (tm_no n)) events) (numbers_to cat.tms)) (list_any (λ n. is_down (D (dm_no n)) events) (numbers_to cat.dms)) none in
        none_passes (λ n. is_down (D (dm_no n)) events) 1 cat.dms h.1 dm.0 there.0 (omega (arith, there.1))

pub may_redeclare_again : (cat : Catalogue) (lists : ℕ) (events : List Event) → MayRedeclare cat lists events → may_redeclare cat lists events ≡ true
may_redeclare_again cat lists events h =
    let tms = passes_none (λ n. is_down (T (tm_no n)) events) 1 cat.tms (λ n low high. h.up (T (tm_no n)) (low, omega (arith, high))) in
    let dms = passes_none (λ n. is_down (D (dm_no n)) events) 1 cat.dms (λ n low high. h.up (D (dm_no n)) (low, omega (arith, high))) in
    grind (arith, tms, dms, h.left)

-- ---- the events so far

-- at the end of a list stands the last item
at_end : {A : Type 0} (xs : List A) (x : A) (i : ℕ) (y : A) → slice_get (xs ++ x ∷ []) i ≡ Some y → length xs ≤ i → (i ≡ length xs) × (x ≡ y)
at_end [] x zero y e le = (refl, some_is x y e)
at_end [] x (suc i) y e le = absurd cc
at_end (z ∷ xs) x zero y e le = absurd (omega arith)
at_end (z ∷ xs) x (suc i) y e le = let h = at_end xs x i y e (omega arith) in (ap suc h.0, h.1)

before_end : {A : Type 0} (xs : List A) (x : A) (i : ℕ) → i < length xs → slice_get (xs ++ x ∷ []) i ≡ slice_get xs i
before_end [] x i lt = absurd (omega arith)
before_end (z ∷ xs) x zero lt = refl
before_end (z ∷ xs) x (suc i) lt = before_end xs x i (omega arith)

pub item_at : {A : Type 0} (xs : List A) (x : A) (rest : List A) → slice_get (xs ++ x ∷ rest) (length xs) ≡ Some x
item_at [] x rest = refl
item_at (z ∷ xs) x rest = item_at xs x rest

-- an event that may follow keeps all of them timely
pub timely_more : (cat : Catalogue) (lists : ℕ) (events : List Event) (e : Event) → AreTimely cat lists events
    → may_follow cat lists events e ≡ true → AreTimely cat lists (events ++ e ∷ [])
timely_more cat lists events e h may i is =
    elim (cases_lt i (length events)) as (λ o. MayRedeclare cat lists (take i (events ++ e ∷ []))) [
      | inl lt ↦ subst (MayRedeclare cat lists) (sym (take-append-le i events (e ∷ []) (omega arith))) (h i (sym (before_end events e i lt) ∙ is))
      | inr le ↦
          let at = at_end events e i Redeclare is le in
          let front : take i (events ++ e ∷ []) ≡ events = ap (λ (n : ℕ). take n (events ++ e ∷ [])) at.0 ∙ take-append_seam events (e ∷ []) in
          subst (MayRedeclare cat lists) (sym front)
          (may_redeclare_takes cat lists events (subst (λ (x : Event). may_follow cat lists events x ≡ true) at.1 may))
    ]

-- and where all are timely, each may follow those before it
pub timely_may : (cat : Catalogue) (lists : ℕ) (events : List Event) (e : Event) (es : List Event)
    → AreTimely cat lists (events ++ e ∷ es) → may_follow cat lists events e ≡ true
timely_may cat lists events Redeclare es h =
    may_redeclare_again cat lists events (subst (MayRedeclare cat lists)
    (take-append_seam events (Redeclare ∷ es)) (h (length events) (item_at events Redeclare es)))
timely_may cat lists events _ es h = refl

pub none_timely : (cat : Catalogue) (lists : ℕ) → AreTimely cat lists []
none_timely cat lists i e = absurd cc
