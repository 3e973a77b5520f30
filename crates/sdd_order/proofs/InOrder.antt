-- The committed transactions, sorted by their timestamps.
use Rattle.sdd_order.proofs.All.{All-contains, All-contains_itself, All-permutation, AllByRecursion, Attempt, Bool, Catalogue, Committed, Contains, Contains-cases, Contains-here, Contains-later, Contains-nil, History, IsCommitted, IsDistinct-IsPermutation, IsDistinct-cons, IsDistinct-head, IsDistinct-tail, IsNonDecreasingBy, IsOrderable, IsPermutation, IsPermutation-sym, List, None, Rec, Some, [], ap, arith, attempts, cases_eq, cases_lt, committed, committed_of, cons_option, eq-eqb, false, filter_map, get_or, inl, inr, length, ne_eqb, placed, refl, same_Some, slice_get, slice_get-get_or, slice_get_within, subst, suc, sym, true, zero, ℕ, ◌<◌, ◌==◌, ◌∙◌, ◌∷◌, ◌≡◌, ◌≤◌}
use Rattle.std.specs.List.{IsDistinct}
use Rattle.sdd_links.proofs.Found.{from_committed}
use Rattle.sdd_links.proofs.Implied.{AreInOrder}
use Rattle.sdd_order.proofs.Serial.{one_of_time}

abbrev same_place : Committed → Committed → Bool
same_place x y = x.place == y.place

abbrev same_time : Committed → Committed → Bool
same_time x y = x.start.ts == y.start.ts

every : {X : Type 0} (P : X → Type 0) (xs : List X) → ((x : X) → Contains xs x → P x) → AllByRecursion P xs
every P [] h = tt
every P (x ∷ xs) h = (h x (Contains-here x xs), every P xs (λ y m. h y (Contains-later x xs y m)))

pub each : {X : Type 0} (P : X → Type 0) (xs : List X) → AllByRecursion P xs → (x : X) → Contains xs x → P x
each P [] a x m = absurd (Contains-nil x m)
each P (y ∷ xs) a x m = elim (Contains-cases y xs x m) [ inl e ↦ subst P (sym e) a.0 | inr k ↦ each P xs a.1 x k ]

place_is : {X : Type 0} (ys : List X) (k : ℕ) (w : X) → slice_get ys k ≡ Some w → (k < length ys) × ((d : X) → get_or ys k d ≡ w)
place_is ys k w e =
    let l = slice_get_within ys k w e in (l, λ d. same_Some (get_or ys k d) w (sym (slice_get-get_or ys k d l) ∙ e))

at_place : {X : Type 0} (ys : List X) (k : ℕ) (w : X) → slice_get ys k ≡ Some w → Contains ys w
at_place ys k w e = let p = place_is ys k w e in (k, p.0, p.1 w)

-- a committed transaction has the place of its Commit
committed_place : (starts : List Attempt) (k : ℕ) (r : Rec) (c : Committed) → committed_of starts (k, r) ≡ Some c → c.place ≡ k
committed_place starts k r c e = grind arith

later_place : (starts : List Attempt) (k : ℕ) (h : History) (c : Committed) → Contains (filter_map (committed_of starts) (placed k h)) c → k ≤ c.place
later_place starts k [] c m = absurd (Contains-nil c m)
later_place starts k (e ∷ h) c m =
    let rest = filter_map (committed_of starts) (placed (suc k) h) in
    elim (committed_of starts (k, e.1)) as (λ o. committed_of starts (k, e.1) ≡ o → Contains (cons_option o rest) c → k ≤ c.place) [
      | None ↦ λ f n. let l = later_place starts (suc k) h c n in omega arith
      | Some d ↦ λ f n. elim (Contains-cases d rest c n) [
        | inl same ↦ let place : c.place ≡ k = ap (λ (t : Committed). t.place) same ∙ committed_place starts k e.1 d f in omega (arith, place)
        | inr r ↦ let l = later_place starts (suc k) h c r in omega arith
      ]
    ] refl m

distinct_places : (starts : List Attempt) (k : ℕ) (h : History) → IsDistinct same_place (filter_map (committed_of starts) (placed k h))
unfolding IsDistinct
distinct_places starts k [] = tt
distinct_places starts k (e ∷ h) =
    let rest = filter_map (committed_of starts) (placed (suc k) h) in
    elim (committed_of starts (k, e.1)) as (λ o. committed_of starts (k, e.1) ≡ o → IsDistinct same_place (cons_option o rest)) [
      | None ↦ λ f. distinct_places starts (suc k) h
      | Some d ↦ λ f.
          IsDistinct-cons same_place d rest
          (every (λ c. same_place d c ≡ false) rest
          (λ c m.
          let place = committed_place starts k e.1 d f in
          let l = later_place starts (suc k) h c m in
          ne_eqb d.place c.place (λ same. absurd (omega (arith, same, place, l)))))
          (distinct_places starts (suc k) h)
    ] refl

module _ (cat : Catalogue) (h : History) (o : IsOrderable cat h) where
  -- so their timestamps differ
  times_from : (some : List Committed) → ((t : Committed) → Contains some t → IsCommitted h t) → IsDistinct same_place some → IsDistinct same_time some
  unfolding IsDistinct
  times_from [] all d = tt
  times_from (x ∷ some) all d =
      IsDistinct-cons same_time x some
      (every (λ y. same_time x y ≡ false) some
      (λ y m. ne_eqb x.start.ts y.start.ts
      (λ e.
      let same = one_of_time cat h o x y (all x (Contains-here x some)) (all y (Contains-later x some y m)) e in
      let apart = each (λ z. same_place x z ≡ false) some (IsDistinct-head same_place x some d) y m in
      let wrong : true ≡ false = sym (eq-eqb x.place y.place (ap (λ (t : Committed). t.place) same)) ∙ apart in
      absurd (cc))))
      (times_from some (λ t m. all t (Contains-later x some t m)) (IsDistinct-tail same_place x some d))

  apart : (xs : List Committed) → IsDistinct same_time xs → (i j : ℕ) (x y : Committed) → slice_get xs i ≡ Some x → slice_get xs j ≡ Some y → i < j
      → same_time x y ≡ false
  apart [] d i j x y p q l = absurd (cc)
  apart (z ∷ xs) d i zero x y p q l = absurd (omega arith)
  apart (z ∷ xs) d zero (suc j) x y p q l =
      subst (λ w. same_time w y ≡ false) (same_Some z x p)
      (each (λ w. same_time z w ≡ false) xs (IsDistinct-head same_time z xs d) y (at_place xs j y q))
  apart (z ∷ xs) d (suc i) (suc j) x y p q l = apart xs (IsDistinct-tail same_time z xs d) i j x y p q (omega arith)

  module _ (txns : List Committed) (moved : IsPermutation (committed h) txns) (sorted : IsNonDecreasingBy (λ (t : Committed). t.start.ts) txns) where
    pub in_sorted : (t : Committed) → Contains (committed h) t → Contains txns t
    in_sorted t m =
        All-contains (Contains txns) (committed h) t
        (All-permutation (Contains txns) txns (committed h) (IsPermutation-sym (committed h) txns moved) (All-contains_itself txns)) m

    pub from_sorted : (t : Committed) → Contains txns t → Contains (committed h) t
    from_sorted t m =
        All-contains (Contains (committed h)) txns t (All-permutation (Contains (committed h)) (committed h) txns moved (All-contains_itself (committed h))) m

    pub in_order_of_time : AreInOrder h txns
    in_order_of_time = record {
      committed = λ i x e. from_committed h x (from_sorted x (at_place txns i x e));
      rise = λ i j x y p q l.
          let flips : (a b : Committed) → same_time a b ≡ same_time b a = λ a b. eqb_flips a.start.ts b.start.ts in
          let distinct = IsDistinct-IsPermutation same_time flips (committed h) txns moved (times_from (committed h) (from_committed h) (distinct_places (attempts h) 0 h)) in
          let differ = apart txns distinct i j x y p q l in
          let at_i = place_is txns i x p in
          let at_j = place_is txns j y q in
          let most = sorted i j x (omega arith) at_j.0 in
          let first : x.start.ts ≡ (get_or txns i x).start.ts = ap (λ (t : Committed). t.start.ts) (sym (at_i.1 x)) in
          let second : y.start.ts ≡ (get_or txns j x).start.ts = ap (λ (t : Committed). t.start.ts) (sym (at_j.1 x)) in
          strictly x.start.ts y.start.ts differ (omega (arith, first, second, most));
    }
      where
        eqb_flips : (a b : ℕ) → (a == b) ≡ (b == a)
        eqb_flips a b = elim (cases_eq a b) [ inl e ↦ eq-eqb a b e ∙ sym (eq-eqb b a (sym e)) | inr n ↦ ne_eqb a b n ∙ sym (ne_eqb b a (λ e. n (sym e))) ]

        strictly : (a b : ℕ) → (a == b) ≡ false → a ≤ b → a < b
        strictly a b d l =
            elim (cases_lt a b) [ inl u ↦ u | inr g ↦ absurd (let wrong : true ≡ false = sym (eq-eqb a b (omega arith)) ∙ d in cc) ]
