-- Block numbers of a graph, where it is decided which of its edges are linked.
use Rattle.sdd_acyclic.proofs.All.{AreBlocks, AreNumbered, IsNumberingAt, Linked, List, OnACycle, Some, [], all_numbered, arith, cases_eq, cases_lt, get_or, get_or_append_left, get_or_push, inl, inr, last, length, length-replicate, length-set, length_push, linked_back, linked_first, linked_on, linked_second, nat_tests, no_numbers_yet, number_given, number_made, refl, replicate, set, slice_get, slice_get-get_or, slice_get_within, subst, suc, sym, zero, ℕ, ◌++◌, ◌+◌, ◌<◌, ◌∙◌, ◌∷◌, ◌≡◌, ◌≢◌, ◌≤◌, ◌⊎◌}

abbrev pub Decided : Type 0 → Type 0
Decided A = A ⊎ (A → ⊥)

-- a list with an item for each of the first n numbers
pub record ItemsBelow (P : ℕ → ℕ → Type 0) (n : ℕ) : Type 0 where
  pub items : List ℕ
  pub one_each : length items ≡ n
  pub each : (k : ℕ) → k < n → P k (get_or items k 0)

items_below : (P : ℕ → ℕ → Type 0) (n : ℕ) → ((k : ℕ) → k < n → (x : ℕ) × P k x) → ItemsBelow P n
items_below P zero h = record { items = []; one_each = refl; each = λ k l. absurd (omega arith) }
items_below P (suc n) h =
    let rest = items_below P n (λ k l. h k (omega arith)) in
    let x = h n (omega arith) in
    record {
      items = rest.items ++ x.0 ∷ [];
      one_each = length_push rest.items x.0 ∙ (let l = rest.one_each in omega arith);
      each = grind (arith, nat_tests, cases_lt, get_or_append_left, get_or, get_or_push);
    }

module _ (edges : List (ℕ × ℕ)) where
  -- the first of the edges that are linked with an edge
  pub record IsFirstLinked (k j : ℕ) : Type 0 where
    pub linked : Linked edges j k
    pub first : (i : ℕ) → i < j → Linked edges i k → ⊥

  first_linked : (k n : ℕ) → ((j : ℕ) → j < n → Decided (Linked edges j k))
      → ((j : ℕ) × (j < n) × IsFirstLinked k j) ⊎ ((j : ℕ) → j < n → Linked edges j k → ⊥)
  first_linked k zero d = inr (λ j l. absurd (omega arith))
  first_linked k (suc n) d =
      elim (first_linked k n (λ j l. d j (omega arith))) [
        | inl r ↦ let l = r.1 in inl (r.0, omega arith, r.2)
        | inr none ↦ elim (d n (omega arith)) [
          | inl here ↦ inl (n, omega arith, record { linked = here; first = none })
          | inr not_here ↦ grind (arith, nat_tests, cases_lt)
        ]
      ]

  -- the mark of an edge: 0 where it is on no simple cycle, else one more than the first edge that is linked with it
  pub data IsMark (k x : ℕ) : Type 0 where
    off : x ≡ 0 → (OnACycle edges k → ⊥) → IsMark k x
    on : (j : ℕ) → x ≡ suc j → j < length edges → IsFirstLinked k j → IsMark k x

  mark_of : (k : ℕ) → k < length edges → ((j : ℕ) → j < length edges → Decided (Linked edges j k))
      → (x : ℕ) × IsMark k x
  mark_of k l d =
      elim (first_linked k (length edges) d) [
        | inl r ↦ (suc r.0, on r.0 refl r.1 r.2)
        | inr none ↦ (0, off refl (λ c. none k l (last c)))
      ]

  mark_bound : (k x : ℕ) → IsMark k x → x ≤ length edges
  mark_bound k x e = grind arith

  mark_on : (k x : ℕ) → IsMark k x → x ≢ 0 → OnACycle edges k
  mark_on k x h3 z = grind (arith, nat_tests, linked_second)

  mark_off : (k x : ℕ) → IsMark k x → x ≡ 0 → OnACycle edges k → ⊥
  mark_off k x e z c = grind arith

  -- equal marks other than 0 are those of linked edges
  marks_link : (j k x y : ℕ) → IsMark j x → IsMark k y → x ≢ 0 → x ≡ y → Linked edges j k
  marks_link j k x y h5 q z s = grind (arith, nat_tests, linked_on, linked_back)

  linked_marks : (j k x y : ℕ) → IsMark j x → IsMark k y → Linked edges j k → x ≡ y
  linked_marks j k x y h5 q h = grind (arith, nat_tests, cases_lt, cases_eq, linked_first, linked_second, linked_on, linked_back)

  module _ (marks : ItemsBelow IsMark (length edges)) where
    mark_is : (k : ℕ) → k < length edges → IsMark k (get_or marks.items k 0)
    mark_is = marks.each

    -- numbers for the first marks
    pub record SomeNumbers (count : ℕ) : Type 0 where
      pub given : List ℕ
      pub numbers : List ℕ
      pub last : ℕ
      pub are : IsNumberingAt marks.items given numbers last count
      pub room : length given ≡ suc (length edges)

    abbrev zeros : ℕ → List ℕ
    zeros n = replicate n 0

    no_given : (n x : ℕ) → get_or (zeros n) x 0 ≡ 0
    no_given (suc n) (suc x) = no_given n x
    no_given _ _ = refl

    some_numbers : (count : ℕ) → count ≤ length edges → SomeNumbers count
    some_numbers zero l =
        let given = zeros (suc (length edges)) in
        record {
          given = given;
          numbers = [];
          last = 0;
          are = no_numbers_yet marks.items given (no_given (suc (length edges)));
          room = length-replicate (suc (length edges)) 0;
        }
    some_numbers (suc count) l =
        let before = some_numbers count (omega arith) in
        let mark = get_or marks.items count 0 in
        let next : suc count ≡ count + 1 = omega arith in
        let keep : (mark ≢ 0 → get_or before.given mark 0 ≢ 0) → SomeNumbers (suc count) =
        λ h. record {
          given = before.given;
          numbers = before.numbers ++ get_or before.given mark 0 ∷ [];
          last = before.last;
          are =
              subst (λ c. IsNumberingAt marks.items before.given (before.numbers ++ get_or before.given mark 0 ∷ []) before.last c) (sym next)
              (number_given marks.items before.given before.numbers before.last count before.are h);
          room = before.room;
        } in
        elim (cases_eq mark 0) [
          | inl z ↦ keep (λ n. absurd (n z))
          | inr n ↦ elim (cases_eq (get_or before.given mark 0) 0) [
            | inl fresh ↦
                record {
                  given = set before.given mark (before.last + 1);
                  numbers = before.numbers ++ (before.last + 1) ∷ [];
                  last = before.last + 1;
                  are =
                      subst (λ c. IsNumberingAt marks.items (set before.given mark (before.last + 1)) (before.numbers ++ (before.last + 1) ∷ []) (before.last + 1) c) (sym next)
                      (number_made marks.items before.given before.numbers before.last count before.are n fresh
                      (let b = mark_bound count mark (mark_is count (omega arith)) in omega (arith, before.room)));
                  room = length-set before.given mark (before.last + 1) ∙ before.room;
                }
            | inr known ↦ keep (λ z. known)
          ]
        ]

    module _ (numbers : List ℕ) (numbered : AreNumbered marks.items numbers) where
      within : (k b : ℕ) → slice_get numbers k ≡ Some b → k < length edges
      within k b e = let h = slice_get_within numbers k b e in omega (arith, numbered.one_each, marks.one_each)

      mark_at : (k b : ℕ) → slice_get numbers k ≡ Some b → slice_get marks.items k ≡ Some (get_or marks.items k 0)
      mark_at k b e = slice_get-get_or marks.items k 0 (let h = within k b e in omega (arith, marks.one_each))

      -- a number is 0 where its mark is
      not_zero : (k b : ℕ) → slice_get numbers k ≡ Some b → b ≢ 0 → get_or marks.items k 0 ≢ 0
      not_zero k b e n z = n ((numbered.none k b (get_or marks.items k 0) e (mark_at k b e)).1 z)

      pub blocks_are : AreBlocks edges numbers
      blocks_are =
          record {
            one_each = numbered.one_each ∙ marks.one_each;
            none = grind (arith, nat_tests, mark_off, get_or, mark_is, within, mark_at);
            some = λ k b e.
                mark_on k (get_or marks.items k 0) (mark_is k (within k (suc b) e))
                (not_zero k (suc b) e (λ z. absurd (omega arith)));
            same = λ j k a b p q n. (
              (λ s.
                  marks_link j k (get_or marks.items j 0) (get_or marks.items k 0) (mark_is j (within j a p)) (mark_is k (within k b q)) (not_zero j a p n)
                  ((numbered.same j k a b (get_or marks.items j 0) (get_or marks.items k 0) p q (mark_at j a p) (mark_at k b q)).0 s)),
              λ h.
                  (numbered.same j k a b (get_or marks.items j 0) (get_or marks.items k 0) p q (mark_at j a p) (mark_at k b q)).1
                  (linked_marks j k (get_or marks.items j 0) (get_or marks.items k 0) (mark_is j (within j a p)) (mark_is k (within k b q)) h),
            );
            in_order = numbered.in_order;
          }

-- block numbers, where it is decided which edges are linked
pub blocks_by : (edges : List (ℕ × ℕ)) → ((k : ℕ) → k < length edges → (j : ℕ) → j < length edges → Decided (Linked edges j k))
    → (blocks : List ℕ) × AreBlocks edges blocks
blocks_by edges d =
    let marks = items_below (IsMark edges) (length edges) (λ k l. mark_of edges k l (d k l)) in
    let all = some_numbers edges marks (length edges) (omega arith) in (
      all.numbers,
      blocks_are edges marks all.numbers
          (all_numbered marks.items all.given all.numbers all.last (length edges) all.are marks.one_each),
    )
