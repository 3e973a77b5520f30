-- What is taken of items with different times.
use Rattle.sdd_links.proofs.All.{Bool, Contains, Contains-cases, Contains-here, Contains-later, Contains-nil, List, None, Option, Some, [], ap, arith, cases_Bool, cases_eq, cond, earlier, earliest, eq-eqb, eqb-false, false, filter, inl, inr, is_ready, length, list_any, ltb-false, ltb-true, nat_lt, ne_eqb, not, not-true, refl, same_Some, subst, suc, sym, taken, true, without, zero, ℕ, ◌<◌, ◌==◌, ◌∙◌, ◌∷◌, ◌≡◌, ◌≢◌, ◌≤◌}
use Rattle.sdd_links.proofs.Members.{Contains-filter, Contains-from_filter, passes_member}

module _ {A : Type 0} (time : A → ℕ) where
  -- a member that none has a smaller time than
  pub record IsEarliest (xs : List A) (x : A) : Type 0 where
    pub member : Contains xs x
    pub least : (y : A) → Contains xs y → time x ≤ time y

  earlier_is : (x : A) (xs : List A) (o : Option A) → earliest time xs ≡ o → (z : A) → earlier time x o ≡ Some z
      → ((y : A) → o ≡ Some y → IsEarliest xs y) → (o ≡ None → xs ≡ []) → IsEarliest (x ∷ xs) z
  earlier_is x xs o e z f g n = grind (arith, same_Some, IsEarliest, Contains-here, Contains-cases, Contains-nil, nat_lt, ltb-true, Contains-later, ltb-false)

  -- a list that isn't empty has one
  pub none_earliest : (xs : List A) → earliest time xs ≡ None → xs ≡ []
  none_earliest [] e = refl
  none_earliest (x ∷ xs) e = grind arith

  pub earliest_is : (xs : List A) (z : A) → earliest time xs ≡ Some z → IsEarliest xs z
  earliest_is [] z e = absurd (cc)
  earliest_is (x ∷ xs) z e = earlier_is x xs (earliest time xs) refl z e (λ y f. earliest_is xs y f) (none_earliest xs)

  -- members with one time are one
  abbrev pub Differ : List A → Type 0
  Differ xs = (x y : A) → Contains xs x → Contains xs y → time x ≡ time y → x ≡ y

  -- then it is the only one
  pub is_earliest : (xs : List A) → Differ xs → (z : A) → IsEarliest xs z → earliest time xs ≡ Some z
  is_earliest xs differ z h = grind (arith, Contains-nil, none_earliest, earliest_is)

  -- what is left without a member
  pub without_is : (x : A) (xs : List A) (y : A) → Contains (without time x xs) y → Contains xs y × (time y ≢ time x)
  without_is x xs y m =
      let r = Contains-from_filter (λ z. not (time z == time x)) xs y m in
      (r.0, eqb-false (time y) (time x) (not-true (time y == time x) r.1))

  pub in_without : (x : A) (xs : List A) (y : A) → Contains xs y → time y ≢ time x → Contains (without time x xs) y
  in_without x xs y m n = Contains-filter (λ z. not (time z == time x)) xs y (ap not (ne_eqb (time y) (time x) n)) m

  without_fewer : (x : A) (xs : List A) → length (without time x xs) ≤ length xs
  without_fewer x [] = omega arith
  without_fewer x (y ∷ xs) = grind (arith, without_fewer x xs)

  pub one_fewer : (x : A) (xs : List A) → Contains xs x → length (without time x xs) < length xs
  one_fewer x [] m = absurd (Contains-nil x m)
  one_fewer x (y ∷ xs) m =
      elim (cases_eq (time y) (time x)) [
        | inl e ↦
            grind (arith, without_fewer, eq-eqb, without)
        | inr n ↦ elim (Contains-cases y xs x m) [
          | inl same ↦ absurd (n (ap time (sym same)))
          | inr later ↦
              let rest = one_fewer x xs later in
              let stays : not (time y == time x) ≡ true = ap not (ne_eqb (time y) (time x) n) in
              subst (λ b. length (cond b (y ∷ without time x xs) (without time x xs)) < suc (length xs)) (sym stays) (omega arith)
        ]
      ]

  pub differ_without : (x : A) (xs : List A) → Differ xs → Differ (without time x xs)
  differ_without x xs d y z m n e = d y z (without_is x xs y m).0 (without_is x xs z n).0 e

  differ_filter : (p : A → Bool) (xs : List A) → Differ xs → Differ (filter p xs)
  differ_filter p xs d y z m n e = d y z (Contains-from_filter p xs y m).0 (Contains-from_filter p xs z n).0 e

  module _ (before : A → A → Bool) where
    -- whether one is ready
    pub ready_is : (left : List A) (x y : A) → is_ready before left x ≡ true → Contains left y → before y x ≡ false
    ready_is left x y e m =
        elim (cases_Bool (before y x)) [
          | inl t ↦
              let some = passes_member (λ z. before z x) left y m t in
              let wrong : not true ≡ true = ap not (sym some) ∙ e in
              absurd (cc)
          | inr f ↦ f
        ]

    none_passes : (left : List A) (x : A) → ((y : A) → Contains left y → before y x ≡ false) → list_any (λ y. before y x) left ≡ false
    none_passes [] x h = refl
    none_passes (y ∷ left) x h = grind (arith, list_any, Contains-here, Contains-later, (none_passes left x (λ z m. h z (Contains-later y left z m))))

    pub is_ready_where : (left : List A) (x : A) → ((y : A) → Contains left y → before y x ≡ false) → is_ready before left x ≡ true
    is_ready_where left x h = ap not (none_passes left x h)

    -- the next one
    pub record IsNext (left : List A) (x : A) : Type 0 where
      pub member : Contains left x
      pub ready : (y : A) → Contains left y → before y x ≡ false
      pub least : (y : A) → Contains left y → ((z : A) → Contains left z → before z y ≡ false) → time x ≤ time y

    pub next_is : (left : List A) (x : A) → earliest time (filter (is_ready before left) left) ≡ Some x → IsNext left x
    next_is left x e =
        let first = earliest_is (filter (is_ready before left) left) x e in
        let r = Contains-from_filter (is_ready before left) left x first.member in
        record {
          member = r.0;
          ready = λ y m. ready_is left x y r.1 m;
          least = λ y m h. first.least y (Contains-filter (is_ready before left) left y (is_ready_where left y h) m);
        }

    pub is_next : (left : List A) → Differ left → (x : A) → IsNext left x → earliest time (filter (is_ready before left) left) ≡ Some x
    is_next left d x h =
        is_earliest (filter (is_ready before left) left) (differ_filter (is_ready before left) left d) x
        (record {
          member = Contains-filter (is_ready before left) left x (is_ready_where left x h.ready) h.member;
          least = λ y m.
              let r = Contains-from_filter (is_ready before left) left y m in
              h.least y r.0 (λ z k. ready_is left y z r.1 k);
        })

    pub none_next : (left : List A) → earliest time (filter (is_ready before left) left) ≡ None → (x : A) → Contains left x
        → ((y : A) → Contains left y → before y x ≡ false) → ⊥
    none_next left e x m h =
        let empty = none_earliest (filter (is_ready before left) left) e in
        let there = Contains-filter (is_ready before left) left x (is_ready_where left x h) m in
        Contains-nil x (subst (λ l. Contains l x) empty there)

    -- what is taken is of what was left
    pub taken_is : (n : ℕ) (left : List A) (x : A) → Contains (taken before time n left) x → Contains left x
    taken_is zero left x m = absurd (Contains-nil x m)
    taken_is (suc n) left x m =
        elim (earliest time (filter (is_ready before left) left)) as
        (λ o. earliest time (filter (is_ready before left) left) ≡ o → Contains
        (elim o as (λ p. List A) [ None ↦ [] | Some y ↦ y ∷ taken before time n (without time y left) ]) x → Contains left x) [
          | None ↦ λ e k. absurd (Contains-nil x k)
          | Some y ↦ λ e k. elim (Contains-cases y (taken before time n (without time y left)) x k) [
            | inl same ↦ subst (Contains left) (sym same) (next_is left y e).member
            | inr later ↦ (without_is y left x (taken_is n (without time y left) x later)).0
          ]
        ] refl m

    -- where some one is always ready all are taken
    pub taken_whole : (n : ℕ) (left : List A) → length left ≤ n → Differ left
        → ((some : List A) → ((y : A) → Contains some y → Contains left y) → (s : A) → Contains some s → (r : A) × Contains some r ×
        ((y : A) → Contains some y → before y r ≡ false))
        → (x : A) → Contains left x → Contains (taken before time n left) x
    taken_whole zero [] l d h x m = absurd (Contains-nil x m)
    taken_whole zero (y ∷ left) l d h x m = absurd (omega arith)
    taken_whole (suc n) left l d h x m =
        elim (earliest time (filter (is_ready before left) left)) as
        (λ o. earliest time (filter (is_ready before left) left) ≡ o → Contains
        (elim o as (λ p. List A) [ None ↦ [] | Some y ↦ y ∷ taken before time n (without time y left) ]) x) [
          | None ↦ λ e. let r = h left (λ y k. k) x m in absurd (none_next left e r.0 r.1 r.2)
          | Some y ↦ λ e.
              let next = next_is left y e in
              let fewer = one_fewer y left next.member in
              let rest = taken before time n (without time y left) in
              elim (cases_eq (time x) (time y)) [
                | inl s ↦ subst (Contains (y ∷ rest)) (d y x next.member m (sym s)) (Contains-here y rest)
                | inr s ↦
                    grind (arith, Contains-later, without, differ_without, without_is, in_without, (taken_whole n (without time y left) (omega arith) (differ_without y left d) (λ some within. h some (λ z k. (without_is y left z (within z k)).0)) x (in_without y left x m s)))
              ]
        ] refl

    -- each is taken before those that it comes before, and none twice
    abbrev pub IsAlongBy : List A → Type 0
    IsAlongBy [] = Unit {0}
    IsAlongBy (x ∷ rest) = ((y : A) → Contains rest y → (time y ≢ time x) × (before y x ≡ false)) × IsAlongBy rest

    pub taken_along : (n : ℕ) (left : List A) → IsAlongBy (taken before time n left)
    taken_along zero left = tt
    taken_along (suc n) left =
        elim (earliest time (filter (is_ready before left) left)) as
        (λ o. earliest time (filter (is_ready before left) left) ≡ o → IsAlongBy (elim o as (λ p. List A) [ None ↦ [] | Some y ↦ y ∷ taken before time n (without time y left) ])) [
          | None ↦ λ e. tt
          | Some x ↦ λ e. (
            (λ y m.
                let w = without_is x left y (taken_is n (without time x left) y m) in
                (w.1, (next_is left x e).ready y w.0)),
            taken_along n (without time x left),
          )
        ] refl
