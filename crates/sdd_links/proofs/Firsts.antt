-- The first and the last place of records that pass a test: what they tell of which comes before which.
use Rattle.sdd_links.proofs.All.{Bool, History, IsRecordAt, None, Option, Rec, Some, [], ap, arith, cases_Bool, comes_before, cond, false, find, find-append, first_place, get_or, inl, inr, is_below, last_place, length, lt-ltb, ltb-true, nat_lt, option_map, option_or, placed, refl, reverse, reverse-append, same_Some, suc, sym, take, true, zero, ℕ, ◌+◌, ◌<◌, ◌∙◌, ◌∷◌, ◌≡◌, ◌≤◌}
use Rattle.sdd_links.proofs.Before.{in_turn, comes_from}
use Rattle.sdd_links.proofs.Reading.{placed_more}

one_of : (k : ℕ) (r : Rec) (b : Bool) → option_map (λ (x : ℕ × Rec). x.0) (cond b (Some (k, r)) None) ≡ cond b (Some k) None
one_of k r b = grind arith

module _ (p : Rec → Bool) where
  -- the first and the last where the records stand from k on
  abbrev first_from : ℕ → History → Option ℕ
  first_from k h = option_map (λ e. e.0) (find (λ e. p e.1) (placed k h))

  abbrev last_from : ℕ → History → Option ℕ
  last_from k h = option_map (λ e. e.0) (find (λ e. p e.1) (reverse (placed k h)))

  -- such a record stands there
  abbrev Passes : History → ℕ → Type 0
  Passes h a = (r : Rec) × IsRecordAt h a r × (p r ≡ true)

  last_step : (k : ℕ) (e : ℕ × Rec) (h : History)
      → last_from k (e ∷ h) ≡ option_or (last_from (suc k) h) (cond (p e.1) (Some k) None)
  last_step k e h =
      let test : ℕ × Rec → Bool = λ x. p x.1 in
      let rest = placed (suc k) h in
      ap (λ l. option_map (λ (x : ℕ × Rec). x.0) (find test l)) (reverse-append ((k, e.1) ∷ []) rest)
      ∙ ap (option_map (λ (x : ℕ × Rec). x.0)) (find-append test (reverse rest) ((k, e.1) ∷ []))
      ∙ (grind arith)
      ∙ ap (option_or (last_from (suc k) h)) (one_of k e.1 (p e.1))

  -- the first is the least
  first_is : (k : ℕ) (h : History) (b : ℕ) → first_from k h ≡ Some b → (a : ℕ) × (b ≡ k + a) × Passes h a
  first_is k [] b e = absurd (cc)
  first_is k (x ∷ h) b e =
      elim (cases_Bool (p x.1)) [
        | inl t ↦
            let here : Some k ≡ Some b = sym ((grind arith) ∙ ap (λ z. cond z (Some k) (first_from (suc k) h)) t) ∙ e in
            let same : k ≡ b = same_Some k b here in
            (0, omega (arith, same), (x.1, refl, t))
        | inr f ↦
            let rest = sym ((grind arith) ∙ ap (λ z. cond z (Some k) (first_from (suc k) h)) f) ∙ e in
            let r = first_is (suc k) h b rest in
            let is = r.1 in
            (suc r.0, omega (arith, is), r.2)
      ]

  first_least : (k : ℕ) (h : History) (j : ℕ) → Passes h j → (a : ℕ) × (first_from k h ≡ Some (k + a)) × (a ≤ j)
  first_least k [] j s = absurd (let is_recorded = s.1 in cc)
  first_least k (x ∷ h) zero s = grind arith
  first_least k (x ∷ h) (suc j) s =
      elim (cases_Bool (p x.1)) [
        | inl t ↦
            grind (arith, first_from)
        | inr f ↦
            let r = first_least (suc k) h j s in
            let l = r.2 in
            let same : suc k + r.0 ≡ k + suc r.0 = omega arith in (
              suc r.0,
              (grind arith) ∙ ap (λ z. cond z (Some k) (first_from (suc k) h)) f ∙ r.1 ∙ ap (λ (z : ℕ). Some z) same,
              omega arith,
            )
      ]

  -- the last is the greatest
  last_is : (k : ℕ) (h : History) (b : ℕ) → last_from k h ≡ Some b → (a : ℕ) × (b ≡ k + a) × Passes h a
  last_is k [] b e = absurd (cc)
  last_is k (x ∷ h) b e =
      elim (last_from (suc k) h) as
      (λ o. last_from (suc k) h ≡ o → option_or o (cond (p x.1) (Some k) None) ≡ Some b → (a : ℕ) × (b ≡ k + a) × Passes (x ∷ h) a) [
        | None ↦ λ none here. elim (cases_Bool (p x.1)) [
          | inl t ↦
              let same : k ≡ b = same_Some k b (sym (ap (λ z. cond z (Some k) None) t) ∙ here) in
              (0, omega (arith, same), (x.1, refl, t))
          | inr f ↦
              let wrong : None ≡ Some b = sym (ap (λ z. cond z (Some k) None) f) ∙ here in
              absurd (cc)
        ]
        | Some c ↦ λ some here.
            let r = last_is (suc k) h c some in
            let same : c ≡ b = same_Some c b here in
            let is = r.1 in
            (suc r.0, omega (arith, is, same), r.2)
      ] refl (sym (last_step k x h) ∙ e)

  last_greatest : (k : ℕ) (h : History) (j : ℕ) → Passes h j → (a : ℕ) × (last_from k h ≡ Some (k + a)) × (j ≤ a)
  last_greatest k [] j s = absurd (let is_recorded = s.1 in cc)
  last_greatest k (x ∷ h) zero s =
      let passes : p x.1 ≡ true = ap p (same_Some x.1 s.0 s.1) ∙ s.2 in
      elim (last_from (suc k) h) as
      (λ o. last_from (suc k) h ≡ o → last_from k (x ∷ h) ≡ option_or o (cond (p x.1) (Some k) None) → (a : ℕ) × (last_from k (x ∷ h) ≡ Some (k + a)) × (zero ≤ a)) [
        | None ↦ grind arith
        | Some c ↦ λ some is.
            let r = last_is (suc k) h c some in
            let c_is = r.1 in
            let same : c ≡ k + suc r.0 = omega (arith, c_is) in
            (suc r.0, is ∙ ap (λ (z : ℕ). Some z) same, omega arith)
      ] refl (last_step k x h)
  last_greatest k (x ∷ h) (suc j) s =
      let r = last_greatest (suc k) h j s in
      let l = r.2 in
      let same : suc k + r.0 ≡ k + suc r.0 = omega arith in (
        suc r.0,
        last_step k x h ∙ ap (λ o. option_or o (cond (p x.1) (Some k) None)) r.1 ∙ ap (λ (z : ℕ). Some z) same,
        omega arith,
      )

  -- one record more
  pub first_more : (h : History) (i : ℕ) (e : ℕ × Rec) → i < length h → e ≡ get_or h i e
      → first_place p (take (i + 1) h) ≡ option_or (first_place p (take i h)) (cond (p e.1) (Some i) None)
  first_more h i e l is =
      let test : ℕ × Rec → Bool = λ x. p x.1 in
      let before = placed 0 (take i h) in
      ap (λ xs. option_map (λ (x : ℕ × Rec). x.0) (find test xs)) (placed_more h i e l is)
      ∙ ap (option_map (λ (x : ℕ × Rec). x.0)) (find-append test before ((i, e.1) ∷ []))
      ∙ (grind arith)
      ∙ ap (option_or (first_place p (take i h))) (one_of i e.1 (p e.1))

  pub last_more : (h : History) (i : ℕ) (e : ℕ × Rec) → i < length h → e ≡ get_or h i e
      → last_place p (take (i + 1) h) ≡ cond (p e.1) (Some i) (last_place p (take i h))
  last_more h i e l is =
      let test : ℕ × Rec → Bool = λ x. p x.1 in
      let before = placed 0 (take i h) in
      ap (λ xs. option_map (λ (x : ℕ × Rec). x.0) (find test (reverse xs))) (placed_more h i e l is)
      ∙ ap (λ xs. option_map (λ (x : ℕ × Rec). x.0) (find test xs)) (reverse-append before ((i, e.1) ∷ []))
      ∙ last_of i e.1 (find test (reverse before)) (p e.1)
    where
      last_of : (k : ℕ) (r : Rec) (o : Option (ℕ × Rec)) (b : Bool) → option_map (λ (x : ℕ × Rec). x.0) (cond b (Some (k, r)) o)
          ≡ cond b (Some k) (option_map (λ (x : ℕ × Rec). x.0) o)
      last_of k r o true = refl
      last_of k r o false = refl

record Below (o q : Option ℕ) : Type 0 where
  pub first : ℕ
  pub last : ℕ
  pub first_is : o ≡ Some first
  pub last_is : q ≡ Some last
  pub before : first < last

below_parts : (o q : Option ℕ) → is_below o q ≡ true → Below o q
below_parts o q e = grind (arith, first_is, last_is, ltb-true)

pub comes_before_is : (p q : Rec → Bool) (h : History) → comes_before p q h ≡ is_below (first_place p h) (last_place q h)
comes_before_is p q h =
    elim (cases_Bool (comes_before p q h)) [
      | inl t ↦
          let r = in_turn p q h t in
          let a = first_least p 0 h r.first.place (r.first.rec, r.first.is_recorded, r.first.passes) in
          let b = last_greatest q 0 h r.second.place (r.second.rec, r.second.is_recorded, r.second.passes) in
          let i_first = r.before in
          let a_least = a.2 in
          let b_greatest = b.2 in
          let below : nat_lt (0 + a.0) (0 + b.0) ≡ true = lt-ltb (0 + a.0) (0 + b.0) (omega arith) in
          t ∙ sym (ap (λ o. is_below o (last_place q h)) a.1 ∙ ap (is_below (Some (0 + a.0))) b.1 ∙ below)
      | inr f ↦
          grind (arith, cases_Bool, is_below, first_place, last_place, below_parts, first_is, last_is, comes_from)
    ]
