-- When two ways of taking take the same.
use Rattle.sdd_links.proofs.All.{Bool, Contains, Contains-here, Contains-later, IsPath, List, None, Option, Some, [], ap, arith, cases_eq, cases_lt, cond, earlier, earliest, eq-eqb, false, filter, inl, inr, is_ready, list_any, map, ne_eqb, not, option_map, refl, subst, suc, sym, taken, true, without, zero, ℕ, ◌<◌, ◌==◌, ◌||◌, ◌∙◌, ◌∷◌, ◌≡◌, ◌≤◌}
use Rattle.sdd_links.proofs.Taken.{IsNext, next_is, is_next, Differ, differ_without, without_is, in_without}

-- what is taken first, and the rest
abbrev after : {A : Type 0} → (A → A → Bool) → (A → ℕ) → ℕ → List A → Option A → List A
after before time n left None = []
after before time n left (Some x) = x ∷ taken before time n (without time x left)

-- Lists that are alike have the same next item, and stay alike without it.
module _ {A : Type 0} (before1 before2 : A → A → Bool) (time1 time2 : A → ℕ) (Alike : List A → List A → Type 0)
    (differ1 : (l m : List A) → Alike l m → Differ time1 l) (differ2 : (l m : List A) → Alike l m → Differ time2 m)
    (forth : (l m : List A) → Alike l m → (x : A) → IsNext time1 before1 l x → IsNext time2 before2 m x)
    (back : (l m : List A) → Alike l m → (x : A) → IsNext time2 before2 m x → IsNext time1 before1 l x)
    (rest : (l m : List A) → Alike l m → (x : A) → IsNext time1 before1 l x → Alike (without time1 x l) (without time2 x m)) where
  abbrev first1 : List A → Option A
  first1 l = earliest time1 (filter (is_ready before1 l) l)

  abbrev first2 : List A → Option A
  first2 m = earliest time2 (filter (is_ready before2 m) m)

  same_none : (l m : List A) → Alike l m → first1 l ≡ None → first2 m ≡ None
  same_none l m a e =
      elim (first2 m) as (λ o. first2 m ≡ o → o ≡ None) [
        | None ↦ λ f. refl
        | Some y ↦ λ f.
            let other = is_next time1 before1 l (differ1 l m a) y (back l m a y (next_is time2 before2 m y f)) in
            let wrong : Some y ≡ None = sym other ∙ e in
            absurd (cc)
      ] refl

  pub taken_alike : (n : ℕ) (l m : List A) → Alike l m → taken before1 time1 n l ≡ taken before2 time2 n m
  taken_alike zero l m a = refl
  taken_alike (suc n) l m a =
      elim (first1 l) as (λ o. first1 l ≡ o → after before1 time1 n l o ≡ after before2 time2 n m (first2 m)) [
        | None ↦ λ e. ap (after before2 time2 n m) (sym (same_none l m a e))
        | Some x ↦ λ e.
            let next = next_is time1 before1 l x e in
            let other = is_next time2 before2 m (differ2 l m a) x (forth l m a x next) in
            ap (λ t. x ∷ t) (taken_alike n (without time1 x l) (without time2 x m) (rest l m a x next))
            ∙ ap (after before2 time2 n m) (sym other)
      ] refl

-- the members of lists, and not their order, tell what is taken
module _ {A : Type 0} (before : A → A → Bool) (time : A → ℕ) where
  record SameMembers (l m : List A) : Type 0 where
    pub forth : (x : A) → Contains l x → Contains m x
    pub back : (x : A) → Contains m x → Contains l x
    pub differ : Differ time l

  other_way : (l m : List A) → SameMembers l m → SameMembers m l
  other_way l m a = record { forth = a.back; back = a.forth; differ = λ x y i j e. a.differ x y (a.back x i) (a.back y j) e }

  same_next : (l m : List A) → SameMembers l m → (x : A) → IsNext time before l x → IsNext time before m x
  same_next l m a x next = record {
    member = a.forth x next.member;
    ready = λ y i. next.ready y (a.back y i);
    least = λ y i h. next.least y (a.back y i) (λ z j. h z (a.forth z j));
  }

  same_rest : (l m : List A) → SameMembers l m → (x : A) → IsNext time before l x → SameMembers (without time x l) (without time x m)
  same_rest l m a x next = record {
    forth = λ y i. let w = without_is time x l y i in in_without time x m y (a.forth y w.0) w.1;
    back = λ y i. let w = without_is time x m y i in in_without time x l y (a.back y w.0) w.1;
    differ = differ_without time x l a.differ;
  }

  pub taken_by_members : (n : ℕ) (l m : List A) → Differ time l → ((x : A) → Contains l x → Contains m x) → ((x : A) → Contains m x → Contains l x)
      → taken before time n l ≡ taken before time n m
  taken_by_members n l m differ f b =
      taken_alike before before time time SameMembers (λ l m a. a.differ) (λ l m a. (other_way l m a).differ) same_next
      (λ l m a x next. same_next m l (other_way l m a) x next) same_rest n l m (record { forth = f; back = b; differ = differ })

-- of items by other names, what is taken has other names
module _ {A B : Type 0} (f : A → B) (before : B → B → Bool) (time : B → ℕ) where
  abbrev before_as : A → A → Bool
  before_as x y = before (f x) (f y)

  abbrev time_as : A → ℕ
  time_as x = time (f x)

  filter-map : (p : B → Bool) (xs : List A) → filter p (map f xs) ≡ map f (filter (λ x. p (f x)) xs)
  filter-map p [] = refl
  filter-map p (x ∷ xs) = grind (arith, filter-map p xs)

  any-map : (p : B → Bool) (xs : List A) → list_any p (map f xs) ≡ list_any (λ x. p (f x)) xs
  any-map p [] = refl
  any-map p (x ∷ xs) = ap (λ b. p (f x) || b) (any-map p xs)

  earliest-map : (xs : List A) → earliest time (map f xs) ≡ option_map f (earliest time_as xs)
  earliest-map [] = refl
  earliest-map (x ∷ xs) = ap (earlier time (f x)) (earliest-map xs) ∙ (grind arith)

  after-map : (n : ℕ) (left : List A) → ((l : List A) → taken before time n (map f l) ≡ map f (taken before_as time_as n l)) → (o : Option A)
      → after before time n (map f left) (option_map f o) ≡ map f (after before_as time_as n left o)
  after-map n left ih e = grind (arith, filter-map)

  pub taken-map : (n : ℕ) (left : List A) → taken before time n (map f left) ≡ map f (taken before_as time_as n left)
  taken-map zero left = refl
  taken-map (suc n) left =
      ap (after before time n (map f left)) (grind (arith, filter-map, any-map, earliest-map))
      ∙ after-map n left (taken-map n) (earliest time_as (filter (is_ready before_as left) left))

-- Links between numbers that a relation follows from: along them the same is taken as along the relation.
module _ (all : List ℕ) (link before : ℕ → ℕ → Bool) (time : ℕ → ℕ)
    (link_before : (i j : ℕ) → link i j ≡ true → before i j ≡ true)
    (link_to : (i j : ℕ) → link i j ≡ true → Contains all j)
    (linked : (i j : ℕ) → Contains all i → Contains all j → before i j ≡ true → (m : List ℕ) × IsPath (λ k l. link k l ≡ true) i m j)
    (rises : (i j : ℕ) → Contains all i → Contains all j → i < j → time i < time j) where
  -- some of them, with all that are linked from one of them
  record Rest (left : List ℕ) : Type 0 where
    pub within : (i : ℕ) → Contains left i → Contains all i
    pub closed : (i j : ℕ) → Contains left i → link i j ≡ true → Contains left j

  record AreRest (l m : List ℕ) : Type 0 where
    pub same : l ≡ m
    pub rest : Rest l

  same_time : (i j : ℕ) → Contains all i → Contains all j → time i ≡ time j → i ≡ j
  same_time i j m n e =
      elim (cases_lt i j) [
        | inl l ↦ let t = rises i j m n l in absurd (omega arith)
        | inr g ↦ elim (cases_lt j i) [ inl l ↦ (let t = rises j i n m l in absurd (omega arith)) | inr f ↦ omega arith ]
      ]

  time_keeps : (i j : ℕ) → Contains all i → Contains all j → i ≤ j → time i ≤ time j
  time_keeps i j m n l =
      elim (cases_lt i j) [
        | inl k ↦ let t = rises i j m n k in omega arith
        | inr g ↦ let e : i ≡ j = omega arith in let same : time i ≡ time j = ap time e in omega arith
      ]

  time_tells : (i j : ℕ) → Contains all i → Contains all j → time i ≤ time j → i ≤ j
  time_tells i j m n l = grind arith

  -- the last step of a path comes from one of them
  last_step : (left : List ℕ) → Rest left → (i : ℕ) (m : List ℕ) (j : ℕ) → Contains left i → IsPath (λ k l. link k l ≡ true) i m j
      → (k : ℕ) × Contains left k × (link k j ≡ true)
  last_step left r i [] j c p = (i, c, p)
  last_step left r i (k ∷ m) j c p = last_step left r k m j (r.closed i k c p.0) p.1

  is_true : (b : Bool) → (b ≡ true → ⊥) → b ≡ false
  is_true b n = grind arith

  not_both : (b : Bool) → b ≡ true → b ≡ false → ⊥
  not_both b t f = let wrong : true ≡ false = sym t ∙ f in absurd (cc)

  -- ready along the links is ready along the relation, and the other way
  ready_forth : (left : List ℕ) → Rest left → (i : ℕ) → Contains left i → ((k : ℕ) → Contains left k → link k i ≡ false)
      → (k : ℕ) → Contains left k → before k i ≡ false
  ready_forth left r i c h k d =
      is_true (before k i)
      (λ t.
      let path = linked k i (r.within k d) (r.within i c) t in
      let end = last_step left r k path.0 i d path.1 in
      not_both (link end.0 i) end.2 (h end.0 end.1))

  next_forth : (left : List ℕ) → Rest left → (i : ℕ) → IsNext (λ j. j) link left i → IsNext time before left i
  next_forth left r i next = record {
    member = next.member;
    ready = ready_forth left r i next.member next.ready;
    least = λ j c h.
        time_keeps i j (r.within i next.member) (r.within j c) (next.least j c (λ k d. (is_true (link k j) (λ t. not_both (before k j) (link_before k j t) (h k d)))));
  }

  next_back : (left : List ℕ) → Rest left → (i : ℕ) → IsNext time before left i → IsNext (λ j. j) link left i
  next_back left r i next = record {
    member = next.member;
    ready = λ k d. (is_true (link k i) (λ t. not_both (before k i) (link_before k i t) (next.ready k d)));
    least = λ j c h. time_tells i j (r.within i next.member) (r.within j c) (next.least j c (ready_forth left r j c h));
  }

  rest_without : (left : List ℕ) → Rest left → (i : ℕ) → IsNext (λ j. j) link left i → Rest (without (λ j. j) i left)
  rest_without left r i next = record {
    within = λ j c. r.within j (without_is (λ k. k) i left j c).0;
    closed = λ j k c t.
        let w = without_is (λ z. z) i left j c in
        let d = r.closed j k w.0 t in
        in_without (λ z. z) i left k d (λ e. not_both (link j k) t (subst (λ z. link j z ≡ false) (sym e) (next.ready j w.0)));
  }

  same_without : (left : List ℕ) → Rest left → (i : ℕ) → Contains left i → without (λ j. j) i left ≡ without time i left
  same_without left r i c = same_filter left (λ j d. r.within j d)
    where
      same_test : (j : ℕ) → Contains all j → not (j == i) ≡ not (time j == time i)
      same_test j d =
          elim (cases_eq j i) [
            | inl e ↦ ap not (eq-eqb j i e ∙ sym (eq-eqb (time j) (time i) (ap time e)))
            | inr n ↦ ap not (ne_eqb j i n ∙ sym (ne_eqb (time j) (time i) (λ e. n (same_time j i d (r.within i c) e))))
          ]

      same_filter : (some : List ℕ) → ((j : ℕ) → Contains some j → Contains all j) → without (λ j. j) i some ≡ without time i some
      same_filter [] h = refl
      same_filter (j ∷ some) h =
          ap (λ b. cond b (j ∷ without (λ k. k) i some) (without (λ k. k) i some)) (same_test j (h j (Contains-here j some)))
          ∙ ap (λ l. cond (not (time j == time i)) (j ∷ l) l) (same_filter some (λ k d. h k (Contains-later j some k d)))

  pub taken_by_links : (n : ℕ) (left : List ℕ) → ((i : ℕ) → Contains left i → Contains all i)
      → ((i j : ℕ) → Contains left i → link i j ≡ true → Contains left j)
      → taken link (λ i. i) n left ≡ taken before time n left
  taken_by_links n left within closed =
      taken_alike link before (λ i. i) time AreRest
      (λ l m a i j c d e. e)
      (grind (arith, same_time))
      (λ l m a i next. subst (λ z. IsNext time before z i) a.same (next_forth l a.rest i next))
      (λ l m a i next. next_back l a.rest i (subst (λ z. IsNext time before z i) (sym a.same) next))
      (grind (arith, same_without, without, rest_without))
      n left left (record { same = refl; rest = record { within = within; closed = closed } })
