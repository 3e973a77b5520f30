-- The first Commit of each transaction, one record after the other.
use Rattle.sdd_report.proofs.All.{Equal, Greater, Less, List, None, Option, Rec, ReportedCommit, Some, [], ap, arith, cases_Bool, cases_eq, cond, cons_option, eq-eqb, eqb-true, false, filter_map, filter_map-append, find, find-append, get_or, inl, inr, is_at, is_eq, is_of, is_some, length, nat_cmp, nat_cmp_is, ne_eqb, option_or, refl, reported_in, reported_of, subst, suc, sym, take, take_more, true, zero, ℕ, ◌++◌, ◌+◌, ◌<◌, ◌==◌, ◌∙◌, ◌∷◌, ◌≡◌, ◌⊎◌}

abbrev pub Found : (ℕ → Option ReportedCommit) → List (ℕ × Rec) → Type 0
Found made h = (n : ℕ) → made n ≡ reported_of h n

-- one record more
reported_more : (h : List (ℕ × Rec)) (i : ℕ) (e : ℕ × Rec) (o : Option ReportedCommit) (n : ℕ) → i < length h → e ≡ get_or h i e → reported_in e.1 ≡ o
    → reported_of (take (i + 1) h) n ≡ option_or (reported_of (take i h) n) (find (is_of n) (cons_option o []))
reported_more h i e o n l is some =
    let f : ℕ × Rec → Option ReportedCommit = λ made. reported_in made.1 in
    ap (λ xs. find (is_of n) (filter_map f xs)) (take_more h i e l ∙ ap (λ x. take i h ++ x ∷ []) (sym is))
    ∙ ap (find (is_of n)) (filter_map-append f (take i h) (e ∷ []))
    ∙ find-append (is_of n) (filter_map f (take i h)) (cons_option (reported_in e.1) [])
    ∙ ap (λ p. option_or (reported_of (take i h) n) (find (is_of n) (cons_option p []))) some

or_none : {X : Type 0} (o : Option X) → option_or o None ≡ o
or_none o = grind arith

-- a record that is no Commit
pub no_commit : (h : List (ℕ × Rec)) (i : ℕ) (e : ℕ × Rec) (made : ℕ → Option ReportedCommit) → i < length h → e ≡ get_or h i e
    → reported_in e.1 ≡ None → Found made (take i h) → Found made (take (i + 1) h)
no_commit h i e made l is none old n = old n ∙ sym (reported_more h i e None n l is none ∙ or_none (reported_of (take i h) n))

-- a Commit of a transaction that has one
pub further_commit : (h : List (ℕ × Rec)) (i : ℕ) (e : ℕ × Rec) (made : ℕ → Option ReportedCommit) (t : ReportedCommit) (key : ℕ) → i < length h
    → e ≡ get_or h i e
    → reported_in e.1 ≡ Some t → key ≡ t.txn → is_some (made key) ≡ true → Found made (take i h) → Found made (take (i + 1) h)
further_commit h i e made t key l is some same has old n =
    let before = reported_of (take i h) n in
    elim (cases_Bool (is_of n t)) [
      | inl y ↦
          let there : is_some before ≡ true =
          ap is_some (sym (old n)) ∙ subst (λ m. is_some (made m) ≡ true) (same ∙ eqb-true t.txn n y) has in
          old n ∙ sym (reported_more h i e (Some t) n l is some ∙ (grind arith))
      | inr f ↦
          old n ∙ sym (reported_more h i e (Some t) n l is some ∙ ap (option_or before) (ap (λ b. cond b (Some t) None) f) ∙ or_none before)
    ]

-- whether a key is another number
is_at_number : (k n : ℕ) → is_at (nat_cmp k) n ≡ (k == n)
is_at_number k n =
    elim (cases_eq k n) [
      | inl e ↦ ap is_eq (sym (nat_cmp_is k n Equal e)) ∙ sym (eq-eqb k n e)
      | inr d ↦ elim (less_or_greater k n d) [
        | inl l ↦ ap is_eq (sym (nat_cmp_is k n Less l)) ∙ sym (ne_eqb k n d)
        | inr g ↦ ap is_eq (sym (nat_cmp_is k n Greater g)) ∙ sym (ne_eqb k n d)
      ]
    ]
  where
    less_or_greater : (m n : ℕ) → (m ≡ n → ⊥) → (m < n) ⊎ (n < m)
    less_or_greater zero zero d = absurd (d refl)
    less_or_greater zero (suc n) d = inl (omega arith)
    less_or_greater (suc m) zero d = inr (omega arith)
    less_or_greater (suc m) (suc n) d =
        elim (less_or_greater m n (λ e. d (ap suc e))) [ inl l ↦ inl (omega arith) | inr l ↦ inr (omega arith) ]

-- the first Commit of a transaction
pub first_commit : (h : List (ℕ × Rec)) (i : ℕ) (e : ℕ × Rec) (made new : ℕ → Option ReportedCommit) (t : ReportedCommit) (key : ℕ) → i < length h
    → e ≡ get_or h i e
    → reported_in e.1 ≡ Some t → key ≡ t.txn → is_some (made key) ≡ false
    → ((n : ℕ) → new n ≡ cond (is_at (nat_cmp key) n) (Some t) (made n))
    → Found made (take i h) → Found new (take (i + 1) h)
first_commit h i e made new t key l is some same absent updates old n =
    let before = reported_of (take i h) n in
    let now : new n ≡ cond (is_of n t) (Some t) (made n) =
    updates n ∙ ap (λ b. cond b (Some t) (made n)) (is_at_number key n ∙ ap (λ m. m == n) same) in
    elim (cases_Bool (is_of n t)) [
      | inl y ↦
          let nothing : is_some before ≡ false =
          ap is_some (sym (old n)) ∙ subst (λ m. is_some (made m) ≡ false) (same ∙ eqb-true t.txn n y) absent in
          now ∙ ap (λ b. cond b (Some t) (made n)) y
          ∙ sym (reported_more h i e (Some t) n l is some ∙ (grind arith) ∙ (ap (λ b. cond b (Some t) None) y))
      | inr f ↦
          let other : find (is_of n) (t ∷ []) ≡ None = ap (λ b. cond b (Some t) None) f in
          now ∙ ap (λ b. cond b (Some t) (made n)) f ∙ old n
          ∙ sym (reported_more h i e (Some t) n l is some ∙ ap (option_or before) other ∙ or_none before)
    ]
