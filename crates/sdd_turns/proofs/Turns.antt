-- Orders in which each transaction may stand after those before it, one transaction more.
use Rattle.sdd_turns.proofs.All.{Bool, Equal, Greater, Less, List, None, Option, Some, TxnNo, [], allows, and_parts, ap, append-nil, append_assoc, arith, cases_Bool, cases_eq, class_of, cond, drop, eq-eqb, eqb-true, false, get_or, inl, inr, is_at, is_eq, is_in_turn, length, list_all, list_all-append, lt-ltb, ltb-true, may_follow, nat_cmp, nat_cmp_is, nat_lt, nat_tests, ne_eqb, not, or_else, refl, same_Some, subst, suc, sym, take, take-append-drop, take_more, true, zero, ℕ, ◌&&◌, ◌++◌, ◌+◌, ◌<◌, ◌==◌, ◌||◌, ◌∙◌, ◌∷◌, ◌≡◌, ◌⊎◌}

-- whether a key is another number
pub is_at_number : (k n : ℕ) → is_at (nat_cmp k) n ≡ (k == n)
is_at_number k n =
    elim (cases_eq k n) [
      | inl e ↦ ap is_eq (sym (nat_cmp_is k n Equal e)) ∙ sym (eq-eqb k n e)
      | inr d ↦ elim (less_or_greater k n d) [
        | inl l ↦ ap is_eq (sym (nat_cmp_is k n Less l)) ∙ sym (ne_eqb k n d)
        | inr g ↦ ap is_eq (sym (nat_cmp_is k n Greater g)) ∙ sym (ne_eqb k n d)
      ]
    ]
  where
    less_or_greater : (m n : ℕ) → (m ≡ n → ⊥) → (m < n) ⊎ (n < m)
    less_or_greater zero zero d = absurd (d refl)
    less_or_greater zero (suc n) d = inl (omega arith)
    less_or_greater (suc m) zero d = inr (omega arith)
    less_or_greater (suc m) (suc n) d = elim (less_or_greater m n (λ e. d (ap suc e))) [ inl l ↦ inl (omega arith) | inr l ↦ inr (omega arith) ]

module _ (classes : List ℕ) where
  abbrev Class : TxnNo → ℕ
  Class n = class_of classes n

  -- that it is another one need not be asked
  follows_by_class : (m n : TxnNo) (same class less : Bool) → (m.0 == n.0) ≡ same → (Class m == Class n) ≡ class → nat_lt m.0 n.0 ≡ less
      → (not same && (not class || less)) ≡ (not class || less)
  follows_by_class m n same class less e f g = grind (arith, nat_tests, eqb-true, ltb-true, Class, eq-eqb)

  -- the last of a class
  abbrev pub last_of : ℕ → List TxnNo → Option ℕ
  last_of c [] = None
  last_of c (n ∷ order) = or_else (last_of c order) (cond (Class n == c) (Some n.0) None)

  -- one more at the end

  or_none : (a : Option ℕ) → or_else a None ≡ a
  or_none a = grind (arith, nat_tests)

  pub last_more : (c : ℕ) (order : List TxnNo) (n : TxnNo) → last_of c (order ++ n ∷ []) ≡ or_else (cond (Class n == c) (Some n.0) None) (last_of c order)
  last_more c [] n = sym (or_none (cond (Class n == c) (Some n.0) None))
  last_more c (m ∷ order) n = grind (arith, nat_tests, Class, last_of, (last_more c order n))

  pub turn_more : (order : List TxnNo) (n : TxnNo)
      → is_in_turn classes (order ++ n ∷ []) ≡ (is_in_turn classes order && list_all
      (λ m. may_follow classes m n) order)
  turn_more [] n = refl
  turn_more (m ∷ order) n =
      let more = turn_more order n in
      let front = list_all-append (may_follow classes m) order (n ∷ []) in
      rw (front, more) (regroup (list_all (may_follow classes m) order) (may_follow classes m n)
      (is_in_turn classes order) (list_all (λ k. may_follow classes k n) order))
    where
      regroup : (a b c d : Bool) → ((a && (b && true)) && (c && d)) ≡ ((a && c) && (b && d))
      regroup true true c d = refl
      regroup true false true d = refl
      regroup true false false d = refl
      regroup false b c d = refl

  -- the last of a class was submitted after all of it before

  last_by : (c p : ℕ) (m n : TxnNo) (class : Bool) (rest : Option ℕ) → (Class n == c) ≡ class → may_follow classes m n ≡ true → Class m ≡ c
      → (rest ≡ Some p → m.0 < p) → or_else rest (cond class (Some n.0) None) ≡ Some p → m.0 < p
  last_by c p m n class rest e f is above g = grind (arith, nat_tests, same_Some, Class, eq-eqb, eqb-true, nat_lt, follows_by_class, ltb-true)

  last_above : (c p : ℕ) (m : TxnNo) (order : List TxnNo) → list_all (may_follow classes m) order ≡ true → Class m ≡ c → last_of c order ≡ Some p → m.0 < p
  last_above c p m [] h is e = absurd cc
  last_above c p m (n ∷ order) h is e = grind (arith, and_parts, may_follow, list_all, last_by, Class, last_of, (last_above c p m order))

  -- so it alone is to be compared

  compared : (c : ℕ) (m n : TxnNo) (class less : Bool) (rest : Option ℕ) → Class n ≡ c → (Class m == c) ≡ class → nat_lt m.0 n.0 ≡ less
      → ((p : ℕ) → rest ≡ Some p → class ≡ true → m.0 < p) → ((not class || less) && allows rest n.0) ≡ allows (or_else rest (cond class (Some m.0) None)) n.0
  compared c m n class less rest is e f above = grind (arith, cases_Bool, nat_lt, ltb-true, lt-ltb, nat_tests)

  pub followed : (order : List TxnNo) (n : TxnNo) → is_in_turn classes order ≡ true
      → list_all (λ m. may_follow classes m n) order ≡ allows (last_of (Class n) order) n.0
  followed [] n h = refl
  followed (m ∷ order) n h =
      grind (arith, and_parts, list_all, may_follow, is_in_turn, follows_by_class, compared, Class, nat_lt, last_of, last_above, eqb-true, (followed order n))

  -- an order that isn't in turn from the front isn't

  pub never_in_turn : (order rest : List TxnNo) → is_in_turn classes order ≡ false → is_in_turn classes (order ++ rest) ≡ false
  never_in_turn order [] h = rw append-nil h
  never_in_turn order (n ∷ rest) h = grind (arith, is_in_turn, turn_more, list_all, may_follow, append_assoc, (never_in_turn (order ++ n ∷ []) rest))

  -- one step of the loop

  -- of each class the last one is kept
  abbrev pub AreLast : (ℕ → Option ℕ) → List TxnNo → Type 0
  AreLast kept order = (c : ℕ) → kept c ≡ last_of c order

  turn_at : (order : List TxnNo) (i : ℕ) (d : TxnNo) (kept : ℕ → Option ℕ) → i < length order
      → is_in_turn classes (take i order) ≡ true → AreLast kept (take i order)
      → is_in_turn classes (take (i + 1) order) ≡ allows (kept (Class (get_or order i d))) (get_or order i d).0
  turn_at order i d kept lt so_far last =
      let n : TxnNo = get_or order i d in
      let one : list_all (λ m. may_follow classes m n) (take i order) ≡ allows (kept (Class n)) n.0 = grind (arith, nat_tests, followed, allows, Class) in
      ap (is_in_turn classes) (take_more order i d lt) ∙ turn_more (take i order) n ∙ rw (so_far, one) refl

  -- one that may not stand there
  pub stops : (order : List TxnNo) (i : ℕ) (d : TxnNo) (class : ℕ) (kept : ℕ → Option ℕ) → i < length order → class ≡ Class (get_or order i d)
      → is_in_turn classes (take i order) ≡ true → AreLast kept (take i order)
      → allows (kept class) (get_or order i d).0 ≡ false → is_in_turn classes order ≡ false
  stops order i d class kept lt is so_far last refused =
      let n : TxnNo = get_or order i d in
      let turn : is_in_turn classes (take (i + 1) order) ≡ false = grind (arith, nat_tests, turn_at, allows) in
      subst (λ (l : List TxnNo). is_in_turn classes l ≡ false) (take-append-drop (i + 1) order) (never_in_turn (take (i + 1) order) (drop (i + 1) order) turn)

  -- one that may stand there
  pub goes_on : (order : List TxnNo) (i : ℕ) (d : TxnNo) (class : ℕ) (kept : ℕ → Option ℕ) → i < length order → class ≡ Class (get_or order i d)
      → is_in_turn classes (take i order) ≡ true → AreLast kept (take i order)
      → allows (kept class) (get_or order i d).0 ≡ true → is_in_turn classes (take (i + 1) order) ≡ true
  goes_on order i d class kept lt is so_far last allowed = grind (arith, nat_tests, turn_at, allows, get_or)

  -- and it is the last of its class
  pub last_at : (order : List TxnNo) (i : ℕ) (d : TxnNo) (class : ℕ) (kept new : ℕ → Option ℕ) → i < length order → class ≡ Class (get_or order i d)
      → AreLast kept (take i order) → ((c : ℕ) → new c ≡ cond (is_at (nat_cmp class) c) (Some (get_or order i d).0) (kept c)) → AreLast new (take (i + 1) order)
  last_at order i d class kept new lt is last updates c =
      let n : TxnNo = get_or order i d in
      let before : Option ℕ = last_of c (take i order) in
      updates c ∙ ap (λ (b : Bool). cond b (Some n.0) (kept c)) (is_at_number class c) ∙ ap (λ (o : Option ℕ). cond (class == c) (Some n.0) o) (last c)
      ∙ (grind (arith, nat_tests, Class)) ∙ sym (ap (last_of c) (take_more order i d lt) ∙ last_more c (take i order) n)
