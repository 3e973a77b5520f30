-- Orders in turn, by their tests and by their members.
use Rattle.sdd_verify.proofs.All.{Bool, IsInTurn, List, TxnNo, [], arith, at, class_of, eq-eqb, eqb-true, is_in_turn, length, list_all, lt-ltb, ltb-true, may_follow, nat_lt, nat_tests, ne_eqb, refl, suc, true, zero, ℕ, ◌&&◌, ◌<◌, ◌∷◌, ◌≡◌, ◌≢◌}

module _ (classes : List ℕ) where
  abbrev MayFollow : TxnNo → TxnNo → Type 0
  MayFollow m n = (m.0 ≢ n.0) × (class_of classes m ≡ class_of classes n → m.0 < n.0)

  tells : (m n : TxnNo) → may_follow classes m n ≡ true → MayFollow m n
  tells m n h = (grind (arith, nat_tests, eq-eqb, ltb-true, class_of))

  follows : (m n : TxnNo) → MayFollow m n → may_follow classes m n ≡ true
  follows m n h = (grind (arith, nat_tests, ne_eqb, nat_lt, lt-ltb, eqb-true, class_of))

  both : (a b : Bool) → (a && b) ≡ true → (a ≡ true) × (b ≡ true)
  both a b e = grind (arith, nat_tests)

  each : (m : TxnNo) (order : List TxnNo) (k : ℕ) → list_all (may_follow classes m) order ≡ true → k < length order → MayFollow m (at order k)
  each m [] k h lt = absurd (omega arith)
  each m (n ∷ order) zero h lt = tells m n (both (may_follow classes m n) (list_all (may_follow classes m) order) h).0
  each m (n ∷ order) (suc k) h lt = each m order k (both (may_follow classes m n) (list_all (may_follow classes m) order) h).1 (omega arith)

  -- the test tells it of each two members
  pub in_turn : (order : List TxnNo) → is_in_turn classes order ≡ true → IsInTurn classes order
  in_turn (n ∷ order) h zero (suc k) less within = each n order k (both (list_all (may_follow classes n) order) (is_in_turn classes order) h).0 (omega arith)
  in_turn (n ∷ order) h (suc i) (suc k) less within = grind (
    arith,
    nat_tests,
    both,
    list_all,
    may_follow,
    is_in_turn,
    (in_turn order (both (list_all (may_follow classes n) order) (is_in_turn classes order) h).1 i k (omega arith) (omega arith)),
  )
  in_turn _ h i _ less within = absurd (omega arith)

  all_follow : (m : TxnNo) (order : List TxnNo) → ((k : ℕ) → k < length order → MayFollow m (at order k)) → list_all (may_follow classes m) order ≡ true
  all_follow m [] h = refl
  all_follow m (n ∷ order) h =
      let first = follows m n (h 0 (omega arith)) in
      let more = all_follow m order (λ k lt. h (suc k) (omega arith)) in
      rw (first, more) refl

  -- and the other way round
  pub in_turn_again : (order : List TxnNo) → IsInTurn classes order → is_in_turn classes order ≡ true
  in_turn_again [] h = refl
  in_turn_again (n ∷ order) h =
      let first = all_follow n order (λ k lt. h 0 (suc k) (omega arith) (omega arith)) in
      let more = in_turn_again order (λ i k less within. h (suc i) (suc k) (omega arith) (omega arith)) in
      rw (first, more) refl
