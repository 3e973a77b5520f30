-- An order of a workload's transactions, by their places in the order of submission.
use Rattle.sdd_verified.proofs.All.{All, All-cons, All-head, All-nil, All-tail, Catalogue, IsInTurn, IsThere, IsValid, List, Option, Txn, TxnNo, Workload, [], arith, at, behind_spaces, class_of, classes_submitted, codes, flat_map-map, length, map, name_in, order_line, refl, submits_in, submitted, subst, suc, sym, texts_of, txn_no, txn_of, zero, ℕ, ◌++◌, ◌<◌, ◌∷◌, ◌≡◌, ◌≢◌, ◌≤◌}
use Rattle.sdd_verified.proofs.Numbered.{PlaceOf, number_in, place_of}

module _ (cat : Catalogue) (work : Workload) (valid : IsValid cat work) where
  abbrev pub IsSubmittedOne : TxnNo → Type 0
  IsSubmittedOne n = 1 ≤ submits_in n.0 work.events

  abbrev pub moved : TxnNo → TxnNo
  moved n = txn_no (number_in work.events n.0)

  place : (n : TxnNo) → IsSubmittedOne n → PlaceOf work.txns n.0 (submitted work) (number_in work.events n.0)
  place n some = place_of cat work.txns n.0 work.events valid.events some

  pub moved_there : (order : List TxnNo) → All IsSubmittedOne order → All (IsThere (submitted work)) (map moved order)
  moved_there [] some = All-nil (IsThere (submitted work))
  moved_there (n ∷ order) some =
      grind (arith, place, All-head, All-cons, All-tail, moved_there order (All-tail IsSubmittedOne n order some))

  same_text : (n : TxnNo) → IsSubmittedOne n → txn_of (submitted work) (moved n) ≡ txn_of work.txns n
  same_text n some = (place n some).is

  texts_by : (n : TxnNo) (order others : List TxnNo) (o : Option Txn) → txn_of work.txns n ≡ o → txn_of (submitted work) (moved n) ≡ o
      → texts_of (submitted work) others ≡ texts_of work.txns order → texts_of (submitted work) (moved n ∷ others) ≡ texts_of work.txns (n ∷ order)
  texts_by n order others o a b e = grind arith

  pub moved_texts : (order : List TxnNo) → All IsSubmittedOne order → texts_of (submitted work) (map moved order) ≡ texts_of work.txns order
  moved_texts [] some = refl
  moved_texts (n ∷ order) some =
      grind (arith, same_text, All-head, All-tail, moved_texts order (All-tail IsSubmittedOne n order some))

  moved_names : (order : List TxnNo) → All IsSubmittedOne order → map (name_in (submitted work)) (map moved order) ≡ map (name_in work.txns) order
  moved_names [] some = refl
  moved_names (n ∷ order) some =
      grind (arith, same_text, All-head, All-tail, moved_names order (All-tail IsSubmittedOne n order some))

  by_names : (txns : List Txn) (order : List TxnNo) → order_line txns order ≡ codes "order" ++ (behind_spaces (map (name_in txns) order) ++ 10 ∷ [])
  by_names txns order = simp flat_map-map

  pub moved_line : (order : List TxnNo) → All IsSubmittedOne order → order_line (submitted work) (map moved order) ≡ order_line work.txns order
  moved_line order some = grind (arith, by_names, moved_names)

  -- members by their places

  moved_at : (order : List TxnNo) (i : ℕ) → i < length order → at (map moved order) i ≡ moved (at order i)
  moved_at [] i lt = absurd (omega arith)
  moved_at (n ∷ order) zero lt = refl
  moved_at (n ∷ order) (suc i) lt = moved_at order i (omega arith)

  moved_length : (order : List TxnNo) → length (map moved order) ≡ length order
  moved_length [] = refl
  moved_length (n ∷ order) = let more = moved_length order in omega (arith, more)

  abbrev pub Classes : List ℕ
  Classes = classes_submitted cat work

  -- of two in the order the one after is another one, and of one class the one that is submitted later
  abbrev pub AreInTurn : List TxnNo → Type 0
  AreInTurn order = (i k : ℕ) → i < k → k < length order
      → ((moved (at order i)).0 ≢ (moved (at order k)).0)
      × (class_of Classes (moved (at order i)) ≡ class_of Classes (moved (at order k)) → (moved (at order i)).0 < (moved (at order k)).0)

  pub moved_turn : (order : List TxnNo) → AreInTurn order → IsInTurn (classes_submitted cat work) (map moved order)
  moved_turn order h i k less within =
      let long = moved_length order in
      let lt_k : k < length order = omega (arith, within, long) in
      let at_i = moved_at order i (omega (arith, less, lt_k)) in
      let at_k = moved_at order k lt_k in
      let P : TxnNo → TxnNo → Type 0 = λ a b. (a.0 ≢ b.0) × (class_of Classes a ≡ class_of Classes b → a.0 < b.0) in
      let here : P (moved (at order i)) (moved (at order k)) = h i k less lt_k in
      subst (λ (a : TxnNo). P a (at (map moved order) k)) (sym at_i) (subst (λ (b : TxnNo). P (moved (at order i)) b) (sym at_k) here)
