-- Of two committed transactions of one class the one that was submitted first stands first in a serial order.
use Rattle.sdd_run.proofs.All.{Catalogue, ComesBefore, Committed, Contains, Contains-cases, Contains-nil, Eras, History, IsAlong, IsCommitted, IsSerial, IsSubmitted, IsSubmittedBefore, KeepsStarts, List, Txn, TxnNo, [], ap, arith, cases_eq, cases_lt, eq-eqb, false≢true, inl, inr, lt-ltb, nat_lt, ne_eqb, precedes, same_start, subst, sym, true, txn_no, ◌<◌, ◌∙◌, ◌∷◌, ◌≡◌, ◌≢◌}

-- one that precedes another stands before it
module _ (cat : Catalogue) (h : History) (x y : Committed) (first : IsCommitted h x) (second : IsCommitted h y) (precedes_it : precedes cat h x y ≡ true)
    (other : x.start.txn ≢ y.start.txn) where
  -- where both stand after the first of the order
  later : (n : TxnNo) (rest : List TxnNo) → ComesBefore rest x.start.txn y.start.txn → ComesBefore (n ∷ rest) x.start.txn y.start.txn
  later n rest b = record { front = n ∷ b.front; rest = b.rest; is = ap (λ l. n ∷ l) b.is; behind = b.behind }

  is_before_in_order : (order : List TxnNo) → IsAlong cat h order → Contains order (txn_no x.start.txn) → Contains order (txn_no y.start.txn)
      → ComesBefore order x.start.txn y.start.txn
  is_before_in_order [] along there also = absurd (Contains-nil (txn_no x.start.txn) there)
  is_before_in_order (n ∷ rest) along there also =
      elim (Contains-cases n rest (txn_no x.start.txn) there) [
        | inl same ↦ record { front = []; rest = rest; is = ap (λ m. m ∷ rest) (sym same); behind = (grind (arith, Contains-cases, other)) }
        | inr behind ↦
            (elim (Contains-cases n rest (txn_no y.start.txn) also) [
              | inl same ↦ absurd (false≢true (sym (along.0.first y x second first (ap (λ (z : TxnNo). z.0) same) behind) ∙ precedes_it))
              | inr also_behind ↦ later n rest (is_before_in_order rest along.1 behind also_behind)
            ])
      ]

module _ (cat : Catalogue) (eras : Eras) (txns : List Txn) (h : History) (starts : KeepsStarts cat eras txns h) (x y : Committed) (first : IsCommitted h x)
    (second : IsCommitted h y) (class : x.start.class ≡ y.start.class) (submitted : IsSubmittedBefore h x y) where
  other : x.start.txn ≢ y.start.txn
  other same =
      let one = starts.one_submit y.start.txn submitted.first_place submitted.second_place
      (subst (λ n. IsSubmitted h n submitted.first_place) same submitted.first)
      submitted.second in
      let before = submitted.before in
      omega (arith, one, before)

  starts_first : x.start.place < y.start.place
  starts_first = grind (arith, cases_lt, cases_eq, other, same_start)

  pub in_turn : (order : List TxnNo) → IsSerial cat h order → ComesBefore order x.start.txn y.start.txn
  in_turn order serial =
      let time = starts.rise x.start y.start first.started second.started class starts_first in
      is_before_in_order cat h x y first second (grind (arith, nat_lt, eq-eqb, lt-ltb, ne_eqb, other)) other order serial.along (serial.whole x first)
      (serial.whole y second)
