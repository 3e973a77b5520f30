-- In a serial order each committed transaction stands once.
use Rattle.sdd_run.proofs.All.{Catalogue, Committed, Contains, Contains-cases, Contains-here, Contains-later, Contains-nil, History, IsAlong, IsCommitted, IsSerial, List, TxnNo, [], ap, arith, cases_eq, cond, eq-eqb, inl, inr, ne_eqb, refl, sum_by-cons, sym, times_in, txn_no, ℕ, ◌+◌, ◌==◌, ◌∙◌, ◌∷◌, ◌≡◌, ◌≢◌}

pub times_more : (m : TxnNo) (rest : List TxnNo) (n : ℕ) → times_in n (m ∷ rest) ≡ cond (m.0 == n) 1 0 + times_in n rest
times_more m rest n = sum_by-cons (λ (k : TxnNo). cond (k.0 == n) 1 0) m rest

-- one that isn't there stands there at no place
pub none_there : (order : List TxnNo) (n : ℕ) → ((m : TxnNo) → Contains order m → m.0 ≢ n) → times_in n order ≡ 0
none_there [] n other = refl
none_there (m ∷ rest) n other =
    times_more m rest n ∙ ap (λ b. cond b 1 0 + times_in n rest) (ne_eqb m.0 n (other m (Contains-here m rest)))
    ∙ (let none = none_there rest n (λ k there. other k (Contains-later m rest k there)) in omega (arith, none))

once_along : (cat : Catalogue) (h : History) (order : List TxnNo) (n : TxnNo) → IsAlong cat h order → Contains order n → times_in n.0 order ≡ 1
once_along cat h [] n along there = absurd (Contains-nil n there)
once_along cat h (m ∷ rest) n along there =
    elim (cases_eq m.0 n.0) [
      | inl same ↦
          (times_more m rest n.0 ∙ ap (λ b. cond b 1 0 + times_in n.0 rest) (eq-eqb m.0 n.0 same)
          ∙ (let none = none_there rest n.0 (λ k behind e. along.0.other k behind (e ∙ sym same)) in omega (arith, none)))
      | inr other ↦
          grind (arith, times_more, times_in, ne_eqb, Contains-cases, (once_along cat h rest n along.1 (grind (arith, Contains-cases))))
    ]

pub each_once : (cat : Catalogue) (h : History) (order : List TxnNo) → IsSerial cat h order → (t : Committed) → IsCommitted h t → times_in t.start.txn order ≡ 1
each_once cat h order serial t committed = once_along cat h order (txn_no t.start.txn) serial.along (serial.whole t committed)
