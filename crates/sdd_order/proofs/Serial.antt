-- In the serial order of an orderable history each committed transaction stands once, after its predecessors.
use Rattle.sdd_order.proofs.All.{Catalogue, Committed, Contains, Contains-here, Contains-later, History, IsAlong, IsCommitted, IsOrderable, IsSerial, List, Precedes, TxnNo, [], ap, arith, cases_Bool, committed, false, in_order, length, map, precedes, serial_order, sym, txn_no, ℕ, ◌∙◌, ◌∷◌, ◌≡◌, ◌⊎◌}
use Rattle.sdd_links.proofs.Found.{from_committed, in_committed}
use Rattle.sdd_links.proofs.Members.{Contains-map, Contains-from_map}
use Rattle.sdd_links.proofs.Implied.{one_txn}
use Rattle.sdd_links.proofs.Ready.{ready_for}
use Rattle.sdd_links.proofs.Taken.{Differ, taken_is, taken_whole, IsAlongBy, taken_along}

abbrev pub time_of : Committed → ℕ
time_of t = t.start.ts

abbrev pub name_of : Committed → TxnNo
name_of t = txn_no t.start.txn

module _ (cat : Catalogue) (h : History) (o : IsOrderable cat h) where
  -- committed transactions with one timestamp are one
  pub one_of_time : (t u : Committed) → IsCommitted h t → IsCommitted h u → t.start.ts ≡ u.start.ts → t ≡ u
  one_of_time t u p q e = grind (arith, (one_txn cat h o))

  pub differ : Differ time_of (committed h)
  differ t u m n e = one_of_time t u (from_committed h t m) (from_committed h u n) e

  decide : (t u : Committed) → IsCommitted h t → IsCommitted h u → Precedes cat h t u ⊎ (¬ Precedes cat h t u)
  decide t u p q = grind arith

  -- of some committed transactions one is ready
  pub some_ready : (some : List Committed) → ((y : Committed) → Contains some y → Contains (committed h) y)
      → (s : Committed) → Contains some s
      → (r : Committed) × Contains some r × ((y : Committed) → Contains some y → precedes cat h y r ≡ false)
  some_ready some within s m =
      let all : (y : Committed) → Contains some y → IsCommitted h y = λ y k. from_committed h y (within y k) in
      let r = ready_for (Precedes cat h) (IsCommitted h) decide o.orderly some all s m in (grind (arith, cases_Bool, precedes))

  -- those in order are committed
  pub order_is : (t : Committed) → Contains (in_order cat h) t → IsCommitted h t
  order_is t m = from_committed h t (taken_is time_of (precedes cat h) (length (committed h)) (committed h) t m)

  along_by_names : (ts : List Committed) → ((t : Committed) → Contains ts t → IsCommitted h t)
      → IsAlongBy time_of (precedes cat h) ts → IsAlong cat h (map name_of ts)
  along_by_names [] all a = tt
  along_by_names (x ∷ rest) all a =
      let here = all x (Contains-here x rest) in
      let later : (t : Committed) → Contains rest t → IsCommitted h t = λ t m. all t (Contains-later x rest t m) in (
        record {
          other = λ n m e.
              let u = Contains-from_map name_of rest n m in
              let named : n.0 ≡ u.0.start.txn = ap (λ (z : TxnNo). z.0) u.2 in
              let same = one_txn cat h o u.0 x (later u.0 u.1) here (sym named ∙ e) in
              (a.0 u.0 u.1).0 (ap time_of same);
          first = λ t y p q e m.
              let u = Contains-from_map name_of rest (txn_no y.start.txn) m in
              let named : y.start.txn ≡ u.0.start.txn = ap (λ (z : TxnNo). z.0) u.2 in
              let first : t ≡ x = one_txn cat h o t x p here e in
              let other : y ≡ u.0 = one_txn cat h o y u.0 q (later u.0 u.1) named in
              ap (λ z. precedes cat h z t) other ∙ ap (λ z. precedes cat h u.0 z) first ∙ (a.0 u.0 u.1).1;
        },
        along_by_names rest later a.1,
      )

  pub serial_order_is : IsSerial cat h (serial_order cat h)
  serial_order_is =
      record {
        committed = λ n m.
            let t = Contains-from_map name_of (in_order cat h) n m in
            (t.0, order_is t.0 t.1, ap (λ (z : TxnNo). z.0) (sym t.2));
        whole = λ t p.
            let there =
            taken_whole time_of (precedes cat h) (length (committed h)) (committed h) (omega arith) differ some_ready t
            (in_committed h o.one_start t p) in
            Contains-map name_of (in_order cat h) t there;
        along = along_by_names (in_order cat h) order_is (taken_along time_of (precedes cat h) (length (committed h)) (committed h));
      }
