-- The serial run along a serial order gives the replies of the Commits, and leaves what the copies hold.
use Rattle.sdd_laws.proofs.All.{All, AllZip, AreAllApplied, AreEras, Catalogue, Committed, Contains-here, Eras, FitsTxn, History, IsCommitted, IsDatabase, IsReplayed, IsReplyOf, IsSerial, IsSoundCatalogue, KeepsAnswers, KeepsApplies, KeepsStarts, Ledger, List, PutsHeld, RelNo, Row, Some, Txn, TxnNo, [], ap, changes, committed, cons_option, copy_at, database_of, from_committed, is_applied, items_of, map, refl, rows_in_fragment, rules, run, serial, subst, sym, texts_of, true, txn_at, ℕ, ◌∙◌, ◌∷◌, ◌≡◌}
use Rattle.sdd_laws.proofs.Run.{replayed}
use Rattle.sdd_laws.proofs.Applied.{before_applied}
use Rattle.sdd_laws.proofs.Orders.{OfEach, rest_of, listed, agrees}
use Rattle.sdd_laws.proofs.Precedes.{changes_member}
use Rattle.sdd_laws.proofs.Recorded.{ledger, are_recorded}

module _ (cat : Catalogue) (sound : IsSoundCatalogue cat) (eras : Eras) (are : AreEras cat eras) (rows : List (RelNo × Row)) (txns : List Txn) (h : History)
    (fit : All (FitsTxn cat) txns) (held : All (λ (t : Txn). All PutsHeld t.statements) txns)
    (starting : KeepsStarts cat eras txns h) (answering : KeepsAnswers cat rows txns h)
    (applying : KeepsApplies cat h)
  where
    abbrev own_ledger : Ledger Committed
    own_ledger = ledger cat txns h

    -- the texts of an order are those of its transactions
    text_at : (t : Committed) → IsCommitted h t → txn_at txns t.start.txn ≡ Some (own_ledger.txn t)
    text_at t c = search rules

    texts_are : (order : List TxnNo) (of : OfEach h order)
        → texts_of txns order ≡ map (λ t. own_ledger.txn t) (listed h order of)
    texts_are [] of = refl
    texts_are (n ∷ rest) of =
        let t = of n (Contains-here n rest) in
        let here : txn_at txns n.0 ≡ Some (own_ledger.txn t.0) = ap (λ k. txn_at txns k) (sym t.2) ∙ text_at t.0 t.1 in
        ap (λ o. cons_option o (texts_of txns rest)) here
        ∙ ap (λ zs. own_ledger.txn t.0 ∷ zs) (texts_are rest (rest_of h n rest of))

    replies_are : (order : List TxnNo) (of : OfEach h order)
        → AllZip (IsReplyOf h) order (map (λ t. (own_ledger.result t).reply) (listed h order of))
    replies_are [] of = tt
    replies_are (n ∷ rest) of =
        let t = of n (Contains-here n rest) in
        (record { committed = t.0; is_committed = t.1; txn_is = t.2; reply_is = refl }, replies_are rest (rest_of h n rest of))

    module _ (first : IsDatabase cat (database_of cat rows)) (order : List TxnNo) (in_turn : IsSerial cat h order) where
      whole : IsReplayed cat (database_of cat rows) own_ledger (committed h) (listed h order in_turn.committed)
      whole = search (rules, replayed, are_recorded, listed, agrees)

      run_is : run cat rows txns order ≡ serial cat (database_of cat rows) (map (λ t. own_ledger.txn t) (listed h order in_turn.committed))
      run_is = ap (serial cat (database_of cat rows)) (texts_are order in_turn.committed)

      -- each reply of the run is that of the Commit
      pub gives_replies : AllZip (IsReplyOf h) order (run cat rows txns order).0
      gives_replies =
          subst (AllZip (IsReplyOf h) order) (sym (ap (λ z. z.0) run_is ∙ whole.replies))
          (replies_are order in_turn.committed)

      -- and a copy at which all that change its fragment are applied has the rows that are left
      pub leaves_copies : (f d k : ℕ) → AreAllApplied h f d k
          → rows_in_fragment cat (run cat rows txns order).1 f ≡ items_of cat f (copy_at cat rows h d k f)
      leaves_copies f d k all =
          ap (λ z. rows_in_fragment cat z.1 f) run_is
          ∙ whole.copies f (λ t. is_applied h d k t.start.txn)
          (λ t m c.
          before_applied h t.start.txn d k
          (all t (from_committed h t m) (subst (λ n. changes t n ≡ true) c.2 (changes_member t c.0 c.1))))
