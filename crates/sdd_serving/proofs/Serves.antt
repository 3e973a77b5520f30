-- The whole exchange: from the copies at the modules' Answers to rows that serve the database which has them.
use Rattle.sdd_serving.proofs.All.{Catalogue, CopyRows, Database, Decides-eqb, FitsTxn, Has, Has-map_from, HasCopies, IsSoundCatalogue, List, Row, Runs, Serves, Space, Stage, Txn, Use, [], all_held, all_rows, ap, arith, asked_at, chosen_for, effect, effect_over, found_for, frozen_space, inl, inr, names_use, nat_tests, rows_for, served_effect, true, uses_at, ℕ, ◌||◌, ◌∙◌, ◌∷◌, ◌≡◌}
use Rattle.sdd_serving.proofs.Enough.{serves}
use Rattle.sdd_serving.proofs.Freezing.{begins}
use Rattle.sdd_serving.proofs.Held.{Kept, has_row}
use Rattle.sdd_serving.proofs.Leading.{runs_lead}

some_number : (us : List Use) (u : Use) (n : ℕ) → Has us u → u.number ≡ n → names_use us n ≡ true
some_number [] u n h e = absurd h
some_number (v ∷ us) u n (inl same) e = ap (λ b. b || names_use us n) ((Decides-eqb v.number n).1 (ap (λ (z : Use). z.number) same ∙ e))
some_number (v ∷ us) u n (inr h) e = grind (arith, nat_tests, names_use, (some_number us u n h e))

-- rows are frozen for the uses that are asked for alone
frozen_asked : (cat : Catalogue) (c : ℕ) (txn : Txn) (ts : ℕ) (copies : ℕ → CopyRows) (d n : ℕ) (row : Row)
    → Has (all_rows (frozen_space cat c txn ts copies d)) (n, row) → asked_at cat c txn d n ≡ true
frozen_asked cat c txn ts copies d n row h =
    let k = has_row (frozen_space cat c txn ts copies d) n row h in
    let w = Has-map_from (λ (u : Use). (u.number, rows_for (copies d) u)) (uses_at cat c txn d) k.entry k.there in
    some_number (uses_at cat c txn d) w.0 n w.1 (ap (λ (z : Kept). z.0) w.2 ∙ k.number)

module _ (cat : Catalogue) (sound : IsSoundCatalogue cat) (c : ℕ) (txn : Txn) (fits : FitsTxn cat txn) (ts : ℕ) (dms : List ℕ)
    (copies : ℕ → CopyRows) (db : Database) (ok : HasCopies cat c txn dms copies db)
    (space : Space) (stage : Stage)
    (runs : Runs dms txn.statements (asked_at cat c txn) (frozen_space cat c txn ts copies) space stage) where
  -- whatever moves were made, and however far the last one is, the rows that are held serve the database
  pub exchange_serves : Serves cat txn (all_held dms space) db
  exchange_serves =
      serves cat txn db dms (frozen_space cat c txn ts copies) space fits (begins cat sound c txn fits dms copies db ok ts)
      (runs_lead dms txn.statements (asked_at cat c txn) (frozen_space cat c txn ts copies)
      (λ d n row h. frozen_asked cat c txn ts copies d n row h) space stage runs).leads

  -- so what is computed from them is the effect on it
  pub shipped_effect : effect_over cat (found_for (all_held dms space)) (chosen_for cat (all_held dms space)) txn ≡ effect cat db txn
  shipped_effect = served_effect cat txn (all_held dms space) db ok.is exchange_serves
