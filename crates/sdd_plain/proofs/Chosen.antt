-- The rows that an update or delete works on, as they are found.
use Rattle.sdd_plain.proofs.All.{Condition, Database, List, [], arith, as_of, chosen, eqb-true, filter, map, meets_all, refl, ℕ, ◌==◌, ◌∷◌, ◌≡◌}

-- of the relation's entries those that meet the conditions are chosen
pub chosen_of_relation : (rel : ℕ) (conds : List Condition) (db : Database)
    → map (as_of rel) (filter (λ e. meets_all conds (e.1 ∷ [])) (filter (λ e. e.0.0 == rel) db)) ≡ chosen db rel conds
chosen_of_relation rel conds [] = refl
chosen_of_relation rel conds (e ∷ db) = grind (arith, eqb-true, (chosen_of_relation rel conds db))
