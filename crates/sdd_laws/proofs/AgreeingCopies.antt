-- Copies of modules that began with different rows are equal too, where these rows agree on the fragment.
use Rattle.sdd_laws.proofs.All.{AgreeOnFragment, AreAppliedAlike, Catalogue, Database, History, List, RelNo, Row, [], arith, copy_at, flat_map, map, of_fragment, refl, rows_in_fragment, rules, ℕ, ◌∙◌, ◌∷◌, ◌≡◌}
use Rattle.sdd_laws.proofs.SameCopies.{equal_copies}
use Rattle.sdd_laws.proofs.SameContents.{of_joined as of_both}
use Rattle.sdd_laws.specs.Snapshots.{first_row}

-- of first rows they are those of the fragment's entries
of_first : (cat : Catalogue) (f : ℕ) (db : Database) → of_fragment f (map (first_row cat) db) ≡ map (first_row cat) (rows_in_fragment cat db f)
of_first cat f [] = refl
of_first cat f (e ∷ db) = search (rules, of_first cat f db)

pub agreeing_copies : (cat : Catalogue) (mine other : List (RelNo × Row)) (h : History) (f a j b k : ℕ) → AgreeOnFragment cat mine other f
    → AreAppliedAlike h f a j b k → copy_at cat mine h a j f ≡ copy_at cat other h b k f
agreeing_copies cat mine other h f a j b k agree alike =
    (grind (arith, flat_map, of_first, of_both)) ∙ equal_copies cat other h f a j b k alike
