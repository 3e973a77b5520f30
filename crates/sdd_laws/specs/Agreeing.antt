-- Rows with which two modules begin, and which agree on a fragment.
use Rattle.std.specs.Prelude.{ℕ, ◌≡◌, List, [], ◌∷◌, refl}
use Rattle.sdd_lang.specs.All.{Catalogue, RelNo, Row, database_of, rel_no, rows_in_fragment}
use Rattle.sdd_links.specs.Examples.{crossing, row_of}

-- the databases that they make have the same entries in the fragment
abbrev pub AgreeOnFragment : Catalogue → List (RelNo × Row) → List (RelNo × Row) → ℕ → Type 0
AgreeOnFragment cat mine other f = rows_in_fragment cat (database_of cat mine) f ≡ rows_in_fragment cat (database_of cat other) f

-- worked: key 1 lies in fragment 1 and key 11 in fragment 2, so a row with key 11 is nothing to fragment 1
pub other_fragment : AgreeOnFragment crossing
    ((rel_no 1, row_of 1 1) ∷ []) ((rel_no 1, row_of 11 1) ∷ (rel_no 1, row_of 1 1) ∷ []) 1
other_fragment = refl
