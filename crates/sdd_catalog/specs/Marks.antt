-- Marks for fragments, by which it is known whether a name came before.
use Rattle.std.specs.Prelude.{ℕ, ◌≡◌, Bool, false, List, length, Some, slice_index_or}
use Rattle.sdd_catalog.specs.Names.{Text, place_of}
use Rattle.sdd_catalog.specs.Rules.{has_name}

-- of each of the names the first place is marked exactly where the name is among those before
pub record AreMarked (names before : List Text) (marks : List Bool) : Type 0 where
  pub one_each : length marks ≡ length names
  pub marked : (name : Text) (place : ℕ) → place_of name names ≡ Some place
      → slice_index_or marks place false ≡ has_name before name
