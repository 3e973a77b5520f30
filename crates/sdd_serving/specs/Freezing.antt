-- What the modules of an attempt freeze, of the copies that they have at its Answers.
use Rattle.std.specs.Prelude.{ℕ, ◌==◌, ◌≡◌, Bool, true, List, filter_map}
use Rattle.std.specs.List.{list_any}
use Rattle.sdd_laws.specs.All.{Catalogue, CopyRows, Database, FragNo, IsDatabase, Txn, Use, entries_of, frozen_for, is_read_at, rows_in_fragment, uses_of}
use Rattle.sdd_rules.specs.All.{Has, use_there}
use Rattle.sdd_serving.specs.Reducing.{Space}

-- the uses in the READ of an attempt of class c to module d
abbrev pub uses_at : Catalogue → ℕ → Txn → ℕ → List Use
uses_at cat c txn d = filter_map (use_there cat c d) (uses_of cat txn)

-- whether a READ with these uses asks for the rows of use n
abbrev pub names_use : List Use → ℕ → Bool
names_use uses n = list_any (λ u. u.number == n) uses

abbrev pub asked_at : Catalogue → ℕ → Txn → ℕ → ℕ → Bool
asked_at cat c txn d n = names_use (uses_at cat c txn d) n

-- what each module freezes for the attempt with this timestamp, where the copies hold this at its Answers
abbrev pub frozen_space : Catalogue → ℕ → Txn → ℕ → (ℕ → CopyRows) → Space
frozen_space cat c txn ts copies d = frozen_for (copies d) ts (uses_at cat c txn d)

-- A database has the copies that an attempt of class c reads at these modules.
pub record HasCopies (cat : Catalogue) (c : ℕ) (txn : Txn) (dms : List ℕ) (copies : ℕ → CopyRows) (db : Database) : Type 0 where
  pub is : IsDatabase cat db
  -- of each fragment of a use it has what the copy has where the class reads it
  pub rows : (d : ℕ) (u : Use) (f : FragNo) → Has (uses_of cat txn) u → Has u.frags f → is_read_at cat c d f.0 ≡ true
      → rows_in_fragment cat db f.0 ≡ entries_of cat f.0 (copies d f.0)
  -- and the class reads it at one of the modules
  pub place : (u : Use) (f : FragNo) → Has (uses_of cat txn) u → Has u.frags f → (d : ℕ) × Has dms d × (is_read_at cat c d f.0 ≡ true)
