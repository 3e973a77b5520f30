-- The catalogue of an era: which classes are in force while it lasts. The whole catalogue has the classes of all eras with
-- their sets.
use Rattle.std.specs.Prelude.{ℕ, ◌≤◌, ◌≡◌, ◌⊎◌, [], length}
use Rattle.sdd_lang.specs.All.{Catalogue, Class, class_at}

-- a class has the sets that it has in the whole catalogue, or, once it is retired, empty ones
abbrev pub HasSets : Class → Class → Type 0
HasSets whole class =
    ((class.reads ≡ whole.reads) × (class.writes ≡ whole.writes)) ⊎ ((class.reads ≡ []) × (class.writes ≡ []))

-- the catalogue of an era: it differs from the whole one in its classes alone, of which it has the first so many
pub record IsEraOf (cat era : Catalogue) : Type 0 where
  pub tms : era.tms ≡ cat.tms
  pub dms : era.dms ≡ cat.dms
  pub relations : era.relations ≡ cat.relations
  pub fragments : era.fragments ≡ cat.fragments
  pub classes : length era.classes ≤ length cat.classes
  pub home : (c : ℕ) → 1 ≤ c → c ≤ length era.classes → (class_at era c).tm ≡ (class_at cat c).tm
  pub sets : (c : ℕ) → 1 ≤ c → c ≤ length era.classes → HasSets (class_at cat c) (class_at era c)
