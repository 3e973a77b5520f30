-- What is needed of what is given, and of a log, so that a log at which nothing goes on is finished.
use Rattle.std.specs.Prelude.{ℕ, ◌≡◌, ◌≤◌, ◌++◌, ◌∷◌, false}
use Rattle.sdd_obligations.specs.All.{FitsInput, Input, IsEra, IsEraOf, IsModuleOf, Log, Redeclares, Site, is_down, nth_era, redeclares}
use Rattle.sdd_progress.specs.Finished.{IsIdle}
use Rattle.sdd_progress.specs.Quiet.{IsQuiet}

-- what is given fits its catalogue; list k of classes is an era of the catalogue, and has its protocol table
pub record IsSoundList (g : Input) (k : ℕ) : Type 0 where
  pub fits : FitsInput g
  pub era : IsEraOf g.catalogue (nth_era g k).catalogue
  pub table : IsEra (nth_era g k)

-- each list that the log put in force
abbrev pub HasSoundLists : Input → Log → Type 0
HasSoundLists g log = (k : ℕ) → k ≤ redeclares log → IsSoundList g k

-- wherever the log put a further list in force, nothing went on and all was idle
abbrev pub IsIdleAtRedeclares : Input → Log → Type 0
IsIdleAtRedeclares g log = (later before : Log) (t : ℕ) → log ≡ later ++ Redeclares t ∷ before → IsQuiet g before × IsIdle g before

-- and no module was down
abbrev pub IsUpAtRedeclares : Input → Log → Type 0
IsUpAtRedeclares g log =
    (later before : Log) (t : ℕ) → log ≡ later ++ Redeclares t ∷ before → (at : Site) → IsModuleOf g at → is_down at before ≡ false

-- what is given fits its catalogue, and the list in force at the beginning, which is that of the catalogue, has its
-- protocol table
pub record HasOneTable (g : Input) : Type 0 where
  pub fits : FitsInput g
  pub table : IsEra (nth_era g 0)
  pub same : (nth_era g 0).catalogue ≡ g.catalogue
