-- The classes of the submitted transactions of a workload: each by the catalogue that is in force at its submission.
use Rattle.std.specs.Prelude.{ℕ, ◌+◌, List, [], ◌∷◌, ◌++◌, Option, Some, None, slice_index_or}
use Rattle.sdd_script.specs.All.{Catalogue, Event, Redeclare, Txn, class_for}
use Rattle.sdd_lists.specs.InForce.{eras_in}
use Rattle.sdd_script.specs.declared.workload.Workload.{Workload}
use Rattle.sdd_verify.specs.Submitted.{submitted_by}

-- how many `redeclare`s stand before what follows an event, where so many stand before the event
abbrev pub redeclared : Event → ℕ → ℕ
redeclared Redeclare n = n + 1
redeclared event n = n

-- of catalogues in force one after the other, that after so many `redeclare`s
abbrev pub era_at : Catalogue → List Catalogue → ℕ → Catalogue
era_at cat eras n = slice_index_or eras n cat

-- the class of a transaction by a catalogue, where there is one
abbrev pub class_if : Catalogue → Option Txn → List ℕ
class_if cat None = []
class_if cat (Some txn) = class_for cat txn ∷ []

-- the classes of what events submit, where so many `redeclare`s stand before them
abbrev pub classes_from : (ℕ → Catalogue) → List Txn → ℕ → List Event → List ℕ
classes_from era txns n [] = []
classes_from era txns n (event ∷ events) =
    class_if (era n) (submitted_by txns event) ++ classes_from era txns (redeclared event n) events

-- the class of each submitted transaction, in order of submission
abbrev pub classes_submitted : Catalogue → Workload → List ℕ
classes_submitted cat work = classes_from (era_at cat (eras_in cat work)) work.txns 0 work.events
