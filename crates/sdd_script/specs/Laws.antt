-- The reading and the spelling of workloads are inverse.
use Rattle.std.specs.Prelude.{◌≡◌, ℕ, ◌≤◌, List, length, Ok}
use Rattle.sdd_lang.specs.All.{Catalogue, MAX_WORKLOAD_BYTES}
use Rattle.sdd_script.specs.Spelling.{spelling}
use Rattle.sdd_script.specs.Valid.{IsValid, Accepts}
use Rattle.sdd_script.specs.Walk.{workload}
use Rattle.sdd_script.specs.declared.workload.Workload.{Workload}

-- the spelling of a workload that the catalogue allows is read as the workload, where it isn't too long
abbrev pub ReadsAgain : Catalogue → Type 0
ReadsAgain cat = (w : Workload) → IsValid cat w → length (spelling cat w) ≤ MAX_WORKLOAD_BYTES → workload cat (spelling cat w) ≡ Ok w

-- where a file is read as a workload, the catalogue allows it, and the file spells it
abbrev pub ReadsSpelling : Catalogue → Type 0
ReadsSpelling cat = (bytes : List ℕ) (w : Workload) → workload cat bytes ≡ Ok w → Accepts cat bytes w
