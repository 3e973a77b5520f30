use Rattle.sdd_script.proofs.All.{Accepts, Catalogue, Err, IfOk, IsSoundCatalogue, IsWhole, List, Ok, Result, Tells, WorkError, Workload, workload, ℕ}
use Rattle.sdd_script.proofs.ReadingLaws.{reads_spelling}
use Rattle.sdd_script.proofs.walk.read_workload.Goals as goal

-- a workload that is returned is accepted
read_is_accepted : (cat : Catalogue) → IsSoundCatalogue cat → IsWhole cat
    → (bytes : List ℕ) (r : Result Workload WorkError) → Tells r (workload cat bytes)
    → IfOk r (λ w. Accepts cat bytes w)
read_is_accepted cat s w bytes (Ok work) t = reads_spelling cat s w bytes work t
read_is_accepted cat s w bytes (Err e) t = tt

pub returns-clause-accepted : goal.returns-clause-accepted
returns-clause-accepted c =
    read_is_accepted c.args.catalogue.now c.law_is_sound.ensures.sound c.law_is_sound.ensures.whole c.args.bytes.now c.read_bytes.result c.read_bytes.ensures
