-- What a status that tells of a fault says of the files that were read.
use Rattle.sdd_shell.proofs.All.{AtFault, BadCatalogue, BadWorkload, BlamesCatalogue, BlamesWorkload, CatFault, Catalogue, Err, Explains, IfErr, MatchResult, Ok, Option, Result, Status, WorkFault, Workload, subst, ◌≡◌}

-- what follows from what is said of a fault
pub at_more : {A B C D : Type 0} (s : Status) → AtFault A B s → (A → C) → (B → D) → AtFault C D s
at_more (BadCatalogue x) h f g = f h
at_more (BadWorkload x) h f g = g h
at_more _ h f g = tt

-- a status that tells of no fault
pub silent_at : (A B : Type 0) (s : Status) → Explains s (λ _. ⊥) → AtFault A B s
silent_at A B (BadCatalogue x) e = absurd e
silent_at A B (BadWorkload x) e = absurd e
silent_at A B _ e = tt

-- one that blames a catalogue
pub catalogue_at : (A : Type 0) (reading : Option (Result Catalogue CatFault)) (s : Status) → A → Explains s (BlamesCatalogue reading) → AtFault A ⊥ s
catalogue_at A reading (BadCatalogue x) a e = a
catalogue_at A reading (BadWorkload x) a e = e
catalogue_at A reading _ a e = tt

-- a workload
pub workload_at : (B : Type 0) (reading : Option (Result Workload WorkFault)) (s : Status) → B → Explains s (BlamesWorkload reading) → AtFault ⊥ B s
workload_at B reading (BadCatalogue x) b e = e
workload_at B reading (BadWorkload x) b e = b
workload_at B reading _ b e = tt

-- what is said of a fault that a status tells
pub of_catalogue : (A B : Type 0) (s : Status) (fault : CatFault) → AtFault A B s → s ≡ BadCatalogue fault → A
of_catalogue A B s fault h is = subst (AtFault A B) is h

pub of_workload : (A B : Type 0) (s : Status) (fault : WorkFault) → AtFault A B s → s ≡ BadWorkload fault → B
of_workload A B s fault h is = subst (AtFault A B) is h

pub err_by : {T : Type 0} (r : Result T Status) (P : T → Type 0) (Q R : Status → Type 0) → MatchResult r P Q → ((s : Status) → Q s → R s) → IfErr r R
err_by (Ok v) P Q R p f = tt
err_by (Err s) P Q R p f = f s p
