-- The records before an event are the first of those after it.
use Rattle.sdd_moments.proofs.All.{Does, History, Input, IsBetween, Log, Notes, Submitted, [], ap, append-nil, append_assoc, history, length, refl, sym, take, take-append_seam, ◌++◌, ◌∙◌, ◌∷◌, ◌≡◌}
use Rattle.sdd_moments.proofs.Between.{joined_more}

abbrev Ends : Log → Log → Type 0
Ends more log = (later : History) × (history (more ++ log) ≡ history log ++ later)

further : (more log : Log) (x : History) (all : History) → Ends more log → all ≡ history (more ++ log) ++ x → (later : History) × (all ≡ history log ++ later)
further more log x all e is = (e.0 ++ x, is ∙ ap (λ h. h ++ x) e.1 ∙ append_assoc (history log) e.0 x)

pub ends : (more log : Log) → Ends more log
ends [] log = ([], sym (append-nil (history log)))
ends (Submitted at n ∷ more) log = further more log _ (history (Submitted at n ∷ more ++ log)) (ends more log) refl
ends (Notes ∷ more) log = further more log _ (history (Notes ∷ more ++ log)) (ends more log) refl
ends (Does at act ∷ more) log = further more log _ (history (Does at act ∷ more ++ log)) (ends more log) refl
ends (_ ∷ more) log = ends more log

pub first_records : (g : Input) (old new : Log) → IsBetween g old new → take (length (history old)) (history new) ≡ history old
first_records g old new b =
    let e = ends (b.more ++ b.mark ∷ []) old in
    ap (take (length (history old))) (ap history (b.parts ∙ joined_more b.more b.mark old) ∙ e.1) ∙ take-append_seam (history old) e.0
