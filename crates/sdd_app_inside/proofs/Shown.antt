-- What a call comes to that shows what happens inside a run.
use Rattle.std.proofs.Common.{◌≡◌, ℕ, List, [], ◌∷◌, Some, None, refl, ap}
use Rattle.sdd_shell.proofs.Verdicts.{IsDecided, workload_decided}
use Rattle.sdd_run.specs.Runs.{EndsAtLimit}
use Rattle.sdd_app_inside.proofs.Apart.{text_or_limit}
use Rattle.sdd_app_inside.specs.Inside.{AreNotTwo, Names, inside_call, names_in}
use Rattle.sdd_app_inside.specs.Text.{IsInsideOf}

-- the names that two words are

pub no_names : (ws : List (List ℕ)) → AreNotTwo ws → names_in ws ≡ None
no_names (a ∷ b ∷ []) none = absurd (none a b refl)
no_names _ none = refl

abbrev pub names_of : List ℕ → List ℕ → Names
names_of cat work = record { catalogue = cat; workload = work }

pub found_names : (ws : List (List ℕ)) (cat work : List ℕ) → ws ≡ cat ∷ work ∷ [] → names_in ws ≡ Some (names_of cat work)
found_names ws cat work is = ap names_in is

-- a call comes to one status
pub inside_decided : (names : Names) → IsDecided (inside_call.request names)
inside_decided names = workload_decided names.catalogue names.workload IsInsideOf EndsAtLimit (λ cat work text told past. text_or_limit cat work text told past)
