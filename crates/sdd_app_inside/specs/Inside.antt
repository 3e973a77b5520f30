-- What a call of the program comes to that shows what happens inside a run. Its words are the names of a catalogue and of a
-- workload.
use Rattle.std.specs.Prelude.{◌≡◌, ℕ, List, [], ◌∷◌, Option, Some, None, codes}
use Rattle.sdd_run.specs.Runs.{EndsAtLimit}
use Rattle.sdd_shell.specs.Calls.{Call}
use Rattle.sdd_shell.specs.Requests.{about_workload}
use Rattle.sdd_app_inside.specs.Text.{IsInsideOf}

-- the names of two files
pub record Names : Type 0 where
  pub catalogue : List ℕ
  pub workload : List ℕ

-- the two words that there are
abbrev pub names_in : List (List ℕ) → Option Names
names_in (catalogue ∷ workload ∷ []) = Some (record { catalogue = catalogue; workload = workload })
names_in words = None

-- there aren't two
abbrev pub AreNotTwo : List (List ℕ) → Type 0
AreNotTwo words = (catalogue workload : List ℕ) → words ≡ catalogue ∷ workload ∷ [] → ⊥

-- The calls of the program: they ask for the text of what happens inside the run of the workload.
abbrev pub inside_call : Call Names
inside_call = record {
  form_in = names_in;
  is_no_form = AreNotTwo;
  request = λ names. about_workload names.catalogue names.workload IsInsideOf EndsAtLimit;
  usage = codes "usage: sdd1_inside CAT WORK\n";
}
