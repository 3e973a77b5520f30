-- What the commands that carry out no run ask for, apart from what is listed of a catalogue.
use Rattle.std.specs.Prelude.{◌≡◌, ℕ, List, [], ◌∷◌, IsSome}
use Rattle.sdd_lang.specs.base.Outside.{find_file}
use Rattle.sdd_lang.specs.All.{Catalogue, MAX_WORKLOAD_BYTES}
use Rattle.sdd_script.specs.declared.workload.Workload.{Workload}
use Rattle.sdd_verify.specs.Verdict as judging
use Rattle.sdd_commands.specs.Judging.{verdict_line}
use Rattle.sdd_commands.specs.OverScript.{OverScript}
use Rattle.sdd_commands.specs.Serially.{serial_text}
use Rattle.sdd_shell.specs.Endings.{ToItsEnd, ToItsLimit}
use Rattle.sdd_shell.specs.Requests.{Request}

-- the replies of one plain database
abbrev pub IsSerialText : Catalogue → Workload → List ℕ → Type 0
IsSerialText cat work text = text ≡ serial_text cat work

-- the verdict on a report, which is judged against one plain database
abbrev pub judged_as : Catalogue → Workload → List ℕ → List ℕ
judged_as cat work report = verdict_line (judging.verdict cat work report)

-- what the sites of a script of transaction control note and how they end
abbrev pub about_script : List ℕ → Request
about_script file = record {
  comes_to = λ files verdict. OverScript files file verdict;
  names = file ∷ [];
  has_files = λ files. IsSome (find_file files file);
  endings = ToItsEnd file ∷ [];
  endings_at_catalogue = [];
  endings_at_workload = ToItsLimit MAX_WORKLOAD_BYTES file ∷ [];
}
