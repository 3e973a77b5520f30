-- The calls of `sdd1`.
use Rattle.std.specs.Prelude.{◌≡◌, refl, ℕ, List, [], ◌∷◌, codes, Some, Ok, Err}
use Rattle.sdd_lang.specs.base.declared.files.ShelfFile.{ShelfFile}
use Rattle.sdd_lang.specs.All.{CatFault, Catalogue}
use Rattle.sdd_shell.specs.Calls.{Call, ComesTo, by_form, no_form}
use Rattle.sdd_shell.specs.NamedFiles.{catalogue_named}
use Rattle.sdd_shell.specs.OverCatalogue.{faulty_catalogue, printed}
use Rattle.sdd_shell.specs.Verdict.{NoForm, Prints, FaultyCatalogue}
use Rattle.sdd_app.specs.Answer.{request_of}
use Rattle.sdd_commands.specs.Check.{check_line}
use Rattle.sdd_commands.specs.Command.{Form, Check, IsNoForm, form_in, usage_line}

abbrev pub sdd1_call : Call Form
sdd1_call = record { form_in = form_in; is_no_form = IsNoForm; request = request_of; usage = usage_line }

-- worked: no words have no form, over any files
pub no_words : (files : List ShelfFile) → ComesTo sdd1_call files [] NoForm
unfolding form_in
no_words files = no_form refl

-- worked: `check c` over a file `c` of such bytes
module _ (bytes : List ℕ) where
  abbrev files : List ShelfFile
  files = record { name = codes "c"; bytes = bytes } ∷ []

  abbrev words : List (List ℕ)
  words = codes "check" ∷ codes "c" ∷ []

  pub check_at_fault : (fault : CatFault) → catalogue_named files (codes "c") ≡ Some (Err fault) → ComesTo sdd1_call files words (FaultyCatalogue fault)
  unfolding form_in
  check_at_fault fault e = by_form (Check (codes "c")) (FaultyCatalogue fault) refl (faulty_catalogue fault e)

  pub check_printed : (cat : Catalogue) → catalogue_named files (codes "c") ≡ Some (Ok cat) → ComesTo sdd1_call files words (Prints (check_line cat))
  unfolding form_in
  check_printed cat e = by_form (Check (codes "c")) (Prints (check_line cat)) refl (printed cat (check_line cat) e refl)
