-- How a call of a program ends, by its words and the files that they name: one contract for all programs.
use Rattle.std.specs.Prelude.{◌≡◌, ◌≢◌, ◌≤◌, ◌⊎◌, ◌↔◌, ℕ, List, [], ◌∷◌, length, refl, take, Option, Some, None, Result, MatchOption, IfSome, OnOk, IfErr, IsErrOf}
use Rattle.sdd_lang.specs.base.declared.files.ShelfFile.{ShelfFile}
use Rattle.sdd_lang.specs.base.Outside.{Rose, with_end}
use Rattle.sdd_lang.specs.All.{CatFault}
use Rattle.sdd_script.specs.declared.fault.WorkFault.{WorkFault}
use Rattle.sdd_shell.specs.Endings.{Ending, FilesRead, HasRoom}
use Rattle.sdd_shell.specs.NamedFiles.{IsOverFiles, OpensNone}
use Rattle.sdd_shell.specs.Requests.{Request}
use Rattle.sdd_shell.specs.States.{ShelfState, SinkState, Takes}
use Rattle.sdd_shell.specs.Status.{line_of}
use Rattle.sdd_shell.specs.Verdict.{Verdict, NoForm, Prints, FaultyCatalogue, FaultyWorkload, PastLimit, Answers, AtFault, IsRefusal, status_of}
use Rattle.sdd_shell.specs.declared.status.Status.{Status}
use Rattle.sdd_shell.specs.declared.status.Status.TheVariants.{Done, Usage, BadCatalogue, BadWorkload, ReadFault, WriteFault, NoMemory, Limit}

-- The calls of a program.
pub record Call (Form : Type 0) : Type 1 where
  -- the form that the words have, and that they have none
  pub form_in : List (List ℕ) → Option Form
  pub is_no_form : List (List ℕ) → Type 0
  -- what words of this form ask for
  pub request : Form → Request
  -- the line that tells the forms
  pub usage : List ℕ

-- What the call of these words comes to.
pub data ComesTo {Form : Type 0} (call : Call Form) (files : List ShelfFile) (words : List (List ℕ)) : Verdict → Type 0 where
  -- the words have no form
  no_form : call.form_in words ≡ None → ComesTo call files words NoForm
  -- the words have this form, and what it asks for comes to this over the files
  by_form : (form : Form) (verdict : Verdict) → call.form_in words ≡ Some form → (call.request form).comes_to files verdict
      → ComesTo call files words verdict

-- worked: a program that prints its only word, and has no form for no word or for two

abbrev only_word : List (List ℕ) → Option (List ℕ)
only_word (word ∷ []) = Some word
only_word _ = None

abbrev says : List ℕ → Request
says word = record {
  comes_to = λ files verdict. verdict ≡ Prints word;
  names = [];
  has_files = λ files. Unit {0};
  endings = [];
  endings_at_catalogue = [];
  endings_at_workload = [];
}

abbrev echo : Call (List ℕ)
echo = record { form_in = only_word; is_no_form = λ words. only_word words ≡ None; request = says; usage = [] }

-- `hi`, by its bytes
abbrev hi : List ℕ
hi = 104 ∷ 105 ∷ []

pub one_word_is_printed : ComesTo echo [] (hi ∷ []) (Prints hi)
one_word_is_printed = by_form hi (Prints hi) refl refl

pub nothing_else_is_printed : (text : List ℕ) → ComesTo echo [] (hi ∷ []) (Prints text) → text ≡ hi
nothing_else_is_printed text (by_form form verdict is comes) = cc

pub two_words_have_no_form : ComesTo echo [] (hi ∷ hi ∷ []) NoForm
two_words_have_no_form = no_form refl

-- it is over these files
abbrev pub IsOver : {Form : Type 0} → Call Form → Option (List ShelfFile) → List ShelfFile → List (List ℕ) → Type 0
IsOver call shelved files words = IfSome (call.form_in words) (λ form. IsOverFiles shelved files (call.request form).names)

-- the words are of no form, or of one that opens no file
abbrev pub OpensNoFile : {Form : Type 0} → Call Form → List (List ℕ) → Type 0
OpensNoFile call words = IfSome (call.form_in words) (λ form. OpensNone (call.request form).names)

-- the files that it reads are there
abbrev pub FilesAreThere : {Form : Type 0} → Call Form → List ShelfFile → List (List ℕ) → Type 0
FilesAreThere call files words = IfSome (call.form_in words) (λ form. (call.request form).has_files files)

-- the shelf is sure of a place for each file that it opens, and of so many more
abbrev pub HasRoomFor : {Form : Type 0} → Call Form → (ℕ → Type 0) → ℕ → List (List ℕ) → Type 0
HasRoomFor call sure free words = IfSome (call.form_in words) (λ form. HasRoom sure free (length (call.request form).names))

-- The words have a form. Its files were opened in this call, and each is read as far as such endings of the form say.
abbrev pub AreEnded : {Form : Type 0} → Call Form → (Request → List Ending) → List (List ℕ) → ShelfState → ShelfState → Type 0
AreEnded call endings words before after = MatchOption (call.form_in words) ⊥ (λ form. FilesRead before after (endings (call.request form)))

-- how far they are read where the text is printed, and where the catalogue, or the workload or script, has a fault

abbrev pub endings_printed : Request → List Ending
endings_printed request = request.endings

abbrev pub endings_at_catalogue : Request → List Ending
endings_at_catalogue request = request.endings_at_catalogue

abbrev pub endings_at_workload : Request → List Ending
endings_at_workload request = request.endings_at_workload

-- The text for the words, or the status of a call that prints none. The shelf stands as it did before, and after.
pub record AnswersAs {Form : Type 0} (call : Call Form) (words : List (List ℕ)) (before after : ShelfState)
    (answer : Result (List ℕ) Status) : Type 0 where
  pub answered : (fs : List ShelfFile) → IsOver call before.files fs words → Answers answer (λ text. text) (ComesTo call fs words)
  pub ended : OnOk answer (AreEnded call endings_printed words before after)
  pub at_fault : IfErr answer (AtFault (AreEnded call endings_at_catalogue words before after) (AreEnded call endings_at_workload words before after))
  pub usage : IsErrOf answer Usage ↔ call.is_no_form words
  pub fault : IfErr answer (λ s. s ≡ ReadFault → Rose before.faults after.faults)
  pub errors : IfErr answer (λ s. (s ≡ Done → ⊥) × (s ≡ WriteFault → ⊥))
  pub surely : (free : ℕ) (fs : List ShelfFile) → HasRoomFor call before.sure free words → IsOver call before.files fs words
      → FilesAreThere call fs words → IfErr answer (λ s. s ≡ ReadFault → ⊥) × (after.faults ≡ before.faults)

-- How the call of these words ends: its status, what the sinks took, and how far its files were read. The shelf and the
-- sinks stand as they did before the call, and after it.
pub record EndsAs {Form : Type 0} (call : Call Form) (words : List (List ℕ)) (before after : ShelfState)
    (out_before out_after err_before err_after : SinkState) (result : Status) : Type 0 where
  -- All of the text was written, and each file that the words name was opened by its name and read to its end.
  pub done : result ≡ Done → (fs : List ShelfFile) → IsOver call before.files fs words
      → (text : List ℕ) × ComesTo call fs words (Prints text) × (out_after.taken ≡ with_end out_before.taken text)
  pub ended : result ≡ Done → AreEnded call endings_printed words before after
  -- Another status comes only for this reason: the words have no form, a file has this first fault, the limit ends the run.
  pub usage : (result ≡ Usage) ↔ call.is_no_form words
  pub bad_catalogue : (f : CatFault) → result ≡ BadCatalogue f → (fs : List ShelfFile) → IsOver call before.files fs words
      → ComesTo call fs words (FaultyCatalogue f)
  pub bad_workload : (f : WorkFault) → result ≡ BadWorkload f → (fs : List ShelfFile) → IsOver call before.files fs words
      → ComesTo call fs words (FaultyWorkload f)
  pub limit : result ≡ Limit → (fs : List ShelfFile) → IsOver call before.files fs words → ComesTo call fs words PastLimit
  -- How far the files were read where one of them is at fault: those before it to their end, and it to its end, or
  -- exactly one byte past the most that such a file may have.
  pub catalogue_read : (f : CatFault) → result ≡ BadCatalogue f → AreEnded call endings_at_catalogue words before after
  pub workload_read : (f : WorkFault) → result ≡ BadWorkload f → AreEnded call endings_at_workload words before after
  -- Where a call of the shelf failed, its count of faults rose; so did that of the sink, which then took a first part of the text.
  pub read : result ≡ ReadFault → Rose before.faults after.faults
  pub write : result ≡ WriteFault → Rose out_before.faults out_after.faults
      × ((fs : List ShelfFile) → IsOver call before.files fs words → (text : List ℕ) × (n : ℕ)
      × ComesTo call fs words (Prints text) × (out_after.taken ≡ with_end out_before.taken (take n text)))
  -- In any other status nothing of a text was written.
  pub silent : result ≢ Done → result ≢ WriteFault → out_after.taken ≡ out_before.taken
  -- The other sink took the line that tells the status, or a first part of it.
  pub line : Takes (line_of call.usage result) err_before err_after
  -- What the words and files come to is reported, unless memory runs out, where no count of faults rose. So it is over a
  -- shelf that is sure of a place for each file that the words name, and a sink that is sure of room for the text.
  pub complete : (fs : List ShelfFile) (text : List ℕ) → IsOver call before.files fs words → ComesTo call fs words (Prints text)
      → (Rose before.faults after.faults → ⊥) → (Rose out_before.faults out_after.faults → ⊥)
      → (result ≡ Done) ⊎ (result ≡ NoMemory)
  pub refused : (fs : List ShelfFile) (v : Verdict) → IsOver call before.files fs words → ComesTo call fs words v → IsRefusal v
      → (Rose before.faults after.faults → ⊥) → (result ≡ status_of v) ⊎ (result ≡ NoMemory)
  pub surely : (free room : ℕ) (fs : List ShelfFile) (text : List ℕ) → HasRoomFor call before.sure free words
      → out_before.sure room → IsOver call before.files fs words
      → ((each : List ℕ) → ComesTo call fs words (Prints each) → length each ≤ room)
      → ComesTo call fs words (Prints text) → (result ≡ Done) ⊎ (result ≡ NoMemory)
  pub surely_refused : (free : ℕ) (fs : List ShelfFile) (v : Verdict) → HasRoomFor call before.sure free words
      → IsOver call before.files fs words → ComesTo call fs words v → IsRefusal v → (result ≡ status_of v) ⊎ (result ≡ NoMemory)
  -- Over such a shelf that has the files, and over such a sink, no count of faults rises, whatever the status.
  pub shelf_still : (free : ℕ) (fs : List ShelfFile) → HasRoomFor call before.sure free words → IsOver call before.files fs words
      → FilesAreThere call fs words → after.faults ≡ before.faults
  pub out_still : (room : ℕ) (fs : List ShelfFile) → out_before.sure room → IsOver call before.files fs words
      → ((each : List ℕ) → ComesTo call fs words (Prints each) → length each ≤ room) → out_after.faults ≡ out_before.faults
