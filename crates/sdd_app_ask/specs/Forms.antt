-- The forms of the command line of the program for questions, each by its words.
use Rattle.std.specs.Prelude.{◌≡◌, ℕ, List, [], ◌∷◌, Option, Some, None, codes, if◌then◌else◌}
use Rattle.std.specs.Str.{bytes_eq}
use Rattle.sdd_app_ask.specs.declared.asked.Asked.{Asked}
use Rattle.sdd_app_ask.specs.declared.asked.Asked.TheVariants as asks
use Rattle.sdd_app_ask.specs.declared.asked.Question.{Question}
use Rattle.sdd_app_ask.specs.declared.asked.Question.TheVariants.{Robust, Needs}

-- a question, with the names of the files that it is about
pub data Form : Type 0 where
  -- a catalogue
  OfCatalogue : Question → List ℕ → Form
  -- a catalogue, and a workload whose transactions are asked about
  RobustWorkload : List ℕ → List ℕ → Form
  -- a catalogue, a workload and a report, which is certified
  Certify : List ℕ → List ℕ → List ℕ → Form

-- the line that tells the forms
abbrev pub usage_line : List ℕ
usage_line = codes "usage: sdd1_ask robust CAT [WORK] | needs CAT | certify CAT WORK REPORT\n"

abbrev pub word_of : Question → List ℕ
word_of Robust = codes "robust"
word_of Needs = codes "needs"

abbrev pub words_of : Form → List (List ℕ)
words_of (OfCatalogue question cat) = word_of question ∷ cat ∷ []
words_of (RobustWorkload cat work) = codes "robust" ∷ cat ∷ work ∷ []
words_of (Certify cat work report) = codes "certify" ∷ cat ∷ work ∷ report ∷ []

-- the words are none of the forms
abbrev pub IsNoForm : List (List ℕ) → Type 0
IsNoForm words = (form : Form) → words ≡ words_of form → ⊥

-- the form that two words have: a question and a file
abbrev pub form_of_two : List ℕ → List ℕ → Option Form
form_of_two word cat =
    if bytes_eq word (codes "robust") then Some (OfCatalogue Robust cat)
    else if bytes_eq word (codes "needs") then Some (OfCatalogue Needs cat)
    else None

-- and three
abbrev pub form_of_three : List ℕ → List ℕ → List ℕ → Option Form
form_of_three word cat work = if bytes_eq word (codes "robust") then Some (RobustWorkload cat work) else None

-- and four
abbrev pub form_of_four : List ℕ → List ℕ → List ℕ → List ℕ → Option Form
form_of_four word cat work report = if bytes_eq word (codes "certify") then Some (Certify cat work report) else None

-- the form that the words have
unfoldable pub form_in : List (List ℕ) → Option Form
form_in (word ∷ cat ∷ []) = form_of_two word cat
form_in (word ∷ cat ∷ work ∷ []) = form_of_three word cat work
form_in (word ∷ cat ∷ work ∷ report ∷ []) = form_of_four word cat work report
form_in words = None

abbrev pub form_of : Asked → Form
form_of (asks.OfCatalogue question cat) = OfCatalogue question cat.now
form_of (asks.RobustWorkload cat work) = RobustWorkload cat.now work.now
form_of (asks.Certify cat work report) = Certify cat.now work.now report.now
