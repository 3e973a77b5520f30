-- The forms of the command line, each by its words.
use Rattle.std.specs.Prelude.{ℕ, ◌^◌, ◌<◌, ◌≤◌, ◌≡◌, ◌&&◌, nat_lt, List, [], ◌∷◌, codes, Option, Some, None, if◌then◌else◌}
use Rattle.std.specs.Fmt.{decimal}
use Rattle.std.specs.Str.{bytes_eq}
use Rattle.std.specs.Str.Parse.{digits_value}
use Rattle.sdd_commands.specs.declared.command.Command.{Command}
use Rattle.sdd_commands.specs.declared.command.Command.TheVariants as commands

pub data Form : Type 0 where
  Check : List ℕ → Form
  Graph : List ℕ → Form
  Table : List ℕ → Form
  Run : List ℕ → List ℕ → Form
  Plain : List ℕ → List ℕ → Form
  Control : List ℕ → Form
  Make : ℕ → ℕ → Form
  Verify : List ℕ → List ℕ → List ℕ → Form
  Advise : List ℕ → Form

-- the line that tells the forms
abbrev pub usage_line : List ℕ
usage_line = codes "usage: sdd1 check CAT | graph CAT | table CAT | run CAT WORK | plain CAT WORK | make SEED N | control FILE | verify CAT WORK REPORT | advise CAT\n"

-- a seed is below 2^31, and at most 2,048 transactions are made
abbrev pub IsForm : Form → Type 0
IsForm (Make seed count) = (seed < 2 ^ 31) × (count ≤ 2048)
IsForm _ = Unit {0}

abbrev pub words_of : Form → List (List ℕ)
words_of (Check cat) = codes "check" ∷ cat ∷ []
words_of (Graph cat) = codes "graph" ∷ cat ∷ []
words_of (Table cat) = codes "table" ∷ cat ∷ []
words_of (Run cat work) = codes "run" ∷ cat ∷ work ∷ []
words_of (Plain cat work) = codes "plain" ∷ cat ∷ work ∷ []
words_of (Control file) = codes "control" ∷ file ∷ []
words_of (Make seed count) = codes "make" ∷ decimal seed ∷ decimal count ∷ []
words_of (Verify cat work report) = codes "verify" ∷ cat ∷ work ∷ report ∷ []
words_of (Advise cat) = codes "advise" ∷ cat ∷ []

-- the words are none of the forms
abbrev pub IsNoForm : List (List ℕ) → Type 0
IsNoForm ws = (f : Form) → IsForm f → ws ≡ words_of f → ⊥

-- the number below a bound whose decimal spelling the bytes are
unfoldable pub count_in : ℕ → List ℕ → Option ℕ
count_in bound bytes =
    let n = digits_value 10 bytes in
    if bytes_eq bytes (decimal n) && nat_lt n bound then Some n else None

-- the form that two words have: a command and a file
abbrev pub form_of_two : List ℕ → List ℕ → Option Form
form_of_two name cat =
    if bytes_eq name (codes "check") then Some (Check cat)
    else if bytes_eq name (codes "graph") then Some (Graph cat)
    else if bytes_eq name (codes "table") then Some (Table cat)
    else if bytes_eq name (codes "control") then Some (Control cat)
    else if bytes_eq name (codes "advise") then Some (Advise cat)
    else None

abbrev pub made : Option ℕ → Option ℕ → Option Form
made (Some seed) (Some count) = Some (Make seed count)
made (Some seed) None = None
made None count = None

-- and three
abbrev pub form_of_three : List ℕ → List ℕ → List ℕ → Option Form
form_of_three name first second =
    if bytes_eq name (codes "run") then Some (Run first second)
    else if bytes_eq name (codes "plain") then Some (Plain first second)
    else if bytes_eq name (codes "make") then made (count_in (2 ^ 31) first) (count_in 2049 second)
    else None

-- and four
abbrev pub form_of_four : List ℕ → List ℕ → List ℕ → List ℕ → Option Form
form_of_four name cat work report = if bytes_eq name (codes "verify") then Some (Verify cat work report) else None

-- the form that the words have
unfoldable pub form_in : List (List ℕ) → Option Form
form_in (name ∷ cat ∷ []) = form_of_two name cat
form_in (name ∷ first ∷ second ∷ []) = form_of_three name first second
form_in (name ∷ cat ∷ work ∷ report ∷ []) = form_of_four name cat work report
form_in words = None

abbrev pub form_of : Command → Form
form_of (commands.Check cat) = Check cat.now
form_of (commands.Graph cat) = Graph cat.now
form_of (commands.Table cat) = Table cat.now
form_of (commands.Run cat work) = Run cat.now work.now
form_of (commands.Plain cat work) = Plain cat.now work.now
form_of (commands.Control file) = Control file.now
form_of (commands.Make seed count) = Make seed count
form_of (commands.Verify cat work report) = Verify cat.now work.now report.now
form_of (commands.Advise cat) = Advise cat.now

-- the command makes an input of these words
abbrev pub MakesBy : List ℕ → List ℕ → Command → Type 0
MakesBy seed count (commands.Make s n) = (s < 2 ^ 31) × (n ≤ 2048) × (seed ≡ decimal s) × (count ≡ decimal n)
MakesBy seed count _ = ⊥
