-- The files of the made input.
use Rattle.std.specs.Prelude.{ℕ, List, ◌++◌, codes}
use Rattle.sdd_script.specs.All.{spelling}
use Rattle.sdd_make.specs.Bank.{bank}
use Rattle.sdd_make.specs.Turns.{workload_of}

-- the tables of the file, one by one

abbrev pub relation_text : List ℕ
relation_text = codes "[[relation]]\nname = \"account\"\ncolumns = [{name = \"id\", kind = \"int\"}, {name = \"owner\", kind = \"text\"}, {name = \"bal\", kind = \"int\"}]\nkey = \"id\"\n"

abbrev pub east_text : List ℕ
east_text = codes "[[fragment]]\nname = \"east\"\nrelation = \"account\"\nto = 999\ncopies = [1, 3]\n"

abbrev pub west_text : List ℕ
west_text = codes "[[fragment]]\nname = \"west\"\nrelation = \"account\"\nfrom = 1000\ncopies = [2, 3]\n"

abbrev pub eastpay_text : List ℕ
eastpay_text = codes "[[class]]\nname = \"eastpay\"\ntm = 1\nreads = [{fragment = \"east\", at = 1}]\nwrites = [\"east\"]\n"

abbrev pub westpay_text : List ℕ
westpay_text = codes "[[class]]\nname = \"westpay\"\ntm = 2\nreads = [{fragment = \"west\", at = 2}]\nwrites = [\"west\"]\n"

abbrev pub book_text : List ℕ
book_text = codes "[[class]]\nname = \"book\"\ntm = 3\nreads = [{fragment = \"east\", at = 3}, {fragment = \"west\", at = 3}]\n"

abbrev pub moving_text : List ℕ
moving_text = codes "[[class]]\nname = \"move\"\ntm = 3\nreads = [{fragment = \"east\", at = 1}, {fragment = \"west\", at = 2}]\nwrites = [\"east\", \"west\"]\n"

-- the modules, the relation and the fragments
abbrev pub parts_text : List ℕ
parts_text = codes "tms = 3\ndms = 3\n" ++ (relation_text ++ (east_text ++ west_text))

-- the classes of payments within a fragment, and all classes

abbrev pub payments_text : List ℕ
payments_text = eastpay_text ++ westpay_text

abbrev pub classes_text : List ℕ
classes_text = payments_text ++ (book_text ++ moving_text)

-- a file of the bank's catalogue
abbrev pub catalogue_text : List ℕ
catalogue_text = parts_text ++ classes_text

-- the one spelling of the made workload
abbrev pub workload_text : ℕ → ℕ → List ℕ
workload_text seed n = spelling bank (workload_of seed n)
