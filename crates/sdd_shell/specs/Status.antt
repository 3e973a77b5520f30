-- What each status says.
use Rattle.std.specs.Prelude.{ℕ, List, [], ◌++◌, codes, ◌≡◌, refl}
use Rattle.std.specs.Fmt.{decimal}
use Rattle.sdd_lang.specs.All.{CatFault, CatRule}
use Rattle.sdd_lang.specs.catalog.declared.fault.CatRule.TheVariants as rules_of
use Rattle.sdd_lang.specs.catalog.declared.fault.Counted.{Counted}
use Rattle.sdd_lang.specs.catalog.declared.fault.Counted.TheVariants as counted
use Rattle.sdd_lang.specs.catalog.declared.fault.Part.{Part}
use Rattle.sdd_lang.specs.catalog.declared.fault.Part.TheVariants as parts
use Rattle.sdd_script.specs.declared.fault.Counts.{Counts}
use Rattle.sdd_script.specs.declared.fault.Counts.TheVariants as counts
use Rattle.sdd_script.specs.declared.fault.WorkFault.{WorkFault}
use Rattle.sdd_script.specs.declared.fault.WorkRule.{WorkRule}
use Rattle.sdd_script.specs.declared.fault.WorkRule.TheVariants as work_rules
use Rattle.sdd_shell.specs.declared.status.Status.{Status}
use Rattle.sdd_shell.specs.declared.status.Status.TheVariants.{Done, Usage, BadCatalogue, BadWorkload, ReadFault, WriteFault, NoMemory, Limit}

-- the place of a fault: the top, or a part with its number
abbrev pub part_word : Part → List ℕ
part_word parts.Top = codes "top"
part_word parts.Relation = codes "relation "
part_word parts.Fragment = codes "fragment "
part_word parts.Class = codes "class "

abbrev pub number_word : Part → ℕ → List ℕ
number_word parts.Top number = []
number_word parts.Relation number = decimal number
number_word parts.Fragment number = decimal number
number_word parts.Class number = decimal number

-- the rule's name
abbrev pub rule_word : CatRule → List ℕ
rule_word (rules_of.TooMany what) = codes "TooMany"
rule_word rules_of.DuplicateName = codes "DuplicateName"
rule_word rules_of.UnknownName = codes "UnknownName"
rule_word rules_of.BadKey = codes "BadKey"
rule_word rules_of.RangeGap = codes "RangeGap"
rule_word rules_of.RangeOverlap = codes "RangeOverlap"
rule_word rules_of.NoCopy = codes "NoCopy"
rule_word rules_of.ReadsWhereNoCopy = codes "ReadsWhereNoCopy"
rule_word rules_of.NotToml = codes "NotToml"
rule_word rules_of.MissingField = codes "MissingField"
rule_word rules_of.WrongKind = codes "WrongKind"
rule_word rules_of.UnknownField = codes "UnknownField"
rule_word rules_of.TooLong = codes "TooLong"
rule_word (rules_of.TooFew what) = codes "TooFew"

abbrev pub counted_word : Counted → List ℕ
counted_word counted.Tm = codes " tm"
counted_word counted.Dm = codes " dm"
counted_word counted.Relation = codes " relation"
counted_word counted.Column = codes " column"
counted_word counted.Fragment = codes " fragment"
counted_word counted.Class = codes " class"
counted_word counted.Read = codes " read"

-- what was counted, after a space, where something was
abbrev pub counted_words : CatRule → List ℕ
counted_words (rules_of.TooMany what) = counted_word what
counted_words (rules_of.TooFew what) = counted_word what
counted_words rule = []

abbrev pub fault_line : CatFault → List ℕ
fault_line fault = codes "catalogue: " ++ (part_word fault.part ++ (number_word fault.part
    fault.number ++ (codes ": " ++ (rule_word fault.rule ++ (counted_words fault.rule ++ codes "\n")))))

abbrev pub work_rule_word : WorkRule → List ℕ
work_rule_word work_rules.NotUtf8 = codes "NotUtf8"
work_rule_word work_rules.TooLong = codes "TooLong"
work_rule_word work_rules.BadLine = codes "BadLine"
work_rule_word work_rules.UnknownName = codes "UnknownName"
work_rule_word work_rules.WrongKind = codes "WrongKind"
work_rule_word work_rules.DuplicateTxn = codes "DuplicateTxn"
work_rule_word work_rules.SubmittedTwice = codes "SubmittedTwice"
work_rule_word (work_rules.TooMany what) = codes "TooMany"
work_rule_word work_rules.KeyChanged = codes "KeyChanged"
work_rule_word work_rules.BadNumber = codes "BadNumber"
work_rule_word work_rules.BadEvent = codes "BadEvent"
work_rule_word work_rules.NoEnd = codes "NoEnd"
work_rule_word work_rules.BadClass = codes "BadClass"

-- what there were too many of, after a space
abbrev pub many_word : Counts → List ℕ
many_word counts.Row = codes " row"
many_word counts.Txn = codes " txn"
many_word counts.Statement = codes " statement"
many_word counts.Part = codes " part"
many_word counts.Cond = codes " cond"
many_word counts.Column = codes " column"
many_word counts.Event = codes " event"
many_word counts.Class = codes " class"
many_word counts.Read = codes " read"
many_word counts.List = codes " list"

abbrev pub many_words : WorkRule → List ℕ
many_words (work_rules.TooMany what) = many_word what
many_words rule = []

abbrev pub work_fault_line : WorkFault → List ℕ
work_fault_line fault = codes "workload: line " ++ (decimal fault.line ++ (codes ": " ++ (work_rule_word fault.rule ++ (many_words fault.rule ++ codes "\n"))))

-- the line on standard error, of a program that tells by the first how it is called
abbrev pub line_of : List ℕ → Status → List ℕ
line_of usage Done = []
line_of usage Usage = usage
line_of usage (BadCatalogue fault) = fault_line fault
line_of usage (BadWorkload fault) = work_fault_line fault
line_of usage ReadFault = codes "read fault\n"
line_of usage WriteFault = codes "write fault\n"
line_of usage NoMemory = codes "no memory\n"
line_of usage Limit = codes "limit\n"

-- the number that the process ends with
abbrev pub number_of_status : Status → ℕ
number_of_status Done = 0
number_of_status Usage = 2
number_of_status (BadCatalogue fault) = 3
number_of_status (BadWorkload fault) = 4
number_of_status Limit = 5
number_of_status ReadFault = 6
number_of_status WriteFault = 7
number_of_status NoMemory = 8

-- worked: a gap before the second fragment, and too many classes
pub gap_line : line_of [] (BadCatalogue (record {
  rule = rules_of.RangeGap;
  part = parts.Fragment;
  number =
      2;
})) ≡ codes "catalogue: fragment " ++ (decimal 2 ++ codes ": RangeGap\n")
gap_line = refl

pub many_line : line_of [] (BadCatalogue (record {
  rule = rules_of.TooMany counted.Class;
  part =
      parts.Top;
  number = 0;
})) ≡ codes "catalogue: top: TooMany class\n"
many_line = refl

pub twice_line : line_of [] (BadWorkload (record { line = 5; rule = work_rules.SubmittedTwice })) ≡ codes
    "workload: line " ++ (decimal 5 ++ codes ": SubmittedTwice\n")
twice_line = refl
