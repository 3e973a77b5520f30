-- What is answered of a workload's transactions.
use Rattle.std.specs.Prelude.{ℕ, ◌≡◌, List, [], ◌++◌, codes, map, slice_index_or}
use Rattle.std.specs.List.{All, flat_map}
use Rattle.sdd_lang.specs.All.{Catalogue, database_of}
use Rattle.sdd_lang.specs.declared.transaction.Txn.{Txn}
use Rattle.sdd_script.specs.declared.workload.Workload.{Workload}
use Rattle.sdd_robust_laws.specs.Runs.{IsRobust}
use Rattle.sdd_robust.specs.Members.{members_of}
use Rattle.sdd_robust.specs.Workloads.{IsPivotOf}
use Rattle.sdd_robust.specs.declared.judging.Places.{Places}
use Rattle.sdd_short_runs.specs.Found.{IsExplainedPair}
use Rattle.sdd_short_runs.specs.Pairs.{tried_pairs}
use Rattle.sdd_short_runs.specs.ShortRuns.{IsShortCounterexample}

abbrev pub robust_text : List ℕ
robust_text = codes "snapshot isolation: robust\n"

-- a line of a word and a transaction's name
abbrev pub named_line : List ℕ → Txn → List ℕ
named_line word txn = word ++ (txn.name ++ codes "\n")

-- those that run while the first one does, in their order
abbrev pub run_lines : List Txn → List ℕ
run_lines inner = flat_map (named_line (codes "run ")) inner

-- a short run
abbrev pub not_robust_text : Txn → List Txn → List ℕ
not_robust_text outer inner =
    codes "snapshot isolation: not robust\n"
    ++ (named_line (codes "begin ") outer ++ (run_lines inner ++ named_line (codes "end ") outer))

-- the name of the transaction at a place
abbrev pub name_at : List Txn → ℕ → List ℕ
name_at txns place = slice_index_or (map (λ (txn : Txn). txn.name) txns) place []

-- a pivot with the other two
abbrev pub unknown_text : List Txn → Places → List ℕ
unknown_text txns at =
    codes "snapshot isolation: unknown\npivot "
    ++ (name_at txns at.pivot
    ++ (codes " reads what "
    ++ (name_at txns at.missed ++ (codes " changes, and changes what " ++ (name_at txns at.missing ++ codes " reads\n")))))

-- each pair of the workload's transactions that is tried has an order that gives its replies, where both commit
abbrev pub AreExplained : Catalogue → Workload → Type 0
AreExplained cat work =
    All (IsExplainedPair cat (database_of cat work.rows) work.txns) (tried_pairs (members_of cat work.txns (database_of cat work.rows)))

-- The text answers truly: it says that the transactions are robust only where they are, and that they aren't only with a
-- run that is like no serial one; else it names a transaction that is dangerous by two others, and pairs were tried before.
pub data IsRobustAnswer (cat : Catalogue) (work : Workload) (text : List ℕ) : Type 0 where
  robust : IsRobust cat work.txns (database_of cat work.rows) → text ≡ robust_text → IsRobustAnswer cat work text
  not_robust : (outer : Txn) (inner : List Txn) → IsShortCounterexample cat work.txns (database_of cat work.rows) outer inner
      → text ≡ not_robust_text outer inner → IsRobustAnswer cat work text
  unknown : (at : Places) → IsPivotOf cat work.txns (database_of cat work.rows) at → AreExplained cat work
      → text ≡ unknown_text work.txns at → IsRobustAnswer cat work text
