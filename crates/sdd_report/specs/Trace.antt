-- The trace: one line a record, which begins with the number of its event.
use Rattle.std.specs.Prelude.{ℕ, List, [], ◌∷◌, ◌++◌, codes, flat_map, Option, Some, None}
use Rattle.std.specs.Fmt.{decimal}
use Rattle.sdd_lang.specs.All.{Catalogue, Cond, Ts}
use Rattle.sdd_history.specs.declared.record.Rec.{Rec}
use Rattle.sdd_history.specs.declared.record.Rec.TheVariants as records
use Rattle.sdd_lang.specs.declared.transaction.Txn.{Txn}
use Rattle.sdd_report.specs.Names.{spaced, txn_name, attempt_word, class_word, module_word, class_time}

-- a transaction is submitted
abbrev pub of_submit : List Txn → ℕ → List ℕ
of_submit txns n = codes "submit" ++ spaced (txn_name txns n)

-- an attempt, after a word that says what happens to it
abbrev pub of_attempt : List ℕ → List Txn → ℕ → ℕ → List ℕ
of_attempt word txns n attempt = word ++ spaced (attempt_word txns n attempt)

-- an attempt at a data module
abbrev pub of_visit : List ℕ → List Txn → ℕ → ℕ → ℕ → List ℕ
of_visit word txns n attempt d = of_attempt word txns n attempt ++ spaced (module_word d)

-- the time up to which protocol P2 asks, where there is one
abbrev pub time_word : Option Ts → List ℕ
time_word None = codes "-"
time_word (Some time) = decimal time.0

-- the classes and times of conditions
abbrev pub cond_words : Catalogue → List Cond → List ℕ
cond_words cat conds = flat_map (λ (c : Cond). class_time cat c.class.0 c.time.0) conds

-- the WRITE of a transaction at a data module, and a NULL of a class there

abbrev pub of_apply : List Txn → ℕ → ℕ → List ℕ
of_apply txns n d = codes "apply" ++ (spaced (txn_name txns n) ++ spaced (module_word d))

abbrev pub of_pass : Catalogue → ℕ → ℕ → ℕ → List ℕ
of_pass cat c d time = codes "pass" ++ (spaced (class_word cat c) ++ (spaced (module_word d) ++ spaced (decimal time)))

-- what happened, without the number of its event
abbrev pub record_words : Catalogue → List Txn → Rec → List ℕ
record_words cat txns (records.Submit txn) = of_submit txns txn.0
record_words cat txns (records.Start txn attempt class ts p2 uses) =
    of_attempt (codes "start") txns txn.0 attempt ++ (class_time cat class.0 ts.0 ++ spaced (time_word p2))
record_words cat txns (records.Arrive txn attempt dm) = of_visit (codes "arrive") txns txn.0 attempt dm.0
record_words cat txns (records.Wait txn attempt dm conds) = of_visit (codes "wait") txns txn.0 attempt dm.0 ++ cond_words cat conds
record_words cat txns (records.Answer txn attempt dm) = of_visit (codes "answer") txns txn.0 attempt dm.0
record_words cat txns (records.Reject txn attempt dm class ts) = of_visit (codes "reject") txns txn.0 attempt dm.0 ++ class_time cat class.0 ts.0
record_words cat txns (records.Commit txn attempt reply changes values rows) = of_attempt (codes "commit") txns txn.0 attempt
record_words cat txns (records.Apply txn class dm ts) = of_apply txns txn.0 dm.0
record_words cat txns (records.Pass class dm time) = of_pass cat class.0 dm.0 time.0
record_words cat txns records.Nothing = codes "nothing"

-- the line of a record
abbrev pub trace_line : Catalogue → List Txn → ℕ × Rec → List ℕ
trace_line cat txns made = decimal made.0 ++ (spaced (record_words cat txns made.1) ++ 10 ∷ [])

-- one line for each record, in their order
abbrev pub trace : Catalogue → List Txn → List (ℕ × Rec) → List ℕ
trace cat txns history = flat_map (trace_line cat txns) history
