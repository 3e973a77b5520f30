-- What reading a script of transaction control, or a report, says of what is in it.
use Rattle.sdd_commands.proofs.All.{AcceptsScript, BlamesScript, Catalogue, ComesOfFiles, ControlScript, Err, Explains, HasReadOf, IfErr, List, MAX_REPORT_BYTES, MAX_WORKLOAD_BYTES, MatchResult, No, Ok, ReadFault, ReadsOne, ReadsTo, Result, ShelfFile, ShelfState, Some, Status, Workload, ap, arith, cases_lt, control_script, err_by, explains_more, false, find_file, inl, inr, judged_as, length, lt-leb, lt-ltb, made_of_read, most_bytes, nat_le, nat_lt, not_read, on_ok_by, read_gives, read_to_end, read_to_limit, refl, script_named, silent_at, subst, sym, true, verdict_line, ℕ, ◌<◌, ◌∙◌, ◌≡◌, ◌≤◌}
use Rattle.sdd_commands.proofs.AtFault.{script_at}
use Rattle.sdd_script.specs.declared.fault.WorkRule.TheVariants as work_rules

-- a script of transaction control is as long as a workload at most

long_script : (bytes : List ℕ) → MAX_WORKLOAD_BYTES < length bytes → control_script bytes ≡ Err (record { line = 0; rule = work_rules.TooLong })
long_script bytes long = let yes : nat_lt most_bytes (length bytes) ≡ true = lt-ltb MAX_WORKLOAD_BYTES (length bytes) long in rw yes refl

long_scripts : (a b : List ℕ) → MAX_WORKLOAD_BYTES < length a → MAX_WORKLOAD_BYTES < length b → control_script a ≡ control_script b
long_scripts a b la lb = long_script a la ∙ sym (long_script b lb)

accepted_script_short : (bytes : List ℕ) (s : ControlScript) → control_script bytes ≡ Ok s → length bytes ≤ MAX_WORKLOAD_BYTES
accepted_script_short bytes s ok =
    elim (cases_lt MAX_WORKLOAD_BYTES (length bytes)) [
      | inl past ↦ let bad = long_script bytes past in absurd cc
      | inr within ↦ omega arith
    ]

-- what is accepted of a script that was read

pub script_not_read : {A : Type 0} (name : List ℕ) (before after : ShelfState) (s : Status) → Explains s (λ _. ⊥)
    → ReadsOne {T = A} name before after (Err s) → AcceptsScript name before after (Err s)
script_not_read name before after s silent k = record {
  answered = λ fs known. explains_more s (λ _. ⊥) (BlamesScript (script_named fs name)) (λ v no. absurd no) silent;
  ended = tt;
  at_fault = silent_at _ _ s silent;
  leaves = not_read name before after s k;
}

script_gives : (result : Result ControlScript Status) (fs : List ShelfFile) (name bytes : List ℕ) → ReadsTo MAX_WORKLOAD_BYTES (find_file fs name) bytes
    → MatchResult result (λ x. control_script bytes ≡ Ok x) (λ s. Explains s (BlamesScript (Some (control_script bytes))))
    → MatchResult result (λ x. script_named fs name ≡ Some (Ok x)) (λ s. Explains s (BlamesScript (script_named fs name)))
script_gives (Ok x) fs name bytes reads e = read_gives MAX_WORKLOAD_BYTES control_script long_scripts (find_file fs name) bytes reads ∙ ap (λ r. Some r) e
script_gives (Err s) fs name bytes reads e =
    subst (λ r. Explains s (BlamesScript r)) (sym (read_gives MAX_WORKLOAD_BYTES control_script long_scripts (find_file fs name) bytes reads)) e

pub script_read : {A : Type 0} (name bytes : List ℕ) (before after : ShelfState) (v : A) (f : ℕ) (r : Result ControlScript Status)
    → ((fs : List ShelfFile) → before.files ≡ Some fs → ReadsTo MAX_WORKLOAD_BYTES (find_file fs name) bytes)
    → HasReadOf MAX_WORKLOAD_BYTES name bytes before after f → ReadsOne name before after (Ok v)
    → MatchResult r (λ x. control_script bytes ≡ Ok x) (λ s. Explains s (BlamesScript (Some (control_script bytes))))
    → IfErr r ComesOfFiles → IfErr r (λ s. s ≡ ReadFault → ⊥) → AcceptsScript name before after r
script_read name bytes before after v f r reads has k judged errors no_fault = record {
  answered = λ fs known. script_gives r fs name bytes (reads fs known) judged;
  ended = on_ok_by r (λ x. control_script bytes ≡ Ok x) (λ s. Explains s (BlamesScript (Some (control_script bytes)))) _ judged
      (λ x ok. (f, read_to_end before after MAX_WORKLOAD_BYTES name bytes f has (accepted_script_short bytes x ok)));
  at_fault = err_by r (λ x. control_script bytes ≡ Ok x) (λ s. Explains s (BlamesScript (Some (control_script bytes)))) _ judged
      (λ s told. script_at _ (Some (control_script bytes)) s (f, read_to_limit before after MAX_WORKLOAD_BYTES name bytes f has) told);
  leaves = made_of_read name before after v r k errors no_fault;
}

-- reports past their limit are alike

long_report : (cat : Catalogue) (work : Workload) (bytes : List ℕ) → MAX_REPORT_BYTES < length bytes → judged_as cat work bytes ≡ verdict_line (No 0)
long_report cat work bytes long =
    let no : nat_le (length bytes) MAX_REPORT_BYTES ≡ false = lt-leb (length bytes) MAX_REPORT_BYTES long in
    rw no refl

pub long_reports : (cat : Catalogue) (work : Workload) (a b : List ℕ) → MAX_REPORT_BYTES < length a
    → MAX_REPORT_BYTES < length b → judged_as cat work a ≡ judged_as cat work b
long_reports cat work a b la lb = long_report cat work a la ∙ sym (long_report cat work b lb)
