use Rattle.sdd_exec.proofs.All.{entries_of, of_relation, ℕ, ◌++◌, ◌≡◌}
use Rattle.sdd_exec.proofs.matched.list_entries.Given as goal

abbrev pub invariant-loop-key : goal.invariant-loop-key
invariant-loop-key l = (rel : ℕ) → entries_of rel l.list.items ++ of_relation rel l.key-iterator ≡ of_relation rel l.fn.entries.entries
