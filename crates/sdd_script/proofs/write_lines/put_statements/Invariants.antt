use Rattle.sdd_script.proofs.All.{Stmt, drop, ended, flat_map, statement_words, ◌++◌, ◌≡◌}
use Rattle.sdd_script.proofs.write_lines.put_statements.Given as goal

-- what was written and what is left to write is all of it
abbrev pub invariant-statements : goal.invariant-statements
invariant-statements l = l.out.items ++ flat_map (λ (s : Stmt). ended (statement_words l.catalogue s))
    (drop l.statement-index l.statements) ≡ l.fn.out.items ++ flat_map
    (λ (s : Stmt). ended (statement_words l.catalogue s)) l.statements
