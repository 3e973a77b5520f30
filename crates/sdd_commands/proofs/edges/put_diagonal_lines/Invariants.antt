use Rattle.sdd_commands.proofs.All.{table_text, take, ◌++◌, ◌≡◌}
use Rattle.sdd_commands.proofs.edges.put_diagonal_lines.Given as goal

-- so far the text holds the lines of the entries so far
abbrev pub invariant-entries : goal.invariant-entries
invariant-entries l = l.out.items ≡ l.fn.out.items ++ table_text l.catalogue (take l.entry-index l.entries)
