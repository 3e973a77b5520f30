use Rattle.sdd_script.proofs.All.{List, RelNo, Value, drop, ended, flat_map, start_words, ◌++◌, ◌≡◌}
use Rattle.sdd_script.proofs.write_lines.put_starts.Given as goal

-- what was written and what is left to write is all of it
abbrev pub invariant-rows : goal.invariant-rows
invariant-rows l = l.out.items ++ flat_map (λ (r : RelNo × List Value). ended (start_words l.catalogue r))
    (drop l.row-index l.rows) ≡ l.fn.out.items ++ flat_map (λ (r : RelNo × List Value). ended
    (start_words l.catalogue r)) l.rows
