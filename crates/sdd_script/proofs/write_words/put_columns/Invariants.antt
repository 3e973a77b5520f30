use Rattle.sdd_script.proofs.All.{Ref, column_word, drop, flat_map, spaced, ◌++◌, ◌≡◌}
use Rattle.sdd_script.proofs.write_words.put_columns.Given as goal

-- what was written and what is left to write is all of it
abbrev pub invariant-columns : goal.invariant-columns
invariant-columns l = l.out.items ++ flat_map (λ (r : Ref). spaced (column_word l.catalogue l.rels r))
    (drop l.column-index l.columns) ≡ l.fn.out.items ++ flat_map
    (λ (r : Ref). spaced (column_word l.catalogue l.rels r)) l.columns
