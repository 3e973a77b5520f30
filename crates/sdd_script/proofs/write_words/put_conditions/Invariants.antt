use Rattle.sdd_script.proofs.All.{conditions_words, drop, more_bytes, where_words, ◌++◌, ◌≡◌}
use Rattle.sdd_script.proofs.write_words.put_conditions.Given as goal

-- what was written and what is left to write is all of it
abbrev pub invariant-conditions : goal.invariant-conditions
invariant-conditions l = l.out.items ++ more_bytes (conditions_words l.key l.catalogue l.rels
    (drop l.condition-index l.conditions)) ≡ l.fn.out.items ++ more_bytes
    (where_words l.catalogue l.rels l.conditions)
