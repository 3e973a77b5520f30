use Rattle.sdd_words.proofs.All.{Value, drop, flat_map, spaced, value_word, ◌++◌, ◌≡◌}
use Rattle.sdd_words.proofs.write.put_values.Given as goal

-- what was written and what is left to write is all of it
abbrev pub invariant-values : goal.invariant-values
invariant-values l =
    l.out.items ++ flat_map (λ (v : Value). spaced (value_word v)) (drop l.value-index l.values) ≡ l.fn.out.items ++ flat_map (λ (v : Value). spaced (value_word v)) l.values
