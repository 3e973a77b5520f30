use Rattle.sdd_script.proofs.All.{List, drop, ended, flat_map, writes_words, ℕ, ◌++◌, ◌≡◌}
use Rattle.sdd_script.proofs.write_lists.put_writes.Given as goal

-- what was written and what is left to write is all of it
abbrev pub invariant-fragments : goal.invariant-fragments
invariant-fragments l = l.out.items ++ flat_map (λ (f : List ℕ). ended (writes_words f))
    (drop l.fragment-index l.fragments) ≡ l.fn.out.items ++ flat_map
    (λ (f : List ℕ). ended (writes_words f)) l.fragments
