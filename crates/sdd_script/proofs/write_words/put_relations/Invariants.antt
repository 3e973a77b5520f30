use Rattle.sdd_script.proofs.All.{RelNo, drop, flat_map, relation_word, spaced, ◌++◌, ◌≡◌}
use Rattle.sdd_script.proofs.write_words.put_relations.Given as goal

-- what was written and what is left to write is all of it
abbrev pub invariant-rels : goal.invariant-rels
invariant-rels l = l.out.items ++ flat_map (λ (r : RelNo). spaced (relation_word l.catalogue r))
    (drop l.rel-index l.rels) ≡ l.fn.out.items ++ flat_map (λ (r : RelNo). spaced (relation_word l.catalogue r))
    l.rels
