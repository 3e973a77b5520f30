use Rattle.sdd_lang.proofs.All.{drop, part_uses, ◌++◌, ◌+◌, ◌≡◌}
use Rattle.sdd_lang.proofs.usage.add_parts.Given as goal

-- with the uses of the parts that are left these are all
abbrev pub invariant-loop-rel : goal.invariant-loop-rel
invariant-loop-rel l = record {
  counted : l.part ≡ l.rel-index + 1;
  uses_are : l.uses.items ++ part_uses l.catalogue l.before l.conds l.part
      (drop l.rel-index l.rels) ≡ l.initial.uses.items ++ part_uses l.catalogue l.before l.conds 1 l.rels;
}
