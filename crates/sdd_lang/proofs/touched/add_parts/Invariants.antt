use Rattle.sdd_lang.proofs.All.{drop, fragments_in, members, part_uses, put_all, ◌+◌, ◌≡◌}
use Rattle.sdd_lang.proofs.touched.add_parts.Given as goal

-- with the fragments of the parts that are left these are all
abbrev pub invariant-loop-rel : goal.invariant-loop-rel
invariant-loop-rel l = record {
  counted : l.part ≡ l.rel-index + 1;
  set_is : put_all (members l.catalogue l.set) (fragments_in (part_uses l.catalogue 0 l.conds l.part (drop l.rel-index l.rels)))
      ≡ put_all (members l.catalogue l.fn.set) (fragments_in (part_uses l.catalogue 0 l.conds 1 l.rels));
}
