use Rattle.sdd_dm.proofs.All.{FitsSigned, ap, fragment_of, rules, to_z-of_z, w64, ◌∙◌}
use Rattle.sdd_dm.proofs.Beginning.{first_entry, later_entries, one_written, with_key}
use Rattle.sdd_dm.proofs.starting.write_rows.Goals as goal

pub fragment_of-frag-requires-clause-from : goal.fragment_of-frag-requires-clause-from
fragment_of-frag-requires-clause-from c = (first_entry c.args.catalogue.now _ _ _ c.in-Some.ensures.steps c.loop-item.invariant.entries).relation.0

pub fragment_of-frag-requires-clause-to : goal.fragment_of-frag-requires-clause-to
fragment_of-frag-requires-clause-to c = (first_entry c.args.catalogue.now _ _ _ c.in-Some.ensures.steps c.loop-item.invariant.entries).relation.1

pub loop-item-preserved : goal.loop-item-preserved
loop-item-preserved c =
    let fits : FitsSigned w64 c.in-Some.item.now.1 = search rules in
    record {
      live = c.in_ok-write_row.ensures.live;
      entries = later_entries c.args.catalogue.now _ _ _ c.in-Some.ensures.steps c.loop-item.invariant.entries;
      value = one_written c.args.catalogue.now _ _ _ c.fragment_of-frag.result c.loop-item.copies.value c.write_row.new.copies.value _ c.in-Some.ensures.steps
          (c.fragment_of-frag.ensures.number ∙ ap (fragment_of c.args.catalogue.now c.in-Some.item.now.0) (to_z-of_z fits))
          (c.in_ok-write_row.ensures.value ∙ ap (with_key c.loop-item.copies.value c.fragment_of-frag.result c.in-Some.row.now.now) (to_z-of_z fits))
          c.loop-item.invariant.value;
    }
