use Rattle.sdd_copy.proofs.All.{ap, deref_pair, iter_end, rows_meeting, ◌∙◌}
use Rattle.sdd_copy.proofs.Ranges.{met_end}
use Rattle.sdd_copy.proofs.frag_copy.met_within.Goals as goal

pub loop-key-preserved : goal.loop-key-preserved
loop-key-preserved c =
    met_end deref_pair c.args.restrictions.now c.loop-key.rows.items c.add_met.new.rows.items c.loop-key.yielded
    (c.in-Some.key, c.in-Some.item) c.loop-key.invariant c.in_ok-add_met.ensures

pub returns : goal.returns
returns c =
    let gives = c.into_iter-key-iterator.ensures.into_iter_gives in
    let all = (iter_end deref_pair _ c.loop-key.yielded _ _ _ _ gives c.loop-key.yielded_by c.in-None.is c.next.ensures.steps).0 in
    c.loop-key.invariant
    ∙ ap (rows_meeting c.args.restrictions.now) all
    ∙ ap (rows_meeting c.args.restrictions.now) c.within-key-items.ensures
