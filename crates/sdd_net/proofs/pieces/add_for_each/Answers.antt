use Rattle.std.proofs.lemmas.Grind.{common_steps}
use Rattle.sdd_net.proofs.All.{ap, arith, flat_map, length, sym, take, ◌+◌, ◌∙◌}
use Rattle.sdd_net.proofs.Joined.{count_more, times_more}
use Rattle.sdd_net.proofs.pieces.add_for_each.Goals as goal

pub loop-at-preserved : goal.loop-at-preserved
loop-at-preserved g c =
    let pieces = c.args.pieces.now in
    let held = length (flat_map (λ q. q.items) (take c.loop-at.at pieces)) in
    times_more c.args.events.now.items c.loop-at.events.items c.add_times.new.events.items c.args.event held c.len.result _ c.loop-at.invariant c.in_ok-add_times.ensures
    (count_more (λ q. q.items) pieces c.loop-at.at c.index-pieces-at.result (omega arith) c.index-pieces-at.is
    ∙ ap (λ n. held + n) (sym (c.len.ensures ∙ c.index-pieces-at.result.ok.0)))

pub returns : goal.returns
returns g c = grind (arith, common_steps)
