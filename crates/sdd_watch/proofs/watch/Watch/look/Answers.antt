use Rattle.sdd_watch.proofs.All.{Knows, Watch, all_ok, ap, home_in, of_ok, ◌∙◌}
use Rattle.sdd_watch.proofs.CutDifference.{change_reported}
use Rattle.sdd_watch.proofs.TakingPart.{given_is}
use Rattle.sdd_watch.proofs.watch.Watch.look.Goals as goal

pub look_at_parts-requires : goal.look_at_parts-requires
look_at_parts-requires c = let r = c.requires in (r.0, r.1, r.2, r.3, c.reach_of-reach.ensures r.0 r.2 r.3.calm, r.5)

pub describe_event-requires : goal.describe_event-requires
describe_event-requires c =
    let r = c.requires in
    let reached = c.reach_of-reach.ensures r.0 r.2 r.3.calm in (
      r.0,
      r.1,
      r.2,
      r.3,
      (c.in_ok-seen.ensures.kept r.0 r.1 r.2 r.3 reached r.5).knows,
      c.home_in-home.ensures ∙ ap home_in reached ∙ given_is r.0 r.2 c.args.turn.event c.args.found,
      c.as_slice-arrived.ensures.value ∙ (c.in_ok-seen.ensures.seen r.0 r.1 r.2 r.3 reached r.5).arrived_is,
    )

pub returns-clause-delta : goal.returns-clause-delta
returns-clause-delta c =
    of_ok c.changed.result _ _ c.changed.ensures (λ delta is g old new over at were.
    let reached = c.reach_of-reach.ensures g new over.calm in
    let seen = c.in_ok-seen.ensures.seen g old new over reached were in
    let home = c.home_in-home.ensures ∙ ap home_in reached ∙ given_is g new c.args.turn.event c.args.found in
    let happened = c.in_ok-happened.ensures.happened g old new over at (c.in_ok-seen.ensures.kept g old new over reached were).knows home
    (c.as_slice-arrived.ensures.value ∙ seen.arrived_is) in
    change_reported g old new c.in_ok-happened.happened _ _ delta seen.moved seen.reach seen.aside is happened
    seen.links_before seen.queues_before seen.pipes_before seen.links_after seen.queues_after seen.pipes_after)

pub returns-clause-kept : goal.returns-clause-kept
returns-clause-kept c = all_ok c.changed.result _ (λ g old new over at were.
    let reached = c.reach_of-reach.ensures g new over.calm in
    let seen = c.in_ok-seen.ensures.seen g old new over reached were in
    let looked = c.in_ok-seen.ensures.kept g old new over reached were in
    let end : Knows g new c.describe_event.new.self =
    c.in_ok-happened.ensures.kept g old new over looked.knows (c.as_slice-arrived.ensures.value ∙ seen.arrived_is) in
    record {
      sites = end.sites;
      links = ap (λ (w : Watch). w.links.items) c.in_ok-happened.ensures.others ∙ looked.links;
      queues = ap (λ (w : Watch). w.queues.items) c.in_ok-happened.ensures.others ∙ looked.queues;
      pipes = ap (λ (w : Watch). w.pipes.items) c.in_ok-happened.ensures.others ∙ looked.pipes;
      records = end.records;
      commits = end.commits;
      dones = end.dones;
    })
