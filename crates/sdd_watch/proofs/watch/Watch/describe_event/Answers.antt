use Rattle.sdd_watch.proofs.All.{AreDones, Watch, all_sites, ap, map, refl, state_of, subst, sym, ◌∙◌}
use Rattle.sdd_watch.proofs.Happening.{dones_more, happened_is, takers_there}
use Rattle.sdd_watch.proofs.watch.Watch.describe_event.Goals as goal

pub states-requires : goal.states-requires
states-requires c =
    let r = c.requires in
    let g = r.0 in
    let good = r.3.calm.parts.good in (
      g,
      r.2,
      r.3.calm,
      dones_more g r.1 r.2 c.args.arrived.now c.args.self.now.dones c.note.new.self good r.3.between r.6 c.in_ok-note.ensures r.4.dones,
      takers_there g r.1 r.2 (all_sites g) c.as_slice-2.result.now refl
          (c.as_slice-2.ensures.value
          ∙ c.in_ok-busy.ensures g r.1 r.2 r.3.event_is r.3.found_is r.6 r.5 (c.as_slice.ensures.value ∙ r.4.sites)),
    )

pub rows-requires : goal.rows-requires
rows-requires c = let r = c.requires in (r.0, r.1, r.2, r.3.calm, r.3.between, r.4.records, r.4.commits)

pub returns-clause-happened : goal.returns-clause-happened
returns-clause-happened c = λ g old new over at knows home is.
    let good = over.calm.parts.good in
    let all = c.as_slice.ensures.value ∙ knows.sites in
    let takers = c.in_ok-busy.ensures g old new over.event_is over.found_is is home all in
    let said = dones_more g old new c.args.arrived.now c.args.self.now.dones c.note.new.self good over.between is c.in_ok-note.ensures knows.dones in
    let there = takers_there g old new (all_sites g) c.as_slice-2.result.now refl (c.as_slice-2.ensures.value ∙ takers) in
    happened_is g old new c.args.world.now c.args.turn c.args.found c.events.result c.from_vec.result c.from_vec-2.result over at
    (c.events.ensures g new over.calm)
    (c.from_vec.ensures ∙ c.in_ok-rows.ensures.rows g old new over.calm over.between knows.records knows.commits)
    (c.from_vec-2.ensures ∙ c.in_ok-states.ensures g new over.calm said there
    ∙ ap (map (state_of g new)) (c.as_slice-2.ensures.value ∙ takers))

pub returns-clause-kept : goal.returns-clause-kept
returns-clause-kept c = λ g old new over knows is.
    let good = over.calm.parts.good in
    record {
      sites = ap (λ (w : Watch). w.sites.items) c.in_ok-rows.ensures.others ∙ knows.sites;
      records = c.in_ok-rows.ensures.records g new over.calm;
      commits = c.in_ok-rows.ensures.commits g old new over.calm over.between knows.records knows.commits;
      dones = subst (λ (w : Watch). AreDones g new w.dones) (sym c.in_ok-rows.ensures.others)
          (dones_more g old new c.args.arrived.now c.args.self.now.dones c.note.new.self good over.between is c.in_ok-note.ensures knows.dones);
    }
