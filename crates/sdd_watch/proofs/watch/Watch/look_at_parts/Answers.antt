use Rattle.sdd_watch.proofs.All.{AreAside, Bool, Catalogue, Event, Found, History, Input, IsOver, Log, Reach, Watch, Watches, World, all_sites, ap, arith, drop, history, is_of_queue, list_any, numbers_to, queues_by, reach_of, refl, watched_links, watched_pipes, ◌∙◌, ◌≡◌}
use Rattle.sdd_watch.proofs.KeptBeside.{beside, known}
use Rattle.sdd_moments.proofs.Visited.{written_back}
use Rattle.sdd_moments.proofs.LinksLooked.{reach_reported}
use Rattle.sdd_moments.proofs.QueuesKept.{are_aside}
use Rattle.sdd_watch.proofs.watch.Watch.look_at_parts.Goals as goal

pub look_at_links-requires : goal.look_at_links-requires
look_at_links-requires c =
    let r = c.requires in (
      r.0,
      r.1,
      r.2,
      r.3,
      r.4,
      c.tms-tms.ensures ∙ ap (λ (k : Catalogue). k.tms) (c.whole.ensures r.0 r.2 r.3.calm),
      c.deref_mut.ensures.value ∙ r.5.links,
    )

-- the queues that aren't looked at stay

still : (g : Input) (old new : Log) (w : World) (event : Event) (found : Found) (watch : Watch) (records : History) (moved : Bool) (reach : Reach)
    → IsOver g old new w event found → Watches g old watch → moved ≡ list_any is_of_queue (drop watch.records records) → records ≡ history new
    → reach ≡ reach_of g new event found → AreAside g old new moved reach
still g old new w event found watch records moved reach over were moves is at =
    are_aside g old new moved reach over.calm.parts.good over.between (moves ∙ (λ i. list_any is_of_queue (drop (were.records i) (is i))))
    (reach_reported g old new event found reach over.event_is over.found_is at)

pub look_at_queues-requires : goal.look_at_queues-requires
look_at_queues-requires c =
    let r = c.requires in (
      r.0,
      r.1,
      r.2,
      r.3.calm,
      still r.0 r.1 r.2 c.args.world.now c.args.event.now c.args.found.now c.args.self.now c.as_slice.result.now c.have_moved-moved.result c.args.reach
          r.3 r.5 c.have_moved-moved.ensures (c.as_slice.ensures ∙ c.history.ensures r.0 r.2 r.3.calm) r.4,
      c.deref_mut-2.ensures.value ∙ r.5.queues,
    )

pub look_at_pipes-requires : goal.look_at_pipes-requires
look_at_pipes-requires c = let r = c.requires in (r.0, r.1, r.2, r.3.calm, c.deref_mut-3.ensures.value ∙ r.5.pipes)

pub returns-clause-seen : goal.returns-clause-seen
returns-clause-seen c = λ g old new over reached were.
    let links = c.deref_mut.ensures.value ∙ were.links in
    let queues = c.deref_mut-2.ensures.value ∙ were.queues in
    let pipes = c.deref_mut-3.ensures.value ∙ were.pipes in
    let between = reach_reported g old new c.args.event.now c.args.found.now c.args.reach over.event_is over.found_is reached in
    let tms = c.tms-tms.ensures ∙ ap (λ (k : Catalogue). k.tms) (c.whole.ensures g new over.calm) in
    let came = c.in_ok-links.ensures.arrived g old new over reached tms links in
    let quiet = still g old new c.args.world.now c.args.event.now c.args.found.now c.args.self.now c.as_slice.result.now c.have_moved-moved.result c.args.reach
    over were c.have_moved-moved.ensures (c.as_slice.ensures ∙ c.history.ensures g new over.calm) reached in
    record {
      links_before = c.in_ok-links.ensures.before g old new over reached tms links;
      links_after = c.in_ok-links.ensures.after g old new over reached tms links;
      arrived_is = came;
      moved = c.have_moved-moved.result;
      reach = c.args.reach;
      aside = quiet;
      queues_before = c.in_ok-queues.ensures.before g old new over.calm quiet queues;
      queues_after = c.in_ok-queues.ensures.after g old new over.calm quiet queues;
      pipes_before = c.in_ok-pipes.ensures.before g old new over.calm over.between between (c.as_slice-2.ensures.value ∙ came) pipes;
      pipes_after = c.in_ok-pipes.ensures.after g old new over.calm over.between between (c.as_slice-2.ensures.value ∙ came) pipes;
    }

pub returns-clause-kept : goal.returns-clause-kept
returns-clause-kept c = λ g old new over reached were.
    let links = c.deref_mut.ensures.value ∙ were.links in
    let queues = c.deref_mut-2.ensures.value ∙ were.queues in
    let pipes = c.deref_mut-3.ensures.value ∙ were.pipes in
    let between = reach_reported g old new c.args.event.now c.args.found.now c.args.reach over.event_is over.found_is reached in
    let tms = c.tms-tms.ensures ∙ ap (λ (k : Catalogue). k.tms) (c.whole.ensures g new over.calm) in
    let came = c.in_ok-links.ensures.arrived g old new over reached tms links in
    let quiet = still g old new c.args.world.now c.args.event.now c.args.found.now c.args.self.now c.as_slice.result.now c.have_moved-moved.result c.args.reach
    over were c.have_moved-moved.ensures (c.as_slice.ensures ∙ c.history.ensures g new over.calm) reached in
    record {
      knows = beside g old c.args.self.now _ refl refl refl refl (known g old c.args.self.now were);
      links = written_back (watched_links g old) (watched_links g new) (all_sites g) c.args.self.now.links.items c.look_at_links.new.links
          c.args.self.now.links.len (omega (arith, c.args.self.now.links.ok.0)) were.links (c.in_ok-links.ensures.kept g old new over reached tms links);
      queues = written_back (queues_by g old) (queues_by g new) (all_sites g) c.args.self.now.queues.items c.look_at_queues.new.queues
          c.args.self.now.queues.len (omega (arith, c.args.self.now.queues.ok.0)) were.queues
          (c.in_ok-queues.ensures.kept g old new over.calm quiet queues);
      pipes = written_back (watched_pipes g old) (watched_pipes g new) (numbers_to g.catalogue.dms) c.args.self.now.pipes.items c.look_at_pipes.new.pipes
          c.args.self.now.pipes.len (omega (arith, c.args.self.now.pipes.ok.0)) were.pipes
          (c.in_ok-pipes.ensures.kept g old new over.calm over.between between (c.as_slice-2.ensures.value ∙ came) pipes);
    }
