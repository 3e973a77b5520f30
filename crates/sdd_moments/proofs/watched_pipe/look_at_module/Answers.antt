use Rattle.sdd_moments.proofs.All.{Arrived, D, Input, List, Log, Site, WatchedPipe, ap, arith, arrived, dm_no, false, is_reached, list_any, pipes_at_module, same_site, sym, watched_pipe, watched_pipes, ℕ, ◌∙◌, ◌≡◌}
use Rattle.sdd_moments.proofs.Visited.{written_back}
use Rattle.sdd_moments.proofs.PipesKept.{module_kept, none_seen}
use Rattle.sdd_moments.proofs.SitesReached.{reached_is}
use Rattle.sdd_moments.proofs.watched_pipe.look_at_module.Goals as goal

unreached : (c : goal.Then-not-is_reached) (g : Input) (old new : Log) (d : ℕ) → c.args.arrived.now ≡ arrived g old new
    → c.args.pipes.now ≡ watched_pipes g old d → is_reached g old new (D (dm_no d)) ≡ false
unreached c g old new d all stood =
    sym (reached_is g old new (D (dm_no d)) c.args.arrived.now c.is_reached.result
    (c.is_reached.ensures
    ∙ ap (λ (v : Site × List WatchedPipe). list_any (λ (one : Arrived). same_site one.to v.0) c.args.arrived.now) (c.pipes.view_is ∙ stood)) all)
    ∙ c.if-not-is_reached.true

pub returns-then-not-is_reached-clause-kept : goal.returns-then-not-is_reached-clause-kept
returns-then-not-is_reached-clause-kept c = λ g old new d calm between all here stood.
    module_kept g old new calm.parts.good between d here (unreached c g old new d all stood) c.args.pipes.now stood

pub returns-then-not-is_reached-clause-seen : goal.returns-then-not-is_reached-clause-seen
returns-then-not-is_reached-clause-seen c = λ g old new d calm between all here stood.
    none_seen g old new calm.parts.good between d here (unreached c g old new d all stood) c.args.parts.now

pub look_at_pipes_of-requires : goal.look_at_pipes_of-requires
look_at_pipes_of-requires c =
    let r = c.requires in
    (r.0, r.1, r.2, r.3, r.4, r.5, c.deref_mut.ensures.value ∙ ap (λ (v : Site × List WatchedPipe). v.1) (c.pipes.view_is ∙ r.6))

pub returns-clause-kept : goal.returns-clause-kept
returns-clause-kept c = λ g old new d calm between all here stood.
    let was = c.pipes.view_is ∙ stood in
    let kept = c.in_ok-look_at_pipes_of.ensures.kept g old new d calm between all here
    (c.deref_mut.ensures.value ∙ ap (λ (v : Site × List WatchedPipe). v.1) was) in
    (λ i. (
      (was i).0,
      written_back (watched_pipe g old) (watched_pipe g new) (pipes_at_module g d) c.pipes.inside.parts.items c.look_at_pipes_of.new.pipes
          c.pipes.inside.parts.len (omega (arith, c.pipes.inside.parts.ok.0)) (ap (λ (v : Site × List WatchedPipe). v.1) was) kept i,
    ))

pub returns-clause-seen : goal.returns-clause-seen
returns-clause-seen c = λ g old new d calm between all here stood.
    c.in_ok-look_at_pipes_of.ensures.seen g old new d calm between all here
    (c.deref_mut.ensures.value ∙ ap (λ (v : Site × List WatchedPipe). v.1) (c.pipes.view_is ∙ stood))
