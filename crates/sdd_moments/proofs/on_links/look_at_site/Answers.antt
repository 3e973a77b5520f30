use Rattle.sdd_moments.proofs.All.{List, Site, WatchedLink, ap, arith, links_from, may_act, reach_of, touched_from, watched_link, watched_links, ◌∙◌, ◌≡◌, Input, Log}
use Rattle.sdd_moments.proofs.Visited.{written_back}
use Rattle.sdd_moments.proofs.on_links.look_at_site.Goals as goal

-- which link from it the event touched, and whether it may have acted

module _ (c : goal.In_ok-look_at_links_from) (g : Input) (old new : Log) (a : Site) (is : c.args.reach ≡ reach_of g new c.args.event.now c.args.found.now)
    (stood : c.args.links.now ≡ watched_links g old a) where
  goes : c.touched_from-touched.result ≡ touched_from (reach_of g new c.args.event.now c.args.found.now) a
  goes = c.touched_from-touched.ensures ∙ (λ i. touched_from (is i) ((c.links.view_is ∙ stood) i).0)

  acts : c.may_act-acts.result ≡ may_act (reach_of g new c.args.event.now c.args.found.now) a
  acts = c.may_act-acts.ensures ∙ (λ i. may_act (is i) ((c.links.view_is ∙ stood) i).0)

pub look_at_links_from-requires : goal.look_at_links_from-requires
look_at_links_from-requires c =
    let r = c.requires in
    let was = c.links.view_is ∙ r.7 in (
      r.0,
      r.1,
      r.2,
      r.3,
      r.4,
      c.touched_from-touched.ensures ∙ (λ i. touched_from (r.5 i) (was i).0),
      c.may_act-acts.ensures ∙ (λ i. may_act (r.5 i) (was i).0),
      r.6,
      c.deref_mut.ensures.value ∙ ap (λ (v : Site × List WatchedLink). v.1) was,
    )

pub returns-clause-kept : goal.returns-clause-kept
returns-clause-kept c = λ g old new a over is here stood.
    let was = c.links.view_is ∙ stood in
    let kept = c.in_ok-look_at_links_from.ensures.kept g old new a over (goes c g old new a is stood) (acts c g old new a is stood) here
    (c.deref_mut.ensures.value ∙ ap (λ (v : Site × List WatchedLink). v.1) was) in
    (λ i. (
      (was i).0,
      written_back (watched_link old) (watched_link new) (links_from g a) c.links.inside.parts.items c.look_at_links_from.new.links
          c.links.inside.parts.len (omega (arith, c.links.inside.parts.ok.0)) (ap (λ (v : Site × List WatchedLink). v.1) was) kept i,
    ))

pub returns-clause-seen : goal.returns-clause-seen
returns-clause-seen c = λ g old new a over is here stood.
    c.in_ok-look_at_links_from.ensures.seen g old new a over (goes c g old new a is stood) (acts c g old new a is stood) here
    (c.deref_mut.ensures.value ∙ ap (λ (v : Site × List WatchedLink). v.1) (c.links.view_is ∙ stood))
