-- The data module that acts, and the others, which are passed over.
use Rattle.sdd_moments.proofs.All.{ArePipesSeen, Calm, D, Input, IsBetween, Log, all_pipes, ap, arrived, changed_pipes, dm_no, get_or, is_to, map, numbers_to, pipe_after, pipe_before, reach_between, refl, slice_set, sym, watched_pipes, ◌∙◌, ◌≡◌}
use Rattle.sdd_moments.proofs.LinksLooked.{seen_all}
use Rattle.sdd_moments.proofs.ModulesPassed.{modules_none, modules_one}
use Rattle.sdd_moments.proofs.ModulesVisited.{module_as_it_stood}
use Rattle.sdd_moments.proofs.PipesVisited.{at_hand}
use Rattle.sdd_moments.proofs.watched_pipe.look_at_pipes.Goals as goal

pub look_at_module-requires : goal.look_at_module-requires
look_at_module-requires c =
    let r = c.requires in
    let p = module_as_it_stood r.0 r.1 c.args.pipes.now c.args.pipes.now c.place_among_dms-place.result
    (get_or c.args.pipes.now c.place_among_dms-place.result c.index-pipes-place.result) r.4 c.if-place-pipes.false c.if-place-pipes.false refl
    (at_hand c.args.pipes.now c.args.pipes.now c.place_among_dms-place.result c.index-pipes-place.result c.if-place-pipes.false refl) in
    (r.0, r.1, r.2, p.0, r.3, p.1, p.2)

one : (c : goal.In_ok-look_at_module) (g : Input) (old new : Log) → Calm c.args.world.now g new → IsBetween g old new
    → c.args.reach ≡ reach_between g old new → c.args.arrived.now ≡ arrived g old new
    → c.args.pipes.now ≡ map (watched_pipes g old) (numbers_to g.catalogue.dms)
    → (slice_set c.args.pipes.now c.place_among_dms-place.result c.look_at_module.new.pipes ≡ map (watched_pipes g new) (numbers_to g.catalogue.dms))
    × ArePipesSeen g old new (all_pipes g) c.new-parts.result c.look_at_module.new.parts
one c g old new calm between is all stood =
    modules_one g old new c.args.reach c.place_among_dms-place.result c.args.pipes.now
    (get_or c.args.pipes.now c.place_among_dms-place.result c.index-pipes-place.result) c.look_at_module.new.pipes c.new-parts.result
    c.look_at_module.new.parts calm.parts.good between is
    (λ d low apart. ap (λ o. is_to o (D (dm_no d))) (sym c.actor.ensures) ∙ c.place_among_dms-place.ensures d low apart) c.if-place-pipes.false stood
    (at_hand c.args.pipes.now c.args.pipes.now c.place_among_dms-place.result c.index-pipes-place.result c.if-place-pipes.false refl)
    (λ d here was. c.in_ok-look_at_module.ensures.kept g old new d calm between all here was)
    (λ d here was. c.in_ok-look_at_module.ensures.seen g old new d calm between all here was)

pub returns-clause-before : goal.returns-clause-before
returns-clause-before c = λ g old new calm between is all stood.
    seen_all c.new-parts.result.before.items (map (pipe_before g old new) (changed_pipes g old new)) c.look_at_module.new.parts.before.items
    c.new-parts.ensures.before (one c g old new calm between is all stood).1.before_are

pub returns-clause-after : goal.returns-clause-after
returns-clause-after c = λ g old new calm between is all stood.
    seen_all c.new-parts.result.after.items (map (pipe_after g old new) (changed_pipes g old new)) c.look_at_module.new.parts.after.items
    c.new-parts.ensures.after (one c g old new calm between is all stood).1.after_are

pub returns-clause-kept : goal.returns-clause-kept
returns-clause-kept c = λ g old new calm between is all stood. (one c g old new calm between is all stood).0

-- none is looked at

pub returns-then-place-pipes-clause-before : goal.returns-then-place-pipes-clause-before
returns-then-place-pipes-clause-before c = λ g old new calm between is all stood.
    seen_all c.new-parts.result.before.items (map (pipe_before g old new) (changed_pipes g old new)) c.new-parts.result.before.items
    c.new-parts.ensures.before
    (modules_none g old new c.args.reach c.place_among_dms-place.result c.args.pipes.now c.new-parts.result calm.parts.good between is
    (λ d low apart. ap (λ o. is_to o (D (dm_no d))) (sym c.actor.ensures) ∙ c.place_among_dms-place.ensures d low apart)
    c.if-place-pipes.true stood).1.before_are

pub returns-then-place-pipes-clause-after : goal.returns-then-place-pipes-clause-after
returns-then-place-pipes-clause-after c = λ g old new calm between is all stood.
    seen_all c.new-parts.result.after.items (map (pipe_after g old new) (changed_pipes g old new)) c.new-parts.result.after.items
    c.new-parts.ensures.after
    (modules_none g old new c.args.reach c.place_among_dms-place.result c.args.pipes.now c.new-parts.result calm.parts.good between is
    (λ d low apart. ap (λ o. is_to o (D (dm_no d))) (sym c.actor.ensures) ∙ c.place_among_dms-place.ensures d low apart)
    c.if-place-pipes.true stood).1.after_are

pub returns-then-place-pipes-clause-kept : goal.returns-then-place-pipes-clause-kept
returns-then-place-pipes-clause-kept c = λ g old new calm between is all stood.
    (modules_none g old new c.args.reach c.place_among_dms-place.result c.args.pipes.now c.new-parts.result calm.parts.good between is
    (λ d low apart. ap (λ o. is_to o (D (dm_no d))) (sym c.actor.ensures) ∙ c.place_among_dms-place.ensures d low apart)
    c.if-place-pipes.true stood).0
