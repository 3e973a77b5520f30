use Rattle.sdd_watch.proofs.All.{arith, class_view, length, report_head, sym, view_of, ◌∙◌, ◌≡◌, ◌≤◌}
use Rattle.sdd_watch.proofs.AtD.{state_is_reported}
use Rattle.sdd_watch.proofs.MadeLists.{picked_more}
use Rattle.sdd_watch.proofs.states.dm_state.Goals as goal

pub loop-class-preserved : goal.loop-class-preserved
loop-class-preserved c = λ s log represents.
    let few : c.loop-class.class ≤ length s.catalogue.classes = omega (arith, c.loop-class-test.true, c.pipe_count-class-end.ensures, represents.shows.pipes) in
    picked_more (report_head (view_of s log)) (class_view s log) c.loop-class.class c.loop-class.heads.items c.add_head.new.heads.items
    (c.loop-class.invariant s log represents) (c.in_ok-add_head.ensures s log represents few)

pub returns : goal.returns
returns c = λ s log represents.
    let all : c.loop-class.class ≡ length c.args.dm_module.now.value.pipes =
    omega (arith, c.loop-class-test.false, c.loop-class.auto.class-end, c.pipe_count-class-end.ensures) in
    sym
    (state_is_reported c.args.dm_module.now s log c.args.dm c.args.is_down c.from_vec.result c.loop-class.class represents all
    (c.from_vec.ensures ∙ c.loop-class.invariant s log represents))
