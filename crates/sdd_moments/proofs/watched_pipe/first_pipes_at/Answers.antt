-- One pipe more, and all of them.
use Rattle.sdd_moments.proofs.All.{Catalogue, ap, arith, length, ◌≡◌}
use Rattle.sdd_moments.proofs.PipesBegun.{class_more, classes_done}
use Rattle.sdd_moments.proofs.watched_pipe.first_pipes_at.Goals as goal

pub loop-class-preserved : goal.loop-class-preserved
loop-class-preserved c = λ g e.
    class_more g c.args.dm (record { 0 = c.loop-class.class }) c.source.result c.loop-class.pipes.items _
    (c.source.ensures g e c.args.dm.0) (c.loop-class.invariant g e) c.in_ok-push.ensures.items

pub returns : goal.returns
returns c = λ g e.
    let many : length c.args.catalogue.now.classes ≡ length g.catalogue.classes = ap (λ (cat : Catalogue). length cat.classes) e in
    classes_done g c.args.dm c.loop-class.class c.loop-class.pipes.items (omega (arith, many)) (c.loop-class.invariant g e)
