-- One data module more, and all of them.
use Rattle.sdd_moments.proofs.All.{Catalogue, ap, arith, ◌≡◌}
use Rattle.sdd_moments.proofs.PipesBegun.{module_more, modules_done}
use Rattle.sdd_moments.proofs.watched_pipe.first_pipes.Goals as goal

pub loop-number-preserved : goal.loop-number-preserved
loop-number-preserved c = λ g e.
    module_more g c.loop-number.number c.loop-number.pipes.items c.push.new.self.items c.in_ok-first_pipes_at.field-0 c.loop-number.auto.number
    (c.in_ok-first_pipes_at.ensures g e) c.in_ok-push.ensures.items (c.loop-number.invariant g e)

pub returns : goal.returns
returns c = λ g e.
    let many : c.args.catalogue.now.dms ≡ g.catalogue.dms = ap (λ (cat : Catalogue). cat.dms) e in
    modules_done g c.loop-number.number c.loop-number.pipes.items (omega (arith, many)) (c.loop-number.invariant g e)
