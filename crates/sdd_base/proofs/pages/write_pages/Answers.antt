use Rattle.std.proofs.Common.{arith}
use Rattle.std.proofs.lemmas.Grind.{common_steps}
use Rattle.sdd_base.proofs.Paging.{first_part, joined, on_err, on_err_more, second_part}
use Rattle.sdd_base.proofs.pages.write_pages.Goals as goal

pub returns-in_err-write_each-clause-front : goal.returns-in_err-write_each-clause-front
returns-in_err-write_each-clause-front g c =
    on_err c.from_residual.result _
    (first_part (g.O.Sink.taken c.args.out.now) (g.O.Sink.taken c.write_each.new.out) (joined c.parts.result.0.now)
    c.parts.result.1.now c.args.text.now c.parts.ensures c.in_err-write_each.ensures.front)

pub returns-clause-front : goal.returns-clause-front
returns-clause-front g c =
    on_err_more c.write_text.result _ _
    (second_part (g.O.Sink.taken c.args.out.now) (g.O.Sink.taken c.write_each.new.out) (g.O.Sink.taken c.write_text.new.out)
    (joined c.parts.result.0.now) c.parts.result.1.now c.args.text.now c.parts.ensures c.in_ok-write_each.ensures.done)
    c.write_text.ensures.front

pub returns-clause-done : goal.returns-clause-done
returns-clause-done g c = grind (arith, common_steps)

pub returns-clause-room : goal.returns-clause-room
returns-clause-room g c = grind (arith, common_steps)

pub returns-clause-surely : goal.returns-clause-surely
returns-clause-surely g c = grind (arith, common_steps)

pub returns-in_err-write_each-clause-room : goal.returns-in_err-write_each-clause-room
returns-in_err-write_each-clause-room g c = grind (arith, common_steps)

pub returns-in_err-write_each-clause-surely : goal.returns-in_err-write_each-clause-surely
returns-in_err-write_each-clause-surely g c = grind (arith, common_steps)
