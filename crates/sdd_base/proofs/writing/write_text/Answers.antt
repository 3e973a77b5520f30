use Rattle.std.proofs.lemmas.Grind.{common_steps}
use Rattle.sdd_base.proofs.All.{arith, drop, length, subst, ◌+◌, ◌-◌, ◌∙◌, ◌≡◌, ◌≤◌}
use Rattle.sdd_base.proofs.Taken.{with_end-take}
use Rattle.sdd_base.proofs.writing.write_text.Goals as goal

pub put-preserved : goal.put-preserved
put-preserved g c =
    let e = c.in_ok-n.ensures in
    let rest : c.split_at.result.1.now ≡ drop c.put.at c.args.text.now = c.split_at.ensures.back in
    record {
      within = omega (arith, e.bound, c.split_at.ensures.back_len);
      taken = rw (e.taken, c.put.invariant.taken, rest) (with_end-take (g.O.Sink.taken c.args.out.now) c.args.text.now c.put.at c.in_ok-n.n);
      later = omega (arith, e.cause.later, c.put.invariant.later);
      surely = λ room fits sure.
          let before = c.put.invariant.surely room fits sure in
          let left : length c.split_at.result.1.now ≤ room - c.put.at = omega (arith, c.split_at.ensures.back_len) in
          let same : (room - c.put.at) - c.in_ok-n.n ≡ room - (c.put.at + c.in_ok-n.n) = omega arith in
          (subst (g.O.Sink.sure c.write.new.self) same (e.room (room - c.put.at) before.0), (e.surely (room - c.put.at) left before.0).1 ∙ before.1);
    }

pub returns-clause-done : goal.returns-clause-done
returns-clause-done g c = grind (arith, common_steps)
