use Rattle.sdd_exec.proofs.All.{arith, distinct, filter_map, length, row_from, take, ◌+◌, ◌<◌, ◌≡◌}
use Rattle.sdd_exec.proofs.Product.{no_room, all_found}
use Rattle.sdd_exec.proofs.Steps.{found_next}
use Rattle.sdd_exec.proofs.joins.answers.Goals as goal

pub returns-then-len-room : goal.returns-then-len-room
returns-then-len-room c =
    let f = row_from c.args.parts.now c.args.out.now c.args.conds.now in
    let kept = c.args.kept.now in
    let i = c.loop-choice.choice-index in
    let next : c.add_answer.new.rows ≡ distinct (filter_map f (take (i + 1) kept)) =
    found_next f kept i c.choice-item.result c.loop-choice.rows c.add_answer.new.rows c.loop-choice-test.true c.choice-item.is
    (rw c.as_slice-choice.ensures at c.in_ok-add_answer.ensures) c.loop-choice.invariant.rows in
    let many : c.args.room < length c.add_answer.new.rows = omega (arith, c.len.ensures) in
    no_room f kept (i + 1) c.args.room (rw next at many)

pub loop-choice-preserved : goal.loop-choice-preserved
loop-choice-preserved c =
    let f = row_from c.args.parts.now c.args.out.now c.args.conds.now in
    let i = c.loop-choice.choice-index in
    record {
      rows =
          found_next f c.args.kept.now i c.choice-item.result c.loop-choice.rows c.add_answer.new.rows c.loop-choice-test.true
          c.choice-item.is (rw c.as_slice-choice.ensures at c.in_ok-add_answer.ensures) c.loop-choice.invariant.rows;
      few = omega (arith, c.len.ensures);
    }

pub returns : goal.returns
returns c =
    all_found (row_from c.args.parts.now c.args.out.now c.args.conds.now) c.args.kept.now c.loop-choice.choice-index
    c.args.room c.loop-choice.rows c.loop-choice-test.false c.loop-choice.invariant.rows c.loop-choice.invariant.few
