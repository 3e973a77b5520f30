use Rattle.sdd_exec.proofs.All.{arith, distinct, filter_map, length, take, ◌+◌, ◌<◌, ◌≡◌}
use Rattle.sdd_exec.proofs.Product.{row_of_lent, no_room_of_one, all_of_one}
use Rattle.sdd_exec.proofs.Steps.{found_next}
use Rattle.sdd_exec.proofs.joins.answers_of_one.Goals as goal

pub returns-then-len-room : goal.returns-then-len-room
returns-then-len-room c =
    let f = row_of_lent c.args.out.now c.args.conds.now in
    let next : c.add_tuple.new.rows ≡ distinct (filter_map f (take (c.loop-row.row-index + 1) c.args.rows.now)) =
    found_next f c.args.rows.now c.loop-row.row-index c.row-item.result c.loop-row.found c.add_tuple.new.rows
    c.loop-row-test.true c.row-item.is c.in_ok-add_tuple.ensures c.loop-row.invariant.found in
    let many : c.args.room < length c.add_tuple.new.rows = omega (arith, c.len.ensures) in
    no_room_of_one c.args.out.now c.args.conds.now c.args.rows.now (c.loop-row.row-index + 1) c.args.room (rw next at many)

pub loop-row-preserved : goal.loop-row-preserved
loop-row-preserved c =
    record {
      found =
          found_next (row_of_lent c.args.out.now c.args.conds.now) c.args.rows.now c.loop-row.row-index c.row-item.result
          c.loop-row.found c.add_tuple.new.rows c.loop-row-test.true c.row-item.is c.in_ok-add_tuple.ensures c.loop-row.invariant.found;
      few = omega (arith, c.len.ensures);
    }

pub returns : goal.returns
returns c =
    all_of_one c.args.out.now c.args.conds.now c.args.rows.now c.loop-row.row-index c.args.room c.loop-row.found
    c.loop-row-test.false c.loop-row.invariant.found c.loop-row.invariant.few
