use Rattle.std.proofs.Common.{ap, arith}
use Rattle.sdd_robust.specs.Members.{lent}
use Rattle.sdd_robust.proofs.Flooding.{fewer_left, flood_begins, flood_ends, flood_goes_on}
use Rattle.sdd_robust.proofs.Steps.{lent_at, lent_long}
use Rattle.sdd_robust.proofs.linked.linked.Goals as goal

pub reached-init : goal.reached-init
reached-init c =
    flood_begins (lent c.args.beside.now) c.args.start.now _ _ c.requires (ap lent c.in_ok-reached.ensures.items) (ap lent c.in_ok-left.ensures)

pub reached-smaller : goal.reached-smaller
reached-smaller c =
    let long = lent_long c.reached.reached.items in
    fewer_left (lent c.reached.reached.items) (lent c.reached.left.items) c.reached.next c.index-so_far-next.result.now
    (lent c.move_on.new.reached.items) (lent c.in_ok-left-2.left.items)
    (omega (arith, long, c.reached-test.true, c.len.ensures, c.reached.reached.ok))
    (rw c.as_slice.ensures.value at c.in_ok-left-2.ensures.reached) (rw c.as_slice.ensures.value at c.in_ok-left-2.ensures.rest)

pub reached-preserved : goal.reached-preserved
reached-preserved c =
    let long = lent_long c.reached.reached.items in
    flood_goes_on (lent c.args.beside.now) c.args.start.now (lent c.reached.reached.items) (lent c.reached.left.items) c.reached.next
    c.index-so_far-next.result.now (lent c.move_on.new.reached.items) (lent c.in_ok-left-2.left.items) c.reached.invariant
    (omega (arith, long, c.reached-test.true, c.len.ensures, c.reached.reached.ok))
    (lent_at c.reached.reached.items c.reached.next c.index-so_far-next.result (rw c.as_slice-so_far.ensures.value at c.index-so_far-next.is))
    (rw c.as_slice.ensures.value at c.in_ok-left-2.ensures.reached) (rw c.as_slice.ensures.value at c.in_ok-left-2.ensures.rest)

pub returns-clause-complete : goal.returns-clause-complete
returns-clause-complete c =
    let long = lent_long c.reached.reached.items in
    flood_ends (lent c.args.beside.now) c.args.start.now (lent c.reached.reached.items) (lent c.reached.left.items) c.reached.next c.reached.invariant
    (omega (arith, long, c.reached-test.false, c.len.ensures, c.reached.reached.ok))
