use Rattle.sdd_exec.proofs.All.{length, placed, take_all}
use Rattle.sdd_exec.proofs.Sieves.{offered_none, offered_next}
use Rattle.sdd_exec.proofs.sieve.offer_each.Goals as goal

pub loop-place-init : goal.loop-place-init
loop-place-init c = offered_none c.args.parts.now c.args.mesh.now c.args.sieve.now c.requires

pub offer-requires : goal.offer-requires
offer-requires c = c.loop-place.invariant.sieve

pub loop-place-preserved : goal.loop-place-preserved
loop-place-preserved c =
    offered_next c.args.parts.now c.args.mesh.now c.args.sieve.now c.loop-place.sieve c.offer.new.sieve
    (placed (length c.args.parts.now) c.args.choice.now c.args.part)
    c.args.places.now c.loop-place.place-index 0 c.loop-place-test.true c.loop-place.invariant
    (rw (c.in_ok-next.ensures, c.count.ensures) at c.in_ok-offer.ensures)

pub returns : goal.returns
returns c = rw (take_all c.loop-place.place-index c.args.places.now c.loop-place-test.false) at c.loop-place.invariant
