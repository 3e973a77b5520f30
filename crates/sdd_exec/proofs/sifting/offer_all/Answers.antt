use Rattle.sdd_exec.proofs.All.{extended, take_all}
use Rattle.sdd_exec.proofs.Sieves.{offered_none, offered_more}
use Rattle.sdd_exec.proofs.sifting.offer_all.Goals as goal

pub loop-choice-init : goal.loop-choice-init
loop-choice-init c = offered_none c.args.parts.now c.args.mesh.now c.args.sieve.now c.requires

pub offer_choice-requires : goal.offer_choice-requires
offer_choice-requires c = c.loop-choice.invariant.sieve

pub loop-choice-preserved : goal.loop-choice-preserved
loop-choice-preserved c =
    offered_more c.args.parts.now c.args.mesh.now c.args.sieve.now c.loop-choice.sieve c.offer_choice.new.sieve
    (extended c.args.parts.now c.args.part c.args.ties.now c.args.pairs.items) c.args.kept.now
    c.loop-choice.choice-index c.choice-item.result c.loop-choice-test.true c.choice-item.is
    c.loop-choice.invariant
    (rw (c.as_slice-in-loop-choice.ensures, c.places_of-places.ensures, c.in_ok-key.ensures, c.as_slice.ensures, c.in_ok-index.ensures _) at c.in_ok-offer_choice.ensures)

pub returns : goal.returns
returns c = rw (take_all c.loop-choice.choice-index c.args.kept.now c.loop-choice-test.false) at c.loop-choice.invariant
