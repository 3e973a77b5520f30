use Rattle.std.proofs.lemmas.Grind.{common_steps}
use Rattle.sdd_exec.proofs.All.{List, arith, map, placed, refl, ℕ}
use Rattle.sdd_exec.proofs.Steps.{flat_map_next}
use Rattle.sdd_exec.proofs.joins.extend_each.Goals as goal

pub loop-choice-preserved : goal.loop-choice-preserved
loop-choice-preserved c =
    let f = λ (choice : List ℕ). map (placed c.args.parts choice c.args.part) c.args.places.now in
    flat_map_next f c.args.kept.now c.loop-choice.choice-index c.choice-item.result c.loop-choice.made.items
    c.extend.new.kept.items (f c.choice-item.result) c.loop-choice-test.true c.choice-item.is refl
    (rw c.as_slice.ensures at c.in_ok-extend.ensures) c.loop-choice.invariant

pub returns : goal.returns
returns c = grind (arith, common_steps)
