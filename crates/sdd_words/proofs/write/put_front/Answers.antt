use Rattle.std.proofs.lemmas.Grind.{common_steps}
use Rattle.sdd_words.proofs.All.{arith}
use Rattle.sdd_words.proofs.write.put_front.Goals as goal

pub returns-then-is_special-clause-written : goal.returns-then-is_special-clause-written
returns-then-is_special-clause-written c = grind (arith, common_steps)

pub slice_bounds-put-end-2 : goal.slice_bounds-put-end-2
slice_bounds-put-end-2 c = grind (arith, common_steps)

pub slice_bounds-result-count-2 : goal.slice_bounds-result-count-2
slice_bounds-result-count-2 c = grind (arith, common_steps)

pub slice_bounds-result-start-2 : goal.slice_bounds-result-start-2
slice_bounds-result-start-2 c = grind (arith, common_steps)
