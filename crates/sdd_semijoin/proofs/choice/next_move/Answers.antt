use Rattle.std.proofs.lemmas.Grind.{common_steps}
use Rattle.std.proofs.Common.{arith, ◌+◌, ◌≡◌, ◌∙◌, ap, refl, filter, ◌∷◌, []}
use Rattle.sdd_semijoin.specs.Choosing.{moves_from, best_after}
use Rattle.sdd_semijoin.specs.Steps.{is_candidate, next_move}
use Rattle.sdd_semijoin.proofs.Fewest.{none_before, best_more}
use Rattle.sdd_semijoin.proofs.choice.next_move.Goals as goal

pub loop-cond-init : goal.loop-cond-init
loop-cond-init c = record { number = refl; best = none_before c.args.counts.now c.args.done.now c.args.conds.now }

pub loop-cond-preserved : goal.loop-cond-preserved
loop-cond-preserved c =
    let i = c.loop-cond.cond-index in
    let number : c.loop-cond.number + 1 ≡ i + 1 = omega (arith, c.loop-cond.invariant.number) in
    let here = c.with_condition-best.ensures ∙ ap
    (λ k. best_after c.args.counts.now c.loop-cond.best (filter (is_candidate c.args.counts.now c.args.done.now) (moves_from k (c.cond-item.result ∷ [])))) number in
    record {
      number = number;
      best = best_more c.args.counts.now c.args.done.now c.args.conds.now i c.cond-item.result c.loop-cond.best c.with_condition-best.result
          (next_move c.args.conds.now c.args.counts.now c.args.done.now) c.loop-cond-test.true c.cond-item.is here c.loop-cond.invariant.best;
    }

pub returns : goal.returns
returns c = grind (arith, common_steps)
