use Rattle.std.proofs.lemmas.Grind.{common_steps}
use Rattle.sdd_exec.proofs.All.{arith, rows_lent}
use Rattle.sdd_exec.proofs.Picked.{lent_at, lent_within}
use Rattle.sdd_exec.proofs.Steps.{keyed_next}
use Rattle.sdd_exec.proofs.index.keyed_places.Goals as goal

pub loop-place-preserved : goal.loop-place-preserved
loop-place-preserved c =
    let rows = c.args.rows.now in
    let i = c.loop-place.place in
    let row = c.index-rows-place.result in
    let within = c.loop-place-test.true in
    keyed_next c.args.part c.args.conds.now c.args.ties.now i (rows_lent rows) row.now c.loop-place.keyed.items c.add_keyed.new.keyed.items _
    (lent_within rows i within) (lent_at rows i row within c.index-rows-place.is) c.in_ok-add_keyed.ensures c.loop-place.invariant

pub returns : goal.returns
returns c = grind (arith, common_steps)
