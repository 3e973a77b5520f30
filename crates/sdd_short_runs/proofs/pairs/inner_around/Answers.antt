use Rattle.sdd_short_runs.proofs.All.{ap, lent, sym, ◌∙◌}
use Rattle.sdd_short_runs.proofs.TriedPairs.{no_pairs}
use Rattle.sdd_short_runs.proofs.pairs.inner_around.Goals as goal

pub returns-then-not-misses_one : goal.returns-then-not-misses_one
returns-then-not-misses_one c =
    ap lent c.new-then-not-misses_one.ensures.items
    ∙ sym (no_pairs c.args.all.now c.args.outer.now c.args.most (rw c.requires at (rw c.as_slice.ensures at c.if-not-misses_one.ensures)))
