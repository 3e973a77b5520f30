use Rattle.std.proofs.Common.{sym, ◌∙◌}
use Rattle.sdd_robust.proofs.ByRelation.{by_list, no_read}
use Rattle.sdd_robust.proofs.changing.Changes.misses_by.Goals as goal

pub returns-then-read : goal.returns-then-read
returns-then-read c =
    c.one_is_missed.ensures ∙ by_list c.args.pivot.now c.args.read.now c.args.self.now c.list.result.now c.if-read.true c.list.ensures

pub returns-else-read : goal.returns-else-read
returns-else-read c = c.if-read.false ∙ sym (no_read c.args.pivot.now c.args.read.now c.args.self.now c.if-read.false)
