use Rattle.std.proofs.Common.{arith}
use Rattle.sdd_robust.proofs.PlaceSets.{fewer_have, others_lack, removed}
use Rattle.sdd_robust.proofs.place_set.PlaceSet.remove.Goals as goal

pub returns-then-at-len-clause-gone : goal.returns-then-at-len-clause-gone
returns-then-at-len-clause-gone c =
    removed c.self.inside.words.items c.args.place c.index_mut.result.now (omega (arith, c.if-at-len.true, c.len.ensures)) c.index_mut.ensures.value

pub returns-then-at-len-clause-others : goal.returns-then-at-len-clause-others
returns-then-at-len-clause-others c =
    rw (← c.self.view_is)
    (others_lack c.self.inside.words.items c.args.place c.index_mut.result.now (omega (arith, c.if-at-len.true, c.len.ensures)) c.index_mut.ensures.value)

pub returns-then-at-len-clause-fewer : goal.returns-then-at-len-clause-fewer
returns-then-at-len-clause-fewer c =
    rw (← c.self.view_is)
    (fewer_have c.self.inside.words.items c.args.place c.index_mut.result.now (omega (arith, c.if-at-len.true, c.len.ensures)) c.index_mut.ensures.value)
