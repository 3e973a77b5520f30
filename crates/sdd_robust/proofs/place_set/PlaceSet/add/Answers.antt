use Rattle.std.proofs.Common.{arith}
use Rattle.sdd_robust.proofs.PlaceSets.{added, no_other_added, still_has}
use Rattle.sdd_robust.proofs.place_set.PlaceSet.add.Goals as goal

pub returns-then-at-len-clause-added : goal.returns-then-at-len-clause-added
returns-then-at-len-clause-added c = λ _.
    added c.self.inside.words.items c.args.place c.index_mut.result.now (omega (arith, c.if-at-len.true, c.len.ensures)) c.index_mut.ensures.value

pub returns-then-at-len-clause-kept : goal.returns-then-at-len-clause-kept
returns-then-at-len-clause-kept c = λ other h.
    still_has c.self.inside.words.items c.args.place c.index_mut.result.now (omega (arith, c.if-at-len.true, c.len.ensures)) c.index_mut.ensures.value
    other (rw (← c.self.view_is) at h)

pub returns-then-at-len-clause-no_other : goal.returns-then-at-len-clause-no_other
returns-then-at-len-clause-no_other c = λ other h.
    no_other_added c.self.inside.words.items c.args.place c.index_mut.result.now (omega (arith, c.if-at-len.true, c.len.ensures))
    c.index_mut.ensures.value other (rw (← c.self.view_is) at h)
