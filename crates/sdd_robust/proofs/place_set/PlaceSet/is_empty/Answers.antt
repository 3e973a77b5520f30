use Rattle.std.proofs.Common.{arith, below_more, length, refl, sym, ◌<◌, ◌∙◌}
use Rattle.std.proofs.lemmas.List.{get_or_default}
use Rattle.sdd_robust.proofs.PlaceSets.{one_there}
use Rattle.sdd_robust.proofs.place_set.PlaceSet.is_empty.Goals as goal

pub words-preserved : goal.words-preserved
words-preserved c =
    let low : c.words.at < length c.self.inside.words.items = omega (arith, c.words-test.true, c.len-at-end.ensures) in
    below_more _ _ c.words.invariant
    (rw (← c.self.view_is)
    (sym (c.index.ensures ∙ get_or_default c.self.inside.words.items c.words.at c.index.result.now 0 low) ∙ c.if-has_one.ensures.none refl))

pub returns-then-has_one-clause-one : goal.returns-then-has_one-clause-one
returns-then-has_one-clause-one c = λ _.
    let low : c.words.at < length c.self.inside.words.items = omega (arith, c.words-test.true, c.len-at-end.ensures) in
    rw (← c.self.view_is)
    (one_there c.self.inside.words.items c.words.at c.index.result.now
    (c.index.ensures ∙ get_or_default c.self.inside.words.items c.words.at c.index.result.now 0 low) (c.if-has_one.ensures.one refl))
