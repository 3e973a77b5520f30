use Rattle.std.proofs.Common.{arith, length, ◌<◌, ◌∙◌}
use Rattle.std.proofs.lemmas.List.{get_or_default}
use Rattle.sdd_robust.proofs.PlaceSets.{added_more}
use Rattle.sdd_robust.proofs.place_set.PlaceSet.add_all.Goals as goal

pub words-preserved : goal.words-preserved
words-preserved c =
    let low : c.words.at < length c.words.self-inside.words.items = omega (arith, c.words-test.true, c.len-at-end.ensures, c.words.invariant.long) in
    added_more c.self.inside.words.items c.args.others.now c.words.self-inside.words.items c.words.at c.index_mut.result.now c.word.result
    c.words.invariant low (c.index_mut.ensures.value ∙ get_or_default c.words.self-inside.words.items c.words.at c.index_mut.result.now 0 low)
    c.word.ensures
