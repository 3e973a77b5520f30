use Rattle.std.proofs.Common.{arith, length, ◌<◌, ◌∙◌}
use Rattle.std.proofs.lemmas.List.{get_or_default}
use Rattle.sdd_robust.proofs.PlaceSets.{takes_out, taken_more}
use Rattle.sdd_robust.proofs.place_set.PlaceSet.take.Goals as goal

pub words-preserved : goal.words-preserved
words-preserved c =
    let low : c.words.at < length c.words.self-inside.words.items = omega (arith, c.words-test.true, c.len-at-end.ensures, c.words.invariant.long) in
    taken_more c.self.inside.words.items c.args.others.now c.words.self-inside.words.items c.args.queue.now.items c.words.queue.items
    c.take_word.new.queue.items c.words.at c.index-word.result.now c.word-other.result c.in_ok-self-inside.field-0 c.words.invariant low
    (c.index-word.ensures ∙ get_or_default c.words.self-inside.words.items c.words.at c.index-word.result.now 0 low) c.word-other.ensures
    c.in_ok-self-inside.ensures.rest c.in_ok-self-inside.ensures.queued

pub returns : goal.returns
returns c = λ _.
    rw (← c.self.view_is)
    (takes_out c.self.inside.words.items c.args.others.now c.words.self-inside.words.items c.args.queue.now.items c.words.queue.items c.words.at
    c.words.invariant (omega (arith, c.words-test.false, c.len-at-end.ensures)))
