use Rattle.std.proofs.Common.{ap, arith, length, slice_index_or, sym, ◌++◌, ◌*◌, ◌<◌, ◌∙◌, ◌≡◌}
use Rattle.std.specs.Prelude.{bit_and}
use Rattle.std.proofs.lemmas.List.{get_or_default}
use Rattle.sdd_robust.specs.PlaceSets.{word_places}
use Rattle.sdd_robust.proofs.WordPlaces.{one_word_more}
use Rattle.sdd_robust.proofs.place_set.PlaceSet.common.Goals as goal

pub words-preserved : goal.words-preserved
words-preserved c =
    let low : c.words.at < length c.self.inside.words.items = omega (arith, c.words-test.true, c.len-at-end.ensures) in
    let word_is : c.index.result.now ≡ slice_index_or c.args.self.now c.words.at 0 =
    rw (← c.self.view_is) (c.index.ensures ∙ get_or_default c.self.inside.words.items c.words.at c.index.result.now 0 low) in
    c.in_ok-queue_places.ensures ∙ ap (λ xs. xs ++ word_places (bit_and c.index.result.now c.word.result) (c.words.at * 64)) c.words.invariant
    ∙ sym (one_word_more c.args.self.now c.args.others.now c.words.at c.index.result.now c.word.result word_is c.word.ensures)
