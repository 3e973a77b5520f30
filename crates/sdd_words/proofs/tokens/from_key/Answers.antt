use Rattle.sdd_words.proofs.All.{from_key, sym, words_left, ◌∙◌}
use Rattle.sdd_words.proofs.KeyCuts.{key_later}
use Rattle.sdd_words.proofs.tokens.from_key.Goals as goal

pub words-preserved : goal.words-preserved
words-preserved c = record {
  left = c.in-Some.ensures.left;
  same = key_later c.args.key.now c.in-Some.word c.words.rest.now c.in-Some.more.now (from_key c.args.key.now (words_left c.args.bytes.now))
      c.in-Some.ensures.cut
      (sym c.if-has_key.false ∙ c.has_key.ensures) c.words.invariant.same;
}
