use Rattle.sdd_words.proofs.All.{ap, up_to, words_left, ◌∙◌}
use Rattle.sdd_words.proofs.KeyCuts.{front_left, front_words}
use Rattle.sdd_words.proofs.tokens.Tokens.split_from.Goals as goal

pub invariant_of-result : goal.invariant_of-result
invariant_of-result c =
    rw c.before-front.ensures (front_left c.args.key.now c.self.inside.bytes.now c.from_key-rest.result.now c.self.invariant
    c.from_key-rest.ensures.left c.from_key-rest.ensures.from)

pub returns-clause-before : goal.returns-clause-before
returns-clause-before c =
    ap words_left c.before-front.ensures
    ∙ front_words c.args.key.now c.self.inside.bytes.now c.from_key-rest.result.now c.self.invariant c.from_key-rest.ensures.left c.from_key-rest.ensures.from
    ∙ ap (up_to c.args.key.now) c.self.view_is
