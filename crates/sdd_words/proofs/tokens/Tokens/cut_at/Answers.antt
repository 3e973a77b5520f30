use Rattle.sdd_words.proofs.All.{sym, ◌∙◌}
use Rattle.sdd_words.proofs.KeyCuts.{cut_found, cut_nowhere}
use Rattle.sdd_words.proofs.tokens.Tokens.cut_at.Goals as goal

pub returns-in-Some : goal.returns-in-Some
returns-in-Some c =
    rw c.split_from-front.ensures.before
    (cut_found c.args.key.now c.args.self.now c.in-Some.field-0 c.next.new.self (sym c.split_from-front.ensures.rest ∙ c.in-Some.ensures))

pub returns-in-None : goal.returns-in-None
returns-in-None c = cut_nowhere c.args.key.now c.args.self.now (sym c.split_from-front.ensures.rest ∙ c.in-None.ensures.0)
