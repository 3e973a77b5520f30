use Rattle.sdd_watch.proofs.All.{sym, takes_part, ◌∙◌}
use Rattle.sdd_watch.proofs.TakingPart.{none_taken, one_taken}
use Rattle.sdd_watch.proofs.taking_part.add_busy.Goals as goal

pub returns-then-takes_part : goal.returns-then-takes_part
returns-then-takes_part c = λ g old new event found same home.
    one_taken (takes_part g old new) c.args.at c.args.busy.now.items c.push.new.self.items
    (sym (c.takes_part.ensures g old new event found same home) ∙ c.if-takes_part.true) c.in_ok-push.ensures.items

pub returns : goal.returns
returns c = λ g old new event found same home.
    none_taken (takes_part g old new) c.args.at c.args.busy.now.items (sym (c.takes_part.ensures g old new event found same home) ∙ c.if-takes_part.false)
