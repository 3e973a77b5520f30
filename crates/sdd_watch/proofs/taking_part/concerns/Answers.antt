use Rattle.sdd_watch.proofs.All.{Event, ap, concerns, given_to, same_site, sym, ◌∙◌}
use Rattle.sdd_watch.proofs.TakingPart.{of_none}
use Rattle.sdd_watch.proofs.taking_part.concerns.Goals as goal

pub returns-in-Submit : goal.returns-in-Submit
returns-in-Submit c = λ g log is.
    c.is_same.ensures ∙ ap (λ s. same_site s c.args.at) (is ∙ ap (given_to g log) c.in-Submit.is)
    ∙ ap (λ (e : Event). concerns g log e c.args.found.now c.args.at) (sym c.in-Submit.is)

pub returns-in-Redeclare : goal.returns-in-Redeclare
returns-in-Redeclare c = λ g log is.
    c.is_txn_module.ensures g log c.args.found.now ∙ ap (λ (e : Event). concerns g log e c.args.found.now c.args.at) (sym c.in-Redeclare.is)

pub returns-in_default : goal.returns-in_default
returns-in_default c = λ g log is.
    of_none g log c.args.event.now c.args.found.now c.args.at c.in_default.not-Submit c.in_default.not-Tick
    c.in_default.not-Down c.in_default.not-Up c.in_default.not-Redeclare
