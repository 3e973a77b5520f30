use Rattle.sdd_watch.proofs.All.{Event, IsTellable, ap, foreseen_by, found_by, subst, sym, ◌∙◌}
use Rattle.sdd_watch.proofs.FoundBy.{delivery_found, loss_found, nothing_found, something_found}
use Rattle.sdd_watch.proofs.foreseen.find_outcome.Goals as goal

pub returns-in-Nothing : goal.returns-in-Nothing
returns-in-Nothing c = λ g old new calm tellable is. nothing_found c.args.event.now old new (sym c.in-Nothing.is ∙ is)

pub returns-in-Something : goal.returns-in-Something
returns-in-Something c = λ g old new calm tellable is. something_found c.args.event.now old new (sym c.in-Something.is ∙ is)

pub find_delivery-requires : goal.find_delivery-requires
find_delivery-requires c =
    let r = c.requires in
    (r.0, r.1, r.2, (subst (IsTellable r.0) c.in-Deliver.is r.3).0)

pub returns-in-Deliver : goal.returns-in-Deliver
returns-in-Deliver c = λ g old new calm tellable is.
    let linked = (subst (IsTellable g) c.in-Deliver.is tellable).0 in
    c.find_delivery.ensures g new calm linked
    ∙ delivery_found c.in-Deliver.from c.in-Deliver.to _ c.in-Takes.packet old new
    (sym c.in-Takes.is ∙ is ∙ ap (λ (e : Event). foreseen_by e old) c.in-Deliver.is)
    ∙ ap (λ (e : Event). found_by e old new) (sym c.in-Deliver.is)

pub returns-in_default : goal.returns-in_default
returns-in_default c = λ g old new calm tellable is.
    loss_found c.args.event.now c.in-Takes.packet old new c.in_default.not-Deliver (sym c.in-Takes.is ∙ is)
