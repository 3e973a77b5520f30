use Rattle.sdd_watch.proofs.All.{ap, arrived_of, sym, ◌∙◌}
use Rattle.sdd_inside.specs.declared.delta.Found.TheVariants as founds
use Rattle.sdd_watch.proofs.foreseen.find_delivery.Goals as goal

pub returns-in-Message : goal.returns-in-Message
returns-in-Message c = λ g log calm linked.
    ap (founds.Arrived c.in-Message.number) (c.delivered_upto.ensures g log calm linked)
    ∙ ap (λ p. arrived_of c.args.from c.args.to p log) (sym c.in-Message.is)

pub returns-in-Ack : goal.returns-in-Ack
returns-in-Ack c = λ g log calm linked.
    ap (founds.Acknowledged c.in-Ack.upto) (c.acknowledged_upto.ensures g log calm linked)
    ∙ ap (λ p. arrived_of c.args.from c.args.to p log) (sym c.in-Ack.is)
