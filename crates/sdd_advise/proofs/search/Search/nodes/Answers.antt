use Rattle.sdd_advise.proofs.All.{ap, is_some, place_of, sym, ◌∙◌}
use Rattle.sdd_advise.proofs.Ascending.{passing_more, passing_same}
use Rattle.sdd_advise.proofs.search.Search.nodes.Goals.{then-is_some+in_ok-push, else-is_some}
use Rattle.sdd_advise.proofs.search.Search.nodes.Goals as goal

pub nodes-preserved : goal.nodes-preserved
nodes-preserved c =
    elim c.if-is_some.branch [
      | then-is_some+in_ok-push w ↦
          passing_more (λ node. is_some (place_of c.args.self.now.places.items node)) c.nodes.node c.nodes.nodes.items c.if-is_some.nodes.items c.nodes.invariant
          (ap is_some (sym c.place.ensures) ∙ sym c.is_some.ensures ∙ w.if-is_some.true)
          (ap (λ z. z.items) w.nodes-is ∙ w.in_ok-push.ensures.items)
      | else-is_some w ↦
          passing_same (λ node. is_some (place_of c.args.self.now.places.items node)) c.nodes.node c.nodes.nodes.items c.if-is_some.nodes.items c.nodes.invariant
          (ap is_some (sym c.place.ensures) ∙ sym c.is_some.ensures ∙ w.if-is_some.false)
          (ap (λ z. z.items) w.nodes-is)
    ]
