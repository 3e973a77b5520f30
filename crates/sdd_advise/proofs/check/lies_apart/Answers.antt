use Rattle.sdd_advise.proofs.All.{Passes, ap, arith, false≢true, is_some, length, placed_nodes, sym, ◌<◌, ◌∙◌, ◌≡◌}
use Rattle.sdd_advise.proofs.Showing.{not_apart, apart_so, those_reached}
use Rattle.sdd_advise.proofs.check.lies_apart.Goals as goal

pub returns-then-is_some : goal.returns-then-is_some
returns-then-is_some c =
    let places = c.in_ok-search.search.places.items in
    let l : c.args.node < length places = omega (arith, c.requires.node, c.in_ok-search.ensures.done.one_each) in (
      (λ t. absurd (false≢true t)),
      λ h.
          absurd (not_apart c.args.graph.now.edges (Passes c.args.without.now) c.args.start c.args.node c.args.nodes.now places c.in_ok-search.ensures.reached l
          (ap is_some (sym c.place.ensures) ∙ sym c.is_some.ensures ∙ c.if-is_some.true) h),
    )

pub returns : goal.returns
returns c =
    let places = c.in_ok-search.search.places.items in
    let same : c.from_vec.result ≡ placed_nodes places = c.from_vec.ensures ∙ c.in_ok-reached.ensures in
    let has = ap is_some (sym c.place.ensures) ∙ sym c.is_some.ensures ∙ c.if-is_some.false in (
      (λ t. apart_so c.args.graph.now.edges
          (Passes c.args.without.now) c.args.start c.args.node c.args.nodes.now places c.in_ok-search.ensures.reached has
          (c.is_same-2.ensures.0 t ∙ same)),
      λ h.
          c.is_same-2.ensures.1
          (those_reached c.args.graph.now.edges (Passes c.args.without.now) c.args.start c.args.node c.args.nodes.now places c.in_ok-search.ensures.reached h.0 ∙ sym same),
    )
