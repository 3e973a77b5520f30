use Rattle.sdd_advise.proofs.All.{AreReached, IsUnderWay, None, Passes, Some, ap, arith, length, placed_nodes, reached_at, replicate, set, subst, ℕ, ◌<◌, ◌^◌, ◌∙◌, ◌≡◌, ◌≤◌}
use Rattle.sdd_advise.proofs.Found.{search_begun}
use Rattle.sdd_advise.proofs.Going.{are_reached}
use Rattle.sdd_advise.proofs.search.Search.of.Goals as goal

pub places-init : goal.places-init
places-init c =
    let few : c.args.graph.now.nodes < 2 ^ 32 = omega (arith, c.nodes.ensures) in (
      search_begun c.args.graph.now.edges (Passes c.args.without.now) c.args.graph.now.nodes c.args.start
          c.in_ok-search.search.places.items c.in_ok-search.search.reached.items few c.requires
          (c.in_ok-search.ensures.places ∙ ap (λ (z : ℕ). set (replicate z None) c.args.start (Some 0)) c.nodes.ensures)
          c.in_ok-search.ensures.reached,
      ap (λ z. (reached_at z 0).node) c.in_ok-search.ensures.reached,
    )

pub returns-clause-done : goal.returns-clause-done
returns-clause-done c =
    let u = c.places.invariant.0 in
    let up_to : c.places.place ≤ length c.places.search.reached.items = u.up_to in
    let all : c.places.place ≡ length c.places.search.reached.items = omega (arith, c.len.ensures, c.places-test.false) in
    subst (λ z. IsUnderWay c.args.graph.now.edges (Passes c.args.without.now) c.args.graph.now.nodes z c.places.search.places.items c.places.search.reached.items)
    all u

pub returns-clause-reached : goal.returns-clause-reached
returns-clause-reached c =
    let done : length c.places.search.reached.items ≤ c.places.place = omega (arith, c.len.ensures, c.places-test.false) in
    subst (λ z. AreReached c.args.graph.now.edges (Passes c.args.without.now) z (placed_nodes c.places.search.places.items)) c.places.invariant.1
    (are_reached c.args.graph.now.edges (Passes c.args.without.now) c.args.graph.now.nodes c.places.place
    c.places.search.places.items c.places.search.reached.items c.places.invariant.0 done)
