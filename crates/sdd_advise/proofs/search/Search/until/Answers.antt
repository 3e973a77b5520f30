use Rattle.sdd_advise.proofs.All.{None, Passes, Some, ap, arith, is_some, length, reached_at, replicate, set, sym, ℕ, ◌<◌, ◌^◌, ◌∙◌, ◌≤◌}
use Rattle.sdd_advise.proofs.Found.{search_begun}
use Rattle.sdd_advise.proofs.Left.{left_found, left_done}
use Rattle.sdd_advise.proofs.search.Search.until.Goals as goal

pub places-init : goal.places-init
places-init c =
    let few : c.args.graph.now.nodes < 2 ^ 32 = omega (arith, c.nodes.ensures) in (
      search_begun c.args.graph.now.edges (Passes c.args.without.now) c.args.graph.now.nodes c.args.start
          c.in_ok-search.search.places.items c.in_ok-search.search.reached.items few c.requires.start
          (c.in_ok-search.ensures.places ∙ ap (λ (z : ℕ). set (replicate z None) c.args.start (Some 0)) c.nodes.ensures)
          c.in_ok-search.ensures.reached,
      ap (λ z. (reached_at z 0).node) c.in_ok-search.ensures.reached,
    )

pub returns-then-is_some : goal.returns-then-is_some
returns-then-is_some c =
    left_found c.args.graph.now c.args.without.now c.args.start c.args.wanted c.places.place c.places.search
    c.places.invariant.0 c.places.invariant.1 (ap is_some (sym c.place.ensures) ∙ sym c.is_some.ensures ∙ c.if-is_some.true)

pub returns : goal.returns
returns c =
    let done : length c.places.search.reached.items ≤ c.places.place = omega (arith, c.len.ensures, c.places-test.false) in
    left_done c.args.graph.now c.args.without.now c.args.start c.args.wanted c.places.place c.places.search
    c.places.invariant.0 c.places.invariant.1 done
