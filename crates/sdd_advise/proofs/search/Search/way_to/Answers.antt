use Rattle.sdd_advise.proofs.All.{Came, MatchOption-at_some, None, Passes, arith, reached_at, refl, rules, subst, sym, ◌<◌, ◌∙◌, ◌≡◌}
use Rattle.sdd_advise.proofs.WayBack.{IsWayBack, at_last, one_back, all_back}
use Rattle.sdd_advise.proofs.search.Search.way_to.Goals as goal

pub way-init : goal.way-init
way-init c = (
  c.requires.within,
  λ network without gone u.
      subst (λ z. IsWayBack network.edges (Passes without) c.args.self.now.places.items c.args.self.now.reached.items
      (reached_at c.args.self.now.reached.items c.args.place).node c.args.place z)
      (sym c.new-way.ensures.items)
      (at_last network.edges (Passes without) network.nodes gone c.args.self.now.places.items c.args.self.now.reached.items u _ c.args.place c.requires.within refl),
)

pub way-preserved : goal.way-preserved
way-preserved c =
    let is : (reached_at c.args.self.now.reached.items c.way.at).came ≡ _ = sym c.came_to.ensures ∙ c.in-Some.is in
    let l = c.way.invariant.0 in
    let before : c.in-Some.came.from < c.way.at =
    MatchOption-at_some (c.way.at ≡ 0) (λ (came : Came). came.from < c.way.at) c.in-Some.came is (c.requires.traced.earlier c.way.at l) in (
      omega arith,
      λ network without gone u.
          one_back network.edges (Passes without) network.nodes gone c.args.self.now.places.items c.args.self.now.reached.items u _ c.way.at c.in-Some.came
          c.way.way.items c.push.new.self.items l is (c.way.invariant.1 network without gone u) c.in_ok-push.ensures.items,
    )

pub returns : goal.returns
returns c =
    let none : (reached_at c.args.self.now.reached.items c.way.at).came ≡ None = first_of (search rules, grind arith) in
    λ network without gone u.
    all_back network.edges (Passes without) network.nodes gone c.args.self.now.places.items c.args.self.now.reached.items u
    (reached_at c.args.self.now.reached.items c.args.place).node c.way.at c.way.way.items c.reverse.new.self.items c.way.invariant.0 none
    (c.way.invariant.1 network without gone u) c.reverse.ensures.items
