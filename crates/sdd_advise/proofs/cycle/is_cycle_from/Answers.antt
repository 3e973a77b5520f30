use Rattle.sdd_advise.proofs.All.{All, All-contains, All-weaker, Contains, Differ, Global, IfOk-weaker, IsCycleFrom, IsTrue, NamesClasses, Some, Vec, ap, arith, false≢true, length, nodes_along, option_map, refl, slice_get, subst, sym, ℕ, ◌-◌, ◌<◌, ◌↔◌, ◌∙◌, ◌≡◌}
use Rattle.sdd_advise.proofs.Rounds.{cycle_is_long, all_in_graph, first_two_differ, leads_on, cycle_where_round, nodes_within}
use Rattle.sdd_advise.proofs.cycle.is_cycle_from.Goals as goal

pub returns-then-cycle-lt2 : goal.returns-then-cycle-lt2
returns-then-cycle-lt2 c =
    ((λ t. absurd (false≢true t)), λ cycle. let long = cycle_is_long c.args.graph.now.edges c.args.start c.args.cycle.now cycle in absurd (omega arith))

pub returns-then-not-has_all : goal.returns-then-not-has_all
returns-then-not-has_all c =
    ((λ t. absurd (false≢true t)), λ cycle. c.if-not-has_all.ensures.1 (all_in_graph c.args.graph.now.edges c.args.start c.args.cycle.now cycle))

pub returns-then-is_same : goal.returns-then-is_same
returns-then-is_same c = (
  (λ t. absurd (false≢true t)),
  λ cycle. absurd (first_two_differ c.args.graph.now.edges c.law_is_sound.ensures.once c.args.start c.args.cycle.now _ _ cycle (c.if-is_same.ensures.0 refl)),
)

pub nodes_along-requires : goal.nodes_along-requires
nodes_along-requires c =
    All-weaker (Contains c.args.graph.now.edges) NamesClasses
    (λ e m. All-contains NamesClasses c.args.graph.now.edges e c.law_is_sound.ensures.named m) c.args.cycle.now (c.if-not-has_all.ensures.0 refl)

pub is_round-requires : goal.is_round-requires
is_round-requires c =
    let along : nodes_along c.args.start c.args.cycle.now ≡ Some c.deref.result.now =
    sym (ap (λ z. Some z) c.deref.ensures.value ∙ ap (λ o. option_map (λ (v : Vec ℕ Global). v.items) o) (sym c.in-Some.is) ∙ c.in_ok-nodes.ensures) in
    subst (λ limit. All (λ node. node < limit) c.deref.result.now) (sym c.nodes.ensures)
    (nodes_within c.args.graph.now.edges c.args.graph.now.nodes c.law_is_sound.ensures.within c.args.start c.args.cycle.now
    c.deref.result.now (c.if-not-has_all.ensures.0 refl) along)

pub returns-in-Some : goal.returns-in-Some
returns-in-Some c =
    let nodes = c.deref.result.now in
    let along : nodes_along c.args.start c.args.cycle.now ≡ Some nodes =
    sym (ap (λ z. Some z) c.deref.ensures.value ∙ ap (λ o. option_map (λ (v : Vec ℕ Global). v.items) o) (sym c.in-Some.is) ∙ c.in_ok-nodes.ensures) in
    let iff =
    cycle_where_round c.args.graph.now.edges c.law_is_sound.ensures.once c.args.start c.args.cycle.now nodes _ _ c.if-cycle-lt2.false
    (c.if-not-has_all.ensures.0 refl) (λ e. false≢true (c.if-is_same.ensures.1 e)) along in
    IfOk-weaker c.is_round.result (λ answer. IsTrue answer ↔ ((slice_get nodes (length nodes - 1) ≡ Some c.args.start) × Differ nodes))
    (λ answer. IsTrue answer ↔ IsCycleFrom c.args.graph.now.edges c.args.start c.args.cycle.now)
    (λ answer h. ((λ t. iff.1 (h.0 t)), λ cycle. h.1 (iff.0 cycle))) c.is_round.ensures

pub returns-in-None : goal.returns-in-None
returns-in-None c = (
  (λ t. absurd (false≢true t)),
  λ cycle.
      absurd (leads_on c.args.graph.now.edges c.args.start c.args.cycle.now
      (ap (λ o. option_map (λ (v : Vec ℕ Global). v.items) o) (sym c.in-None.is) ∙ c.in_ok-nodes.ensures) cycle),
)
