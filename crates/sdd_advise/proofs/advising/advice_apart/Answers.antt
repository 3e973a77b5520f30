use Rattle.sdd_advise.proofs.All.{IfOk-weaker, IsOther, OneEdge, P1, P2, ShowsFor, [], advice_of, ap, ends, placed_nodes, reached_at, sym, ◌∙◌, ◌∷◌, ◌≡◌}
use Rattle.sdd_advise.proofs.Advised.{good_off_cycles, good_beside, way_moved}
use Rattle.sdd_advise.proofs.advising.advice_apart.Goals as goal

pub returns-in-None-clause-shown : goal.returns-in-None-clause-shown
returns-in-None-clause-shown c =
    let edges = c.args.graph.now.edges in
    let edge = c.args.edge.now in
    let places = c.in_ok-around.around.places.items in
    let none = sym c.place.ensures ∙ c.in-None.is in
    IfOk-weaker c.advice_off_cycles.result (λ advice. advice ≡ advice_of edge P1 [] (placed_nodes places)) (λ advice. ShowsFor edges advice edge)
    (λ advice e.
    good_off_cycles edges edge c.args.reader c.requires.there c.requires.reader c.law_is_sound.ensures.named c.ends-read.result
    places advice c.ends-read.ensures (c.in_ok-around.ensures.whole none) none e)
    c.advice_off_cycles.ensures

pub way_to-requires-clause-within : goal.way_to-requires-clause-within
way_to-requires-clause-within c =
    (c.in_ok-around.ensures.searching.traced.placed c.ends-read.result.0 c.in-Some.place (sym c.place.ensures ∙ c.in-Some.is)).0

pub returns-clause-shown : goal.returns-clause-shown
returns-clause-shown c =
    let edges = c.args.graph.now.edges in
    let edge = c.args.edge.now in
    let left = c.in_ok-around.ensures in
    let reached = c.in_ok-around.around.reached.items in
    let way = c.deref.result.now in
    let nodes = c.args.apart.now in
    let placed = left.searching.traced.placed c.ends-read.result.0 c.in-Some.place (sym c.place.ensures ∙ c.in-Some.is) in
    let leads =
    way_moved edges (IsOther edge) (reached_at reached 0).node (reached_at reached c.in-Some.place).node
    (ends edge).1 (ends edge).0 c.in_ok-way-in-Some.way.items way
    (c.in_ok-way-in-Some.ensures c.args.graph.now (OneEdge edge) left.place left.searching)
    (left.first ∙ ap (λ z. z.1) c.ends-read.ensures)
    (placed.1 ∙ ap (λ z. z.0) c.ends-read.ensures) c.deref.ensures.value in
    IfOk-weaker c.advice_beside.result (λ advice. advice ≡ advice_of edge P2 (edge ∷ way) nodes) (λ advice. ShowsFor edges advice edge)
    (λ advice e.
    good_beside edges edge c.args.reader c.requires.there c.requires.reader c.law_is_sound.ensures.named way nodes advice leads c.requires.apart e)
    c.advice_beside.ensures
