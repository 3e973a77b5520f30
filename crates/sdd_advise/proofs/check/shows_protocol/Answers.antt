use Rattle.sdd_advise.proofs.All.{All-contains, IfOk-weaker, IsTrue, NamesClasses, P1, P2, P3, ShowsFor, ShowsP1, ShowsP2, ShowsP3, Vertical, ends, subst, sym, ℕ, ◌<◌, ◌↔◌}
use Rattle.sdd_advise.proofs.Showing.{shown_of, shows_of, own_within}
use Rattle.sdd_advise.proofs.check.shows_protocol.Goals as goal

pub shows_p2-requires-clause-own : goal.shows_p2-requires-clause-own
shows_p2-requires-clause-own c =
    let edge = c.args.advice.now.edge in
    let edges = c.args.graph.now.edges in
    let nodes = c.args.graph.now.nodes in
    let within = All-contains (λ e. ((ends e).0 < nodes) × ((ends e).1 < nodes)) edges edge c.law_is_sound.ensures.within c.requires.there in
    let named = All-contains NamesClasses edges edge c.law_is_sound.ensures.named c.requires.there in
    subst (λ z. z < nodes) (sym c.write_node-own.ensures) (own_within edge c.args.reader nodes c.requires.reader named c.law_is_sound.ensures.paired within.0)

pub returns-in-P1 : goal.returns-in-P1
returns-in-P1 c =
    let edges = c.args.graph.now.edges in
    let advice = c.args.advice.now in
    let edge = advice.edge in
    IfOk-weaker c.shows_p1.result (λ answer. IsTrue answer ↔ ShowsP1 edges edge c.ends-read.result.0 c.ends-read.result.1 advice)
    (λ answer. IsTrue answer ↔ ShowsFor edges advice edge)
    (λ answer h. (
      (λ t.
          shown_of edges advice c.args.reader edge P1 c.requires.reader c.requires.there c.in-P1.is
          (subst (λ (z : ℕ × ℕ). ShowsP1 edges edge z.0 z.1 advice) c.ends-read.ensures (h.0 t))),
      λ s.
          h.1 (subst (λ (z : ℕ × ℕ). ShowsP1 edges edge z.0 z.1 advice) (sym c.ends-read.ensures)
          (shows_of edges advice c.args.reader edge P1 c.requires.reader c.in-P1.is s)),
    ))
    c.shows_p1.ensures

pub returns-in-P2 : goal.returns-in-P2
returns-in-P2 c =
    let edges = c.args.graph.now.edges in
    let advice = c.args.advice.now in
    let edge = advice.edge in
    IfOk-weaker c.shows_p2.result (λ answer. IsTrue answer ↔ ShowsP2 edges edge c.ends-read.result.0 c.ends-read.result.1 c.write_node-own.result advice)
    (λ answer. IsTrue answer ↔ ShowsFor edges advice edge)
    (λ answer h. (
      (λ t.
          shown_of edges advice c.args.reader edge P2 c.requires.reader c.requires.there c.in-P2.is
          (subst (λ z. ShowsP2 edges edge (ends edge).0 (ends edge).1 z advice) c.write_node-own.ensures
          (subst (λ (z : ℕ × ℕ). ShowsP2 edges edge z.0 z.1 c.write_node-own.result advice) c.ends-read.ensures (h.0 t)))),
      λ s.
          h.1 (subst (λ (z : ℕ × ℕ). ShowsP2 edges edge z.0 z.1 c.write_node-own.result advice) (sym c.ends-read.ensures)
          (subst (λ z. ShowsP2 edges edge (ends edge).0 (ends edge).1 z advice) (sym c.write_node-own.ensures)
          (shows_of edges advice c.args.reader edge P2 c.requires.reader c.in-P2.is s))),
    ))
    c.shows_p2.ensures

pub returns-in-P3 : goal.returns-in-P3
returns-in-P3 c =
    let edges = c.args.graph.now.edges in
    let advice = c.args.advice.now in
    let edge = advice.edge in
    IfOk-weaker c.shows_p3.result (λ answer. IsTrue answer ↔ ShowsP3 edges edge (Vertical c.args.reader) c.ends-read.result.0 advice)
    (λ answer. IsTrue answer ↔ ShowsFor edges advice edge)
    (λ answer h. (
      (λ t.
          shown_of edges advice c.args.reader edge P3 c.requires.reader c.requires.there c.in-P3.is
          (subst (λ (z : ℕ × ℕ). ShowsP3 edges edge (Vertical c.args.reader) z.0 advice) c.ends-read.ensures (h.0 t))),
      λ s.
          h.1 (subst (λ (z : ℕ × ℕ). ShowsP3 edges edge (Vertical c.args.reader) z.0 advice) (sym c.ends-read.ensures)
          (shows_of edges advice c.args.reader edge P3 c.requires.reader c.in-P3.is s)),
    ))
    c.shows_p3.ensures
