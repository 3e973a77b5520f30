use Rattle.sdd_attempt.proofs.All.{Line, active_of, ap, standing_at, standing_of, sym, ◌∙◌}
use Rattle.sdd_attempt.proofs.Places.{at_place, standing_by_place}
use Rattle.sdd_attempt.proofs.line.Line.standing.Goals as goal

pub returns-in-None : goal.returns-in-None
returns-in-None c =
    let s = c.self.inside in
    let standing_is = standing_by_place s.catalogue.now s.class.0 s.queue.items s.running c.args.number.0 c.self.invariant in
    sym (sym (ap (λ (l : Line). standing_of l c.args.number.0) c.self.view_is) ∙ standing_is
    ∙ ap (at_place s.class.0 (active_of s.queue.items s.running)) (sym c.place_of.ensures ∙ c.in-None.is))

pub returns-in-Some : goal.returns-in-Some
returns-in-Some c =
    let s = c.self.inside in
    let standing_is = standing_by_place s.catalogue.now s.class.0 s.queue.items s.running c.args.number.0 c.self.invariant in
    c.standing_at.ensures ∙ sym (ap (λ (l : Line). standing_at l.class l.active c.in-Some.place) c.self.view_is)
    ∙ sym (sym (ap (λ (l : Line). standing_of l c.args.number.0) c.self.view_is) ∙ standing_is
    ∙ ap (at_place s.class.0 (active_of s.queue.items s.running)) (sym c.place_of.ensures ∙ c.in-Some.is))
