use Rattle.sdd_attempt.proofs.All.{FitsTxn, Line, Queued, contains, false, map, subst, sym, ◌≡◌}
use Rattle.sdd_attempt.proofs.Queueing.{submitted_line}
use Rattle.sdd_attempt.proofs.line.Line.submit.Goals as goal

pub invariant_of-self-2 : goal.invariant_of-self-2
invariant_of-self-2 c =
    let s = c.self.inside in
    let q : Queued = record { number = c.args.number.0; text = c.in_ok-text.text; tries = 0 } in
    let fits = subst (λ (l : Line). FitsTxn l.catalogue q.text) (sym c.self.view_is)
    (subst (FitsTxn c.args.self.now.catalogue) (sym c.in_ok-text.ensures) c.requires.fits) in
    let fresh = subst (λ (l : Line). contains (map (λ x. x.number) l.queue) q.number ≡ false) (sym c.self.view_is) c.requires.fresh in
    submitted_line s.catalogue.now s.class.0 s.queue.items c.push_back.new.self.items s.running q c.self.invariant fits fresh c.in_ok-push_back.ensures.items
