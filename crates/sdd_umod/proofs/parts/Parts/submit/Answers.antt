-- A new number isn't in the queue.
use Rattle.sdd_umod.proofs.All.{Queued, State, contains, false, map, subst, sym, ◌≡◌}
use Rattle.sdd_umod.proofs.Giving.{fits_kept}
use Rattle.sdd_umod.proofs.parts.Parts.submit.Goals as goal

pub submit-requires-clause-fresh : goal.submit-requires-clause-fresh
submit-requires-clause-fresh c =
    let r = c.requires in
    subst (λ (st : State). contains (map (λ (q : Queued). q.number) st.line.queue) c.args.number.0 ≡ false)
    (sym c.self.view_is) (fits_kept r.0 r.1 r.2 c.args.self.now c.args.number.0 c.args.txn.now r.3 r.4).1
