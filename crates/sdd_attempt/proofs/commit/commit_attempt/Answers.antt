use Rattle.sdd_attempt.proofs.All.{Serves, ap, effect, filter_map, numbers_to, refl, subst, sym, txn_no, write_of, ◌++◌, ◌∙◌}
use Rattle.sdd_attempt.proofs.Noting.{committed_noted}
use Rattle.sdd_attempt.proofs.commit.commit_attempt.Goals as goal

pub returns : goal.returns
returns c = λ bases sound serves.
    let cat = c.args.catalogue.now in
    let q = c.args.queued.now in
    let r = c.args.running in
    let text = ap (λ x. x.text) c.queued.view_is in
    let found = c.into_found.ensures ∙ ap (λ x. x.exchange.found) c.running.view_is in
    let here = subst (λ t. Serves cat t c.into_found.result.items (bases r.ts)) (sym text)
    (subst (λ rows. Serves cat q.text rows (bases r.ts)) (sym found) serves) in
    let made = c.in_ok-effect.ensures (bases r.ts) (sound r.ts) here ∙ ap (effect cat (bases r.ts)) text in
    let notes = c.args.draft.now in
    let writes = filter_map (write_of cat c.args.class.0 c.running.inside.ts.0 c.queued.inside.number.0 c.in_ok-effect.effect.changes) (numbers_to cat.dms) in
    let sent = c.in_ok-send_writes.ensures ∙ ap
    (λ xs. record notes {
      out = notes.out ++ filter_map (write_of cat c.args.class.0 c.running.inside.ts.0 c.queued.inside.number.0 xs)
          (numbers_to cat.dms);
    }) c.as_slice.ensures in
    committed_noted cat bases c.args.class.0 q r c.queued.inside.number c.queued.inside.tries c.values-values.result
    c.rows-rows.result c.running.inside.ts.0 c.in_ok-effect.effect writes
    notes c.send_writes.new.draft c.record.new.self
    (ap (λ x. txn_no x.number) c.queued.view_is) (ap (λ x. x.tries) c.queued.view_is) (c.values-values.ensures ∙ ap (λ x. x.exchange.values) c.running.view_is)
    (c.rows-rows.ensures ∙ ap (λ x. x.exchange.rows) c.running.view_is)
    (ap (λ x. x.ts) c.running.view_is) made refl sent (rw c.in_ok-reply.ensures at c.in_ok-record.ensures)
