use Rattle.sdd_ask.proofs.All.{Tells, ap, length, subst, sym, take, waits_for, ◌+◌, ◌∙◌}
use Rattle.sdd_ask.proofs.Marking.{more_wait, none_wait, written_back}
use Rattle.sdd_ask.proofs.waiting.waits.Goals as goal

pub entries-init : goal.entries-init
entries-init c = none_wait _ (c.in_ok-flags.ensures.items_if_clones_equal (λ y e. e)) c.args.entries.now

pub mark-requires-clause-cells : goal.mark-requires-clause-cells
mark-requires-clause-cells c = ap length c.deref_mut.ensures.value ∙ c.entries.invariant.cells

pub entries-preserved : goal.entries-preserved
entries-preserved c =
    let k = c.entries.entry-index in
    let old = c.entries.flags.items in
    let new = c.mark.new.flags in
    let value = c.deref_mut.ensures.value in
    subst (λ z. Tells z (waits_for (take (k + 1) c.args.entries.now)))
    (sym (written_back old new c.entries.flags.len (sym c.deref_mut.ensures.len ∙ ap length value) (c.mark.auto.flags ∙ ap length value)))
    (more_wait c.args.entries.now k _ old c.deref_mut.result.now new c.entries-test.true c.entries.invariant value c.mark.auto.flags c.mark.ensures)
