use Rattle.sdd_run.proofs.All.{IsOrderable, ap, of_ok, report_text as text_of, subst, sym, ◌∙◌}
use Rattle.sdd_run.proofs.SameReport.{report_is}
use Rattle.sdd_run.proofs.telling.report_on.Goals as goal

pub serial_order-requires : goal.serial_order-requires
serial_order-requires c =
    let given = c.requires.0 in
    let s = c.requires.3 in
    record {
      orderable = subst (λ cat. IsOrderable cat c.as_slice-history.result.now) (sym (c.whole-catalogue.ensures given c.requires.1 s.calm))
          (subst (IsOrderable given.catalogue) (sym (c.as_slice-history.ensures ∙ c.history.ensures given c.requires.1 s.calm)) c.requires.2);
    }

pub returns : goal.returns
returns c =
    of_ok c.report_pages.result _ _ c.report_pages.ensures (λ text printed given log s homes.
    printed
    ∙ ap text_of (report_is given log c.whole-catalogue.result.now c.transactions.result.now c.as_slice-history.result.now
    c.as_slice.result.now c.as_slice-2.result.now c.as_slice-3.result.now homes
    (sym (c.whole-catalogue.ensures given log s.calm)) (c.transactions.ensures given log s.calm)
    (c.as_slice-history.ensures ∙ c.history.ensures given log s.calm) (c.as_slice.ensures.value ∙ c.in_ok-order.ensures.order)
    (c.as_slice-2.ensures.value ∙ c.in_ok-left.ensures given log s) (c.as_slice-3.ensures.value ∙ c.in_ok-copies.ensures given log s)))
