use Rattle.sdd_tm.proofs.All.{ap, class_at, eq-eqb, false, ne_eqb, sym, true, ◌==◌, ◌∙◌, ◌≡◌}
use Rattle.sdd_tm.proofs.FirstClasses.{class_kept, class_left}
use Rattle.sdd_tm.proofs.class_run.first_classes.Goals.{then-class-tm+in_ok-push, else-class-tm}
use Rattle.sdd_tm.proofs.class_run.first_classes.Goals as goal

pub loop-number-preserved : goal.loop-number-preserved
loop-number-preserved c =
    let cat = c.args.catalogue.now in
    let n = c.loop-number.number in
    let tm = c.args.tm.0 in
    let is = ap (λ k. k.tm.0) (sym c.class.ensures) in
    elim c.if-class-tm.branch [
      | then-class-tm+in_ok-push w ↦
          let same : ((class_at cat n).tm.0 == tm) ≡ true = eq-eqb (class_at cat n).tm.0 tm (is ∙ w.if-class-tm.true) in
          ap (λ v. v.items) w.runs-is ∙ w.in_ok-push.ensures.items
          ∙ class_kept cat tm n c.loop-number.runs.items w.new.result c.loop-number.auto.number same
          w.new.ensures c.loop-number.invariant
      | else-class-tm w ↦
          let other : ((class_at cat n).tm.0 == tm) ≡ false =
          ne_eqb (class_at cat n).tm.0 tm (λ e. w.if-class-tm.false (sym is ∙ e)) in
          ap (λ v. v.items) w.runs-is ∙ c.loop-number.invariant ∙ class_left cat tm n c.loop-number.auto.number other
    ]
