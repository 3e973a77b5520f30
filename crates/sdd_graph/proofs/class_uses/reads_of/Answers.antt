use Rattle.sdd_graph.proofs.All.{Global, List, Vec, [], ap, is_some, reads_at, sym, ℕ, ◌++◌, ◌∙◌, ◌∷◌, ◌≡◌}
use Rattle.sdd_graph.proofs.Lists.{up_to, filter_takes, filter_leaves, is_some_mapped}
use Rattle.sdd_graph.proofs.class_uses.reads_of.Goals.{then-is_some+in_ok-push, else-is_some}
use Rattle.sdd_graph.proofs.class_uses.reads_of.Goals as goal

pub loop-f-preserved : goal.loop-f-preserved
loop-f-preserved c =
    let read : is_some (reads_at c.args.catalogue.now c.args.class.0 c.loop-f.f) ≡ c.is_some.result = sym (ap is_some c.reads_at.ensures)
    ∙ is_some_mapped _ c.reads_at.result ∙ sym c.is_some.ensures in
    elim c.if-is_some.branch [
      | then-is_some+in_ok-push w ↦
          ap (λ (v : Vec ℕ Global). v.items) w.reads-is ∙ w.in_ok-push.ensures.items
          ∙ ap (λ (fs : List ℕ). fs ++ c.loop-f.f ∷ []) c.loop-f.invariant
          ∙ sym (filter_takes (λ f. is_some (reads_at c.args.catalogue.now c.args.class.0 f)) _ _ c.loop-f.f (up_to c.loop-f.f c.loop-f.auto.f) (read ∙ w.if-is_some.true))
      | else-is_some w ↦
          ap (λ (v : Vec ℕ Global). v.items) w.reads-is ∙ c.loop-f.invariant
          ∙ sym (filter_leaves (λ f. is_some (reads_at c.args.catalogue.now c.args.class.0 f)) _ _ c.loop-f.f (up_to c.loop-f.f c.loop-f.auto.f) (read ∙ w.if-is_some.false))
    ]
