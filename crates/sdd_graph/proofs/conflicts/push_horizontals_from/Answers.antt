use Rattle.sdd_graph.proofs.All.{Edge, Global, Horizontal, Vec, ap, class_no, nat_lt, sym, write_sets_meet, ◌&&◌, ◌∙◌}
use Rattle.sdd_graph.proofs.Lists.{up_to, kept_more, left_more}
use Rattle.sdd_graph.proofs.conflicts.push_horizontals_from.Goals.{then-are_joined+in_ok-push, else-are_joined}
use Rattle.sdd_graph.proofs.conflicts.push_horizontals_from.Goals as goal

pub loop-j-preserved : goal.loop-j-preserved
loop-j-preserved c =
    elim c.if-are_joined.branch [
      | then-are_joined+in_ok-push w ↦
          kept_more (λ j. Horizontal (class_no c.args.i) (class_no j))
          (λ j. nat_lt c.args.i j && write_sets_meet c.args.uses.now c.args.i j) _ _ c.loop-j.j _ _ _
          (up_to c.loop-j.j c.loop-j.auto.j) c.loop-j.invariant (sym c.are_joined.ensures ∙ w.if-are_joined.true)
          (ap (λ (v : Vec Edge Global). v.items) w.edges-is ∙ w.in_ok-push.ensures.items)
      | else-are_joined w ↦
          left_more (λ j. Horizontal (class_no c.args.i) (class_no j))
          (λ j. nat_lt c.args.i j && write_sets_meet c.args.uses.now c.args.i j) _ _ c.loop-j.j _ _ _
          (up_to c.loop-j.j c.loop-j.auto.j) c.loop-j.invariant (sym c.are_joined.ensures ∙ w.if-are_joined.false)
          (ap (λ (v : Vec Edge Global). v.items) w.edges-is)
    ]
