use Rattle.sdd_graph.proofs.All.{Diagonal, Edge, Global, Vec, ap, append-nil, class_no, frag_no, sym, take_more, writes, ◌++◌, ◌∙◌}
use Rattle.sdd_graph.proofs.Lists.{kept_more, left_more}
use Rattle.sdd_graph.proofs.Pairs.{none_to_itself, between_others}
use Rattle.sdd_graph.proofs.conflicts.push_diagonals_between.Goals.{then-writes+in_ok-push, else-writes}
use Rattle.sdd_graph.proofs.conflicts.push_diagonals_between.Goals as goal

pub returns-then-i-j : goal.returns-then-i-j
returns-then-i-j c =
    sym (append-nil c.args.edges.now.items) ∙ ap (λ es. c.args.edges.now.items ++ es) (sym (none_to_itself c.args.uses.now c.args.i c.args.j c.if-i-j.true))

pub loop-f-preserved : goal.loop-f-preserved
loop-f-preserved c =
    elim c.if-writes.branch [
      | then-writes+in_ok-push w ↦
          kept_more (λ f. Diagonal (class_no c.args.i) (class_no c.args.j) (frag_no f)) (writes c.args.uses.now c.args.j) _ _ _ _ _ _
          (take_more c.reads-f-items.result.now c.loop-f.f-index 0 c.loop-f-test.true) c.loop-f.invariant (sym c.writes.ensures ∙ w.if-writes.true)
          (ap (λ (v : Vec Edge Global). v.items) w.edges-is ∙ w.in_ok-push.ensures.items)
      | else-writes w ↦
          left_more (λ f. Diagonal (class_no c.args.i) (class_no c.args.j) (frag_no f)) (writes c.args.uses.now c.args.j) _ _ _ _ _ _
          (take_more c.reads-f-items.result.now c.loop-f.f-index 0 c.loop-f-test.true) c.loop-f.invariant (sym c.writes.ensures ∙ w.if-writes.false)
          (ap (λ (v : Vec Edge Global). v.items) w.edges-is)
    ]

pub returns : goal.returns
returns c =
    between_others c.args.uses.now c.args.i c.args.j c.reads-f-items.result.now c.loop-f.f-index _ _ c.if-i-j.false
    c.reads-f-items.ensures.list c.loop-f-test.false c.loop-f.invariant
