use Rattle.sdd_blocks.proofs.All.{All, List, Run, Some, ap, arith, edges_in, get_or, get_or_default, length, other_end, refl, slice_get, sym, take, take_all, ℕ, ◌+◌, ◌<◌, ◌∙◌, ◌≡◌, ◌≤◌}
use Rattle.sdd_blocks.proofs.RunEdges.{run_at, count_more, count_within}
use Rattle.sdd_blocks.proofs.Ties.{edge_tied, none_tied, all_tied, other_end_joins, joins_end_within}
use Rattle.sdd_blocks.proofs.neighbours.tie_at.Goals.{in-Some+else-loop-edge-test, in_default}
use Rattle.sdd_blocks.proofs.neighbours.tie_at.Goals as goal

-- the edges up to the next run
past_run : (runs : List Run) (i from : ℕ) → i < length runs → from ≡ length (edges_in (take i runs))
    → from + (get_or runs i (record { ends = (0, 0); count = 0 })).count ≡ length (edges_in (take (i + 1) runs))
past_run runs i from within is =
    let r : Run = get_or runs i (record { ends = (0, 0); count = 0 }) in
    ap (λ n. n + r.count) is ∙ sym (count_more runs i r within (get_or_default runs i (record { ends = (0, 0); count = 0 }) r within))

edge_at : (runs : List Run) (i from k : ℕ) → i < length runs → from ≡ length (edges_in (take i runs)) → from ≤ k
    → k < from + (get_or runs i (record { ends = (0, 0); count = 0 })).count
    → slice_get (edges_in runs) k ≡ Some (get_or runs i (record { ends = (0, 0); count = 0 })).ends
edge_at runs i from k within is low high =
    let r : Run = get_or runs i (record { ends = (0, 0); count = 0 }) in
    run_at runs i r within (get_or_default runs i (record { ends = (0, 0); count = 0 }) r within) k (omega arith) (omega arith)

end_within : (edges : List (ℕ × ℕ)) (labels : List ℕ) (k node x : ℕ) (e : ℕ × ℕ) → slice_get edges k ≡ Some e
    → Some x ≡ other_end e node → All (λ e. (e.0 < length labels) × (e.1 < length labels)) edges → x < length labels
end_within edges labels k node x e here o ends =
    joins_end_within edges (length labels) ends k node x (other_end_joins edges k e.0 e.1 node x here (sym o)).0

pub overflow_add-past : goal.overflow_add-past
overflow_add-past c =
    let runs = c.args.runs.now in
    let i = c.loop-run.run-index in
    omega (arith, past_run runs i c.loop-run.from c.loop-run-test.true c.loop-run.invariant.from, count_within runs (i + 1), c.requires.few)

pub bounds-labels-end : goal.bounds-labels-end
bounds-labels-end c =
    let here = edge_at _ c.loop-run.run-index _ c.loop-edge.edge c.loop-run-test.true c.loop-run.invariant.from c.loop-edge.auto.edge c.loop-edge-test.true in
    end_within (edges_in c.args.runs.now) c.args.labels.now c.loop-edge.edge c.args.node c.in-Some.end _ here c.in-Some.ensures c.requires.ends

pub tie-requires : goal.tie-requires
tie-requires c =
    let here = edge_at _ c.loop-run.run-index _ c.loop-edge.edge c.loop-run-test.true c.loop-run.invariant.from c.loop-edge.auto.edge c.loop-edge-test.true in
    let within = end_within (edges_in c.args.runs.now) c.args.labels.now c.loop-edge.edge c.args.node c.in-Some.end _ here c.in-Some.ensures c.requires.ends in
    omega (arith, c.requires.components.below c.in-Some.end 0 within, c.loop-edge.invariant.one_each)

pub loop-edge-preserved : goal.loop-edge-preserved
loop-edge-preserved c =
    let here = edge_at _ c.loop-run.run-index _ c.loop-edge.edge c.loop-run-test.true c.loop-run.invariant.from c.loop-edge.auto.edge c.loop-edge-test.true in
    edge_tied (edges_in c.args.runs.now) c.args.node c.args.labels.now c.args.pairs.now.items
    c.loop-edge.pairs.items c.tie.new.pairs.items c.loop-edge.first.items c.tie.new.first.items c.loop-edge.edge _ _ c.in-Some.end
    c.loop-edge.invariant here (sym c.in-Some.ensures) c.requires.components c.requires.ends c.in_ok-tie.ensures.none c.in_ok-tie.ensures.some _ refl

pub loop-run-preserved : goal.loop-run-preserved
loop-run-preserved c =
    let new = c.match-other_end in
    let more = past_run c.args.runs.now c.loop-run.run-index c.loop-run.from c.loop-run-test.true c.loop-run.invariant.from in
    elim c.match-other_end.branch [
      | in-Some+else-loop-edge-test w ↦
          let end : w.loop-edge.edge ≡ new.from = omega (arith, w.from-is, w.loop-edge.auto.edge-end, w.loop-edge-test.false) in
          record { tying = rw (w.pairs-is, w.first-is, ← end) w.loop-edge.invariant; from = w.from-is ∙ more }
      | in_default w ↦
          record {
            tying = rw (w.pairs-is, w.first-is, w.from-is)
                (none_tied _ _ _ _ _ _ c.loop-run.from _ _ _ c.loop-run.invariant.tying
                (λ k low high. edge_at _ c.loop-run.run-index _ k c.loop-run-test.true c.loop-run.invariant.from low high) (sym w.in_default.ensures));
            from = w.from-is ∙ more;
          }
    ]

pub returns : goal.returns
returns c =
    let all = ap (λ (z : List Run). length (edges_in z)) (take_all c.loop-run.run-index c.args.runs.now c.loop-run-test.false) in
    all_tied (edges_in c.args.runs.now) c.args.node c.args.labels.now c.args.pairs.now.items _ _ c.loop-run.from c.loop-run.invariant.tying
    (omega (arith, all, c.loop-run.invariant.from)) c.requires.components
