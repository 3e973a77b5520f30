use Rattle.sdd_exec.proofs.All.{all_rows, sym, ◌∙◌}
use Rattle.std.proofs.Common.{ltb-true}
use Rattle.sdd_exec.proofs.Explored.{sound_none}
use Rattle.sdd_exec.proofs.Kept.{fits_room, kept_over, kept_start, kept_whole}
use Rattle.sdd_exec.proofs.Stepped.{start_explored, start_taken}
use Rattle.sdd_exec.proofs.exploring.find_answers.Goals as goal

pub explore-requires : goal.explore-requires
explore-requires c =
    record {
      nodes = λ node has. c.in_ok-nodes.ensures node (rw c.as_slice-nodes.ensures.value at has);
      kept = kept_start c.args.parts.now c.args.conds.now c.args.out.now c.as_slice-nodes.result.now c.in_ok-state.state c.in_ok-state.ensures.seen c.in_ok-state.ensures.dead
          c.in_ok-state.ensures.told c.in_ok-state.ensures.found;
      sound = λ node at. sound_none c.args.parts.now c.args.conds.now node.taken.items
          (start_taken c.as_slice-nodes.result.now node (c.is_start.ensures c.if-not-is_start.false) at);
    }

pub returns-then-is_over : goal.returns-then-is_over
returns-then-is_over c =
    kept_over c.args.parts.now c.args.conds.now c.args.out.now c.as_slice-nodes.result.now c.explore.new.state c.args.room c.in_ok-whole.ensures.kept
    (ltb-true _ _ (sym c.is_over.ensures.more ∙ c.if-is_over.true)) c.is_over.ensures.once

pub returns-in-Some : goal.returns-in-Some
returns-in-Some c =
    fits_room c.args.room c.explore.new.state.found (all_rows c.args.parts.now c.args.conds.now c.args.out.now)
    (kept_whole c.args.parts.now c.args.conds.now c.args.out.now c.as_slice-nodes.result.now c.explore.new.state c.in_ok-whole.ensures.kept
    (start_explored c.args.parts.now c.args.conds.now c.args.out.now c.as_slice-nodes.result.now c.explore.new.state.found (c.is_start.ensures c.if-not-is_start.false)
    (rw c.in-Some.is at c.in_ok-whole.ensures.explored)))
    (sym c.is_over.ensures.more ∙ c.if-is_over.false)
