use Rattle.sdd_ask.proofs.All.{IfOk, Tells, ap, closed, flag_at, length, moves, subst, ◌∙◌}
use Rattle.sdd_ask.proofs.Cells.{tells_flags}
use Rattle.sdd_ask.specs.declared.flags.TheConstants.{WIDTH}
use Rattle.sdd_ask.proofs.needs.passing.Goals as goal

pub closed-requires : goal.closed-requires
closed-requires c =
    ap length c.as_slice.ensures.value
    ∙ (tells_flags (moves (flag_at c.args.waits.now)) c.in_ok-moves.moves.items c.in_ok-moves.ensures).cells

pub returns : goal.returns
returns c =
    subst (λ z. IfOk c.closed.result (λ all. Tells all.items (closed (flag_at z) WIDTH))) (c.as_slice.ensures.value ∙ c.in_ok-moves.ensures)
    c.closed.ensures
