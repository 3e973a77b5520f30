use Rattle.sdd_net.proofs.All.{arith}
use Rattle.sdd_net.proofs.Joined.{same_items, item_more, on_err}
use Rattle.sdd_net.proofs.pieces.push_at.Goals as goal

pub returns-in_err-push_back-clause-err : goal.returns-in_err-push_back-clause-err
returns-in_err-push_back-clause-err g c =
    on_err c.from_residual.result
    (same_items _ c.args.pieces.now.items c.args.at c.index_mut-piece.result.now c.push_back.new.self
    (omega arith) c.index_mut-piece.ensures.value c.in_err-push_back.ensures.items)

pub returns-clause-ok : goal.returns-clause-ok
returns-clause-ok g c =
    item_more _ c.args.pieces.now.items c.args.at c.index_mut-piece.result.now c.push_back.new.self c.args.item
    c.requires.last c.index_mut-piece.ensures.value c.in_ok-push_back.ensures.items
