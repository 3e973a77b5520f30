use Rattle.sdd_exec.proofs.All.{contains, same_row, ◌≡◌}
use Rattle.sdd_exec.proofs.Kept.{added_or_there, changed_at}
use Rattle.sdd_exec.proofs.known.add_seen.Goals as goal

pub returns : goal.returns
returns c =
    λ n q. changed_at (λ set. contains same_row set q) c.args.seen.now.items c.args.place n c.index_mut.result.now c.insert.new.self (c.args.marks ≡ q) c.requires
    c.index_mut.ensures.value (added_or_there c.args.marks q _ _ (c.in_ok-insert.ensures.updates.0 q))
