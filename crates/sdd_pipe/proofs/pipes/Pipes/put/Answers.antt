use Rattle.sdd_pipe.proofs.All.{Digest, Kept, List, ap, put_digest, true}
use Rattle.sdd_pipe.proofs.Updates.{set_is_update}
use Rattle.sdd_pipe.proofs.pipes.Pipes.put.Goals as goal

abbrev kept : List Digest → Kept (List Digest)
kept pipes = record { live = true; value = pipes }

pub returns-clause-ok : goal.returns-clause-ok
returns-clause-ok c =
    ap kept (set_is_update (put_digest c.args.msg) _ _ _ _ _ c.index_mut-pipe.ensures.value c.in_ok-put.ensures (ap (λ v. v.value) c.self.view_is))
