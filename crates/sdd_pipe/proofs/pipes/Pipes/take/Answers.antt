use Rattle.sdd_pipe.proofs.All.{Bool, Digest, Kept, List, ap, take_digest, update, ◌∙◌}
use Rattle.sdd_pipe.proofs.Updates.{set_is_update}
use Rattle.sdd_pipe.proofs.pipes.Pipes.take.Goals as goal

abbrev kept : Bool → List Digest → Kept (List Digest)
kept live pipes = record { live = live; value = pipes }

pub returns-clause-pipes : goal.returns-clause-pipes
returns-clause-pipes c =
    ap (kept c.self.inside.live) (set_is_update take_digest _ _ _ _ _ c.index_mut-pipe.ensures.value c.take.ensures.pipe (ap (λ v. v.value) c.self.view_is))
    ∙ ap (λ v. kept v.live (update c.args.class.0 take_digest c.args.self.now.value)) c.self.view_is
