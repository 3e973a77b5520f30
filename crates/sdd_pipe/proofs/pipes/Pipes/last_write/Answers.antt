use Rattle.sdd_pipe.proofs.All.{ap, empty_digest, last_in, pipe_at, rules, sym, ◌∙◌, ◌≡◌}
use Rattle.sdd_pipe.proofs.Digests.{no_last}
use Rattle.sdd_pipe.proofs.pipes.Pipes.last_write.Goals as goal

pub returns-in-None : goal.returns-in-None
returns-in-None c =
    let none : pipe_at c.args.self.now.value c.args.class.0 ≡ empty_digest = search rules in
    sym (ap (last_in c.args.frags.now) none ∙ no_last c.args.frags.now)
