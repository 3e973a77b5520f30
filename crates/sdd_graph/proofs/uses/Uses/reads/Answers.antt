use Rattle.sdd_graph.proofs.All.{All-same, ClassUses, ap, length, reads_of, ◌∙◌, ◌≡◌, ◌≤◌}
use Rattle.sdd_graph.proofs.Tables.{reads_within}
use Rattle.sdd_graph.proofs.uses.Uses.reads.Goals as goal

pub returns-clause-within : goal.returns-clause-within
returns-clause-within c =
    let is : c.as_slice.result.now ≡ reads_of c.args.self.now c.args.class = c.as_slice.ensures ∙ ap (λ (u : ClassUses). u.reads) c.class.ensures in
    All-same (λ f. (1 ≤ f) × (f ≤ length c.args.self.now.fragments)) c.as_slice.result.now _ is (reads_within c.args.self.now c.args.class)
