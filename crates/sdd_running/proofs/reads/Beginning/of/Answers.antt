use Rattle.sdd_running.proofs.All.{All, AreThere, Use, ap, ascending, fragments_in, reads_there, subst, sym, uses_there, ◌∙◌}
use Rattle.sdd_running.proofs.reads.Beginning.of.Goals as goal

pub invariant_of-result : goal.invariant_of-result
invariant_of-result c =
    let cat = c.args.catalogue.now in
    let text = c.queued.inside.text in
    record {
      declared = c.requires.declared;
      tries = c.requires.tries;
      uses_there = subst (λ us. All (λ (u : Use). AreThere cat u.frags) us) (sym c.in_ok-uses.ensures) (uses_there cat text);
      frags_are = c.in_ok-frags.ensures ∙ ap (λ us. ascending (fragments_in us)) (sym c.in_ok-uses.ensures);
      frags_there = reads_there cat text c.in_ok-frags.frags.items c.in_ok-frags.ensures;
    }
