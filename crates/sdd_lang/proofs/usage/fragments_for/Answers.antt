use Rattle.sdd_lang.proofs.All.{ap, arith, meets_keys, rules}
use Rattle.sdd_lang.proofs.Numbering.{frag_kept, frag_left}
use Rattle.sdd_lang.proofs.usage.fragments_for.Goals.{then-meets_keys+in_ok-push, else-meets_keys}
use Rattle.sdd_lang.proofs.usage.fragments_for.Goals as goal

pub loop-number-preserved : goal.loop-number-preserved
loop-number-preserved c =
    elim c.if-meets_keys.branch [
      | then-meets_keys+in_ok-push w ↦ frag_kept
          (meets_keys c.args.catalogue.now c.args.rel.0 c.allowed_keys-keys.result) c.loop-number.number c.loop-number.frags.items _
          (omega arith) w.if-meets_keys.ensures c.loop-number.invariant (search rules)
      | else-meets_keys w ↦ frag_left (meets_keys c.args.catalogue.now c.args.rel.0 c.allowed_keys-keys.result) c.loop-number.number c.loop-number.frags.items _
          (omega arith) w.if-meets_keys.ensures c.loop-number.invariant (ap (λ v. v.items) w.frags-is)
    ]
