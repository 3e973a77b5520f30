use Rattle.sdd_lang.proofs.All.{ap, arith, has, rules}
use Rattle.sdd_lang.proofs.Numbering.{frag_kept, frag_left}
use Rattle.sdd_lang.proofs.StatementSets.{listed_numbers}
use Rattle.sdd_lang.proofs.classes.list_fragments.Goals.{then-has+in_ok-push, else-has}
use Rattle.sdd_lang.proofs.classes.list_fragments.Goals as goal

pub loop-number-preserved : goal.loop-number-preserved
loop-number-preserved c =
    elim c.if-has.branch [
      | then-has+in_ok-push w ↦ frag_kept (has c.args.set.now) c.loop-number.number c.loop-number.frags.items _
          (omega arith) w.if-has.ensures c.loop-number.invariant (search rules)
      | else-has w ↦ frag_left (has c.args.set.now) c.loop-number.number c.loop-number.frags.items _ (omega arith) w.if-has.ensures c.loop-number.invariant
          (ap (λ v. v.items) w.frags-is)
    ]

pub returns : goal.returns
returns c = listed_numbers c.args.catalogue.now c.args.set.now c.loop-number.number c.loop-number.frags.items (omega arith) c.loop-number.invariant
