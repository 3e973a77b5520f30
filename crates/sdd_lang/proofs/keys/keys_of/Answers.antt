use Rattle.sdd_lang.proofs.All.{[], ap, arith, keys_left, restrictions_of, sym, ◌∙◌, ◌∷◌}
use Rattle.sdd_lang.proofs.StatementSets.{keys_more}
use Rattle.sdd_lang.proofs.keys.keys_of.Goals as goal

pub loop-cond-preserved : goal.loop-cond-preserved
loop-cond-preserved c =
    c.narrowed_by-keys.ensures
    ∙ ap (λ ks. keys_left c.args.key ks (restrictions_of c.args.part (c.cond-item.result ∷ []))) c.loop-cond.invariant
    ∙ sym (keys_more c.args.key c.args.part c.args.conds.now c.loop-cond.cond-index c.cond-item.result (omega arith) c.cond-item.is)
