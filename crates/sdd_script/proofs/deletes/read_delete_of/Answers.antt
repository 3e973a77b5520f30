use Rattle.sdd_script.proofs.All.{Delete, MAX_CONDITIONS, Ok, Some, [], arith, conditions_of, rel_no, ◌∷◌}
use Rattle.sdd_script.proofs.Shortened.{delete_short, fails_short}
use Rattle.sdd_script.proofs.deletes.read_delete_of.Goals as goal

pub returns-in_err-conds : goal.returns-in_err-conds
returns-in_err-conds c =
    let found =
    fails_short MAX_CONDITIONS c.in_err-conds.field-0.0 (conditions_of c.args.catalogue.now (Some c.args.rel ∷ []) c.args.words.now) (λ conds. Ok (Delete
    (rel_no c.args.rel) conds)) c.in_err-conds.ensures in
    grind (arith, found)

pub returns : goal.returns
returns c =
    let found =
    delete_short (rel_no c.args.rel) (conditions_of c.args.catalogue.now (Some c.args.rel ∷ []) c.args.words.now)
    c.in_ok-conds.conds.items c.in_ok-conds.ensures in
    grind (arith, found)
