use Rattle.sdd_script.proofs.All.{MAX_ASSIGNMENTS, MAX_CONDITIONS, Ok, Some, Update, [], along, arith, assign_of, conditions_of, rel_no, ◌>>=◌, ◌∷◌}
use Rattle.sdd_script.proofs.Shortened.{fails_second, fails_short, update_short}
use Rattle.sdd_script.proofs.updates.read_update_of.Goals as goal

pub returns-in_err-assigns : goal.returns-in_err-assigns
returns-in_err-assigns c =
    let found =
    fails_short MAX_ASSIGNMENTS c.in_err-assigns.field-0.0 (along (λ i s. assign_of c.args.catalogue.now c.args.rel s) 0 c.args.sets.now)
    (λ sets. (conditions_of c.args.catalogue.now (Some c.args.rel ∷ []) c.args.words.now) >>= (λ conds. Ok (Update (rel_no c.args.rel) sets conds)))
    c.in_err-assigns.ensures in
    grind (arith, found)

pub returns-in_err-conds : goal.returns-in_err-conds
returns-in_err-conds c =
    let found =
    fails_second MAX_ASSIGNMENTS MAX_CONDITIONS c.in_err-conds.field-0.0 (along (λ i s. assign_of c.args.catalogue.now c.args.rel s) 0 c.args.sets.now)
    c.in_ok-assigns.assigns.items (conditions_of c.args.catalogue.now (Some c.args.rel ∷ []) c.args.words.now)
    (λ sets conds. Ok (Update (rel_no c.args.rel) sets conds)) c.in_ok-assigns.ensures c.in_err-conds.ensures in
    grind (arith, found)

pub returns : goal.returns
returns c =
    let found =
    update_short (rel_no c.args.rel) (along (λ i s. assign_of c.args.catalogue.now c.args.rel s) 0 c.args.sets.now) (conditions_of c.args.catalogue.now (Some
    c.args.rel ∷ []) c.args.words.now) c.in_ok-assigns.assigns.items c.in_ok-conds.conds.items c.in_ok-assigns.ensures c.in_ok-conds.ensures in
    grind (arith, found)
