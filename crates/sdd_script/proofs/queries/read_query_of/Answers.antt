use Rattle.sdd_script.proofs.All.{MAX_CONDITIONS, MAX_OUTPUT_COLUMNS, MAX_USES, Ok, Query, along, arith, conditions_of, listed_column, part_in, ◌>>=◌}
use Rattle.sdd_script.specs.Statements.{query_over}
use Rattle.sdd_script.proofs.Shortened.{fails_second, fails_short, fails_third, query_short}
use Rattle.sdd_script.proofs.queries.read_query_of.Goals as goal

pub returns-in_err-out : goal.returns-in_err-out
unfolding query_over
returns-in_err-out c =
    let found =
    fails_short MAX_OUTPUT_COLUMNS c.in_err-out.field-0.0 (along (λ i w. listed_column c.args.catalogue.now c.args.parts.now w) 0 c.args.columns.now)
    (λ out. (along (λ i p. part_in p) 0 c.args.parts.now) >>= (λ rels. (conditions_of c.args.catalogue.now c.args.parts.now c.args.words.now) >>= (λ conds.
    Ok (Query out rels conds)))) c.in_err-out.ensures in
    grind (arith, found)

pub returns-in_err-rels : goal.returns-in_err-rels
unfolding query_over
returns-in_err-rels c =
    let found =
    fails_second MAX_OUTPUT_COLUMNS MAX_USES c.in_err-rels.field-0.0 (along (λ i w. listed_column c.args.catalogue.now c.args.parts.now w) 0
    c.args.columns.now) c.in_ok-out.out.items (along (λ i p. part_in p) 0 c.args.parts.now)
    (λ out rels. (conditions_of c.args.catalogue.now c.args.parts.now c.args.words.now) >>= (λ conds. Ok (Query out rels conds))) c.in_ok-out.ensures
    c.in_err-rels.ensures in
    grind (arith, found)

pub returns-in_err-conds : goal.returns-in_err-conds
unfolding query_over
returns-in_err-conds c =
    let found =
    fails_third MAX_OUTPUT_COLUMNS MAX_USES MAX_CONDITIONS c.in_err-conds.field-0.0 (along (λ i w. listed_column c.args.catalogue.now c.args.parts.now w) 0
    c.args.columns.now) c.in_ok-out.out.items (along (λ i p. part_in p) 0 c.args.parts.now) c.in_ok-rels.rels.items (conditions_of c.args.catalogue.now
    c.args.parts.now c.args.words.now)
    (λ out rels conds. Ok (Query out rels conds)) c.in_ok-out.ensures c.in_ok-rels.ensures c.in_err-conds.ensures in
    grind (arith, found)

pub returns : goal.returns
unfolding query_over
returns c =
    let found =
    query_short (along (λ i w. listed_column c.args.catalogue.now c.args.parts.now w) 0 c.args.columns.now) (along (λ i p. part_in p) 0 c.args.parts.now)
    (conditions_of c.args.catalogue.now c.args.parts.now c.args.words.now) c.in_ok-out.out.items c.in_ok-rels.rels.items c.in_ok-conds.conds.items
    c.in_ok-out.ensures c.in_ok-rels.ensures c.in_ok-conds.ensures in
    grind (arith, found)
