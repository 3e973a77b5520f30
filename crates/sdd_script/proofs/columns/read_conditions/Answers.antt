use Rattle.sdd_script.proofs.All.{MAX_CONDITIONS, along, ap, arith, condition_of, few, refl, sym, ◌∙◌}
use Rattle.sdd_script.proofs.FewRead.{ends_few, goes_few, kept_and_left}
use Rattle.sdd_script.proofs.columns.read_conditions.Goals as goal

pub words-preserved : goal.words-preserved
words-preserved c =
    let went = goes_few MAX_CONDITIONS (λ i w. condition_of c.args.catalogue.now c.args.parts.now w) (λ i x le. refl) c.words.conds.items
    c.keep_few.new.kept.items c.in-Some.one c.in_ok-condition.condition c.next.new.self
    (few MAX_CONDITIONS (along (λ i w. condition_of c.args.catalogue.now c.args.parts.now w) 0 c.args.words.now)) c.words.invariant.within
    c.in_ok-keep_few.ensures c.in_ok-condition.ensures
    (ap (kept_and_left MAX_CONDITIONS (λ i w. condition_of c.args.catalogue.now c.args.parts.now w) c.words.conds.items) (sym c.in-Some.ensures)
    ∙ c.words.invariant.same) in
    record { within = went.0; same = went.1 }

pub returns-in_err-condition : goal.returns-in_err-condition
returns-in_err-condition c =
    let found =
    ends_few MAX_CONDITIONS (λ i w. condition_of c.args.catalogue.now c.args.parts.now w) c.words.conds.items c.in-Some.one c.next.new.self
    c.in_err-condition.field-0.0
    (few MAX_CONDITIONS (along (λ i w. condition_of c.args.catalogue.now c.args.parts.now w) 0 c.args.words.now)) c.in_err-condition.ensures
    (ap (kept_and_left MAX_CONDITIONS (λ i w. condition_of c.args.catalogue.now c.args.parts.now w) c.words.conds.items) (sym c.in-Some.ensures)
    ∙ c.words.invariant.same) in
    grind (arith, found)
