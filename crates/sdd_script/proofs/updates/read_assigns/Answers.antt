use Rattle.sdd_script.proofs.All.{MAX_ASSIGNMENTS, along, ap, arith, assign_of, few, refl, sym, ◌∙◌}
use Rattle.sdd_script.proofs.FewRead.{ends_few, goes_few, kept_and_left}
use Rattle.sdd_script.proofs.updates.read_assigns.Goals as goal

pub words-preserved : goal.words-preserved
words-preserved c =
    let went = goes_few MAX_ASSIGNMENTS (λ i w. assign_of c.args.catalogue.now c.args.rel w) (λ i x le. refl) c.words.sets.items c.keep_few.new.kept.items
    c.in-Some.one c.in_ok-assign.assign c.next.new.self
    (few MAX_ASSIGNMENTS (along (λ i w. assign_of c.args.catalogue.now c.args.rel w) 0 c.args.words.now)) c.words.invariant.within c.in_ok-keep_few.ensures
    c.in_ok-assign.ensures
    (ap (kept_and_left MAX_ASSIGNMENTS (λ i w. assign_of c.args.catalogue.now c.args.rel w) c.words.sets.items) (sym c.in-Some.ensures)
    ∙ c.words.invariant.same) in
    record { within = went.0; same = went.1 }

pub returns-in_err-assign : goal.returns-in_err-assign
returns-in_err-assign c =
    let found =
    ends_few MAX_ASSIGNMENTS (λ i w. assign_of c.args.catalogue.now c.args.rel w) c.words.sets.items c.in-Some.one c.next.new.self c.in_err-assign.field-0.0
    (few MAX_ASSIGNMENTS (along (λ i w. assign_of c.args.catalogue.now c.args.rel w) 0 c.args.words.now)) c.in_err-assign.ensures
    (ap (kept_and_left MAX_ASSIGNMENTS (λ i w. assign_of c.args.catalogue.now c.args.rel w) c.words.sets.items) (sym c.in-Some.ensures)
    ∙ c.words.invariant.same) in
    grind (arith, found)
