use Rattle.sdd_catalog.proofs.All.{arith, false, fragment_names, get_or_default, refl, sym, true, ◌∙◌}
use Rattle.sdd_catalog.proofs.Marking.{first_write_rule, name_marked}
use Rattle.sdd_catalog.proofs.Places.{place_there}
use Rattle.sdd_catalog.proofs.class_rules.broken_by_write.Goals as goal

pub returns-in-None-clause-rule : goal.returns-in-None-clause-rule
returns-in-None-clause-rule c before marked =
    first_write_rule _ before c.args.name.now false _ (place_there c.args.name.now (fragment_names c.args.parts.now.fragments) _ c.in-None.ensures.value) refl

pub returns-then-index-clause-rule : goal.returns-then-index-clause-rule
returns-then-index-clause-rule c before marked =
    let name = c.args.name.now in
    let mark = sym c.if-index.true ∙ c.index.ensures ∙ get_or_default c.args.marks.now.items c.in-Some.place c.index.result.now false
    (omega (arith, c.in-Some.ensures.within, c.requires)) in
    first_write_rule _ before name true true (place_there name (fragment_names c.args.parts.now.fragments) _ c.in-Some.ensures.value)
    (mark ∙ marked.marked name c.in-Some.place (sym c.in-Some.ensures.value))

pub returns-else-index-clause-rule : goal.returns-else-index-clause-rule
returns-else-index-clause-rule c before marked =
    let name = c.args.name.now in
    let mark = sym c.if-index.false ∙ c.index.ensures ∙ get_or_default c.args.marks.now.items c.in-Some.place c.index.result.now false
    (omega (arith, c.in-Some.ensures.within, c.requires)) in
    first_write_rule _ before name true false (place_there name (fragment_names c.args.parts.now.fragments) _ c.in-Some.ensures.value)
    (mark ∙ marked.marked name c.in-Some.place (sym c.in-Some.ensures.value))

pub returns-else-index-clause-marks : goal.returns-else-index-clause-marks
returns-else-index-clause-marks c before marked none =
    name_marked (fragment_names c.args.parts.now.fragments) before c.args.marks.now.items c.args.name.now c.in-Some.place marked (sym c.in-Some.ensures.value)
