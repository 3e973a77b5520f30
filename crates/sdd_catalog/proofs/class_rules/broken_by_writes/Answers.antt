use Rattle.std.proofs.Common.{arith}
use Rattle.std.proofs.lemmas.Grind.{common_steps}
use Rattle.sdd_catalog.proofs.All.{FragmentPart, Parts, ap, fragment_names, length, length-map, refl, sym, take_more, write_rules, ◌∙◌}
use Rattle.sdd_catalog.proofs.Firsts.{found_here, found_later}
use Rattle.sdd_catalog.proofs.Marking.{no_marks}
use Rattle.sdd_catalog.proofs.class_rules.broken_by_writes.Goals as goal

pub loop-index-init : goal.loop-index-init
loop-index-init c =
    let count = ap length (c.as_slice.ensures ∙ ap (λ (p : Parts). p.fragments) c.parts.ensures)
    ∙ sym (length-map c.args.parts.now.fragments (λ (f : FragmentPart). f.name)) in
    record {
      rest = refl;
      marks = rw (c.in_ok-marks.ensures.items_if_clones_equal (λ y e. e)) (no_marks (fragment_names c.args.parts.now.fragments) _ count);
    }

pub broken_by_write-requires : goal.broken_by_write-requires
broken_by_write-requires c = c.loop-index.invariant.marks.one_each ∙ length-map c.args.parts.now.fragments (λ (f : FragmentPart). f.name)

pub loop-index-preserved : goal.loop-index-preserved
loop-index-preserved c =
    let writes = c.args.writes.now in
    let i = c.loop-index.index in
    let x = c.index-writes-index.result in
    let marked = c.loop-index.invariant.marks in
    let fine = sym (c.in_default.ensures.rule _ marked) in
    record {
      rest = c.loop-index.invariant.rest ∙ found_later (write_rules c.args.parts.now) writes i x c.index-writes-index.is c.loop-index-test.true fine;
      marks = rw (take_more writes i x c.loop-index-test.true, ← c.index-writes-index.is) (c.in_default.ensures.marks _ marked refl);
    }

pub returns-in-Some : goal.returns-in-Some
returns-in-Some c =
    found_here (write_rules c.args.parts.now) _ _ _ _ c.loop-index.invariant.rest c.index-writes-index.is c.loop-index-test.true
    (c.in-Some.ensures.rule _ c.loop-index.invariant.marks)

pub returns : goal.returns
returns c = grind (arith, common_steps)
