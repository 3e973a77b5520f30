use Rattle.sdd_base.proofs.All.{bytes_eq, false, sym, true, ◌∙◌, ◌≡◌}
use Rattle.sdd_base.proofs.Finding.{find-here, find-named, find-on, find-past}
use Rattle.sdd_base.proofs.memory_shelf.find.Goals as goal

pub returns-then-eq-clause-first : goal.returns-then-eq-clause-first
returns-then-eq-clause-first c =
    let same : bytes_eq c.index-files-i.result.name c.args.name.now ≡ true = rw (← c.as_slice.ensures, ← c.as_bytes.ensures.value)
    (sym c.if-eq.ensures) in
    c.files.invariant ∙ find-here c.args.files.now c.files.i c.index-files-i.result c.args.name.now c.files-test.true c.index-files-i.is same

pub returns-then-eq-clause-named : goal.returns-then-eq-clause-named
returns-then-eq-clause-named c =
    let same : bytes_eq c.index-files-i.result.name c.args.name.now ≡ true =
    rw (← c.as_slice.ensures, ← c.as_bytes.ensures.value) (sym c.if-eq.ensures) in
    find-named c.args.files.now c.files.i c.index-files-i.result c.args.name.now c.files-test.true c.index-files-i.is same

pub files-preserved : goal.files-preserved
files-preserved c =
    let other : bytes_eq c.index-files-i.result.name c.args.name.now ≡ false = rw (← c.as_slice.ensures, ← c.as_bytes.ensures.value)
    (sym c.if-eq.ensures) in
    c.files.invariant ∙ find-on c.args.files.now c.files.i c.index-files-i.result c.args.name.now c.files-test.true c.index-files-i.is other

pub returns-clause-first : goal.returns-clause-first
returns-clause-first c = c.files.invariant ∙ find-past c.args.files.now c.files.i c.args.name.now c.files-test.false
