use Rattle.std.proofs.lemmas.Grind.{common_steps}
use Rattle.sdd_base.proofs.All.{ap, arith, length, with_front, ◌<◌, ◌∙◌}
use Rattle.sdd_base.proofs.Taken.{ended, none_taken, read_through, reads_to}
use Rattle.sdd_base.proofs.reading.read_file.Goals as goal

pub returns-in-Ok-eq0-clause-bytes : goal.returns-in-Ok-eq0-clause-bytes
returns-in-Ok-eq0-clause-bytes g c =
    let room : 0 < length c.read.new.buf = omega arith in
    let none = c.in-Ok-eq0.field-0-test in
    let gives = c.in-Ok-eq0.ensures.gives in
    let left = none_taken _ _ c.read.new.buf c.in-Ok-eq0.field-0 gives none in
    reads_to c.args.limit _ c.args.name.now c.fill.bytes.items _ _ c.in-Ok.ensures.opens.whole
    (c.fill.invariant.unread ∙ ap (with_front c.fill.bytes.items) left) (omega (arith, c.fill.invariant.within))
    (λ within. ended _ _ c.read.new.buf c.in-Ok-eq0.field-0 gives none room)

pub returns-in-Ok-eq0-clause-ended : goal.returns-in-Ok-eq0-clause-ended
returns-in-Ok-eq0-clause-ended g c =
    let room : 0 < length c.read.new.buf = omega arith in
    let none = c.in-Ok-eq0.field-0-test in
    let gives = c.in-Ok-eq0.ensures.gives in
    let left = none_taken _ _ c.read.new.buf c.in-Ok-eq0.field-0 gives none in (
      c.in-Ok.file.0,
      read_through _ _ _ _ _ _ _ _ _ c.fill.invariant.fresh c.in-Ok-eq0.ensures.open
          c.in-Ok.ensures.opens.named c.in-Ok.ensures.opens.whole
          (c.fill.invariant.unread ∙ ap (with_front c.fill.bytes.items) left) (omega (arith, c.fill.invariant.within))
          (λ within. ended _ _ c.read.new.buf c.in-Ok-eq0.field-0 gives none room),
    )

pub returns-clause-bytes : goal.returns-clause-bytes
returns-clause-bytes g c =
    reads_to c.args.limit _ c.args.name.now c.fill.bytes.items _ _ c.in-Ok.ensures.opens.whole
    c.fill.invariant.unread (omega (arith, c.fill.invariant.within)) (λ within. absurd (omega arith))

pub returns-clause-ended : goal.returns-clause-ended
returns-clause-ended g c = (
  c.in-Ok.file.0,
  read_through _ _ _ _ _ _ _ _ _ c.fill.invariant.fresh c.fill.invariant.is_open
      c.in-Ok.ensures.opens.named c.in-Ok.ensures.opens.whole c.fill.invariant.unread
      (omega (arith, c.fill.invariant.within)) (λ within. absurd (omega arith)),
)

pub fill-preserved : goal.fill-preserved
fill-preserved g c = grind (arith, common_steps)
