use Rattle.std.proofs.lemmas.Grind.{common_steps}
use Rattle.sdd_blocks.proofs.All.{List, ap, arith, get_or, get_or_default, length, length-set, set, sym, ℕ, ◌+◌, ◌<◌, ◌∙◌, ◌≡◌}
use Rattle.sdd_blocks.proofs.Numbering.{step_given, step_made, all_numbered}
use Rattle.sdd_blocks.proofs.numbers.numbers.Goals.{then-mark-ne0+then-index-eq0, else-mark-ne0, else-mark-ne0-via-then-mark-ne0+else-index-eq0, else-mark-ne0-via-else-mark-ne0}
use Rattle.sdd_blocks.proofs.numbers.numbers.Goals as goal

-- what was read, at the default 0
read : (xs : List ℕ) (i n : ℕ) → i < length xs → n ≡ get_or xs i n → n ≡ get_or xs i 0
read xs i n h e = e ∙ get_or_default xs i n 0 h

pub loop-mark-preserved : goal.loop-mark-preserved
loop-mark-preserved c =
    let marks = c.args.marks.now in
    let given = c.loop-mark.given.items in
    let numbers = c.loop-mark.numbers.items in
    let count = c.loop-mark.mark-index in
    let mark = get_or marks count 0 in
    let next = c.if-mark-ne0.given.items in
    let n = c.index-in-loop-mark.result.now in
    let inv = c.loop-mark.invariant.0 in
    let places : length given ≡ c.args.limit = c.loop-mark.invariant.1 in
    let below : mark < c.args.limit = c.requires.below count 0 c.loop-mark-test.true in
    let within : mark < length given = omega arith in
    elim c.if-mark-ne0.branch [
      | then-mark-ne0+then-index-eq0 w ↦
          let next_is : next ≡ set given mark (c.loop-mark.last + 1) = ap (λ z. z.items) w.given-is in
          let next_places : length next ≡ c.args.limit = ap length next_is ∙ length-set given mark (c.loop-mark.last + 1) ∙ places in
          let not_given : get_or given mark 0 ≡ 0 = sym (read given mark w.index.result.now within w.index.ensures) ∙ w.if-index-eq0.true in (
            step_made marks given numbers next _ c.loop-mark.last _ count n inv next_is w.last-is w.if-mark-ne0.true not_given within
                (read next mark n (omega arith) c.index-in-loop-mark.ensures) c.in_ok-push.ensures.items,
            next_places,
          )
      | else-mark-ne0 w ↦
          let next_is : next ≡ given = ap (λ z. z.items) w.given-is in
          let next_places : length next ≡ c.args.limit = ap length next_is ∙ places in (
            step_given marks given numbers next _ c.loop-mark.last _ count n inv next_is w.last-is
                (elim w.else-mark-ne0.branch [
                  | else-mark-ne0-via-then-mark-ne0+else-index-eq0 x ↦ λ z e. x.if-index-eq0.false
                      (read given mark x.index.result.now within x.index.ensures ∙ e)
                  | else-mark-ne0-via-else-mark-ne0 x ↦ λ z e. z x.if-mark-ne0.false
                ])
                (read next mark n (omega arith) c.index-in-loop-mark.ensures) c.in_ok-push.ensures.items,
            next_places,
          )
    ]

pub returns : goal.returns
returns c =
    all_numbered c.args.marks.now c.loop-mark.given.items c.loop-mark.numbers.items c.loop-mark.last c.loop-mark.mark-index c.loop-mark.invariant.0 (omega arith)

pub loop-mark-init : goal.loop-mark-init
loop-mark-init c = grind (arith, common_steps)
