use Rattle.sdd_links.proofs.All.{arith, has_seen, refl, sym, ℕ, ◌+◌, ◌-◌, ◌/◌, ◌∙◌}
use Rattle.sdd_links.proofs.Halves.{middle_below, end_above, end_below}
use Rattle.sdd_links.proofs.reads.first_unseen.Goals as goal

pub loop-low-preserved-then-is_seen : goal.loop-low-preserved-then-is_seen
loop-low-preserved-then-is_seen c =
    let p = has_seen c.args.marks.now c.args.txns.now c.args.dm.0 c.args.reader.now c.args.writers.now in
    let low = c.loop-low.low in
    let high = c.loop-low.high in
    let middle : ℕ = low + (high - low) / 2 in
    let below = middle_below low high c.loop-low-test.true in
    let seen = sym (c.is_seen.ensures c.args.writers.now middle refl) ∙ c.if-is_seen.true in
    let order = c.loop-low.invariant.order in
    record {
      value = end_above p low high c.loop-low-test.true seen ∙ c.loop-low.invariant.value;
      order = omega arith;
      within = c.loop-low.invariant.within;
    }

pub loop-low-preserved : goal.loop-low-preserved
loop-low-preserved c =
    let p = has_seen c.args.marks.now c.args.txns.now c.args.dm.0 c.args.reader.now c.args.writers.now in
    let low = c.loop-low.low in
    let high = c.loop-low.high in
    let middle : ℕ = low + (high - low) / 2 in
    let below = middle_below low high c.loop-low-test.true in
    let unseen = sym (c.is_seen.ensures c.args.writers.now middle refl) ∙ c.if-is_seen.false in
    let within = c.loop-low.invariant.within in
    record {
      value = end_below p low high c.loop-low-test.true unseen ∙ c.loop-low.invariant.value;
      order = omega arith;
      within = omega arith;
    }
