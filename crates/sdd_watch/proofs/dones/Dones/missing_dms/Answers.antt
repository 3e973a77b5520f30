use Rattle.sdd_watch.proofs.All.{[], ap, arith, contains, dm_no, filter, kept_to, map, not, numbers_to, pair_cmp, ◌-◌, ◌∙◌, ◌≡◌}
use Rattle.sdd_watch.proofs.dones.Dones.missing_dms.Goals as goal

pub loop-number-preserved : goal.loop-number-preserved
loop-number-preserved c =
    kept_to dm_no (λ d. not (contains pair_cmp c.args.self.now.said (c.args.ts.0, d))) c.loop-number.number [] c.loop-number.missing.items
    c.add_missing.new.missing.items c.loop-number.auto.number c.in_ok-add_missing.ensures c.loop-number.invariant

pub returns : goal.returns
returns c =
    let all : c.loop-number.number - 1 ≡ c.args.dms = omega arith in
    c.loop-number.invariant
    ∙ ap (λ n. map dm_no (filter (λ d. not (contains pair_cmp c.args.self.now.said (c.args.ts.0, d))) (numbers_to n))) all
