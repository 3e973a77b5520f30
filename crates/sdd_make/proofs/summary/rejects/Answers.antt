use Rattle.sdd_make.proofs.All.{YieldsList-from_filter, YieldsList-from_slice, count_from_yields_List, is_reject, length-filter, rules, tests, ◌∙◌}
use Rattle.sdd_make.proofs.summary.rejects.Goals as goal

pub returns : goal.returns
returns c =
    count_from_yields_List c.filter.result _ c.count.ensures.ran
    (YieldsList-from_filter _ is_reject (YieldsList-from_slice c.args.history.now cc) c.filter.ensures.closure (λ x b q k. search (rules, tests)))
    ∙ length-filter is_reject c.args.history.now
