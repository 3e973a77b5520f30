-- The place that is found is that of the first which passes.
use Rattle.sdd_asks.proofs.All.{answers, arith, option_map, sym}
use Rattle.sdd_asks.proofs.Firsts.{is_nowhere, is_first_at, removed_found, removed_left}
use Rattle.sdd_asks.proofs.asks.take_first.Goals as goal

pub returns-in-None-clause-taken : goal.returns-in-None-clause-taken
returns-in-None-clause-taken c = sym (is_nowhere (answers (option_map (λ t. t.0) c.args.active)) c.args.asks.now.items (sym c.in-None.ensures)).not_found

pub returns-in-None-clause-left : goal.returns-in-None-clause-left
returns-in-None-clause-left c = sym (is_nowhere (answers (option_map (λ t. t.0) c.args.active)) c.args.asks.now.items (sym c.in-None.ensures)).all_left

pub returns-in-Some-clause-taken : goal.returns-in-Some-clause-taken
returns-in-Some-clause-taken c =
    let first = is_first_at (answers (option_map (λ t. t.0) c.args.active)) c.args.asks.now.items c.in-Some.place (sym c.in-Some.ensures) in
    removed_found (answers (option_map (λ t. t.0) c.args.active)) c.args.asks.now.items c.in-Some.place
    c.remove.result first (let l = first.within in c.remove.ensures.variant.1 (omega arith))
    c.remove.ensures.value

pub returns-in-Some-clause-left : goal.returns-in-Some-clause-left
returns-in-Some-clause-left c =
    let first = is_first_at (answers (option_map (λ t. t.0) c.args.active)) c.args.asks.now.items c.in-Some.place (sym c.in-Some.ensures) in
    removed_left (answers (option_map (λ t. t.0) c.args.active)) c.args.asks.now.items _ c.in-Some.place
    c.remove.result first (let l = first.within in c.remove.ensures.variant.1 (omega arith))
    c.remove.ensures.items
