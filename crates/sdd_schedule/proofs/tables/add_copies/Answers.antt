use Rattle.sdd_schedule.proofs.All.{ap, append-nil, arith, filter, has_copy, length, map, numbers_to, sym, table_of, ◌++◌, ◌-◌, ◌∙◌, ◌≡◌}
use Rattle.sdd_schedule.proofs.Lists.{kept_to}
use Rattle.sdd_schedule.proofs.tables.add_copies.Goals as goal

pub loop-number-init : goal.loop-number-init
loop-number-init c = λ xs s. sym (append-nil c.args.tables.now.items)

pub loop-number-preserved : goal.loop-number-preserved
loop-number-preserved c = λ xs s.
    kept_to (table_of c.args.dm.0 xs) (has_copy c.args.catalogue.now c.args.dm.0) c.loop-number.number
    c.args.tables.now.items c.loop-number.tables.items c.add_copy.new.tables.items
    c.loop-number.auto.number (c.in_ok-add_copy.ensures xs s) (c.loop-number.invariant xs s)

pub returns : goal.returns
returns c = λ xs s.
    let all : c.loop-number.number - 1 ≡ length c.args.catalogue.now.fragments = omega arith in
    c.loop-number.invariant xs s ∙ ap (λ n. c.args.tables.now.items ++ map (table_of c.args.dm.0 xs)
    (filter (has_copy c.args.catalogue.now c.args.dm.0) (numbers_to n))) all
