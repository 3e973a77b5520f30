use Rattle.std.proofs.Common.{None, OnOk, Some, [], subst, sym, ◌++◌, ◌∙◌, ◌≡◌}
use Rattle.sdd_robust_laws.specs.Accesses.{columns_read, keys_of_part}
use Rattle.sdd_robust.specs.KeyRanges.{range_of, reads_in}
use Rattle.sdd_robust.proofs.AccessLists.{added_none, update_added, update_none}
use Rattle.sdd_robust.proofs.accessing.add_update.Goals as goal

pub returns-in_ok-add_reads-in-Some : goal.returns-in_ok-add_reads-in-Some
returns-in_ok-add_reads-in-Some c =
    let cat = c.args.staying.now.cat in
    let is : range_of c.args.rel (keys_of_part cat c.args.rel 1 c.args.conds.now) ≡ Some c.in-Some.range =
    subst (λ k. range_of c.args.rel (keys_of_part k c.args.rel 1 c.args.conds.now) ≡ Some c.in-Some.range) c.catalogue.ensures
    (sym c.in_ok-range.ensures ∙ c.in-Some.is) in
    let reads : c.add_reads.new.found.items
    ≡ c.args.found.now.items ++ reads_in c.in-Some.range (columns_read cat c.args.conds.now [] 1 c.in-Some.range.rel) =
    subst (λ k. c.add_reads.new.found.items ≡ c.args.found.now.items ++ reads_in c.in-Some.range (columns_read k c.args.conds.now [] 1 c.in-Some.range.rel))
    c.catalogue-in-Some.ensures c.in_ok-add_reads-in-Some.ensures in
    subst (λ zs. OnOk c.add_changes.result (c.add_changes.new.found.items ≡ zs))
    (update_added cat c.args.staying.now.work c.args.staying.now.first c.args.rel c.args.sets.now c.args.conds.now c.in-Some.range
    c.args.found.now.items c.add_reads.new.found.items c.updates_one_row-sure.result is reads c.updates_one_row-sure.ensures)
    c.add_changes.ensures

pub returns-in-None : goal.returns-in-None
returns-in-None c =
    let cat = c.args.staying.now.cat in
    let none : range_of c.args.rel (keys_of_part cat c.args.rel 1 c.args.conds.now) ≡ None =
    subst (λ k. range_of c.args.rel (keys_of_part k c.args.rel 1 c.args.conds.now) ≡ None) c.catalogue.ensures
    (sym c.in_ok-range.ensures ∙ c.in-None.is) in
    added_none c.args.found.now.items _
    (update_none cat c.args.staying.now.work c.args.staying.now.first c.args.rel c.args.sets.now c.args.conds.now none)
