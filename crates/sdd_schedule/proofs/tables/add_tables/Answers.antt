use Rattle.sdd_schedule.proofs.All.{D, ap, dated, has_copy, local_of, setting_of, sym, tables_in, ◌++◌, ◌∙◌}
use Rattle.sdd_world.proofs.Results.{after_ok}
use Rattle.sdd_schedule.proofs.tables.add_tables.Goals as goal

pub copies-copies-requires : goal.copies-copies-requires
copies-copies-requires c = let r = c.requires in (r.0, r.1, r.2, r.3)

pub add_copies-requires-clause-live : goal.add_copies-requires-clause-live
add_copies-requires-clause-live c = let r = c.requires in c.copies-copies.ensures.live r.0 r.1 r.2 r.3

pub add_copies-requires-clause-here : goal.add_copies-requires-clause-here
add_copies-requires-clause-here c = λ f h.
    let r = c.requires in
    c.copies-copies.ensures.here r.0 r.1 r.2 r.3 f (ap (λ cat. has_copy cat c.args.dm.0 f) (sym (c.whole.ensures r.0 r.1 r.3.calm)) ∙ h)

pub returns : goal.returns
returns c =
    after_ok c.add_copies.result _ _ c.add_copies.ensures (λ made given log here s.
    made (dated (setting_of given (D c.args.dm)) (local_of given (D c.args.dm) log)) (c.copies-copies.ensures.represent given log here s)
    ∙ ap (λ cat. c.args.tables.now.items ++ tables_in cat c.args.dm.0
    (dated (setting_of given (D c.args.dm)) (local_of given (D c.args.dm) log))) (c.whole.ensures given log s.calm))
