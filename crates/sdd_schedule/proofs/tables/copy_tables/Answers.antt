use Rattle.sdd_schedule.proofs.All.{Catalogue, ap, arith, dm_no, flat_map, numbers_to, sym, tables_at, ◌-◌, ◌∙◌, ◌≡◌}
use Rattle.sdd_schedule.proofs.HomesExist.{dm_of}
use Rattle.sdd_schedule.proofs.Lists.{each_to}
use Rattle.sdd_schedule.proofs.tables.copy_tables.Goals as goal

pub add_tables-requires : goal.add_tables-requires
add_tables-requires c =
    let r = c.requires in
    (r.0, r.1, dm_of r.0 c.whole-catalogue.result.now (dm_no c.loop-number.number) (sym (c.whole-catalogue.ensures r.0 r.1 r.2.calm)) c.loop-number.auto.number (omega arith), r.2)

pub loop-number-preserved : goal.loop-number-preserved
loop-number-preserved c = λ given log s.
    each_to (tables_at given log) c.loop-number.number c.loop-number.tables.items c.add_tables.new.tables.items
    c.loop-number.auto.number (c.in_ok-add_tables.ensures given log (dm_of given c.whole-catalogue.result.now
    (dm_no c.loop-number.number) (sym (c.whole-catalogue.ensures given log s.calm)) c.loop-number.auto.number (omega arith)) s) (c.loop-number.invariant given log s)

pub returns : goal.returns
returns c = λ given log s.
    let all : c.loop-number.number - 1 ≡ c.whole-catalogue.result.now.dms = omega arith in
    c.loop-number.invariant given log s ∙ ap (λ n. flat_map (tables_at given log) (numbers_to n)) (all ∙ ap (λ (k : Catalogue). k.dms) (c.whole-catalogue.ensures given log s.calm))
