use Rattle.sdd_schedule.proofs.All.{Catalogue, [], ap, arith, dm_no, filter_map, length, numbers_to, picked_to, rules, subst, sym, wait_at, ◌-◌, ◌<◌, ◌∙◌, ◌≡◌, ◌≤◌}
use Rattle.sdd_schedule.proofs.HomesExist.{dm_of}
use Rattle.sdd_schedule.proofs.Outsiders.{no_waits}
use Rattle.sdd_schedule.proofs.waits.all_waits.Goals as goal

pub add_wait-requires : goal.add_wait-requires
add_wait-requires c =
    let r = c.requires in (
      r.0,
      r.1,
      dm_of r.0 c.whole-catalogue.result.now (dm_no c.loop-number.number) (sym (c.whole-catalogue.ensures r.0 r.1 r.2.calm)) c.loop-number.auto.number (omega arith),
      r.2,
    )

pub loop-number-preserved : goal.loop-number-preserved
loop-number-preserved c = λ given log s.
    let here = dm_of given c.whole-catalogue.result.now (dm_no c.loop-number.number) (sym (c.whole-catalogue.ensures given log s.calm)) c.loop-number.auto.number (omega arith) in
    let declared : c.args.class.0 ≤ length c.whole-catalogue.result.now.classes = omega arith in
    picked_to (wait_at given log c.args.class.0 c.args.ts.0) c.loop-number.number c.loop-number.found.items c.add_wait.new.found.items
    c.loop-number.auto.number (c.in_ok-add_wait.ensures given log here s
    (subst (λ (k : Catalogue). c.args.class.0 ≤ length k.classes) (c.whole-catalogue.ensures given log s.calm) declared)) (c.loop-number.invariant given log s)

pub returns-then-class-classes : goal.returns-then-class-classes
returns-then-class-classes c = λ given log s.
    let far : length c.whole-catalogue.result.now.classes < c.args.class.0 = omega arith in
    let none : c.new-found.result.items ≡ [] = search rules in
    none ∙ sym (no_waits given c.args.class.0 c.args.ts.0
    (subst (λ (k : Catalogue). length k.classes < c.args.class.0) (c.whole-catalogue.ensures given log s.calm) far) log
    s.calm.rests.lawful)

pub returns : goal.returns
returns c = λ given log s.
    let all : c.loop-number.number - 1 ≡ c.whole-catalogue.result.now.dms = omega arith in
    c.loop-number.invariant given log s ∙ ap (λ n. filter_map (wait_at given log c.args.class.0 c.args.ts.0)
    (numbers_to n)) (all ∙ ap (λ (k : Catalogue). k.dms) (c.whole-catalogue.ensures given log s.calm))
