use Rattle.sdd_world.proofs.All.{Redeclare, with_event}
use Rattle.sdd_world.proofs.NextList.{redeclaring}
use Rattle.sdd_world.proofs.Results.{on_ok_of}
use Rattle.sdd_world.proofs.world.World.end_redeclare.Goals as goal

pub put_in_force-requires : goal.put_in_force-requires
put_in_force-requires c =
    let r = c.requires in
    let f = redeclaring c.args.self.now r.0 c.args.catalogue.now c.args.table.now r.1 r.2 in
    (with_event r.0 Redeclare, f.0, f.1)

pub returns-clause-log : goal.returns-clause-log
returns-clause-log c = on_ok_of c.put_in_force.result _ _ c.put_in_force.ensures.ok (λ redeclares given next s.
    let f = redeclaring c.args.self.now given c.args.catalogue.now c.args.table.now next s in
    redeclares (with_event given Redeclare) f.0 f.1)

pub returns-clause-limit : goal.returns-clause-limit
returns-clause-limit c = λ e given next s.
    let f = redeclaring c.args.self.now given c.args.catalogue.now c.args.table.now next s in
    c.put_in_force.ensures.limit e (with_event given Redeclare) f.0 f.1
