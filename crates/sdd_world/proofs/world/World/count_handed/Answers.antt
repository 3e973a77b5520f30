use Rattle.sdd_world.proofs.All.{U, calls_of, delivered, handed, link_of, subst, sym, ◌∙◌, ◌≡◌}
use Rattle.sdd_world.proofs.HandedOver.{handed_there, handed_u, module_linked}
use Rattle.sdd_world.proofs.Keeping.{placed, sender_of}
use Rattle.sdd_world.proofs.Placing.{no_u}
use Rattle.sdd_world.proofs.world.World.count_handed.Goals as goal

pub direction-requires : goal.direction-requires
direction-requires c = let r = c.requires in (r.0.catalogue.tms, r.0.catalogue.dms, calls_of r.1, r.3.parts.net, r.2)

pub count_kept-requires-clause-placed : goal.count_kept-requires-clause-placed
count_kept-requires-clause-placed c =
    let r = c.requires in
    placed r.0 r.1 c.args.self.now.spool c.args.to U (module_linked r.0 c.args.from c.args.to c.in_default.not-U r.2) r.3.spooled

pub count_kept-requires-clause-sender : goal.count_kept-requires-clause-sender
count_kept-requires-clause-sender c =
    let r = c.requires in
    let here = module_linked r.0 c.args.from c.args.to c.in_default.not-U r.2 in
    sender_of r.0 c.args.from c.args.to c.args.self.now.spool r.2 (r.3.spooled.each c.args.to here (no_u r.0 c.args.to here)).senders

pub returns-in-U : goal.returns-in-U
returns-in-U c = λ given log l calm.
    let count : c.count-delivered.result ≡ delivered (link_of c.args.from c.args.to log).there =
    c.count-delivered.ensures ∙ (c.direction.ensures given.catalogue.tms given.catalogue.dms (calls_of log) calm.parts.net l).received.count in
    subst (λ b. c.count-delivered.result ≡ handed c.args.from b log) (sym c.in-U.is)
    (handed_u c.args.self.now given log c.args.from c.count-delivered.result calm
    (subst (λ b. c.count-delivered.result ≡ delivered (link_of c.args.from b log).there) c.in-U.is count))

pub returns-in_default : goal.returns-in_default
returns-in_default c = λ given log l calm.
    c.saturating_sub.ensures
    ∙ handed_there c.args.self.now given log c.args.from c.args.to c.count-delivered.result c.count_kept.result
    (module_linked given c.args.from c.args.to c.in_default.not-U l) calm
    (c.count-delivered.ensures ∙ (c.direction.ensures given.catalogue.tms given.catalogue.dms (calls_of log) calm.parts.net l).received.count)
    c.count_kept.ensures
