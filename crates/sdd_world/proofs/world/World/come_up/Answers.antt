use Rattle.sdd_world.proofs.All.{Up, handed_on, refl}
use Rattle.sdd_world.proofs.Marking.{order_of}
use Rattle.sdd_world.proofs.Keeping.{placed}
use Rattle.sdd_world.proofs.Rising.{came_up}
use Rattle.sdd_world.proofs.Turning.{rises, wasnt_down}
use Rattle.sdd_world.proofs.Results.{both_ok, of_ok as map_ok}
use Rattle.sdd_world.proofs.world.World.come_up.Goals as goal

pub up-requires : goal.up-requires
up-requires c = let r = c.requires in placed r.0 r.1 c.args.self.now.spool c.args.at _ r.2.possible r.2.spooled

pub record_nothing-requires : goal.record_nothing-requires
record_nothing-requires c = let r = c.requires in order_of c.args.self.now r.0 r.1 (Up c.args.at) r.2

pub resume-requires : goal.resume-requires
resume-requires c =
    let r = c.requires in (
      r.0,
      r.1,
      rises c.args.self.now (record c.args.self.now { spool = c.up.new.self }) r.0 r.1 c.args.at c.up.result r.2
          c.up.ensures.turned (record { mailbox = c.up.ensures.mailbox; others = c.up.ensures.others }) c.if-not-up.false refl,
    )

pub hand_kept-requires : goal.hand_kept-requires
hand_kept-requires c =
    let r = c.requires in
    let k = c.in_ok-resume.ensures.ok r.0 r.1
    (rises c.args.self.now (record c.args.self.now { spool = c.up.new.self }) r.0 r.1 c.args.at c.up.result r.2
    c.up.ensures.turned (record { mailbox = c.up.ensures.mailbox; others = c.up.ensures.others }) c.if-not-up.false refl) in
    (r.0, k.more, k.handing, k.rising)

pub returns-then-not-up-clause-ok : goal.returns-then-not-up-clause-ok
returns-then-not-up-clause-ok c = both_ok c.record_nothing.result _ _ _ c.record_nothing.ensures.same c.record_nothing.ensures.history (λ same noted given log m.
    wasnt_down c.args.self.now (record c.args.self.now { spool = c.up.new.self }) c.record_nothing.new.self given log c.args.at c.up.result m
    c.up.ensures.turned (record { mailbox = c.up.ensures.mailbox; others = c.up.ensures.others }) c.if-not-up.true
    refl same noted)

pub returns-then-not-up-clause-limit : goal.returns-then-not-up-clause-limit
returns-then-not-up-clause-limit c = λ e. absurd (c.record_nothing.ensures.limit e)

pub returns-in_err-resume-clause-limit : goal.returns-in_err-resume-clause-limit
returns-in_err-resume-clause-limit c = λ e given log m.
    c.in_err-resume.ensures.limit (handed_on c.from_residual.result c.in_err-resume.field-0.0 c.from_residual.ensures.1 e) given log
    (rises c.args.self.now (record c.args.self.now { spool = c.up.new.self }) given log c.args.at c.up.result m
    c.up.ensures.turned (record { mailbox = c.up.ensures.mailbox; others = c.up.ensures.others }) c.if-not-up.false refl)

pub returns-clause-ok : goal.returns-clause-ok
returns-clause-ok c = map_ok c.hand_kept.result _ _ c.hand_kept.ensures.ok (λ x f given log m.
    let k = c.in_ok-resume.ensures.ok given log
    (rises c.args.self.now (record c.args.self.now { spool = c.up.new.self }) given log c.args.at c.up.result m
    c.up.ensures.turned (record { mailbox = c.up.ensures.mailbox; others = c.up.ensures.others }) c.if-not-up.false refl) in
    came_up c.args.self.now c.hand_kept.new.self given log k.more c.args.at m k.position_is (f given k.more k.handing k.rising))

pub returns-clause-limit : goal.returns-clause-limit
returns-clause-limit c = λ e given log m.
    let k = c.in_ok-resume.ensures.ok given log
    (rises c.args.self.now (record c.args.self.now { spool = c.up.new.self }) given log c.args.at c.up.result m
    c.up.ensures.turned (record { mailbox = c.up.ensures.mailbox; others = c.up.ensures.others }) c.if-not-up.false refl) in
    c.hand_kept.ensures.limit e given k.more k.handing k.rising
