use Rattle.sdd_world.proofs.All.{Deliver, Down, Lose, Repeat, Resend, Submit, Tick, Up, refl}
use Rattle.sdd_world.proofs.Rounds.{event_asks, event_ends, event_happened, marked_next, marks_end}
use Rattle.sdd_world.proofs.world.World.apply_event.Goals as goal

pub returns-then-self-clause-limit : goal.returns-then-self-clause-limit
returns-then-self-clause-limit c = λ e given log b. marks_end c.args.self.now given log c.args.event.now b c.if-self.true

pub submit-requires : goal.submit-requires
submit-requires c = event_asks c.args.self.now c.args.event.now (Submit c.in-Submit.number) c.in-Submit.is c.if-self.false c.requires

pub returns-in-Submit-clause-ok : goal.returns-in-Submit-clause-ok
returns-in-Submit-clause-ok c = event_happened c.args.self.now c.submit.new.self c.args.event.now (Submit c.in-Submit.number) c.submit.result c.in-Submit.is c.if-self.false c.submit.ensures.ok

pub returns-in-Submit-clause-limit : goal.returns-in-Submit-clause-limit
returns-in-Submit-clause-limit c = λ e. event_ends c.args.self.now c.args.event.now (Submit c.in-Submit.number) c.in-Submit.is c.if-self.false (c.submit.ensures.limit e)

pub deliver-requires : goal.deliver-requires
deliver-requires c = event_asks c.args.self.now c.args.event.now (Deliver c.in-Deliver.from c.in-Deliver.to c.in-Deliver.place) c.in-Deliver.is c.if-self.false c.requires

pub returns-in-Deliver-clause-ok : goal.returns-in-Deliver-clause-ok
returns-in-Deliver-clause-ok c = event_happened c.args.self.now c.deliver.new.self c.args.event.now (Deliver c.in-Deliver.from c.in-Deliver.to c.in-Deliver.place) c.deliver.result c.in-Deliver.is c.if-self.false c.deliver.ensures.ok

pub returns-in-Deliver-clause-limit : goal.returns-in-Deliver-clause-limit
returns-in-Deliver-clause-limit c = λ e. event_ends c.args.self.now c.args.event.now (Deliver c.in-Deliver.from c.in-Deliver.to c.in-Deliver.place) c.in-Deliver.is c.if-self.false (c.deliver.ensures.limit e)

pub lose-requires : goal.lose-requires
lose-requires c = event_asks c.args.self.now c.args.event.now (Lose c.in-Lose.from c.in-Lose.to c.in-Lose.place) c.in-Lose.is c.if-self.false c.requires

pub returns-in-Lose-clause-ok : goal.returns-in-Lose-clause-ok
returns-in-Lose-clause-ok c = event_happened c.args.self.now c.lose.new.self c.args.event.now (Lose c.in-Lose.from c.in-Lose.to c.in-Lose.place) c.lose.result c.in-Lose.is c.if-self.false c.lose.ensures.ok

pub returns-in-Lose-clause-limit : goal.returns-in-Lose-clause-limit
returns-in-Lose-clause-limit c = λ e. absurd (c.lose.ensures.limit e)

pub repeat-requires : goal.repeat-requires
repeat-requires c = event_asks c.args.self.now c.args.event.now (Repeat c.in-Repeat.from c.in-Repeat.to c.in-Repeat.place) c.in-Repeat.is c.if-self.false c.requires

pub returns-in-Repeat-clause-ok : goal.returns-in-Repeat-clause-ok
returns-in-Repeat-clause-ok c = event_happened c.args.self.now c.repeat.new.self c.args.event.now (Repeat c.in-Repeat.from c.in-Repeat.to c.in-Repeat.place) c.repeat.result c.in-Repeat.is c.if-self.false c.repeat.ensures.ok

pub returns-in-Repeat-clause-limit : goal.returns-in-Repeat-clause-limit
returns-in-Repeat-clause-limit c = λ e. absurd (c.repeat.ensures.limit e)

pub resend-requires : goal.resend-requires
resend-requires c = event_asks c.args.self.now c.args.event.now (Resend c.in-Resend.from c.in-Resend.to) c.in-Resend.is c.if-self.false c.requires

pub returns-in-Resend-clause-ok : goal.returns-in-Resend-clause-ok
returns-in-Resend-clause-ok c = event_happened c.args.self.now c.resend.new.self c.args.event.now (Resend c.in-Resend.from c.in-Resend.to) c.resend.result c.in-Resend.is c.if-self.false c.resend.ensures.ok

pub returns-in-Resend-clause-limit : goal.returns-in-Resend-clause-limit
returns-in-Resend-clause-limit c = λ e. absurd (c.resend.ensures.limit e)

pub tick-requires : goal.tick-requires
tick-requires c = event_asks c.args.self.now c.args.event.now (Tick c.in-Tick.tm c.in-Tick.n) c.in-Tick.is c.if-self.false c.requires

pub returns-in-Tick-clause-ok : goal.returns-in-Tick-clause-ok
returns-in-Tick-clause-ok c = λ given log b. c.tick.ensures given log
    (marked_next c.args.self.now _ given log c.args.event.now (Tick c.in-Tick.tm c.in-Tick.n) b c.in-Tick.is c.if-self.false refl)

pub go_down-requires : goal.go_down-requires
go_down-requires c = event_asks c.args.self.now c.args.event.now (Down c.in-Down.at) c.in-Down.is c.if-self.false c.requires

pub returns-in-Down-clause-ok : goal.returns-in-Down-clause-ok
returns-in-Down-clause-ok c = event_happened c.args.self.now c.go_down.new.self c.args.event.now (Down c.in-Down.at) c.go_down.result c.in-Down.is c.if-self.false c.go_down.ensures.ok

pub returns-in-Down-clause-limit : goal.returns-in-Down-clause-limit
returns-in-Down-clause-limit c = λ e. absurd (c.go_down.ensures.limit e)

pub come_up-requires : goal.come_up-requires
come_up-requires c = event_asks c.args.self.now c.args.event.now (Up c.in-Up.at) c.in-Up.is c.if-self.false c.requires

pub returns-in-Up-clause-ok : goal.returns-in-Up-clause-ok
returns-in-Up-clause-ok c = event_happened c.args.self.now c.come_up.new.self c.args.event.now (Up c.in-Up.at) c.come_up.result c.in-Up.is c.if-self.false c.come_up.ensures.ok

pub returns-in-Up-clause-limit : goal.returns-in-Up-clause-limit
returns-in-Up-clause-limit c = λ e. event_ends c.args.self.now c.args.event.now (Up c.in-Up.at) c.in-Up.is c.if-self.false (c.come_up.ensures.limit e)
