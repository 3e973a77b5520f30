use Rattle.sdd_world.proofs.All.{refl, ◌∷◌}
use Rattle.sdd_world.proofs.Results.{on_ok_of}
use Rattle.sdd_world.proofs.Rounds.{one_mark, round_after, round_before}
use Rattle.sdd_world.proofs.world.World.in_round.Goals as goal

pub apply_event-requires : goal.apply_event-requires
apply_event-requires c =
    let r = c.requires in
    (r.0, r.1, round_before c.args.self.now r.0 r.1 r.2 (c.args.event.now ∷ r.3) c.args.event.now r.3 r.4 refl)

pub returns-clause-log : goal.returns-clause-log
returns-clause-log c = on_ok_of c.apply_event.result _ _ c.apply_event.ensures.ok (λ happened given log to rest r.
    round_after c.args.self.now c.apply_event.new.self given log to (c.args.event.now ∷ rest) c.args.event.now rest r refl
    (happened given log (round_before c.args.self.now given log to (c.args.event.now ∷ rest) c.args.event.now rest r refl)))

pub returns-clause-one : goal.returns-clause-one
returns-clause-one c = on_ok_of c.apply_event.result _ _ c.apply_event.ensures.ok (λ happened.
    let r = c.requires in
    one_mark c.args.self.now c.apply_event.new.self r.0 r.1 r.4.calm
    (happened r.0 r.1 (round_before c.args.self.now r.0 r.1 r.2 (c.args.event.now ∷ r.3) c.args.event.now r.3 r.4 refl)))

pub returns-clause-limit : goal.returns-clause-limit
returns-clause-limit c = λ e given log to rest r.
    c.apply_event.ensures.limit e given log (round_before c.args.self.now given log to (c.args.event.now ∷ rest) c.args.event.now rest r refl)
