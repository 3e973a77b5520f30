use Rattle.sdd_world.proofs.All.{all_links, calls_of, false, quiet, sym, ◌∙◌, ◌≡◌}
use Rattle.sdd_world.proofs.Rounds.{round_opened}
use Rattle.sdd_world.proofs.world.World.next_round.Goals as goal

pub quiet-requires : goal.quiet-requires
quiet-requires c = let r = c.requires in (r.0.catalogue.tms, r.0.catalogue.dms, calls_of r.1, r.3.calm.parts.net)

pub round-requires : goal.round-requires
round-requires c = let r = c.requires in (r.0.catalogue.tms, r.0.catalogue.dms, calls_of r.1, r.3.calm.parts.net)

pub returns-then-quiet : goal.returns-then-quiet
returns-then-quiet c = λ given log event s. sym (c.quiet.ensures given log s.calm.parts.net) ∙ c.if-quiet.true

pub returns : goal.returns
returns c = λ given log event s.
    let more : quiet (all_links given) (calls_of log) ≡ false = sym (c.quiet.ensures given log s.calm.parts.net) ∙ c.if-quiet.false in
    (more, round_opened c.args.self.now given log event c.in_ok-events.events.items s more c.in_ok-events.ensures)
