use Rattle.sdd_world.proofs.Placing.{module_of}
use Rattle.sdd_world.proofs.Keeping.{part_of, placed}
use Rattle.sdd_world.proofs.All.{U, ap, not, takes_part, sym, ◌∙◌}
use Rattle.sdd_world.proofs.world.takes_part.Goals as goal

pub is_down-requires : goal.is_down-requires
is_down-requires c = let r = c.requires in placed r.0 r.1 c.args.spool.now c.args.at U (module_of r.0 c.args.at c.in_default.not-U r.2) r.3

pub returns-in-U : goal.returns-in-U
returns-in-U c = λ given log here s. sym (ap (λ z. takes_part z log) c.in-U.is)

pub returns-in_default : goal.returns-in_default
returns-in_default c = λ given log here s.
    ap not c.is_down.ensures ∙ part_of given log c.args.spool.now c.args.at (module_of given c.args.at c.in_default.not-U here) s
