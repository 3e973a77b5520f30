use Rattle.std.proofs.Common.{◌≡◌, ◌++◌, length}
use Rattle.sdd_inside.specs.Differences.{changes}
use Rattle.sdd_inside.proofs.comparing.changes.Given as goal

-- what was made and what is left to make is all of it
abbrev pub invariant-parts : goal.invariant-parts
invariant-parts g l =
    l.made.items ++ changes (g.P.Part.between l.happened) l.old l.new ≡ changes (g.P.Part.between l.happened) l.before l.after

abbrev pub decreases-parts : goal.decreases-parts
decreases-parts g l = length l.old
