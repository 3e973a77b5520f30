-- What the conditions of a READ ask of the pipes, by what is kept of these.
use Rattle.std.specs.Prelude.{ℕ, nat_le, ◌==◌, Bool, false, not, ◌&&◌, List, filter, find, Option, Some, None}
use Rattle.sdd_base.specs.declared.change.Change.{Change}
use Rattle.sdd_base.specs.declared.condition.Cond.{Cond}
use Rattle.sdd_pipe.specs.Digest.{Digest, has_passed, last_in}
use Rattle.sdd_pipe.specs.Pipe.{touches}
use Rattle.sdd_pipe.specs.Pipes.{pipe_at}

abbrev pub is_at_least : ℕ → Option ℕ → Bool
is_at_least t None = false
is_at_least t (Some w) = nat_le t w

abbrev pub or_zero : Option ℕ → ℕ
or_zero None = 0
or_zero (Some w) = w

-- its class has passed its time
abbrev pub is_met_in : List Digest → Cond → Bool
is_met_in pipes d = has_passed (pipe_at pipes d.class.0) d.time.0

-- the last WRITE of its class that changes one of its fragments
abbrev pub last_write_in : List Digest → Cond → Option ℕ
last_write_in pipes d = last_in d.frags (pipe_at pipes d.class.0)

-- it spoils its READ: that WRITE is at its time or later
abbrev pub spoils_in : List Digest → Cond → Bool
spoils_in pipes d = is_at_least d.time.0 (last_write_in pipes d)

abbrev pub unmet : List Digest → List Cond → List Cond
unmet pipes conds = filter (λ d. not (is_met_in pipes d)) conds

abbrev pub spoiler : List Digest → List Cond → Option Cond
spoiler pipes conds = find (spoils_in pipes) conds

-- it holds back a WRITE of class j with timestamp w: it is on that class, at w or before, for a fragment that the WRITE
-- changes
abbrev pub holds : ℕ → ℕ → List Change → Cond → Bool
holds j w changes d = (d.class.0 == j) && (nat_le d.time.0 w && touches d.frags changes)
