-- What the copies of data modules hold when they answer an attempt's READs.
use Rattle.std.specs.Prelude.{ℕ, [], ◌∷◌, if◌then◌else◌}
use Rattle.sdd_invariants.specs.All.{Answer, D, Did, Input, Records, dated, dm_no, head, is_at, local_of, pipe, setting_of}
use Rattle.sdd_laws.specs.All.{CopyRows, contents}
use Rattle.sdd_invariants.specs.site_module.SiteLog.{Log}
use Rattle.sdd_invariants.specs.logs.Entries as whole

-- a data module's log before its last Answer to the attempt with this timestamp; an empty one where it made none
abbrev pub before_answer : ℕ → Log → Log
before_answer ts [] = []
before_answer ts (Did (Records k (Answer txn attempt dm) sends) ∷ log) = if is_at ts (head (pipe k log)) then log else before_answer ts log
before_answer ts (_ ∷ log) = before_answer ts log

-- what the copies of data module d held just before that Answer
abbrev pub copies_read : Input → whole.Log → ℕ → ℕ → CopyRows
copies_read g log ts d f = contents f (dated (setting_of g (D (dm_no d))) (before_answer ts (local_of g (D (dm_no d)) log)))
