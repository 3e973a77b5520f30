-- Who puts what: said of an act of a site and the log before it; and the act that put a message.
use Rattle.std.specs.Prelude.{ℕ, ◌++◌, ◌∷◌, ◌≡◌, None, Some, slice_get, suc}
use Rattle.sdd_log.specs.All.{Act, Attempt, Bases, Did, Msg, Null, Queued, Read, Setting, Site, Write, active, commit_act, head_of, queue, sends_of_act}
use Rattle.sdd_log.specs.site_module.SiteLog.{Log}
use Rattle.sdd_invariants.specs.Steps.{home, limit, next_stamp, start_at}
use Rattle.sdd_invariants.specs.Traffic.{to_site}

-- a READ is put by the Start of its class, which was idle, for the head of its queue
pub record IsRead (s : Setting) (log : Log) (act : Act) (c t n k : ℕ) : Type 0 where
  pub at_home : home s.catalogue c ≡ s.site
  pub idle : active s c log ≡ None
  pub queued : Queued
  pub head : head_of (queue s c log) ≡ Some queued
  pub act_is : act ≡ start_at s c log queued
  pub time_is : t ≡ next_stamp s log
  pub number_is : n ≡ queued.number
  pub try_is : k ≡ suc queued.tries

-- a WRITE by the Commit of the active attempt, at its timestamp
pub record IsWrite (s : Setting) (log : Log) (act : Act) (c t n : ℕ) : Type 0 where
  pub at_home : home s.catalogue c ≡ s.site
  pub attempt : Attempt
  pub active_is : active s c log ≡ Some attempt
  pub bases : Bases
  pub act_is : act ≡ commit_act s.catalogue bases c attempt
  pub time_is : t ≡ attempt.ts
  pub number_is : n ≡ attempt.txn

-- and a NULL by the site that runs the class, at the class's limit
abbrev pub IsPutBy : Setting → Log → Act → Msg → Type 0
IsPutBy s log act (Read ts c txn attempt conds uses) = IsRead s log act c.0 ts.0 txn.0 attempt
IsPutBy s log act (Write ts c txn changes) = IsWrite s log act c.0 ts.0 txn.0
IsPutBy s log act (Null c time) = (home s.catalogue c.0 ≡ s.site) × (time.0 ≡ limit s c.0 log)
IsPutBy s log act _ = Unit {0}

-- the act that put a message
pub record IsPut (b : Site) (log : Log) (m : Msg) : Type 0 where
  pub later : Log
  pub act : Act
  pub before : Log
  pub is : log ≡ later ++ Did act ∷ before
  pub place : ℕ
  pub there : slice_get (to_site b (sends_of_act act)) place ≡ Some m
