-- All that the acts of the module for undeclared transactions rest on, and how it changes with an entry of the log.
use Rattle.std.specs.Prelude.{ℕ, suc, ◌==◌, if◌then◌else◌, List, [], ◌∷◌, ◌++◌, map, Option, Some, None}
use Rattle.sdd_module.specs.All.{Act, Commit, Did, Done, Entry, Handed, Held, Log, Msg, Records, Redeclared, Release, Sends, Setting, Site, Submits, T, Ticked, Ticking, numbers_to, pushed, ticked}
use Rattle.sdd_rules.specs.attempt.Attempts.{Attempt, active, active_after, active_handed}
use Rattle.sdd_module.specs.wire.declared.msg.Msg.TheVariants.{Hold}
use Rattle.sdd_rules.specs.attempt.Queues.{Queued, queue, queue_after}
use Rattle.sdd_rules.specs.attempt.Clocks.{clock, pushed_by, ticked_by}
use Rattle.sdd_module.specs.base.declared.number.TmNo.{TmNo}
use Rattle.sdd_module.specs.base.Numbers.{tm_no}

-- of one T: how many HOLDs and RELEASEs were sent to it, and how many HELDs were handed from it
pub record TmCounts : Type 0 where
  pub tm : ℕ
  pub holds : ℕ
  pub helds : ℕ
  pub releases : ℕ

abbrev pub counts_handed : Site → Msg → TmCounts → TmCounts
counts_handed (T n) (Held time) k = if n.0 == k.tm then record k { helds = suc k.helds } else k
counts_handed _ m k = k

abbrev pub counts_acted : Act → TmCounts → TmCounts
counts_acted (Sends (T n) Hold hand) k = if n.0 == k.tm then record k { holds = suc k.holds } else k
counts_acted (Sends (T n) (Release ts) hand) k = if n.0 == k.tm then record k { releases = suc k.releases } else k
counts_acted _ k = k

abbrev pub counts : ℕ → Log → TmCounts
counts t [] = record { tm = t; holds = 0; helds = 0; releases = 0 }
counts t (Handed from m ∷ log) = counts_handed from m (counts t log)
counts t (Did act ∷ log) = counts_acted act (counts t log)
counts t (_ ∷ log) = counts t log

-- how many attempts committed, the timestamp of the last, and how many DONEs for it were handed
pub record Served : Type 0 where
  pub commits : ℕ
  pub ts : ℕ
  pub dones : ℕ

abbrev pub ts_of : Option Attempt → ℕ
ts_of None = 0
ts_of (Some a) = a.ts

abbrev pub served_handed : Msg → Served → Served
served_handed (Done t) v = if t.0 == v.ts then record v { dones = suc v.dones } else v
served_handed _ v = v

abbrev pub served_acted : Act → Option Attempt → Served → Served
served_acted (Records k (Commit txn attempt reply changes values rows) sends) a v = record { commits = suc v.commits; ts = ts_of a; dones = 0 }
served_acted _ a v = v

abbrev pub last_served : Setting → Log → Served
last_served s [] = record { commits = 0; ts = 0; dones = 0 }
last_served s (Handed from m ∷ log) = served_handed m (last_served s log)
last_served s (Did act ∷ log) = served_acted act (active s 0 log) (last_served s log)
last_served s (_ ∷ log) = last_served s log

-- the clock, the queue of class 0 and its active attempt, what was served last, and each T
pub record View : Type 0 where
  pub clock : Ticking
  pub queue : List Queued
  pub active : Option Attempt
  pub served : Served
  pub counts : List TmCounts

abbrev pub view_of : Setting → Log → View
view_of s log = record {
  clock = clock s.site log;
  queue = queue s 0 log;
  active = active s 0 log;
  served = last_served s log;
  counts = map (λ t. counts t log) (numbers_to s.catalogue.tms);
}

-- the view after an entry
abbrev pub after : Entry → View → View
after (Handed from m) v = record {
  clock = pushed_by m v.clock;
  queue = v.queue;
  active = active_handed 0 from m v.active;
  served = served_handed m v.served;
  counts = map (counts_handed from m) v.counts;
}
after (Submits n txn) v = record v { queue = v.queue ++ record { number = n; text = txn; tries = 0 } ∷ [] }
after (Ticked n) v = record v { clock = ticked v.clock n }
after (Redeclared era t) v = record v { clock = pushed v.clock t }
after (Did act) v = record {
  clock = ticked_by act v.clock;
  queue = queue_after 0 act v.queue;
  active = active_after 0 act v.queue v.active;
  served = served_acted act v.active v.served;
  counts = map (counts_acted act) v.counts;
}

abbrev pub tm_of : TmCounts → TmNo
tm_of k = tm_no k.tm

-- the number of the transaction that is served next, from 1
abbrev pub turn : Served → ℕ
turn served = suc served.commits
