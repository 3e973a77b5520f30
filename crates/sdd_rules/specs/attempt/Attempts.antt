-- The attempt of a class that is under way, as the log of its site gives it.
use Rattle.std.specs.Prelude.{ℕ, suc, ◌==◌, Bool, false, ◌&&◌, if◌then◌else◌, List, [], ◌∷◌, Option, Some, None}
use Rattle.sdd_module.specs.All.{Act, Commit, D, Did, Fetch, Handed, Log, Msg, Records, Reduce, Reject, Sends, Setting, Ship, Site, Start, Txn, head_of}
use Rattle.sdd_rules.specs.attempt.Queues.{Queued, queue}
use Rattle.sdd_rules.specs.attempt.Exchange.{Exchange, begins, after_hand, after_send}

-- an attempt: the number of its transaction, which of its attempts it is, its timestamp, the transaction's text, and
-- how far its exchange is
pub record Attempt : Type 0 where
  pub txn : ℕ
  pub attempt : ℕ
  pub ts : ℕ
  pub text : Txn
  pub exchange : Exchange

-- a Start begins the next attempt of the first transaction in the queue
abbrev pub started : ℕ → List (Site × Msg) → Option Queued → Option Attempt
started ts sends None = None
started ts sends (Some q) = Some (record { txn = q.number; attempt = suc q.tries; ts = ts; text = q.text; exchange = begins q.text sends })

-- whether a message rejects the attempt of class c with this timestamp
abbrev pub rejects : Msg → ℕ → ℕ → Bool
rejects (Reject t k by write) ts c = (t.0 == ts) && (k.0 == c)
rejects _ ts c = false

-- a REJECT of it ends an attempt, and other messages of data modules go to its exchange
abbrev pub active_handed : ℕ → Site → Msg → Option Attempt → Option Attempt
active_handed c (D d) m (Some a) = if rejects m a.ts c then None else Some (record a { exchange = after_hand a.ts c d.0 m a.exchange })
active_handed c _ m a = a

-- whether a message is one of an attempt's exchange
abbrev pub asks_rows : ℕ → ℕ → Msg → Bool
asks_rows ts c (Fetch t k u col) = (t.0 == ts) && (k.0 == c)
asks_rows ts c (Reduce t k u col values) = (t.0 == ts) && (k.0 == c)
asks_rows ts c (Ship t k) = (t.0 == ts) && (k.0 == c)
asks_rows ts c _ = false

abbrev pub active_sent : ℕ → Msg → Option Attempt → Option Attempt
active_sent c m None = None
active_sent c m (Some a) = if asks_rows a.ts c m then Some (record a { exchange = after_send a.exchange }) else Some a

-- a Start of its class begins an attempt, of the first in this queue, and a Commit ends it
abbrev pub active_after : ℕ → Act → List Queued → Option Attempt → Option Attempt
active_after c (Records k (Start txn attempt class ts p2 uses) sends) qs a = if k == c then started ts.0 sends (head_of qs) else a
active_after c (Records k (Commit txn attempt reply changes values rows) sends) qs a = if k == c then None else a
active_after c (Sends to m hand) qs a = active_sent c m a
active_after c _ qs a = a

-- the active attempt of class c: its last Start, where that has no Commit and no REJECT of it was handed
abbrev pub active : Setting → ℕ → Log → Option Attempt
active s c [] = None
active s c (Handed from m ∷ log) = active_handed c from m (active s c log)
active s c (Did act ∷ log) = active_after c act (queue s c log) (active s c log)
active s c (_ ∷ log) = active s c log
