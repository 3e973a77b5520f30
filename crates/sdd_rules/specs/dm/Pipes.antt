-- The pipes of a data module, as the log of its site gives them.
use Rattle.std.specs.Prelude.{ℕ, ◌==◌, Bool, true, false, ◌&&◌, ◌||◌, if◌then◌else◌, [], ◌∷◌}
use Rattle.sdd_module.specs.All.{Act, Answer, Apply, Did, Handed, Log, Msg, Pass, Rec, Records, Sends, Wait, goes_through}
use Rattle.sdd_module.specs.history.declared.record.Rec.TheVariants.{Reject}
use Rattle.sdd_pipe.specs.Pipe.{Pipe, empty_pipe, put, head_processed}

-- whether a record processes the head of its class's pipe: a READ is processed by its Answer or Reject, a WRITE by its
-- Apply, a NULL by its Pass
abbrev pub is_processing : Rec → Bool
is_processing (Answer txn attempt dm) = true
is_processing (Reject txn attempt dm by write) = true
is_processing (Apply txn class dm ts) = true
is_processing (Pass class dm time) = true
is_processing _ = false

abbrev pub is_wait : Rec → Bool
is_wait (Wait txn attempt dm conds) = true
is_wait _ = false

abbrev pub pipe_handed : ℕ → Msg → Pipe → Pipe
pipe_handed c m p = if goes_through c m then put m p else p

abbrev pub pipe_acted : ℕ → Act → Pipe → Pipe
pipe_acted c (Records k r sends) p = if (k == c) && is_processing r then head_processed p else p
pipe_acted c (Sends to m hand) p = p

-- the pipe of class c: its messages in the order of their hands
abbrev pub pipe : ℕ → Log → Pipe
pipe c [] = empty_pipe
pipe c (Handed from m ∷ log) = pipe_handed c m (pipe c log)
pipe c (Did act ∷ log) = pipe_acted c act (pipe c log)
pipe c (_ ∷ log) = pipe c log

abbrev pub waits_acted : ℕ → Act → Bool → Bool
waits_acted c (Records k r sends) waits = if k == c then (if is_processing r then false else is_wait r || waits) else waits
waits_acted c (Sends to m hand) waits = waits

-- whether the head of class c waits: it has a Wait record
abbrev pub waits : ℕ → Log → Bool
waits c [] = false
waits c (Did act ∷ log) = waits_acted c act (waits c log)
waits c (_ ∷ log) = waits c log
