-- Transactions that were submitted and aren't committed, and what each one is waiting for.
use Rattle.std.specs.Prelude.{ℕ, nat_lt, Bool, List, [], ◌∷◌, ◌++◌, codes, flat_map}
use Rattle.std.specs.List.{best_of}
use Rattle.sdd_lang.specs.All.{Catalogue, Site}
use Rattle.sdd_lang.specs.declared.transaction.Txn.{Txn}
use Rattle.sdd_report.specs.Names.{spaced, txn_name, module_word, site_word, class_time}
use Rattle.sdd_report.specs.declared.pending.Pending.{Pending}
use Rattle.sdd_report.specs.declared.pending.Waiting.{Waiting}
use Rattle.sdd_report.specs.declared.pending.Why.{Why}
use Rattle.sdd_report.specs.declared.pending.Why.TheVariants.{Queued, Waits, Underway}

-- what is waited for: a place in the queue of a class, a class at a module, or a message of a site
abbrev pub why_words : Catalogue → Why → List ℕ
why_words cat (Queued class place) = codes "queued" ++ class_time cat class.0 place
why_words cat (Waits waiting) = codes "waits" ++ (spaced (module_word waiting.dm.0) ++ class_time cat waiting.class.0 waiting.time.0)
why_words cat (Underway site) = codes "underway" ++ spaced (site_word site)

-- the line of a pending transaction
abbrev pub pending_line : Catalogue → List Txn → Pending → List ℕ
pending_line cat txns p = codes "pending" ++ (spaced (txn_name txns p.txn.0) ++ (spaced (why_words cat p.why) ++ 10 ∷ []))

-- one line for each, in their order
abbrev pub pending_lines : Catalogue → List Txn → List Pending → List ℕ
pending_lines cat txns pending = flat_map (pending_line cat txns) pending

-- whether a wait is at a lower module than another
abbrev pub is_lower : Waiting → Waiting → Bool
is_lower a b = nat_lt a.dm.0 b.dm.0

-- what the transaction of an attempt is waiting for: where its READ waits at some modules, for the wait at
-- the lowest of them; else for the lowest site whose message to it is missing
abbrev pub under_way : Site → List Waiting → Why
under_way site [] = Underway site
under_way site (w ∷ ws) = Waits (best_of is_lower w ws)
