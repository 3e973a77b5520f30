-- How an attempt begins, asks and commits: the records that it makes and the messages that go out with them.
use Rattle.std.specs.Prelude.{List, None, Option, Some, [], cond, filter, filter_map, if◌then◌else◌, length, map, not, suc, ℕ, ◌==◌, ◌||◌, ◌∷◌, ◌≤◌}
use Rattle.sdd_module.specs.All.{Act, Bases, Catalogue, Change, Commit, Cond, D, Effect, FragNo, Msg, Read, Records, Site, Start, Ticking, Ts, Use, Write, ascending, bound_of, class_no, conditions, dm_no, effect, frag_no, fragments_in, has_copy, is_empty, is_read_at, numbers_to, or_else, reads_at, ticked, time_at, timestamp, txn_no, undeclared_conditions, uses_of}
use Rattle.sdd_module.specs.protocol.declared.entry.Entry as line
use Rattle.sdd_rules.specs.attempt.Queues.{Queued}
use Rattle.sdd_rules.specs.attempt.Exchange.{send_due, is_over}
use Rattle.sdd_rules.specs.attempt.Attempts.{Attempt}
use Rattle.std.specs.List.{All}

-- Of an attempt of class c: `own` is its timestamp, `p2` the bound of its site's clock before it, and `frags` are the
-- fragments of its uses.

-- its conditions at module d: by the protocol table, and undeclared on every class
abbrev pub conditions_at : Catalogue → List line.Entry → ℕ → List ℕ → ℕ → ℕ → ℕ → List Cond
conditions_at cat table c frags own p2 d =
    if c == 0 then undeclared_conditions cat own else conditions cat table c d (map frag_no frags) own p2

abbrev pub with_frags : Use → List FragNo → Option Use
with_frags u [] = None
with_frags u (f ∷ fs) = Some (record u { frags = f ∷ fs })

-- of a use the fragments that the class reads at module d, where there are some
abbrev pub use_there : Catalogue → ℕ → ℕ → Use → Option Use
use_there cat c d u = with_frags u (filter (λ f. is_read_at cat c d f.0) u.frags)

-- the modules to which it sends READs: those at which it reads, and undeclared all
abbrev pub modules_of : Catalogue → ℕ → List ℕ → List ℕ
modules_of cat c frags = if c == 0 then numbers_to cat.dms else ascending (filter_map (reads_at cat c) frags)

-- an undeclared attempt has no time up to which P2 asks
abbrev pub p2_of : ℕ → ℕ → Option Ts
p2_of c p2 = if c == 0 then None else Some (time_at p2)

-- the READ to module d
abbrev pub read_to : Catalogue → List line.Entry → ℕ → Queued → List Use → ℕ → ℕ → ℕ → Site × Msg
read_to cat table c q uses own p2 d =
    let conds : List Cond = conditions_at cat table c (ascending (fragments_in uses)) own p2 d in
    (D (dm_no d), Read (time_at own) (class_no c) (txn_no q.number) (suc q.tries) conds (filter_map (use_there cat c d) uses))

-- the Start of the next attempt of a transaction, where the clock stands so and this table is in force
abbrev pub start_act : Catalogue → List line.Entry → ℕ → Ticking → Queued → Act
start_act cat table c clock q =
    let uses : List Use = uses_of cat q.text in
    let own : ℕ = timestamp (ticked clock 1) in
    let p2 : ℕ = bound_of clock in
    Records c (Start (txn_no q.number) (suc q.tries) (class_no c) (time_at own) (p2_of c p2) uses)
    (map (read_to cat table c q uses own p2) (modules_of cat c (ascending (fragments_in uses))))

-- the WRITE to module d: where it has a copy of a changed fragment, and of an undeclared transaction in any case
abbrev pub write_to : Catalogue → ℕ → Attempt → List Change → ℕ → Option (Site × Msg)
write_to cat c a changes d =
    let here : List Change = filter (λ x. has_copy cat d x.frag.0) changes in
    cond (not (is_empty here) || (c == 0)) (Some (D (dm_no d), Write (time_at a.ts) (class_no c) (txn_no a.txn) here)) None

-- the Commit, with the effect of the transaction on the database that the attempt read
abbrev pub commit_act : Catalogue → Bases → ℕ → Attempt → Act
commit_act cat bases c a =
    let e : Effect = effect cat (bases a.ts) a.text in
    Records c (Commit (txn_no a.txn) a.attempt e.reply e.changes a.exchange.values a.exchange.rows)
    (filter_map (write_to cat c a e.changes) (numbers_to cat.dms))

-- what an active attempt makes due: the next message of its exchange, or, once that is over, its Commit
abbrev pub attempt_due : Catalogue → Bases → ℕ → Option Attempt → Option Act
attempt_due cat bases c None = None
attempt_due cat bases c (Some a) = or_else (send_due a.exchange) (if is_over a.exchange.phase then Some (commit_act cat bases c a) else None)

-- the fragments are there
abbrev pub AreThere : Catalogue → List FragNo → Type 0
AreThere cat frags = All (λ f. (1 ≤ f.0) × (f.0 ≤ length cat.fragments)) frags
