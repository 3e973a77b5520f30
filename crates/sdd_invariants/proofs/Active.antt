-- How the active attempt changes: it ends, or keeps all but its exchange. And what holds of each kind of step.
use Rattle.sdd_invariants.proofs.All.{Act, Attempt, Bases, Each, Entry, Exchange, IsSend, IsStep, Log, Msg, None, Option, Queued, Sends, Setting, Site, Some, [], active, active_handed, active_sent, arith, by_commit, by_send, by_start, commit_act, head_of, home, is_over, queue, start_at, subst, sym, true, ℕ, ◌++◌, ◌∷◌, ◌≡◌}
use Rattle.sdd_invariants.proofs.Bools.{if_way}

pub handed_way : (P : Option Attempt → Type 0) (c : ℕ) (from : Site) (m : Msg) (o : Option Attempt) → P None
    → ((a : Attempt) (x : Exchange) → o ≡ Some a → P (Some (record a { exchange = x }))) → P o → P (active_handed c from m o)
handed_way P c from m o n f h = grind (arith, if_way)

pub sent_way : (P : Option Attempt → Type 0) (c : ℕ) (m : Msg) (o : Option Attempt)
    → ((a : Attempt) (x : Exchange) → o ≡ Some a → P (Some (record a { exchange = x }))) → P o → P (active_sent c m o)
sent_way P c m o f h = grind (arith, if_way)

-- what holds of each kind of step holds of an act that is one
pub step_way : (s : Setting) (log : Log) (act : Act) (P : Act → Type 0)
    → ((c : ℕ) (q : Queued) → home s.catalogue c ≡ s.site → active s c log ≡ None → head_of (queue s c log) ≡ Some q → P (start_at s c log q))
    → ((c : ℕ) (bases : Bases) (a : Attempt) → home s.catalogue c ≡ s.site → active s c log ≡ Some a → P (commit_act s.catalogue bases c a))
    → ((to : Site) (m : Msg) (hand : Option ℕ) → IsSend s log m → P (Sends to m hand)) → IsStep s log act → P act
step_way s log act P f g h (by_start c q at i j e) = subst P (sym e) (f c q at i j)
step_way s log act P f g h (by_commit c bases a at i o e) = subst P (sym e) (g c bases a at i)
step_way s log act P f g h (by_send to m hand i e) = subst P (sym e) (h to m hand i)

-- the same, where it matters that a Commit comes when the exchange is over
pub step_way_over : (s : Setting) (log : Log) (act : Act) (P : Act → Type 0)
    → ((c : ℕ) (q : Queued) → home s.catalogue c ≡ s.site → active s c log ≡ None → head_of (queue s c log) ≡ Some q → P (start_at s c log q))
    → ((c : ℕ) (bases : Bases) (a : Attempt) → home s.catalogue c ≡ s.site → active s c log ≡ Some a → is_over a.exchange.phase ≡ true → P (commit_act s.catalogue bases c a))
    → ((to : Site) (m : Msg) (hand : Option ℕ) → IsSend s log m → P (Sends to m hand)) → IsStep s log act → P act
step_way_over s log act P f g h (by_start c q at i j e) = subst P (sym e) (f c q at i j)
step_way_over s log act P f g h (by_commit c bases a at i o e) = subst P (sym e) (g c bases a at i o)
step_way_over s log act P f g h (by_send to m hand i e) = subst P (sym e) (h to m hand i)

-- what holds of each entry holds of one in the middle
pub each_at : (P : Log → Entry → Type 0) (later : Log) (e : Entry) (before : Log) → Each P (later ++ e ∷ before) → P before e × Each P before
each_at P [] e before h = (h.0, h.1)
each_at P (x ∷ later) e before h = each_at P later e before h.1

pub each_before : (P : Log → Entry → Type 0) (later before : Log) → Each P (later ++ before) → Each P before
each_before P [] before h = h
each_before P (x ∷ later) before h = each_before P later before h.1
