-- A class that has a step makes the act that is due, and the module keeps what follows from the log.
use Rattle.sdd_tm.proofs.All.{Act, AllByRecursion, AllUpTo, Answer, Attempt, Bases, Bool, ClassState, Commit, D, Did, InTurn, IsAmid, IsCalm, IsLineOf, IsOfHead, IsRequest, IsServed, IsSoundLog, IsWaiting, List, Log, Msg, NoReads, None, Notes, Null, Option, Queued, Send, Sends, Setting, Some, Start, State, Step, Ticking, ToCommit, ToSend, act_of, active, active_after, active_apart, all_starts, all_up_of, answer_time, answer_to, ap, arith, asking_of, asks, asks_apart, asks_done, asks_of, begins, can_answer, class_no, class_of, class_step, class_view, clock, commit_act, commit_next, commit_no_reads, commits, current_era, dm_no, false, filter, find, get_map, handed, hands, has_to_send, head_of, holds, is_empty, is_none, line_after, line_apart, line_committed, line_elsewhere, line_sent, line_started, line_step, list_any, map, next, no_read_asked, not, of_map, on_hold, open_did, option_map, own_record, queue, queue_after, record_in, refl, request_of, runs, send_due, send_next, sends_of_act, sent, served_sent, slice_get, slice_set, stamped_did, start_act, start_due, start_is_up, start_next, start_no_reads, started, starts_committed, starts_left, starts_sent, starts_started, state_done, state_of, submits, subst, sym, ticked, ticked_by, time_at, timestamp, tried, true, view_of, with_act, with_due_act, ℕ, ◌&&◌, ◌+◌, ◌<◌, ◌==◌, ◌^◌, ◌∙◌, ◌∷◌, ◌≡◌, ◌≢◌, ◌≤◌}
use Rattle.sdd_tm.proofs.ClassNumbers.{runs_apart, runs_class}
use Rattle.sdd_tm.proofs.OpenAsks.{first_answered}
use Rattle.sdd_tm.proofs.Dues.{IsStep, sends, commits_now, answers, starts, step_is, attempt_is_due, null_is_due, start_is_due}
use Rattle.sdd_tm.proofs.AfterActs.{no_held, after_request, after_record, after_null, null_apart}
use Rattle.sdd_tm.proofs.NoModules.{start_served}
use Rattle.sdd_tm.proofs.Rooms.{starts_set}
use Rattle.sdd_attempt.specs.protocol.declared.entry.Entry as line

-- each class: the one at a place, and the others

each_class : (s : Setting) (P : ℕ → Type 0) (place c : ℕ) → slice_get (runs s) place ≡ Some c → P c
    → ((i d : ℕ) → slice_get (runs s) i ≡ Some d → i ≢ place → P d) → (i d : ℕ) → slice_get (runs s) i ≡ Some d → P d
each_class s P place c e own others i d f = grind arith

-- The act that a class makes by its step is the one that is due, and then the module keeps what follows from the log.
pub record Makes (s : Setting) (bases : Bases) (log : Log) (place : ℕ) (k : ClassState) (step : Step) (state : State) : Type 0 where
  pub act : Act
  pub is_due : next s bases log ≡ Some act
  pub notes : (n : Notes) → with_due_act (act_of bases state.era.table state.clock k step) n ≡ with_act act n
  pub amid : IsAmid s bases (state_done bases place k step state) (Did act ∷ log)

abbrev class_made : Step → Act → ClassState → ClassState
class_made step act k = record { line = line_after act k.line; asks = asks_done step k.line.active k.asks }

abbrev with_class : ℕ → Ticking → ClassState → State → State
with_class place clock new state = record state { clock = clock; classes = slice_set state.classes place new }

done_is : (bases : Bases) (place : ℕ) (k : ClassState) (step : Step) (state : State) (act : Act) → act_of bases state.era.table state.clock k step ≡ Some act
    → with_class place (ticked_by act state.clock) (class_made step act k) state ≡ state_done bases place k step state
done_is bases place k step state act e = rw e refl

-- the room that is left

-- `IsAmid` after an act, by its parts
amid_after : (s : Setting) (bases : Bases) (log : Log) (place c : ℕ) (step : Step) (act made : Act)
    → IsAmid s bases (state_of s log) log → slice_get (runs s) place ≡ Some c
    → act_of bases (state_of s log).era.table (state_of s log).clock (class_of s log c) step ≡ Some made
    → state_of s (Did act ∷ log) ≡ with_class place (ticked_by made (clock s.site log))
    (class_made step made (class_of s log c)) (state_of s log)
    → IsSoundLog s (Did act ∷ log) → ((i d : ℕ) → slice_get (runs s) i ≡ Some d → IsServed s.catalogue bases (active s d (Did act ∷ log)))
    → (ticked_by made (clock s.site log)).ticks + starts_left (line_after made (class_of s log c).line).active
    (line_after made (class_of s log c).line).queue ≤ (clock s.site log).ticks + starts_left (active s c log) (queue s c log)
    → IsAmid s bases (state_done bases place (class_of s log c) step (state_of s log)) (Did act ∷ log)
amid_after s bases log place c step act made amid e makes after sound served less =
    let k : ClassState = class_of s log c in
    let is = done_is bases place k step (state_of s log) made makes in
    record {
      setting = record { valid = amid.setting.valid; whole = amid.setting.whole; era = amid.setting.era };
      sound = sound;
      state_is = after ∙ is;
      databases = amid.databases;
      served = served;
      room = subst (λ (st : State). st.clock.ticks + all_starts st.classes + 1 < 2 ^ 57) is
          (let sum = starts_set (state_of s log).classes place k (class_made step made k) (get_map (class_of s log) (runs s) place c e) in omega arith);
    }

-- a message of an exchange

sends_sound : (s : Setting) (log : Log) (place c : ℕ) (a : Attempt) (act : Act) → IsSoundLog s log
    → slice_get (runs s) place ≡ Some c → active s c log ≡ Some a → send_due a.exchange ≡ Some act → IsRequest c a act → IsSoundLog s (Did act ∷ log)
sends_sound s log place c a act sound e is send request =
    let others : (i d : ℕ) → slice_get (runs s) i ≡ Some d → i ≢ place → IsLineOf s d (Did act ∷ log) = λ i d f apart.
    rw request.act_is (line_apart s d log (D (dm_no request.to)) request.msg None
    (asks_apart a.ts c d request.msg request.asks (runs_apart s place i c d e f (λ q. apart (sym q)))) (sound.lines i d f)) in
    let up : (t : ℕ) → AllUpTo t (sends_of_act act) =
    λ t. rw request.act_is (no_read_asked t a.ts c request.msg request.asks, tt) in
    record {
      lines = each_class s (λ d. IsLineOf s d (Did act ∷ log)) place c e (line_sent s c log act a is send (sound.lines place c e)) others;
      stamped = stamped_did s log act sound.stamped (up _);
      unanswered = open_did log act sound.unanswered;
      turns = subst InTurn (sym (rw request.act_is (no_held a.ts c (D (dm_no request.to)) request.msg (holds log) request.asks))) sound.turns;
    }

makes_send : (s : Setting) (bases : Bases) (log : Log) (place end c : ℕ) → IsAmid s bases (state_of s log) log
    → IsCalm place end (state_of s log) → slice_get (runs s) place ≡ Some c
    → line_step (active s c log) ≡ Some ToSend → Makes s bases log place (class_of s log c) Send (state_of s log)
makes_send s bases log place end c amid calm e h =
    let r = has_to_send (active s c log) h in
    let request = request_of c (sent log) (handed log) r.attempt r.act (asking_of s log c r.attempt (amid.sound.lines place c e) r.active) r.send in
    let made_by : send_next (active s c log) ≡ Some r.act = ap send_next r.active ∙ r.send in
    let after = after_request s log place c r.attempt r.act e request in
    record {
      act = r.act;
      is_due = attempt_is_due s bases log place end calm c r.act e (r.due s.catalogue bases c);
      notes = λ n. ap (λ o. with_due_act o n) made_by;
      amid = amid_after s bases log place c Send r.act r.act amid e made_by
          (after ∙ ap (λ k. with_class place k (class_made Send r.act (class_of s log c)) (state_of s log)) (sym (rw request.act_is refl)))
          (sends_sound s log place c r.attempt r.act amid.sound e r.active r.send request)
          (λ i d f. rw request.act_is (served_sent s.catalogue bases d request.msg (active s d log) (amid.served i d f)))
          (rw request.act_is (let same = starts_sent c request.msg (active s c log) (queue s c log) in omega arith));
    }

-- a Commit

makes_commit : (s : Setting) (bases : Bases) (log : Log) (place end c : ℕ) → IsAmid s bases (state_of s log) log
    → IsCalm place end (state_of s log) → slice_get (runs s) place ≡ Some c
    → line_step (active s c log) ≡ Some ToCommit → Makes s bases log place (class_of s log c) Commit
    (state_of s log)
makes_commit s bases log place end c amid calm e h =
    let r = commits (active s c log) h in
    let a : Attempt = r.attempt in
    let act : Act = commit_act s.catalogue bases c a in
    let made_by : commit_next bases (class_of s log c).line ≡ Some act =
    ap (option_map (commit_act s.catalogue bases c)) r.active in
    let none : active_after c act (queue s c log) (active s c log) ≡ None = own_record c None (active s c log) in
    let left : queue_after c act (queue s c log) ≡ filter (λ q. not (q.number == a.txn)) (queue s c log) =
    own_record c (filter (λ q. not (q.number == a.txn)) (queue s c log)) (queue s c log) in
    let no_reads : (ts d : ℕ) → NoReads ts d (sends_of_act act) = λ ts d. commit_no_reads s.catalogue bases c a ts d in
    let head : IsOfHead (queue s c log) (Some a) =
    subst (IsOfHead (queue s c log)) r.active (amid.sound.lines place c e).of_head in
    let less = starts_committed a (queue s c log) head in
    let before : starts_left (active s c log) (queue s c log) ≡ starts_left (Some a) (queue s c log) =
    ap (λ o. starts_left o (queue s c log)) r.active in
    let after : starts_left (active_after c act (queue s c log) (active s c log)) (queue_after c act (queue s c log)) ≡ starts_left None
    (filter (λ q. not (q.number == a.txn)) (queue s c log)) = rw (none, left) refl in
    record {
      act = act;
      is_due = attempt_is_due s bases log place end calm c act e (r.due s.catalogue bases c);
      notes = λ n. ap (λ o. with_due_act o n) made_by;
      amid = amid_after s bases log place c Commit act act amid e made_by (after_record s log place c (record_in act) (sends_of_act act) e)
          (record {
            lines = each_class s (λ d. IsLineOf s d (Did act ∷ log)) place c e (line_committed s bases c log a (amid.sound.lines place c e))
                (λ i d f apart. line_elsewhere s d c log (record_in act) (sends_of_act act)
                (runs_apart s place i c d e f (λ q. apart (sym q))) (λ ts. no_reads ts d) (amid.sound.lines i d f));
            stamped = stamped_did s log act amid.sound.stamped (all_up_of _ (sends_of_act act) no_reads);
            unanswered = open_did log act amid.sound.unanswered;
            turns = amid.sound.turns;
          })
          (grind (arith, each_class, active, active_apart, record_in, sends_of_act, queue, runs_apart)) (omega arith);
    }

-- a NULL

makes_answer : (s : Setting) (bases : Bases) (log : Log) (place end c : ℕ) → IsAmid s bases (state_of s log) log
    → IsCalm place end (state_of s log) → slice_get (runs s) place ≡ Some c → line_step (active s c log) ≡ None
    → list_any (can_answer (active s c log)) (asks_of c (asks log)) ≡ true → Makes s bases log place (class_of s log c) Answer (state_of s log)
makes_answer s bases log place end c amid calm e h can =
    let first = first_answered (view_of s log) (class_view s log c) 0 (hands log) (asks log) amid.sound.unanswered.rise can in
    let time : ℕ = answer_time (clock s.site log) (active s c log) in
    let m : Msg = Null (class_no c) (time_at time) in
    let act : Act = Sends first.question.from m (Some first.question.hand) in
    let made : Act = Sends first.question.from m None in
    let made_by : answer_to (clock s.site log) (class_of s log c).line (find (can_answer (active s c log)) (asks_of c (asks log))) ≡ Some made =
    ap (answer_to (clock s.site log) (class_of s log c).line) first.found in
    record {
      act = act;
      is_due = null_is_due s bases log place end calm c act e h first.due;
      notes = λ n. ap (λ o. with_due_act o n) made_by;
      amid = amid_after s bases log place c Answer act made amid e made_by (after_null s log place c e first time)
          (record {
            lines = λ i d f. line_apart s d log first.question.from m (Some first.question.hand) (null_apart c d time) (amid.sound.lines i d f);
            stamped = stamped_did s log act amid.sound.stamped (tt, tt);
            unanswered = open_did log act amid.sound.unanswered;
            turns = amid.sound.turns;
          }) (λ i d f. served_sent s.catalogue bases d m (active s d log) (amid.served i d f))
          (let same = starts_sent c m (active s c log) (queue s c log) in omega arith);
    }

-- a Start

-- the first of a queue, where the class may start it
pub record MayStart (on : Bool) (o : Option Attempt) (qs : List Queued) : Type 0 where
  pub first : Queued
  pub rest : List Queued
  pub off : on ≡ false
  pub idle : o ≡ None
  pub queue_is : qs ≡ first ∷ rest

pub may_start : (on : Bool) (o : Option Attempt) (qs : List Queued) → (not on && (is_none o && not (is_empty qs))) ≡ true → MayStart on o qs
may_start on o qs e = grind arith

makes_start : (s : Setting) (bases : Bases) (log : Log) (place end c : ℕ) → IsAmid s bases (state_of s log) log
    → IsCalm place end (state_of s log) → slice_get (runs s) place ≡ Some c → line_step (active s c log) ≡ None
    → list_any (can_answer (active s c log)) (asks_of c (asks log)) ≡ false → (q : Queued) (rest : List Queued)
    → on_hold (view_of s log) ≡ false → active s c log ≡ None → queue s c log ≡ q ∷ rest → Makes s bases log place (class_of s log c) Start (state_of s log)
makes_start s bases log place end c amid calm e h cannot q rest off idle is =
    let k : Ticking = clock s.site log in
    let table : List line.Entry = (current_era s log).table in
    let act : Act = start_act s.catalogue table c k q in
    let own : ℕ = timestamp (ticked k 1) in
    let own_line : IsLineOf s c log = amid.sound.lines place c e in
    let made_by : start_next table k (class_of s log c).line ≡ Some act =
    ap (λ qs. option_map (start_act s.catalogue table c k) (head_of qs)) is in
    let due : start_due s.catalogue (view_of s log) (class_view s log c) ≡ Some act = rw (off, idle, is) refl in
    let waiting : IsWaiting s.catalogue c (submits log) q =
    (subst (λ qs. AllByRecursion (IsWaiting s.catalogue c (submits log)) qs) is own_line.in_queue.waiting).0 in
    let begun : active_after c act (queue s c log) (active s c log) ≡ started own (sends_of_act act) (Some q) =
    own_record c (started own (sends_of_act act) (head_of (queue s c log))) (active s c log) ∙ ap (λ qs. started own (sends_of_act act) (head_of qs)) is in
    let left : queue_after c act (queue s c log) ≡ map (tried q.number) (q ∷ rest) =
    own_record c (map (tried q.number) (queue s c log)) (queue s c log) ∙ ap (map (tried q.number)) is in
    let before : starts_left (active s c log) (queue s c log) ≡ starts_left None (q ∷ rest) = rw (idle, is) refl in
    let after : starts_left (active_after c act (queue s c log) (active s c log))
    (queue_after c act (queue s c log)) ≡ starts_left (started own (sends_of_act act) (Some q))
    (map (tried q.number) (q ∷ rest)) = rw (begun, left) refl in
    let fewer = starts_started q.number (grind (arith, begins, sends_of_act)) q rest in
    record {
      act = act;
      is_due = start_is_due s bases log place end calm c act e h cannot off due;
      notes = λ n. ap (λ o. with_due_act o n) made_by;
      amid = amid_after s bases log place c Start act act amid e made_by (after_record s log place c (record_in act) (sends_of_act act) e)
          (record {
            lines = each_class s (λ d. IsLineOf s d (Did act ∷ log)) place c e (line_started s table c log q rest is amid.sound.stamped own_line)
                (λ i d f apart. line_elsewhere s d c log (record_in act) (sends_of_act act)
                (runs_apart s place i c d e f (λ r. apart (sym r)))
                (λ ts. start_no_reads s.catalogue table c k q ts d (runs_apart s place i c d e f (λ r. apart (sym r)))) (amid.sound.lines i d f));
            stamped = stamped_did s log act amid.sound.stamped (start_is_up s.catalogue table c k q);
            unanswered = open_did log act amid.sound.unanswered;
            turns = amid.sound.turns;
          })
          (each_class s (λ d. IsServed s.catalogue bases (active s d (Did act ∷ log))) place c e
          (subst (IsServed s.catalogue bases) (sym begun) (start_served s.catalogue table bases c (submits log) k q
          amid.setting.valid amid.databases (runs_class s place c e).0 waiting))
          (λ i d f apart. subst (IsServed s.catalogue bases)
          (sym (active_apart d c (record_in act) (sends_of_act act) (queue s d log) (active s d log)
          (runs_apart s place i c d e f (λ r. apart (sym r))))) (amid.served i d f))) (omega arith);
    }

-- a step

makes_step : (s : Setting) (bases : Bases) (log : Log) (place end c : ℕ) (step : Step)
    → IsAmid s bases (state_of s log) log → IsCalm place end (state_of s log) → slice_get (runs s) place ≡ Some c
    → IsStep (on_hold (view_of s log)) (class_of s log c) step → Makes s bases log place (class_of s log c) step
    (state_of s log)
makes_step s bases log place end c Send amid calm e (sends h) = makes_send s bases log place end c amid calm e h
makes_step s bases log place end c Commit amid calm e (commits_now h) = makes_commit s bases log place end c amid calm e h
makes_step s bases log place end c Answer amid calm e (answers h can) = makes_answer s bases log place end c amid calm e h can
makes_step s bases log place end c Start amid calm e (starts h cannot may) = grind (arith, may_start, makes_start)

pub makes : (s : Setting) (bases : Bases) (state : State) (log : Log) (place end : ℕ) (k : ClassState) (step : Step)
    → IsAmid s bases state log → IsCalm place end state → slice_get state.classes place ≡ Some k
    → class_step state.on_hold k ≡ Some step → Makes s bases log place k step state
makes s bases state log place end k step amid calm here steps = grind (arith, of_map, slice_get, makes_step, step_is, Makes)
