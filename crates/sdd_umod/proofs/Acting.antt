-- The module's next step is the act that is due, and then it keeps what follows from the log.
use Rattle.sdd_umod.proofs.All.{Act, AllUpTo, AreStarted, Attempt, Bases, Bool, Commit, Did, Hold, IsAmid, IsOfHead, IsServed, IsSoundLog, List, Log, Msg, NoReads, None, Notes, Option, Queued, Release, Send, Sends, Setting, Some, Start, State, Step, T, Ticking, TmCounts, ToCommit, ToSend, [], act_of, active, active_after, active_sent, after, all_up_of, ap, arith, asking_of, begins, clock, commit_act, commit_next, commit_no_reads, commits, counts, eqb-true, filter, find, found_in_map, handed, has_to_send, head_is_untried, head_of, hold_step, is_free, is_kept_on_hold, last_served, line_apart, line_committed, line_of, line_sent, line_started, line_step, ltb-true, map, next, no_read_asked, not, numbers_to, option_map, queue, queue_after, refl, release_step, request_of, running, send_next, sends_of_act, sent, served_sent, stamped_did, start_act, start_is_up, start_modules, start_next, start_step, started, starts_committed, starts_left, starts_sent, starts_started, state_done, state_of, step_of, subst, suc, sym, ticked, time_at, timestamp, tm_of, tried, true, with_act, with_due_act, ℕ, ◌&&◌, ◌+◌, ◌<◌, ◌==◌, ◌∙◌, ◌∷◌, ◌≡◌, ◌≤◌}
use Rattle.sdd_umod.proofs.Dues.{IsStep, sends, commits_now, releases, starts, holds, step_is, attempt_is_due, release_is_due, start_comes, hold_comes}
use Rattle.sdd_umod.proofs.AfterActs.{after_request, after_commit, after_start, after_release, after_hold, release_apart, hold_apart}
use Rattle.sdd_umod.proofs.Turns.{turn_release, turn_hold, turn_commit, own_counts}
use Rattle.sdd_attempt.specs.wire.declared.msg.Msg.TheVariants as messages

-- The act of the step is the one that is due, and then the module keeps what follows from the log.
pub record Makes (s : Setting) (bases : Bases) (log : Log) (step : Step) (state : State) : Type 0 where
  pub act : Act
  pub is_due : next s bases log ≡ Some act
  pub notes : (n : Notes) → with_due_act (act_of bases state step) n ≡ with_act act n
  pub amid : IsAmid s bases (state_done bases step state) (Did act ∷ log)

-- the parts of what holds after an act

amid_after : (s : Setting) (bases : Bases) (log : Log) (step : Step) (act : Act) → IsAmid s bases (state_of s log) log
    → IsSoundLog s (Did act ∷ log) → state_of s (Did act ∷ log) ≡ state_done bases step (state_of s log) → IsServed s.catalogue bases (active s 0 (Did act ∷ log))
    → (clock s.site (Did act ∷ log)).ticks + starts_left (active s 0 (Did act ∷ log)) (queue s 0 (Did act ∷ log))
    ≤ (clock s.site log).ticks + starts_left (active s 0 log) (queue s 0 log)
    → IsAmid s bases (state_done bases step (state_of s log)) (Did act ∷ log)
amid_after s bases log step act amid sound after served less = grind arith

-- a message leaves an attempt under way
running_sent : (c : ℕ) (m : Msg) (o : Option Attempt) → running (active_sent c m o) ≡ running o
running_sent c m o = grind arith

started_sent : (s : Setting) (log : Log) (m : Msg) → AreStarted s log
    → (last_served s log).commits + running (active_sent 0 m (active s 0 log)) ≤ (clock s.site log).ticks
started_sent s log m h = let few = h.few in let same = running_sent 0 m (active s 0 log) in omega arith

-- a message of the exchange

makes_send : (s : Setting) (bases : Bases) (log : Log) → IsAmid s bases (state_of s log) log
    → line_step (active s 0 log) ≡ Some ToSend → Makes s bases log Send (state_of s log)
makes_send s bases log amid h =
    let r = has_to_send (active s 0 log) h in
    let request = request_of 0 (sent log) (handed log) r.attempt r.act (asking_of s log 0 r.attempt amid.sound.line r.active) r.send in
    let made_by : send_next (active s 0 log) ≡ Some r.act = ap send_next r.active ∙ r.send in
    let up : (t : ℕ) → AllUpTo t (sends_of_act r.act) =
    λ t. rw request.act_is (no_read_asked t r.attempt.ts 0 request.msg request.asks, tt) in
    record {
      act = r.act;
      is_due = attempt_is_due s bases log r.act (r.due s.catalogue bases 0);
      notes = λ n. ap (λ o. with_due_act o n) made_by;
      amid = amid_after s bases log Send r.act amid
          (record {
            line = line_sent s 0 log r.act r.attempt r.active r.send amid.sound.line;
            stamped = stamped_did s log r.act amid.sound.stamped (up _);
            turns = λ t. rw request.act_is (amid.sound.turns t);
            started = rw request.act_is (record { few = started_sent s log request.msg amid.sound.started });
          }) (after_request s bases log r.attempt r.act request made_by)
          (rw request.act_is (served_sent s.catalogue bases 0 request.msg (active s 0 log) amid.served))
          (rw request.act_is (let same = starts_sent 0 request.msg (active s 0 log) (queue s 0 log) in omega arith));
    }

-- a Commit

makes_commit : (s : Setting) (bases : Bases) (log : Log) → IsAmid s bases (state_of s log) log
    → line_step (active s 0 log) ≡ Some ToCommit → Makes s bases log Commit (state_of s log)
makes_commit s bases log amid h =
    let r = commits (active s 0 log) h in
    let a : Attempt = r.attempt in
    let act : Act = commit_act s.catalogue bases 0 a in
    let made_by : commit_next bases (line_of s log) ≡ Some act = ap (option_map (commit_act s.catalogue bases 0)) r.active in
    let no_reads : (ts d : ℕ) → NoReads ts d (sends_of_act act) = λ ts d. commit_no_reads s.catalogue bases 0 a ts d in
    let head : IsOfHead (queue s 0 log) (Some a) = subst (IsOfHead (queue s 0 log)) r.active amid.sound.line.of_head in
    let less = starts_committed a (queue s 0 log) head in
    let before : starts_left (active s 0 log) (queue s 0 log) ≡ starts_left (Some a) (queue s 0 log) =
    ap (λ o. starts_left o (queue s 0 log)) r.active in
    let after : starts_left (active_after 0 act (queue s 0 log) (active s 0 log)) (queue_after 0 act (queue s 0 log)) ≡ starts_left None
    (filter (λ q. not (q.number == a.txn)) (queue s 0 log)) = refl in
    let few = amid.sound.started.few in
    let one : running (active s 0 log) ≡ 1 = ap running r.active in
    let over : running (active_after 0 act (queue s 0 log) (active s 0 log)) ≡ 0 = refl in
    record {
      act = act;
      is_due = attempt_is_due s bases log act (r.due s.catalogue bases 0);
      notes = λ n. ap (λ o. with_due_act o n) made_by;
      amid = amid_after s bases log Commit act amid
          (record {
            line = line_committed s bases 0 log a amid.sound.line;
            stamped = stamped_did s log act amid.sound.stamped (all_up_of _ (sends_of_act act) no_reads);
            turns = λ t. turn_commit (last_served s log).commits (counts t log) (amid.sound.turns t);
            started = record { few = omega arith };
          }) (after_commit s bases log a made_by)
          tt (omega arith);
    }

-- a RELEASE

makes_release : (s : Setting) (bases : Bases) (log : Log) (k : TmCounts) → IsAmid s bases (state_of s log) log
    → line_step (active s 0 log) ≡ None → find (is_kept_on_hold (last_served s log).commits) (state_of s log).counts ≡ Some k
    → release_step (state_of s log) ≡ Some (Release (tm_of k)) → Makes s bases log (Release (tm_of k)) (state_of s log)
makes_release s bases log k amid none found e =
    let n : ℕ = (last_served s log).commits in
    let ts : ℕ = (last_served s log).ts in
    let act : Act = Sends (T (tm_of k)) (messages.Release (time_at ts)) None in
    let r = found_in_map (λ t. counts t log) (is_kept_on_hold n) (numbers_to s.catalogue.tms) k found in
    let low : k.releases < n = ltb-true k.releases n r.2 in
    record {
      act = act;
      is_due = release_is_due s bases log (Release (tm_of k)) act amid.setting.whole none e refl;
      notes = λ n. refl;
      amid = amid_after s bases log (Release (tm_of k)) act amid
          (record {
            line = line_apart s 0 log (T (tm_of k)) (messages.Release (time_at ts)) None (release_apart ts) amid.sound.line;
            stamped = stamped_did s log act amid.sound.stamped (tt, tt);
            turns = λ t. turn_release n k.tm (counts t log) (amid.sound.turns t)
                (λ same. subst (λ (x : TmCounts). x.releases < n) (sym (own_counts log r.0 t k r.1 same)) low);
            started = record { few = started_sent s log (messages.Release (time_at ts)) amid.sound.started };
          }) (after_release s bases log (tm_of k) ts) (served_sent s.catalogue bases 0 (messages.Release (time_at ts)) (active s 0 log) amid.served)
          (let same = starts_sent 0 (messages.Release (time_at ts)) (active s 0 log) (queue s 0 log) in omega arith);
    }

-- a HOLD

makes_hold : (s : Setting) (bases : Bases) (log : Log) (k : TmCounts) → IsAmid s bases (state_of s log) log
    → line_step (active s 0 log) ≡ None → release_step (state_of s log) ≡ None → start_step (state_of s log) ≡ None
    → find is_free (state_of s log).counts ≡ Some k → hold_step (state_of s log) ≡ Some (Hold (tm_of k)) → Makes s bases log (Hold (tm_of k)) (state_of s log)
makes_hold s bases log k amid none no_release no_start found e =
    let n : ℕ = (last_served s log).commits in
    let act : Act = Sends (T (tm_of k)) messages.Hold None in
    let r = found_in_map (λ t. counts t log) is_free (numbers_to s.catalogue.tms) k found in
    let free : k.releases ≡ k.holds = eqb-true k.releases k.holds r.2 in
    record {
      act = act;
      is_due = hold_comes s bases log (Hold (tm_of k)) act amid.setting.whole none no_release no_start e refl;
      notes = λ n. refl;
      amid = amid_after s bases log (Hold (tm_of k)) act amid
          (record {
            line = line_apart s 0 log (T (tm_of k)) messages.Hold None hold_apart amid.sound.line;
            stamped = stamped_did s log act amid.sound.stamped (tt, tt);
            turns = λ t. turn_hold n k.tm (counts t log) (amid.sound.turns t)
                (λ same. subst (λ (x : TmCounts). x.releases ≡ x.holds) (sym (own_counts log r.0 t k r.1 same)) free);
            started = record { few = started_sent s log messages.Hold amid.sound.started };
          }) (after_hold s bases log (tm_of k)) (served_sent s.catalogue bases 0 messages.Hold (active s 0 log) amid.served)
          (let same = starts_sent 0 messages.Hold (active s 0 log) (queue s 0 log) in omega arith);
    }

-- a Start

-- the first of a queue that has never started
pub first_of : (qs : List Queued) (b : Bool) → (head_is_untried qs && b) ≡ true → (q : Queued) × (rest : List Queued) × (qs ≡ q ∷ rest)
first_of qs b e = grind arith

-- it reads at each data module, so it can't commit at once

makes_start : (s : Setting) (bases : Bases) (log : Log) (q : Queued) (rest : List Queued) → IsAmid s bases (state_of s log) log
    → line_step (active s 0 log) ≡ None → release_step (state_of s log) ≡ None → start_step (state_of s log) ≡ Some Start
    → active s 0 log ≡ None → queue s 0 log ≡ q ∷ rest → Makes s bases log Start (state_of s log)
makes_start s bases log q rest amid none no_release starting idle is =
    let k : Ticking = clock s.site log in
    let act : Act = start_act s.catalogue [] 0 k q in
    let own : ℕ = timestamp (ticked k 1) in
    let made_by : start_next [] k (line_of s log) ≡ Some act = ap (λ qs. option_map (start_act s.catalogue [] 0 k) (head_of qs)) is in
    let begun : active_after 0 act (queue s 0 log) (active s 0 log) ≡ started own (sends_of_act act) (Some q) =
    ap (λ qs. started own (sends_of_act act) (head_of qs)) is in
    let before : starts_left (active s 0 log) (queue s 0 log) ≡ starts_left None (q ∷ rest) = rw (idle, is) refl in
    let after : starts_left (active_after 0 act (queue s 0 log) (active s 0 log)) (queue_after 0 act (queue s 0 log))
    ≡ starts_left (started own (sends_of_act act) (Some q)) (map (tried q.number) (q ∷ rest)) =
    ap (λ qs. starts_left (started own (sends_of_act act) (head_of qs)) (map (tried q.number) qs)) is in
    let fewer = starts_started q.number (record {
      txn = q.number;
      attempt = suc q.tries;
      ts = own;
      text = q.text;
      exchange = begins q.text (sends_of_act act);
    }) q rest in
    let few = amid.sound.started.few in
    let now : running (active_after 0 act (queue s 0 log) (active s 0 log)) ≡ 1 = ap running begun in
    record {
      act = act;
      is_due = start_comes s bases log act amid.setting.whole none no_release starting made_by;
      notes = λ n. ap (λ o. with_due_act o n) made_by;
      amid = amid_after s bases log Start act amid
          (record {
            line = line_started s [] 0 log q rest is amid.sound.stamped amid.sound.line;
            stamped = stamped_did s log act amid.sound.stamped (start_is_up s.catalogue [] 0 k q);
            turns = λ t. amid.sound.turns t;
            started = record { few = omega arith };
          }) (after_start s bases log q made_by) (subst (IsServed s.catalogue bases) (sym begun) (λ over. grind (arith, start_modules)))
          (omega arith);
    }

-- a step

makes_step : (s : Setting) (bases : Bases) (log : Log) (step : Step) → IsAmid s bases (state_of s log) log
    → IsStep (state_of s log) step → (step ≡ Start → active s 0 log ≡ None) → Makes s bases log step (state_of s log)
makes_step s bases log Send amid (sends h) idle = makes_send s bases log amid h
makes_step s bases log Commit amid (commits_now h) idle = makes_commit s bases log amid h
makes_step s bases log (Release tm) amid (releases k none found e) idle = makes_release s bases log k amid none found e
makes_step s bases log Start amid (starts none r may) idle =
    let w = first_of (queue s 0 log) _ may in
    makes_start s bases log w.0 w.1 amid none r (rw may refl) (idle refl) w.2
makes_step s bases log (Hold tm) amid (holds k none r t found some e) idle = makes_hold s bases log k amid none r t found e

pub makes : (s : Setting) (bases : Bases) (state : State) (log : Log) (step : Step) → IsAmid s bases state log
    → step_of state ≡ Some step → (step ≡ Start → state.line.active ≡ None) → Makes s bases log step state
makes s bases state log step amid steps idle =
    let is : state_of s log ≡ state = amid.state_is in
    subst (λ st. Makes s bases log step st) is
    (makes_step s bases log step (subst (λ st. IsAmid s bases st log) (sym is) amid)
    (step_is (state_of s log) step (subst (λ st. step_of st ≡ Some step) (sym is) steps))
    (subst (λ (st : State). step ≡ Start → st.line.active ≡ None) (sym is) idle))
