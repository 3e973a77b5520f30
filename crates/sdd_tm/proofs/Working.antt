-- Each step of a class leaves it less to do.
use Rattle.sdd_tm.proofs.All.{Act, Answer, Asked, Attempt, Bases, Bool, ClassState, Commit, IsAmid, IsOfHead, Line, List, Log, None, Null, Option, Queued, Send, Sends, Setting, Site, Some, Start, State, Step, Ticking, [], act_of, active, active_after, answer_time, answer_to, ap, arith, asks, asks_of, begins, class_done, class_no, class_of, class_step, clock, commit_act, commit_next, commits, cond, current_era, false, false≢true, filter, head_of, length, line_done, list_any, map, not, of_map, on_hold, option_map, own_record, queue, queue_after, refl, runs, sends_of_act, slice_get, slice_set, some_is, start_act, start_next, started, starts_committed, starts_started, state_done, state_of, subst, suc, sym, ticked, time_at, timestamp, tried, true, view_of, without_first, work, work_in, work_of, zero, ℕ, ◌<◌, ◌==◌, ◌||◌, ◌∙◌, ◌∷◌, ◌≡◌}
use Rattle.sdd_tm.proofs.Dues.{IsStep, sends, commits_now, answers, starts, step_is}
use Rattle.sdd_tm.proofs.Acting.{may_start}

work_set : (classes : List ClassState) (place : ℕ) (k new : ClassState) → slice_get classes place ≡ Some k
    → work_in new < work_in k → work (slice_set classes place new) < work classes
work_set [] place k new e l = absurd cc
work_set (x ∷ classes) zero k new e l = let same : work_in x ≡ work_in k = ap work_in (some_is e) in omega arith
work_set (x ∷ classes) (suc place) k new e l = let rest = work_set classes place k new e l in omega arith

-- a NULL

fewer_asks : (p : Asked → Bool) (qs : List Asked) → list_any p qs ≡ true → length (without_first p qs) < length qs
fewer_asks p [] e = absurd (false≢true e)
fewer_asks p (q ∷ qs) e =
    elim (p q) as (λ b. (b || list_any p qs) ≡ true → length (cond b qs (q ∷ without_first p qs)) < suc (length qs)) [
      | true ↦ λ g. omega arith
      | false ↦ λ g. let rest = fewer_asks p qs g in omega arith
    ] e

null_work : (c : ℕ) (l : Line) (time : ℕ) (o : Option Act)
    → ((act : Act) → o ≡ Some act → (to : Site) × (act ≡ Sends to (Null (class_no l.class) (time_at time)) None))
    → work_of (line_done o l).active (line_done o l).queue ≡ work_of l.active l.queue
null_work c l time o h = grind arith

answer_is : (l : Line) (k : Ticking) (o : Option Asked) (act : Act) → answer_to k l o ≡ Some act
    → (to : Site) × (act ≡ Sends to (Null (class_no l.class) (time_at (answer_time k l.active))) None)
answer_is l k o act e = grind arith

-- a step of the class c

step_falls : (s : Setting) (bases : Bases) (log : Log) (place c : ℕ) (step : Step) → IsAmid s bases (state_of s log) log → slice_get (runs s) place ≡ Some c
    → IsStep (on_hold (view_of s log)) (class_of s log c) step
    → work_in (class_done bases (current_era s log).table (clock s.site log) step (class_of s log c)) < work_in (class_of s log c)
step_falls s bases log place c Send amid e (sends h) = grind arith
step_falls s bases log place c Commit amid e (commits_now h) =
    let r = commits (active s c log) h in
    let a : Attempt = r.attempt in
    let act : Act = commit_act s.catalogue bases c a in
    let to_do : commit_next bases (class_of s log c).line ≡ Some act =
    ap (option_map (commit_act s.catalogue bases c)) r.active in
    let none : active_after c act (queue s c log) (active s c log) ≡ None = own_record c None (active s c log) in
    let left : queue_after c act (queue s c log) ≡ filter (λ q. not (q.number == a.txn)) (queue s c log) =
    own_record c (filter (λ q. not (q.number == a.txn)) (queue s c log)) (queue s c log) in
    let head : IsOfHead (queue s c log) (Some a) =
    subst (IsOfHead (queue s c log)) r.active (amid.sound.lines place c e).of_head in
    let less = starts_committed a (queue s c log) head in
    let now : work_of (active_after c act (queue s c log) (active s c log))
    (queue_after c act (queue s c log)) ≡ work_of None (filter (λ q. not (q.number == a.txn)) (queue s c log)) =
    rw (none, left) refl in
    let before : work_of (active s c log) (queue s c log) ≡ work_of (Some a) (queue s c log) =
    ap (λ o. work_of o (queue s c log)) r.active in
    rw to_do (omega arith)
step_falls s bases log place c Answer amid e (answers h can) =
    grind (arith, class_of, act_of, null_work, active, answer_is, fewer_asks, asks_of, asks)
step_falls s bases log place c Start amid e (starts h cannot may) =
    let w = may_start (on_hold (view_of s log)) (active s c log) (queue s c log) may in
    by_start w.first w.rest w.idle w.queue_is
  where
    by_start : (q : Queued) (rest : List Queued) → active s c log ≡ None → queue s c log ≡ q ∷ rest
        → work_in (class_done bases (current_era s log).table (clock s.site log) Start (class_of s log c)) < work_in
        (class_of s log c)
    by_start q rest idle is =
        let act : Act = start_act s.catalogue (current_era s log).table c (clock s.site log) q in
        let sent_now = sends_of_act act in
        let to_do : start_next (current_era s log).table (clock s.site log) (class_of s log c).line ≡ Some act =
        ap (λ qs. option_map (start_act s.catalogue (current_era s log).table c (clock s.site log)) (head_of qs))
        is in
        let begun : active_after c act (queue s c log) (active s c log) ≡ started (timestamp (ticked (clock s.site log) 1)) sent_now (Some q) =
        own_record c (started (timestamp (ticked (clock s.site log) 1)) sent_now (head_of (queue s c log)))
        (active s c log) ∙ ap (λ qs. started (timestamp (ticked (clock s.site log) 1)) sent_now (head_of qs)) is in
        let left : queue_after c act (queue s c log) ≡ map (tried q.number) (q ∷ rest) =
        own_record c (map (tried q.number) (queue s c log)) (queue s c log) ∙ ap (map (tried q.number)) is in
        let fewer = starts_started q.number (record {
          txn = q.number;
          attempt = suc q.tries;
          ts = timestamp (ticked (clock s.site log) 1);
          text = q.text;
          exchange = begins q.text sent_now;
        }) q
        rest in
        let now : work_of (active_after c act (queue s c log) (active s c log))
        (queue_after c act (queue s c log)) ≡ work_of (started (timestamp (ticked (clock s.site log) 1))
        sent_now (Some q)) (map (tried q.number) (q ∷ rest)) = rw (begun, left) refl in
        let before : work_of (active s c log) (queue s c log) ≡ work_of None (q ∷ rest) = rw (idle, is) refl in
        rw to_do (omega arith)

-- of the module
pub work_falls : (s : Setting) (bases : Bases) (state : State) (log : Log) (place : ℕ) (k : ClassState)
    (step : Step) → IsAmid s bases state log → slice_get state.classes place ≡ Some k
    → class_step state.on_hold k ≡ Some step → work (state_done bases place k step state).classes < work state.classes
work_falls s bases state log place k step amid here steps =
    let is : state_of s log ≡ state = amid.state_is in
    let r = of_map (class_of s log) (runs s) place k (subst (λ (st : State). slice_get st.classes place ≡ Some k) (sym is) here) in
    let whole : class_step (on_hold (view_of s log)) (class_of s log r.0) ≡ Some step =
    subst (λ x. class_step (on_hold (view_of s log)) x ≡ Some step) (sym r.2)
    (subst (λ (st : State). class_step st.on_hold k ≡ Some step) (sym is) steps) in
    let falls = step_falls s bases log place r.0 step (subst (λ st. IsAmid s bases st log) (sym is) amid) r.1
    (step_is (on_hold (view_of s log)) (class_of s log r.0) step whole) in
    let on_class : work_in (class_done bases state.era.table state.clock step k) < work_in k =
    subst (λ x. work_in (class_done bases state.era.table state.clock step x) < work_in x) r.2
    (grind (arith, work_in, class_done, class_of)) in
    work_set state.classes place k (class_done bases state.era.table state.clock step k) here on_class
