-- Each step leaves the module less to do.
use Rattle.sdd_umod.proofs.All.{Act, Attempt, Bases, Bool, Commit, Hold, InTurn, IsAmid, IsOfHead, List, Log, None, Option, Queued, Release, Send, Setting, Some, Start, State, Step, Ticking, TmCounts, ToCommit, ToSend, [], active, active_after, all_signs, ap, arith, asking_of, begins, clock, commit_act, commit_next, commits, counted, counts, eq-eqb, eqb-true, fewer_committed, filter, find, found_in_map, handed, has_to_send, head_of, is_free, is_kept_on_hold, last_served, length, line_of, line_step, ltb-true, map, not, numbers_to, option_map, queue, queue_after, refl, request_of, sends_of_act, sent, signs_left, start_act, start_next, started, starts_committed, starts_started, state_done, state_of, step_of, subst, suc, ticked, timestamp, tried, true, work, work_of, work_sent, ℕ, ◌+◌, ◌<◌, ◌==◌, ◌∷◌, ◌≡◌, ◌≤◌}
use Rattle.sdd_umod.proofs.Dues.{IsStep, sends, commits_now, releases, starts, holds, step_is}
use Rattle.sdd_umod.proofs.Acting.{first_of}
use Rattle.sdd_counts.specs.declared.tm_count.Sign.TheVariants as signs

-- HOLDs and RELEASEs

-- with fewer transactions there are no more of them
fewer_signs : (n m : ℕ) (ks : List TmCounts) → n ≤ m → all_signs n ks ≤ all_signs m ks
fewer_signs n m [] l = omega arith
fewer_signs n m (k ∷ ks) l = let rest = fewer_signs n m ks l in omega arith

released_no_more : (txns n : ℕ) (k : TmCounts) → signs_left txns (counted signs.Release n k) ≤ signs_left txns k
released_no_more txns n k = grind arith

held_no_more : (txns n : ℕ) (k : TmCounts) → signs_left txns (counted signs.Hold n k) ≤ signs_left txns k
held_no_more txns n k = grind arith

no_more : (txns : ℕ) (f : TmCounts → TmCounts) (ks : List TmCounts) → ((k : TmCounts) → signs_left txns (f k) ≤ signs_left txns k)
    → all_signs txns (map f ks) ≤ all_signs txns ks
no_more txns f [] h = omega arith
no_more txns f (k ∷ ks) h = let here = h k in let rest = no_more txns f ks h in omega arith

-- and where one is sent to a T that is found there are fewer
fewer_where : (txns : ℕ) (f : TmCounts → TmCounts) (p : TmCounts → Bool) (ks : List TmCounts) (k : TmCounts)
    → ((x : TmCounts) → signs_left txns (f x) ≤ signs_left txns x) → find p ks ≡ Some k
    → signs_left txns (f k) < signs_left txns k → all_signs txns (map f ks) < all_signs txns ks
fewer_where txns f p [] k h e l = absurd cc
fewer_where txns f p (x ∷ ks) k h e l = grind (arith, no_more, fewer_where txns f p ks k)

released_fewer : (txns : ℕ) (k : TmCounts) → k.releases < txns → signs_left txns (counted signs.Release k.tm k) < signs_left txns k
released_fewer txns k l = let own : (k.tm == k.tm) ≡ true = eq-eqb k.tm k.tm refl in rw own (omega arith)

-- the steps

abbrev by_parts : Option Attempt → List Queued → ℕ → List TmCounts → ℕ
by_parts o qs n ks = work_of o qs + all_signs (n + length qs) ks

send_falls : (s : Setting) (bases : Bases) (log : Log) → IsAmid s bases (state_of s log) log
    → line_step (active s 0 log) ≡ Some ToSend → work (state_done bases Send (state_of s log)) < work (state_of s log)
send_falls s bases log amid h =
    let r = has_to_send (active s 0 log) h in
    let request = request_of 0 (sent log) (handed log) r.attempt r.act (asking_of s log 0 r.attempt amid.sound.line r.active) r.send in
    grind (arith, r.active, request.act_is, request.asks, r.send, work_sent)

commit_falls : (s : Setting) (bases : Bases) (log : Log) → IsAmid s bases (state_of s log) log
    → line_step (active s 0 log) ≡ Some ToCommit → work (state_done bases Commit (state_of s log)) < work (state_of s log)
commit_falls s bases log amid h =
    let r = commits (active s 0 log) h in
    let a : Attempt = r.attempt in
    let act : Act = commit_act s.catalogue bases 0 a in
    let n : ℕ = (last_served s log).commits in
    let ks : List TmCounts = (state_of s log).counts in
    let qs : List Queued = filter (λ q. not (q.number == a.txn)) (queue s 0 log) in
    let to_do : commit_next bases (line_of s log) ≡ Some act = ap (option_map (commit_act s.catalogue bases 0)) r.active in
    let head : IsOfHead (queue s 0 log) (Some a) = subst (IsOfHead (queue s 0 log)) r.active amid.sound.line.of_head in
    let less = starts_committed a (queue s 0 log) head in
    let fewer = fewer_committed a.txn (queue s 0 log) (record { number = a.txn; text = a.text; tries = a.attempt }) head refl in
    let few = fewer_signs (suc n + length qs) (n + length (queue s 0 log)) ks (omega arith) in
    let now : by_parts (active_after 0 act (queue s 0 log) (active s 0 log)) (queue_after 0 act (queue s 0 log)) (suc n) ks
    ≡ by_parts None qs (suc n) ks = refl in
    let before : work_of (active s 0 log) (queue s 0 log) ≡ work_of (Some a) (queue s 0 log) =
    ap (λ o. work_of o (queue s 0 log)) r.active in
    rw to_do (omega arith)

start_falls : (s : Setting) (bases : Bases) (log : Log) (q : Queued) (rest : List Queued) → active s 0 log ≡ None
    → queue s 0 log ≡ q ∷ rest → work (state_done bases Start (state_of s log)) < work (state_of s log)
start_falls s bases log q rest idle is =
    let k : Ticking = clock s.site log in
    let act : Act = start_act s.catalogue [] 0 k q in
    let own : ℕ = timestamp (ticked k 1) in
    let n : ℕ = (last_served s log).commits in
    let ks : List TmCounts = (state_of s log).counts in
    let to_do : start_next [] k (line_of s log) ≡ Some act = ap (λ qs. option_map (start_act s.catalogue [] 0 k) (head_of qs)) is in
    let fewer = starts_started q.number (record {
      txn = q.number;
      attempt = suc q.tries;
      ts = own;
      text = q.text;
      exchange = begins q.text (sends_of_act act);
    }) q rest in
    let few = fewer_signs (n + length (map (tried q.number) (q ∷ rest))) (n + length (q ∷ rest)) ks (omega arith) in
    let now : by_parts (active_after 0 act (queue s 0 log) (active s 0 log)) (queue_after 0 act (queue s 0 log)) n ks
    ≡ by_parts (started own (sends_of_act act) (Some q)) (map (tried q.number) (q ∷ rest)) n ks =
    ap (λ qs. by_parts (started own (sends_of_act act) (head_of qs)) (map (tried q.number) qs) n ks) is in
    let before : by_parts (active s 0 log) (queue s 0 log) n ks ≡ by_parts None (q ∷ rest) n ks = rw (idle, is) refl in
    rw to_do (omega arith)

release_falls : (s : Setting) (bases : Bases) (log : Log) (k : TmCounts) → find (is_kept_on_hold (last_served s log).commits) (state_of s log).counts ≡ Some k
    → work (state_done bases (Release (record { 0 = k.tm })) (state_of s log)) < work (state_of s log)
release_falls s bases log k e =
    let n : ℕ = (last_served s log).commits in
    let txns : ℕ = n + length (queue s 0 log) in
    let r = found_in_map (λ t. counts t log) (is_kept_on_hold n) (numbers_to s.catalogue.tms) k e in
    omega (
      arith,
      ltb-true k.releases n r.2,
      fewer_where txns (counted signs.Release k.tm) (is_kept_on_hold n) (state_of s log).counts k
          (released_no_more txns k.tm) e (released_fewer txns k (omega (arith, ltb-true k.releases n r.2))),
    )

hold_falls : (s : Setting) (bases : Bases) (log : Log) (k : TmCounts) → IsAmid s bases (state_of s log) log → find is_free (state_of s log).counts ≡ Some k
    → work (state_done bases (Hold (record { 0 = k.tm })) (state_of s log)) < work (state_of s log)
hold_falls s bases log k amid e =
    let n : ℕ = (last_served s log).commits in
    let txns : ℕ = n + length (queue s 0 log) in
    let r = found_in_map (λ t. counts t log) is_free (numbers_to s.catalogue.tms) k e in
    let free : k.releases ≡ k.holds = eqb-true k.releases k.holds r.2 in
    let turn : InTurn n k = subst (InTurn n) r.1 (amid.sound.turns r.0) in
    let low = turn.committed in
    let less = fewer_where txns (counted signs.Hold k.tm) is_free (state_of s log).counts k (held_no_more txns k.tm) e
    (let own : (k.tm == k.tm) ≡ true = eq-eqb k.tm k.tm refl in rw own (omega arith)) in
    omega arith

step_falls : (s : Setting) (bases : Bases) (log : Log) (step : Step) → IsAmid s bases (state_of s log) log
    → IsStep (state_of s log) step → (step ≡ Start → active s 0 log ≡ None) → work (state_done bases step (state_of s log)) < work (state_of s log)
step_falls s bases log Send amid (sends h) idle = send_falls s bases log amid h
step_falls s bases log Commit amid (commits_now h) idle = commit_falls s bases log amid h
step_falls s bases log (Release tm) amid (releases k none found e) idle = release_falls s bases log k found
step_falls s bases log Start amid (starts none r may) idle = let w = first_of (queue s 0 log) _ may in start_falls s bases log w.0 w.1 (idle refl) w.2
step_falls s bases log (Hold tm) amid (holds k none r t found some e) idle = hold_falls s bases log k amid found

pub work_falls : (s : Setting) (bases : Bases) (state : State) (log : Log) (step : Step) → IsAmid s bases state log
    → step_of state ≡ Some step → (step ≡ Start → state.line.active ≡ None) → work (state_done bases step state) < work state
work_falls s bases state log step amid steps idle = grind (arith, step_falls, step_is)
