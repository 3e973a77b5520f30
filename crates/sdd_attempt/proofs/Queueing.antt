-- The line of a class after each step: what it keeps, and that it is what the act makes of it.
use Rattle.sdd_attempt.proofs.All.{All-append, All-cons, All-head, All-nil, All-tail, AllByRecursion, AreAwaitedFrom, AreDistinct, Attempt, Bases, Bool, CarriesFew, Catalogue, FitsTxn, IsAwaited, IsLine, IsRunning, IsWhole, List, Msg, None, Option, Queued, Running, RunsFirst, Site, Some, Ticking, [], active_handed, active_of, after_send, ap, arith, ascending, attempt_of, begins, begins_room, bound_of, clock, commit_next, cond, contains, drop, false, few_modules, filter, fragments_in, get_or, handed_by, handed_room, if◌then◌else◌, length, line_done, line_of, map, map-append, modules_of, nat_tests, not, queue, read_to, refl, rules, same_length, send_next, sends_of_act, sent_room, slice_set, small_text, start_act, start_next, subst, suc, sym, tail_of, ticked, timestamp, tried, true, uses_of, ℕ, ◌++◌, ◌<◌, ◌==◌, ◌∙◌, ◌∷◌, ◌≡◌}
use Rattle.sdd_attempt.proofs.Phases.{asks_stay}
use Rattle.sdd_module.specs.wire.declared.msg.Msg.TheVariants as msgs
use Rattle.sdd_module.specs.protocol.declared.entry.Entry as line
use Rattle.sdd_rules.proofs.attempt.Numbers.{other_way}

abbrev number_of : Queued → ℕ
number_of q = q.number

-- numbers

pub itself : (n : ℕ) → (n == n) ≡ true
itself n = search rules

contains_more : (ns : List ℕ) (n m : ℕ) → contains ns m ≡ false → (n == m) ≡ false → contains (ns ++ n ∷ []) m ≡ false
contains_more [] n m e f = rw f refl
contains_more (x ∷ ns) n m e f = grind (arith, contains, (contains_more ns n m))

distinct_more : (ns : List ℕ) (n : ℕ) → AreDistinct ns → contains ns n ≡ false → AreDistinct (ns ++ n ∷ [])
distinct_more [] n all e = (refl, tt)
distinct_more (x ∷ ns) n all e = grind (arith, contains, contains_more, other_way, (distinct_more ns n all.1))

-- of the others none is touched

untouched : (n : ℕ) (qs : List Queued) → contains (map number_of qs) n ≡ false → map (tried n) qs ≡ qs
untouched n [] e = refl
untouched n (q ∷ qs) e = grind (arith, contains, number_of, (untouched n qs))

pub all_kept : (n : ℕ) (qs : List Queued) → contains (map number_of qs) n ≡ false → filter (λ q. not (q.number == n)) qs ≡ qs
all_kept n [] e = refl
all_kept n (q ∷ qs) e = grind (arith, contains, number_of, (all_kept n qs))

-- submit

runs_more : (c : ℕ) (queue : List Queued) (q : Queued) (r : Option Running) → RunsFirst c queue r → RunsFirst c (queue ++ q ∷ []) r
runs_more c queue q r h = grind arith

pub submitted_line : (cat : Catalogue) (c : ℕ) (queue more : List Queued) (r : Option Running) (q : Queued) → IsLine cat c queue r → FitsTxn cat q.text
    → contains (map number_of queue) q.number ≡ false → more ≡ queue ++ q ∷ [] → IsLine cat c more r
submitted_line cat c queue more r q line fits fresh e =
    subst (λ qs. IsLine cat c qs r) (sym e) (record {
      class = line.class;
      distinct = subst AreDistinct (sym (map-append number_of queue (q ∷ []))) (distinct_more (map number_of queue) q.number line.distinct fresh);
      fits = All-append (λ (x : Queued). FitsTxn cat x.text) queue (q ∷ []) line.fits
          (All-cons (λ (x : Queued). FitsTxn cat x.text) q [] fits (All-nil (λ (x : Queued). FitsTxn cat x.text)));
      runs = runs_more c queue q r line.runs;
    })

-- the view of a line with one transaction more
pub submitted_active : (queue : List Queued) (q : Queued) (r : Option Running) (c : ℕ) → RunsFirst c queue r → active_of (queue ++ q ∷ []) r ≡ active_of queue r
submitted_active queue q r c h = grind arith

-- send

sent_asks : {A : Type 0} (P : A → Type 0) (xs : List A) → AllByRecursion P xs → AllByRecursion P (tail_of xs)
sent_asks P xs all = grind arith

sent_running : (c : ℕ) (q : Queued) (r : Running) → IsRunning c q r → IsRunning c q (record r { exchange = after_send r.exchange })
sent_running c q r is = grind (arith, sent_room, sent_asks)

pub sent_line : (cat : Catalogue) (c : ℕ) (queue : List Queued) (r : Running) → IsLine cat c queue (Some r)
    → IsLine cat c queue (Some (record r { exchange = after_send r.exchange }))
sent_line cat c [] r line = absurd line.runs
sent_line cat c (q ∷ queue) r line = record { class = line.class; distinct = line.distinct; fits = line.fits; runs = sent_running c q r line.runs }

pub sent_view : (cat : Catalogue) (c : ℕ) (queue : List Queued) (r : Running) → IsLine cat c queue (Some r)
    → line_of cat c queue (Some (record r { exchange = after_send r.exchange })) ≡ line_done (send_next (active_of queue (Some r))) (line_of cat c queue (Some r))
sent_view cat c queue r line = grind arith

-- hand

handed_runs : (c : ℕ) (q : Queued) (queue : List Queued) (from : Site) (m : Msg) (r : Running) → IsRunning c q r → AreAwaitedFrom c from m r → CarriesFew m
    → RunsFirst c (q ∷ queue) (handed_by c from m r)
handed_runs c q queue from m r is awaited few = grind (arith, handed_room, asks_stay)

pub handed_line : (cat : Catalogue) (c : ℕ) (queue : List Queued) (from : Site) (m : Msg) (r : Running) → IsLine cat c queue (Some r)
    → AreAwaitedFrom c from m r → CarriesFew m → IsLine cat c queue (handed_by c from m r)
handed_line cat c [] from m r line awaited few = absurd line.runs
handed_line cat c (q ∷ queue) from m r line awaited few =
    record { class = line.class; distinct = line.distinct; fits = line.fits; runs = handed_runs c q queue from m r line.runs awaited few }

pub handed_view : (cat : Catalogue) (c : ℕ) (queue : List Queued) (from : Site) (m : Msg) (r : Running) → IsLine cat c queue (Some r)
    → line_of cat c queue (handed_by c from m r) ≡ record (line_of cat c queue (Some r)) { active = active_handed c from m (active_of queue (Some r)) }
handed_view cat c queue from m r line = grind arith

pub awaited_line : (cat : Catalogue) (c : ℕ) (queue : List Queued) (from : Site) (m : Msg) (r : Running) → IsLine cat c queue (Some r)
    → IsAwaited c from m (active_of queue (Some r)) → AreAwaitedFrom c from m r
awaited_line cat c queue from m r line h = grind arith

-- start

pub first_of : {A : Type 0} (xs : List A) (x : A) → 0 < length xs → x ≡ get_or xs 0 x → xs ≡ x ∷ drop 1 xs
first_of xs x some e = grind arith

-- the start of the first transaction's next attempt
abbrev pub start_of : Catalogue → ℕ → List line.Entry → Ticking → Queued → Running
start_of cat c table clock q = record { ts = timestamp (ticked clock 1); exchange = begins q.text (sends_of_act (start_act cat table c clock q)) }

abbrev pub one_try : Queued → Queued
one_try q = record q { tries = suc q.tries }

pub begun_view : (cat : Catalogue) (c : ℕ) (table : List line.Entry) (clock : Ticking) (q : Queued) (queue : List Queued)
    → AreDistinct (map number_of (q ∷ queue))
    → line_of cat c (one_try q ∷ queue) (Some (start_of cat c table clock q)) ≡ line_done (start_next table clock (line_of cat c (q ∷ queue) None)) (line_of cat c (q ∷ queue) None)
begun_view cat c table clock q queue distinct = grind (arith, nat_tests, untouched, itself)

pub begun_line : (cat : Catalogue) (c : ℕ) (table : List line.Entry) (clock : Ticking) (q : Queued) (queue : List Queued) → IsWhole cat
    → IsLine cat c (q ∷ queue) None → IsLine cat c (one_try q ∷ queue) (Some (start_of cat c table clock q))
begun_line cat c table clock q queue whole line =
    let fits : FitsTxn cat q.text = All-head (λ (x : Queued). FitsTxn cat x.text) q queue line.fits in
    let small = small_text cat q.text fits in
    let reads = same_length (read_to cat table c q (uses_of cat q.text) (timestamp (ticked clock 1)) (bound_of clock))
    (modules_of cat c (ascending (fragments_in (uses_of cat q.text)))) in
    record {
      class = line.class;
      distinct = line.distinct;
      fits = All-cons (λ (x : Queued). FitsTxn cat x.text) (one_try q) queue fits (All-tail (λ (x : Queued). FitsTxn cat x.text) q queue line.fits);
      runs = record {
        started = omega arith;
        room = begins_room q.text (sends_of_act (start_act cat table c clock q)) small (omega (arith, reads, few_modules cat c q.text whole small));
        asks = tt;
      };
    }

-- commit

pub ended_line : (cat : Catalogue) (c : ℕ) (q : Queued) (queue : List Queued) (r : Option Running) → IsLine cat c (q ∷ queue) r → IsLine cat c queue None
ended_line cat c q queue r line = record {
  class = line.class;
  distinct = line.distinct.1;
  fits = All-tail (λ (x : Queued). FitsTxn cat x.text) q queue line.fits;
  runs = tt;
}

ended_by : (cat : Catalogue) (c : ℕ) (q : Queued) (queue : List Queued) (a : Option Attempt) (own mine : Bool) → own ≡ true → mine ≡ true
    → filter (λ x. not (x.number == q.number)) queue ≡ queue → line_of cat c queue None
    ≡ record {
      catalogue = cat;
      class = c;
      queue = if own then cond (not mine) (q ∷ filter (λ x. not (x.number == q.number)) queue) (filter (λ x. not (x.number == q.number)) queue) else q ∷ queue;
      active = if own then None else a;
    }
ended_by cat c q queue a own mine e f same = grind arith

pub ended_view : (cat : Catalogue) (c : ℕ) (q : Queued) (queue : List Queued) (r : Running) (bases : Bases) → AreDistinct (map number_of (q ∷ queue))
    → line_of cat c queue None ≡ line_done (commit_next bases (line_of cat c (q ∷ queue) (Some r))) (line_of cat c (q ∷ queue) (Some r))
ended_view cat c q queue r bases distinct =
    ended_by cat c q queue (Some (attempt_of q r)) (c == c) (q.number == q.number) (itself c) (itself q.number) (all_kept q.number queue distinct.0)

-- the same of a queue whose first transaction the code has looked at

pub begun_at : (cat : Catalogue) (c : ℕ) (table : List line.Entry) (clock : Ticking) (queue : List Queued)
    (q new : Queued) (before : Option Running) (r : Running) → IsWhole cat → IsLine cat c queue before
    → 0 < length queue → q ≡ get_or queue 0 q → new ≡ one_try q → r ≡ start_of cat c table clock q → IsLine cat c (slice_set queue 0 new) (Some r)
begun_at cat c table clock [] q new before r whole line some first e f = absurd (omega arith)
begun_at cat c table clock (x ∷ queue) q new before r whole line some first e f =
    subst (λ y. IsLine cat c (new ∷ queue) (Some y)) (sym (f ∙ ap (start_of cat c table clock) first))
    (subst (λ y. IsLine cat c (y ∷ queue) (Some (start_of cat c table clock x))) (sym (e ∙ ap one_try first))
    (begun_line cat c table clock x queue whole (record { class = line.class; distinct = line.distinct; fits = line.fits; runs = tt })))

pub begun_seen : (cat : Catalogue) (c : ℕ) (table : List line.Entry) (clock : Ticking) (queue : List Queued)
    (q new : Queued) (before : Option Running) (r : Running) → IsLine cat c queue before
    → 0 < length queue → q ≡ get_or queue 0 q → new ≡ one_try q → r ≡ start_of cat c table clock q → active_of queue before ≡ None
    → line_of cat c (slice_set queue 0 new) (Some r) ≡ line_done (start_next table clock (line_of cat c queue before)) (line_of cat c queue before)
begun_seen cat c table clock queue q new before r line some first e f idle = grind (arith, begun_view)

pub ended_at : (cat : Catalogue) (c : ℕ) (queue rest : List Queued) (r : Option Running) → IsLine cat c queue r → rest ≡ drop 1 queue → IsLine cat c rest None
ended_at cat c [] rest r line e = grind (arith, nat_tests)
ended_at cat c (q ∷ queue) rest r line e = subst (λ qs. IsLine cat c qs None) (sym e) (ended_line cat c q queue r line)

pub ended_seen : (cat : Catalogue) (c : ℕ) (queue rest : List Queued) (r : Running) (bases : Bases) → IsLine cat c queue (Some r) → rest ≡ drop 1 queue
    → line_of cat c rest None ≡ line_done (commit_next bases (line_of cat c queue (Some r))) (line_of cat c queue (Some r))
ended_seen cat c [] rest r bases line e = absurd line.runs
ended_seen cat c (q ∷ queue) rest r bases line e = ap (λ qs. line_of cat c qs None) e ∙ ended_view cat c q queue r bases line.distinct
