-- The line of a class after each entry of the log of a site.
use Rattle.sdd_attempt.proofs.All.{Act, AllByRecursion, AllUpTo, AreStamped, Attempt, Bases, Catalogue, Change, D, Did, Era, FitsAnswer, FitsTxn, Handed, IsAsking, IsAskingAt, IsLineOf, IsOfHead, List, Log, Msg, None, Option, Queued, Rec, Records, Redeclared, Sends, Setting, Site, Some, Submits, Ticked, Ticking, Txn, Use, [], active, active_after, active_sent, and_right, arith, ascending, asks_rows, bound_of, clock, commit_act, cond, cond-true, contains, current_era, dm_no, effect, eq-eqb, false, filter_map, first_send, fragments_in, handed, head_of, is_for, is_read, is_some, list_all, map, modules_of, nat_tests, ne_eqb, numbers_to, or_left, or_right, own, queue, queue_after, read_set, read_to, reads_at, refl, send_due, sends_of_act, sent, start_act, started, submits, subst, sym, ticked, timestamp, tried, true, uses_of, write_to, ℕ, ◌&&◌, ◌++◌, ◌<◌, ◌==◌, ◌^◌, ◌∙◌, ◌∷◌, ◌≡◌, ◌≢◌}
use Rattle.sdd_attempt.proofs.QuestionsOfAttempt.{NoReads, AreReads, asking_handed, asking_sends, asking_sent, asking_started}
use Rattle.sdd_attempt.proofs.Waiting.{queue_did, queue_submitted, head_handed, head_submitted, head_sent, head_started}
use Rattle.sdd_module.specs.protocol.declared.entry.Entry as line
use Rattle.sdd_rules.proofs.attempt.Modules.{modules_read}

-- what is handed, given, or passes

pub line_handed : (s : Setting) (bases : Bases) (c : ℕ) (log : Log) (from : Site) (m : Msg) → FitsAnswer s bases log from m → IsLineOf s c log
    → IsLineOf s c (Handed from m ∷ log)
line_handed s bases c log from m f h = grind (arith, head_handed, active, asking_handed)

pub line_submitted : (s : Setting) (c : ℕ) (log : Log) (n : ℕ) (txn : Txn) → contains (submits log) n ≡ false → n < 2 ^ 32 → FitsTxn s.catalogue txn
    → (is_for c (current_era s log).catalogue txn ≡ true → list_all (λ f. is_some (reads_at s.catalogue c f)) (read_set s.catalogue txn) ≡ true)
    → IsLineOf s c log → IsLineOf s c (Submits n txn ∷ log)
line_submitted s c log n txn fresh small fits covered h = record {
  in_queue = queue_submitted s.catalogue c (submits log) (current_era s log).catalogue n txn (queue s c log) fresh small fits covered h.in_queue;
  of_head = head_submitted c (current_era s log).catalogue n txn (queue s c log) (active s c log) h.of_head;
  asking = h.asking;
}

pub line_ticked : (s : Setting) (c : ℕ) (log : Log) (n : ℕ) → IsLineOf s c log → IsLineOf s c (Ticked n ∷ log)
line_ticked s c log n h = record { in_queue = h.in_queue; of_head = h.of_head; asking = h.asking }

pub line_redeclared : (s : Setting) (c : ℕ) (log : Log) (era : Era) (t : ℕ) → IsLineOf s c log → IsLineOf s c (Redeclared era t ∷ log)
line_redeclared s c log era t h = record { in_queue = h.in_queue; of_head = h.of_head; asking = h.asking }

-- a message of another class, or none of an exchange

-- a message that is no READ of the class and asks for no rows of it
pub record IsApart (c : ℕ) (m : Msg) : Type 0 where
  pub reads : (ts : ℕ) → is_read ts c m ≡ false
  pub asks : (ts : ℕ) → asks_rows ts c m ≡ false

pub sent_apart : (c : ℕ) (m : Msg) (o : Option Attempt) → IsApart c m → active_sent c m o ≡ o
sent_apart c m o h = grind arith

pub line_apart : (s : Setting) (c : ℕ) (log : Log) (to : Site) (m : Msg) (hand : Option ℕ) → IsApart c m → IsLineOf s c log
    → IsLineOf s c (Did (Sends to m hand) ∷ log)
line_apart s c log to m hand apart h = grind arith

other_class : (ts t k c : ℕ) → k ≢ c → ((t == ts) && (k == c)) ≡ false
other_class ts t k c h = and_right (t == ts) (k == c) (ne_eqb k c h)

-- rows of one class are asked for by that class alone
pub asks_apart : (ts k c : ℕ) (m : Msg) → asks_rows ts k m ≡ true → k ≢ c → IsApart c m
asks_apart ts k c m e h = grind arith

-- the records of another class

pub queue_apart : (c k : ℕ) (r : Rec) (sends : List (Site × Msg)) (qs : List Queued) → k ≢ c → queue_after c (Records k r sends) qs ≡ qs
queue_apart c k r sends qs h = grind arith

pub active_apart : (c k : ℕ) (r : Rec) (sends : List (Site × Msg)) (qs : List Queued) (o : Option Attempt) → k ≢ c → active_after c (Records k r sends) qs o ≡ o
active_apart c k r sends qs o h = grind arith

pub line_elsewhere : (s : Setting) (c k : ℕ) (log : Log) (r : Rec) (sends : List (Site × Msg)) → k ≢ c → ((ts : ℕ) → NoReads ts c sends) → IsLineOf s c log
    → IsLineOf s c (Did (Records k r sends) ∷ log)
line_elsewhere s c k log r sends apart none h = grind (arith, queue_apart, active_apart, asking_sends)

-- the next message of the exchange

send_is : (ms : List (ℕ × Msg)) (act : Act) → first_send ms ≡ Some act
    → (m : ℕ × Msg) × (rest : List (ℕ × Msg)) × (ms ≡ m ∷ rest) × (act ≡ Sends (D (dm_no m.0)) m.1 None)
send_is ms act e = grind arith

-- an act of an exchange: it asks for rows of its attempt
pub record IsRequest (c : ℕ) (a : Attempt) (act : Act) : Type 0 where
  pub to : ℕ
  pub msg : Msg
  pub act_is : act ≡ Sends (D (dm_no to)) msg None
  pub asks : asks_rows a.ts c msg ≡ true

pub request_of : (c : ℕ) (sent handed : List (Site × Msg)) (a : Attempt) (act : Act) → IsAsking c sent handed a → send_due a.exchange ≡ Some act
    → IsRequest c a act
request_of c sent handed a act h e = grind arith

line_requests : (s : Setting) (c : ℕ) (log : Log) (act : Act) (o : Option Attempt) (a : Attempt) → active s c log ≡ o → o ≡ Some a
    → send_due a.exchange ≡ Some act → IsLineOf s c log → IsLineOf s c (Did act ∷ log)
line_requests s c log act o a is here e h =
    let p = send_is a.exchange.to_send act e in
    let m = p.0 in
    rw p.3
    (record {
      in_queue = h.in_queue;
      of_head = head_sent c (queue s c log) m.1 (active s c log) h.of_head;
      asking = subst (λ x. IsAskingAt c ((D (dm_no m.0), m.1) ∷ sent log) (handed log) (active_sent c m.1 x)) (sym (is ∙ here))
          (asking_sent c (sent log) (handed log) a (D (dm_no m.0)) m p.1 p.2 (subst (IsAskingAt c (sent log) (handed log)) (is ∙ here) h.asking));
    })

pub line_sent : (s : Setting) (c : ℕ) (log : Log) (act : Act) (a : Attempt) → active s c log ≡ Some a → send_due a.exchange ≡ Some act → IsLineOf s c log
    → IsLineOf s c (Did act ∷ log)
line_sent s c log act a is e h = line_requests s c log act (active s c log) a refl is e h

-- the Commit

writes_no_reads : (cat : Catalogue) (c : ℕ) (a : Attempt) (changes : List Change) (ts k : ℕ) (dms : List ℕ)
    → NoReads ts k (filter_map (write_to cat c a changes) dms)
writes_no_reads cat c a changes ts k [] = tt
writes_no_reads cat c a changes ts k (d ∷ dms) = grind (arith, writes_no_reads cat c a changes ts k dms)

pub commit_no_reads : (cat : Catalogue) (bases : Bases) (c : ℕ) (a : Attempt) (ts k : ℕ) → NoReads ts k (sends_of_act (commit_act cat bases c a))
commit_no_reads cat bases c a ts k = writes_no_reads cat c a (effect cat (bases a.ts) a.text).changes ts k (numbers_to cat.dms)

pub own_class : {A : Type 0} (c : ℕ) (x y : A) → cond (c == c) x y ≡ x
own_class c x y = cond-true (c == c) x y (eq-eqb c c refl)

pub line_committed : (s : Setting) (bases : Bases) (c : ℕ) (log : Log) (a : Attempt) → IsLineOf s c log
    → IsLineOf s c (Did (commit_act s.catalogue bases c a) ∷ log)
line_committed s bases c log a h =
    let act : Act = commit_act s.catalogue bases c a in
    let none : active_after c act (queue s c log) (active s c log) ≡ None = own_class c None (active s c log) in
    record {
      in_queue = queue_did s.catalogue c (submits log) act (queue s c log) h.in_queue;
      of_head = subst (IsOfHead (queue_after c act (queue s c log))) (sym none) tt;
      asking = subst (IsAskingAt c (sends_of_act act ++ sent log) (handed log)) (sym none) tt;
    }

-- a Start

module _ (cat : Catalogue) (table : List line.Entry) (c : ℕ) (q : Queued) (uses : List Use) (own p2 : ℕ) where
  abbrev reads_of : List ℕ → List (Site × Msg)
  reads_of dms = map (read_to cat table c q uses own p2) dms

  are_reads : (all dms : List ℕ) → AllByRecursion (λ d. contains all d ≡ true) dms → AreReads (reads_of dms) all
  are_reads all [] h = tt
  are_reads all (d ∷ dms) h = ((d, refl, h.0), are_reads all dms h.1)

  reads_of_class : (ts k : ℕ) (dms : List ℕ) → c ≢ k → NoReads ts k (reads_of dms)
  reads_of_class ts k [] h = tt
  reads_of_class ts k (d ∷ dms) h = (other_class ts own c k h, reads_of_class ts k dms h)

  reads_up : (dms : List ℕ) → AllUpTo own (reads_of dms)
  reads_up [] = tt
  reads_up (d ∷ dms) = (omega arith, reads_up dms)

in_more : (x : ℕ) (all dms : List ℕ) → AllByRecursion (λ d. contains all d ≡ true) dms → AllByRecursion (λ d. contains (x ∷ all) d ≡ true) dms
in_more x all [] h = tt
in_more x all (d ∷ dms) h = (or_right (x == d) (contains all d) h.0, in_more x all dms h.1)

each_in : (dms : List ℕ) → AllByRecursion (λ d. contains dms d ≡ true) dms
each_in [] = tt
each_in (d ∷ dms) = (or_left (d == d) (contains dms d) (eq-eqb d d refl), in_more d dms dms (each_in dms))

pub start_no_reads : (cat : Catalogue) (table : List line.Entry) (c : ℕ) (k : Ticking) (q : Queued) (ts other : ℕ) → c ≢ other
    → NoReads ts other (sends_of_act (start_act cat table c k q))
start_no_reads cat table c k q ts other h =
    let uses : List Use = uses_of cat q.text in
    reads_of_class cat table c q uses (timestamp (ticked k 1)) (bound_of k) ts other (modules_of cat c (ascending (fragments_in uses))) h

pub start_is_up : (cat : Catalogue) (table : List line.Entry) (c : ℕ) (k : Ticking) (q : Queued)
    → AllUpTo (timestamp (ticked k 1)) (sends_of_act (start_act cat table c k q))
start_is_up cat table c k q = grind (arith, reads_up, ticked, ascending)

ticks_on : (k : Ticking) → timestamp k < timestamp (ticked k 1)
ticks_on k = omega arith

start_asking : (cat : Catalogue) (table : List line.Entry) (c : ℕ) (k : Ticking) (q : Queued) (sent handed : List (Site × Msg)) → AllUpTo (timestamp k) sent
    → IsAskingAt c (sends_of_act (start_act cat table c k q) ++ sent) handed (started (timestamp (ticked k 1)) (sends_of_act (start_act cat table c k q)) (Some q))
start_asking cat table c k q sent handed early =
    let uses : List Use = uses_of cat q.text in
    let dms : List ℕ = modules_of cat c (ascending (fragments_in uses)) in
    let own : ℕ = timestamp (ticked k 1) in
    let reads = reads_of cat table c q uses own (bound_of k) dms in
    asking_started (timestamp k) own c q reads sent handed (ticks_on k) early
    (subst (AreReads reads) (sym (modules_read cat table c q uses own (bound_of k) dms)) (are_reads cat table c q uses own (bound_of k) dms dms (each_in dms)))

pub line_started : (s : Setting) (table : List line.Entry) (c : ℕ) (log : Log) (q : Queued) (rest : List Queued) → queue s c log ≡ q ∷ rest → AreStamped s log
    → IsLineOf s c log → IsLineOf s c (Did (start_act s.catalogue table c (clock s.site log) q) ∷ log)
line_started s table c log q rest is stamped h =
    let act : Act = start_act s.catalogue table c (clock s.site log) q in
    let own : ℕ = timestamp (ticked (clock s.site log) 1) in
    let begun : Option Attempt = started own (sends_of_act act) (Some q) in
    let now : active_after c act (queue s c log) (active s c log) ≡ begun = grind (arith, nat_tests, own_class, started, sends_of_act, head_of, queue, active) in
    let tried_on : queue_after c act (queue s c log) ≡ map (tried q.number) (q ∷ rest) = grind (arith, nat_tests, own_class, tried, queue) in
    record {
      in_queue = queue_did s.catalogue c (submits log) act (queue s c log) h.in_queue;
      of_head = grind (arith, nat_tests, active_after, queue, active, tried, head_started, sends_of_act);
      asking = grind (arith, nat_tests, sends_of_act, sent, handed, start_asking, clock);
    }
