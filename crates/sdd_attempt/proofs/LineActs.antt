-- What the acts of an attempt leave of its line: what may start, and which rows serve.
use Rattle.sdd_attempt.proofs.All.{Act, AllByRecursion, AllUpTo, Attempt, Bases, Catalogue, IsAsking, IsAskingAt, IsLineOf, IsOfHead, IsServed, IsUpTo, IsWaiting, List, Log, Msg, None, Nothing, Option, Queued, Read, Rec, Records, Sends, ServesAt, Setting, Site, Some, [], active, active_sent, and_from, arith, asks_rows, contains, eq-eqb, false, false≢true, filter, handed, is_over, is_read, length, line_step, map, not, queue, refl, same_length, sent, starts_left, submits, subst, suc, sym, tried, true, ℕ, ◌==◌, ◌∙◌, ◌∷◌, ◌≡◌, ◌≤◌}
use Rattle.sdd_attempt.proofs.QuestionsOfAttempt.{NoReads}
use Rattle.sdd_attempt.proofs.Waiting.{fewer_committed}

-- what may start

-- a message of an exchange
pub starts_sent : (c : ℕ) (m : Msg) (o : Option Attempt) (queue : List Queued) → starts_left (active_sent c m o) queue ≡ starts_left o queue
starts_sent c m o queue = grind arith

-- a Start
pub starts_started : (n : ℕ) (a : Attempt) (q : Queued) (rest : List Queued)
    → suc (starts_left (Some a) (map (tried n) (q ∷ rest))) ≡ starts_left None (q ∷ rest)
starts_started n a q rest = omega (arith, same_length (tried n) rest)

-- a Commit
pub starts_committed : (a : Attempt) (queue : List Queued) → IsOfHead queue (Some a)
    → starts_left None (filter (λ q. not (q.number == a.txn)) queue) ≤ starts_left (Some a) queue
starts_committed a [] h = absurd cc
starts_committed a (q ∷ rest) h = let less =
    fewer_committed a.txn (q ∷ rest) (record { number = a.txn; text = a.text; tries = a.attempt }) h refl in
    omega arith

pub left_is_few : (o : Option Attempt) (queue : List Queued) → starts_left o queue ≤ length queue
left_is_few o queue = grind arith

-- the messages of an act

pub no_read_asked : (t ts c : ℕ) (m : Msg) → asks_rows ts c m ≡ true → IsUpTo t m
no_read_asked t ts c m e = grind arith

up_of_no_read : (t ts c : ℕ) (m : Msg) → ((ts c : ℕ) → is_read ts c m ≡ false) → IsUpTo t m
up_of_no_read t ts c (Read r class txn attempt conds uses) h =
    absurd (false≢true (sym (h r.0 class.0) ∙ and_from (r.0 == r.0) (class.0 == class.0) (eq-eqb r.0 r.0 refl) (eq-eqb class.0 class.0 refl)))
up_of_no_read t ts c _ h = tt

pub all_up_of : (t : ℕ) (ms : List (Site × Msg)) → ((ts c : ℕ) → NoReads ts c ms) → AllUpTo t ms
all_up_of t [] h = tt
all_up_of t (m ∷ ms) h = (up_of_no_read t 0 0 m.1 (λ ts c. (h ts c).0), all_up_of t ms (λ ts c. (h ts c).1))

-- the record of an act that makes one
abbrev pub record_in : Act → Rec
record_in (Records c r messages) = r
record_in (Sends to m hand) = Nothing

pub asking_of : (s : Setting) (log : Log) (c : ℕ) (a : Attempt) → IsLineOf s c log → active s c log ≡ Some a → IsAsking c (sent log) (handed log) a
asking_of s log c a h is = subst (IsAskingAt c (sent log) (handed log)) is h.asking

-- rows that serve

pub served_sent : (cat : Catalogue) (bases : Bases) (c : ℕ) (m : Msg) (o : Option Attempt) → IsServed cat bases o → IsServed cat bases (active_sent c m o)
served_sent cat bases c m o h = grind arith

-- an attempt between calls can't commit
pub resting : (cat : Catalogue) (bases : Bases) (o : Option Attempt) → line_step o ≡ None → IsServed cat bases o
resting cat bases o e = grind arith

-- one that commits has the rows
pub served_of : (cat : Catalogue) (bases : Bases) (o : Option Attempt) (a : Attempt) → o ≡ Some a
    → is_over a.exchange.phase ≡ true → IsServed cat bases o → ServesAt cat bases o
served_of cat bases o a e over h = grind arith

-- a number that is new isn't in a queue

not_among : (cat : Catalogue) (c n : ℕ) (given : List ℕ) (qs : List Queued) → AllByRecursion (IsWaiting cat c given) qs → contains given n ≡ false
    → contains (map (λ (q : Queued). q.number) qs) n ≡ false
not_among cat c n given [] h fresh = refl
not_among cat c n given (q ∷ qs) h fresh = grind (arith, not_among cat c n given qs h.1 fresh)

pub new_in_queue : (s : Setting) (log : Log) (c n : ℕ) → IsLineOf s c log → contains (submits log) n ≡ false
    → contains (map (λ (q : Queued). q.number) (queue s c log)) n ≡ false
new_in_queue s log c n h fresh = not_among s.catalogue c n (submits log) (queue s c log) h.in_queue.waiting fresh
