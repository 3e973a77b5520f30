-- What an attempt asks, and what has answered it, after each entry of the log; and a READY comes only while it is awaited.
use Rattle.sdd_attempt.proofs.All.{AllByRecursion, AllUpTo, AnswersRead, Attempt, Awaits, AwaitsAt, Bases, Bool, D, DmNo, Exchange, FitsAnswer, FitsRows, IsAsking, IsAskingAt, IsModuleOf, List, Log, Msg, None, Option, Phase, Queued, ReadsWent, Ready, Reduced, Rows, Setting, Site, Some, Values, [], active, active_handed, active_sent, after_hand, after_send, and_from, and_parts, answered, arith, asks_rows, at_site, awaits_ready, begins, cond, cond-true, contains, counted, dm_no, eq-eqb, eqb-true, false, false≢true, fetches_use, filter_map, first_phase, handed, if◌then◌else◌, is_read, is_reading, is_shipping, is_verdict, length, list_any, map, modules_in, nat_tests, or_right, reduces_use, refl, sent, started, subst, sym, true, with_values, ℕ, ◌&&◌, ◌++◌, ◌+◌, ◌<◌, ◌==◌, ◌∙◌, ◌∷◌, ◌≡◌}
use Rattle.sdd_attempt.proofs.Phases.{with_counts, with_union, with_rows, modules_stay, AllAsk, asks_stay, others_awaited, fetching_not_reading, reducing_not_reading, shipping_not_reading}
use Rattle.sdd_attempt.proofs.Stamps.{no_read}

-- a READY is awaited

-- to a module to which a READ went
went : (ts c : ℕ) (modules : List ℕ) (d : DmNo) (ms : List (Site × Msg)) → ReadsWent ts c modules ms
    → list_any (at_site (D d) (is_read ts c)) ms ≡ true
    → contains modules d.0 ≡ true
went ts c modules d [] h e = cc
went ts c modules d (m ∷ ms) h e = grind (arith, nat_tests, at_site, went ts c modules d ms h.1)

pub ready_awaited : (log : Log) (c : ℕ) (a : Attempt) (d : DmNo) → IsAsking c (sent log) (handed log) a → AnswersRead log (D d) a.ts c
    → awaits_ready a.exchange d.0 ≡ true
ready_awaited log c a d h f = grind (arith, went)

-- what is handed

-- the answers of an attempt, to which the message adds that of its module
abbrev AllAnswered : ℕ → ℕ → List (Site × Msg) → Exchange → Type 0
AllAnswered ts c handed x = (e : ℕ) → contains (modules_in x) e ≡ true → awaits_ready x e ≡ false → list_any
    (at_site (D (dm_no e)) (is_verdict ts c)) handed ≡ true

by_now : (ts c : ℕ) (h : Site × Msg) (handed : List (Site × Msg)) (x : Exchange) → AllAnswered ts c handed x → AllAnswered ts c (h ∷ handed) x
by_now ts c h h4 x all e there w = grind (arith, or_right, list_any)

-- an answer in a later phase: no READY was awaited
later_answered : (ts c d : ℕ) (h : Site × Msg) (handed : List (Site × Msg)) (b : Bool) (x y : Exchange)
    → (cond b (answered ts c d y) x).modules ≡ x.modules
    → (b ≡ true → is_reading x.phase ≡ false) → AllAnswered ts c handed x → AllAnswered ts c (h ∷ handed) (cond b (answered ts c d y) x)
later_answered ts c d h handed b x y same phase all e there w = grind (arith, awaits_ready, modules_in, cond)

-- a READY: the others are awaited as before
ready_answered : (ts c d : ℕ) (h : Site × Msg) (handed : List (Site × Msg)) (b : Bool) (x y : Exchange)
    → (cond b (answered ts c d y) x).modules ≡ x.modules
    → y.phase ≡ x.phase → y.lacks ≡ x.lacks
    → (b ≡ true → at_site (D (dm_no d)) (is_verdict ts c) h ≡ true) → AllAnswered ts c handed x → AllAnswered ts c
    (h ∷ handed) (cond b (answered ts c d y) x)
ready_answered ts c d h handed b x y same phase lacks verdict all e there w = grind (arith, nat_tests, others_awaited, by_now)

-- what fits class k fits the attempt of class c, where they are the same
pub of_class : (s : Setting) (log : Log) (f : Phase → Bool) (from : Site) (ts k c : ℕ) (a : Attempt) → AwaitsAt f (active s k log) from ts → k ≡ c
    → active s c log ≡ Some a → Awaits f a from ts
of_class s log f from ts k c a h same is = subst (λ o. AwaitsAt f o from ts) is (subst (λ n. AwaitsAt f (active s n log) from ts) same h)

pub of_rows : (s : Setting) (bases : Bases) (log : Log) (from : Site) (ts : ℕ) (o : Option Attempt) (rows : List (ℕ × _)) → FitsRows s bases o from ts rows
    → AwaitsAt is_shipping o from ts
of_rows s bases log from ts o rows h = grind arith

verdict_of : (d ts t c k : ℕ) → ((t == ts) && (k == c)) ≡ true → ((d == d) && ((t == ts) && (k == c))) ≡ true
verdict_of d ts t c k h = and_from (d == d) ((t == ts) && (k == c)) (eq-eqb d d refl) h

answers_now : (s : Setting) (bases : Bases) (log : Log) (c : ℕ) (d : DmNo) (m : Msg) (a : Attempt)
    → active s c log ≡ Some a → FitsAnswer s bases log (D d) m
    → AllAnswered a.ts c (handed log) a.exchange → AllAnswered a.ts c ((D d, m) ∷ handed log) (after_hand a.ts c d.0 m a.exchange)
answers_now s bases log c d (Ready t k counts) a is f all =
    ready_answered a.ts c d.0 (D d, Ready t k counts) (handed log) ((t.0 == a.ts) && (k.0 == c)) a.exchange
    (with_counts a.exchange (counted d.0 counts a.exchange.counts)) (modules_stay a.ts c d.0 (Ready t k counts) a.exchange) refl refl
    (verdict_of d.0 a.ts t.0 c k.0) all
answers_now s bases log c d (Values t k u values) a is f all =
    later_answered a.ts c d.0 (D d, Values t k u values) (handed log) ((t.0 == a.ts) && (k.0 == c)) a.exchange
    (with_union a.exchange (with_values a.exchange.union values) (a.exchange.values + length values)) (modules_stay a.ts c d.0 (Values t k u values) a.exchange)
    (λ e. fetching_not_reading u a.exchange.phase
    (of_class s log (fetches_use u) (D d) t.0 k.0 c a f (eqb-true k.0 c (and_parts (t.0 == a.ts) (k.0 == c) e).1) is).phase) all
answers_now s bases log c d (Reduced t k u n) a is f all =
    later_answered a.ts c d.0 (D d, Reduced t k u n) (handed log) ((t.0 == a.ts) && (k.0 == c)) a.exchange
    (with_counts a.exchange (counted d.0 ((u, n) ∷ []) a.exchange.counts)) (modules_stay a.ts c d.0 (Reduced t k u n) a.exchange)
    (λ e. reducing_not_reading u a.exchange.phase
    (of_class s log (reduces_use u) (D d) t.0 k.0 c a f (eqb-true k.0 c (and_parts (t.0 == a.ts) (k.0 == c) e).1) is).phase) all
answers_now s bases log c d (Rows t k rows) a is f all = grind (arith, nat_tests, later_answered, handed, with_rows, modules_stay, shipping_not_reading, of_class, is_shipping, of_rows, active, eqb-true, and_parts)
answers_now s bases log c d m a is f all = by_now a.ts c (D d, m) (handed log) a.exchange all

asking_now : (s : Setting) (bases : Bases) (log : Log) (c : ℕ) (d : DmNo) (m : Msg) (a : Attempt)
    → active s c log ≡ Some a → FitsAnswer s bases log (D d) m
    → IsAsking c (sent log) (handed log) a → (b : Bool)
    → IsAskingAt c (sent log) ((D d, m) ∷ handed log) (if b then None else Some (record a { exchange = after_hand a.ts c d.0 m a.exchange }))
asking_now s bases log c d m a is f h b = grind (arith, asks_stay, modules_stay, answers_now)

asking_still : (c : ℕ) (sent handed : List (Site × Msg)) (h : Site × Msg) (o : Option Attempt)
    → IsAskingAt c sent handed o → IsAskingAt c sent (h ∷ handed) o
asking_still c h2 h3 h o k = grind (arith, by_now)

pub asking_handed : (s : Setting) (bases : Bases) (log : Log) (c : ℕ) (from : Site) (m : Msg) → FitsAnswer s bases log from m
    → IsAskingAt c (sent log) (handed log) (active s c log) → IsAskingAt c (sent log) ((from, m) ∷ handed log) (active_handed c from m (active s c log))
asking_handed s bases log c from m f h = grind (arith, asking_now, asking_still)

-- what is sent

-- none of these is a READ of the attempt
abbrev pub NoReads : ℕ → ℕ → List (Site × Msg) → Type 0
NoReads ts c ms = AllByRecursion (λ m. is_read ts c m.1 ≡ false) ms

pub reads_more : (ts c : ℕ) (modules : List ℕ) (ms sent : List (Site × Msg)) → NoReads ts c ms → ReadsWent ts c modules sent
    → ReadsWent ts c modules (ms ++ sent)
reads_more ts c modules [] sent none h = h
reads_more ts c modules (m ∷ ms) sent none h = (λ e. absurd (false≢true (sym none.0 ∙ e)), reads_more ts c modules ms sent none.1 h)

asks_no_read : (ts c r k : ℕ) (m : Msg) → asks_rows ts c m ≡ true → is_read r k m ≡ false
asks_no_read ts c r k m e = grind arith

pub asking_sends : (c : ℕ) (ms sent handed : List (Site × Msg)) (o : Option Attempt) → ((ts : ℕ) → NoReads ts c ms) → IsAskingAt c sent handed o
    → IsAskingAt c (ms ++ sent) handed o
asking_sends c ms sent handed None none h = tt
asking_sends c ms sent handed (Some a) none h = grind (arith, nat_tests, reads_more, modules_in, sent, answered)

pub asking_sent : (c : ℕ) (sent handed : List (Site × Msg)) (a : Attempt) (to : Site) (m : ℕ × Msg) (ms : List (ℕ × Msg)) → a.exchange.to_send ≡ m ∷ ms
    → IsAsking c sent handed a → IsAskingAt c ((to, m.1) ∷ sent) handed (active_sent c m.1 (Some a))
asking_sent c sent handed a to m ms e h =
    let all : AllAsk a.ts c (m ∷ ms) = subst (AllAsk a.ts c) e h.asks in
    let now : active_sent c m.1 (Some a) ≡ Some (record a { exchange = after_send a.exchange }) = cond-true (asks_rows a.ts c m.1)
    (Some (record a { exchange = after_send a.exchange })) (Some a) all.0 in
    subst (IsAskingAt c ((to, m.1) ∷ sent) handed) (sym now)
    (record {
      asks = rw e all.1;
      reads = reads_more a.ts c (modules_in a.exchange) ((to, m.1) ∷ []) sent (asks_no_read a.ts c a.ts c m.1 all.0, tt) h.reads;
      answered = h.answered;
    })

-- a Start

early_reads : (t ts c : ℕ) (modules : List ℕ) (ms : List (Site × Msg)) → t < ts → AllUpTo t ms → ReadsWent ts c modules ms
early_reads t ts c modules [] l h = tt
early_reads t ts c modules (m ∷ ms) l h = (λ e. absurd (false≢true (sym (no_read t ts c m.1 l h.0) ∙ e)), early_reads t ts c modules ms l h.1)

reads_both : (ts c : ℕ) (modules : List ℕ) (ms ns : List (Site × Msg)) → ReadsWent ts c modules ms → ReadsWent ts c modules ns
    → ReadsWent ts c modules (ms ++ ns)
reads_both ts c modules [] ns h k = k
reads_both ts c modules (m ∷ ms) ns h k = (h.0, reads_both ts c modules ms ns h.1 k)

-- READs to modules
abbrev pub AreReads : List (Site × Msg) → List ℕ → Type 0
AreReads sends dms = AllByRecursion (λ m. (d : ℕ) × (m.0 ≡ D (dm_no d)) × (contains dms d ≡ true)) sends

reads_to : (ts c : ℕ) (dms : List ℕ) (sends : List (Site × Msg)) → AreReads sends dms → ReadsWent ts c dms sends
reads_to ts c dms [] h = tt
reads_to ts c dms (m ∷ sends) h = (λ e. subst (IsModuleOf dms) (sym h.0.1) h.0.2, reads_to ts c dms sends h.1)

all_awaited : (ms : List (ℕ × List ℕ)) (e : ℕ) → contains (map (λ m. m.0) ms) e ≡ true
    → (is_reading (first_phase ms) && contains (map (λ m. m.0) ms) e) ≡ true
all_awaited ms e h = grind arith

pub asking_started : (t ts c : ℕ) (q : Queued) (sends sent handed : List (Site × Msg)) → t < ts → AllUpTo t sent
    → AreReads sends (modules_in (begins q.text sends)) → IsAskingAt c (sends ++ sent) handed (started ts sends (Some q))
asking_started t ts c q sends h6 h7 l early reads = grind (arith, reads_both, reads_to, early_reads, all_awaited, filter_map)
