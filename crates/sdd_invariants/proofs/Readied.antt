-- Once an attempt awaits no READY any more, a READY for it was handed from each of its modules. It rests on this, that each
-- answer of an exchange comes after a question.
use Rattle.sdd_invariants.proofs.All.{Act, AllReadied, AreReady, Attempt, Bool, ClassNo, D, Did, DmNo, Each, Entry, Exchange, Handed, IsFair, IsHonest, IsSend, IsStep, List, Log, Msg, None, Option, Queued, Ready, Reduced, Rows, Sends, Setting, Site, Some, Submits, Ts, Values, [], active, active_handed, active_sent, after_hand, answered, ap, arith, asks_in, asks_rows, begins, both, commit_act, cond, contains, counted, counts, dm_no, eqb-true, false, filter_map, firsts, if◌then◌else◌, inl, inr, is_over, is_reading, is_ready, last_stamp, length, map, module_read, modules_asked, neither, next_stamp, not, or_left, or_right, refl, same_site, sends_of_act, site_d, stamp_or, start_at, start_read, started, subst, sym, true, was_asked, was_ready, with_values, without, ℕ, ◌&&◌, ◌++◌, ◌+◌, ◌==◌, ◌||◌, ◌∙◌, ◌∷◌, ◌≡◌, ◌≤◌, ◌⊎◌}
use Rattle.sdd_invariants.proofs.Clocks.{drawn, stamp_rises}
use Rattle.sdd_invariants.proofs.Active.{step_way}
use Rattle.sdd_invariants.proofs.Bools.{and_left, and_right, if_way, not_both, only_right, same_number, same_or_not}
use Rattle.sdd_invariants.proofs.Exchanges.{answered_goes, hand_goes, never}
use Rattle.sdd_invariants.proofs.Sites.{site_self}

either : (a b : Bool) → (a || b) ≡ true → (a ≡ true) ⊎ (b ≡ true)
either a b e = grind arith

-- whose question it is
pub asks_whose : (t k ts c : ℕ) (m : Msg) → asks_rows t k m ≡ true → asks_rows ts c m ≡ true → (t ≡ ts) × (k ≡ c)
asks_whose t k ts c m e f = grind (arith, eqb-true, and_left, and_right)

-- what a Start and a Commit put is no question
start_asks : (ts c : ℕ) (f : ℕ → Site × Msg) (dms : List ℕ) → ((d : ℕ) → asks_rows ts c (f d).1 ≡ false) → asks_in ts c (map f dms) ≡ false
start_asks ts c f [] h = refl
start_asks ts c f (d ∷ dms) h = neither (asks_rows ts c (f d).1) _ (h d) (start_asks ts c f dms h)

commit_asks : (ts c : ℕ) (f : ℕ → Option (Site × Msg)) (dms : List ℕ)
    → ((d : ℕ) (p : Site × Msg) → f d ≡ Some p → asks_rows ts c p.1 ≡ false) → asks_in ts c (filter_map f dms) ≡ false
commit_asks ts c f [] h = refl
commit_asks ts c f (d ∷ dms) h = grind (arith, asks_in, neither, commit_asks ts c f dms h)

asks_start : (s : Setting) (ts c k : ℕ) (log : Log) (q : Queued) → asks_in ts c (sends_of_act (start_at s k log q)) ≡ false
asks_start s ts c k log q = start_asks ts c (λ d. (D (dm_no d), start_read s k log q d)) (modules_asked s k q.text) (λ d. refl)

-- a question that is sent is of the active attempt of its class, and that reads no more
pub record IsAsker (s : Setting) (log : Log) (ts c : ℕ) : Type 0 where
  pub attempt : Attempt
  pub active_is : active s c log ≡ Some attempt
  pub ts_is : ts ≡ attempt.ts
  pub past : is_reading attempt.exchange.phase ≡ false

asker : (s : Setting) (log : Log) (ts c : ℕ) (m : Msg) → IsSend s log m → asks_rows ts c m ≡ true → IsAsker s log ts c
asker s log ts c m h6 f = grind (arith, asks_whose, not_both, asks_rows)

-- so no question has a timestamp that isn't drawn yet

asked_send : (s : Setting) (ts c : ℕ) (log : Log) (to : Site) (m : Msg) (hand : Option ℕ) → Each (IsFair s) log → IsSend s log m
    → (was_asked ts c log ≡ true → ts ≤ last_stamp s log) → (b : Bool) → asks_rows ts c m ≡ b
    → ((b || false) || was_asked ts c log) ≡ true → ts ≤ last_stamp s log
asked_send s ts c log to m hand fair i h true q w =
    let r = asker s log ts c m i q in
    omega (arith, (subst (λ o. stamp_or o ≤ last_stamp s log) r.active_is (drawn s log fair c)), r.ts_is)
asked_send s ts c log to m hand fair i h false q w = h w

asked_act : (s : Setting) (ts c : ℕ) (log : Log) (act : Act) → Each (IsFair s) log → IsStep s log act
    → (was_asked ts c log ≡ true → ts ≤ last_stamp s log) → was_asked ts c (Did act ∷ log) ≡ true → ts ≤ last_stamp s (Did act ∷ log)
asked_act s ts c log act fair i h =
    step_way s log act (λ x. was_asked ts c (Did x ∷ log) ≡ true → ts ≤ last_stamp s (Did x ∷ log))
    (grind (arith, was_asked, only_right, asks_in, sends_of_act, start_at, asks_start))
    (λ k bases a at f. λ w. h (only_right (asks_in ts c (sends_of_act (commit_act s.catalogue bases k a))) (was_asked ts c log) (grind (arith, commit_asks)) w))
    (λ to m hand f. λ w. asked_send s ts c log to m hand fair f h (asks_rows ts c m) refl w) i

asked_le : (s : Setting) (ts c : ℕ) (log : Log) → Each (IsFair s) log → was_asked ts c log ≡ true → ts ≤ last_stamp s log
asked_le s ts c [] h e = cc
asked_le s ts c (Submits n txn ∷ log) h e = asked_le s ts c log h.1 e
asked_le s ts c (Did act ∷ log) h e = asked_act s ts c log act h.1 h.0 (asked_le s ts c log h.1) e
asked_le s ts c (x ∷ log) h e = let l = asked_le s ts c log h.1 e in let r = stamp_rises s x log in omega arith

-- lists of modules
has_without : (ns : List ℕ) (n m : ℕ) → contains ns m ≡ true → (m == n) ≡ false → contains (without ns n) m ≡ true
has_without [] n m h e = cc
has_without (x ∷ ns) n m h e =
    elim (x == n) as (λ b. (x == n) ≡ b → contains (cond (not b) (x ∷ without ns n) (without ns n)) m ≡ true) [
      | true ↦ λ p. elim (either (x == m) (contains ns m) h) [
        | inl q ↦ (let r : (m == n) ≡ true = subst (λ y. (y == n) ≡ true) (eqb-true x m q) p in never (m == n) r e)
        | inr q ↦ has_without ns n m q e
      ]
      | false ↦ λ p. elim (either (x == m) (contains ns m) h) [
        | inl q ↦ or_left (x == m) _ q
        | inr q ↦ or_right (x == m) _ (has_without ns n m q e)
      ]
    ] refl

-- a module's READY
ready_ends : (ts c d : ℕ) (log : Log) (x y : Exchange) → y.modules ≡ x.modules → AreReady ts c log x
    → was_ready ts c (site_d d) log ≡ true → without x.lacks d ≡ [] → AreReady ts c log y
ready_ends ts c d log x y e h w z n p = elim (h n (subst (λ ms. contains (firsts ms) n ≡ true) e p)) [
  | inl r ↦ elim (same_or_not n d) [
    | inl q ↦ inr (subst (λ k. was_ready ts c (site_d k) log ≡ true) (sym q) w)
    | inr q ↦ (let v : contains (without x.lacks d) n ≡ true = has_without x.lacks d n r.0 q in let u : contains [] n ≡ true = subst (λ l. contains l n ≡ true) z v in cc)
  ]
  | inr r ↦ inr r
]

ready_more : (ts c : ℕ) (e : Entry) (log : Log) (x : Exchange)
    → ((d : Site) → was_ready ts c d log ≡ true → was_ready ts c d (e ∷ log) ≡ true) → AreReady ts c log x → AreReady ts c (e ∷ log) x
ready_more ts c e log x f h n p = elim (h n p) [ inl r ↦ inl r | inr r ↦ inr (f (site_d n) r) ]

handed_more : (ts c : ℕ) (from : Site) (m : Msg) (log : Log) (d : Site) → was_ready ts c d log ≡ true → was_ready ts c d (Handed from m ∷ log) ≡ true
handed_more ts c from m log d p = or_right (same_site d from && is_ready ts c m) (was_ready ts c d log) p

-- a hand from a module
is_past : (ts c : ℕ) (log : Log) (x : Exchange) → (is_reading x.phase ≡ true → was_asked ts c log ≡ false)
    → was_asked ts c log ≡ true → is_reading x.phase ≡ false
is_past ts c log x f e = grind (arith, never)

past_if : (ts c d : ℕ) (log : Log) (b : Bool) (x z : Exchange) → z.modules ≡ x.modules → (b ≡ true → is_reading x.phase ≡ false)
    → AreReady ts c log x → AreReady ts c log (if b then answered ts c d z else x)
past_if ts c d log b x z e f h = grind (arith, never, answered, answered_goes)

got_if : (ts c d : ℕ) (log : Log) (b : Bool) (x z : Exchange) → AreReady ts c log z → (b ≡ true → was_ready ts c (site_d d) log ≡ true) → AreReady ts c log x
    → AreReady ts c log (if b then answered ts c d z else x)
got_if ts c d log b x z h f k = grind (arith, ready_ends, same_or_not, has_without, without, answered_goes)

got_ready : (ts c : ℕ) (d : DmNo) (t : Ts) (k : ClassNo) (counts : List (ℕ × ℕ)) (log : Log) → ((t.0 == ts) && (k.0 == c)) ≡ true
    → was_ready ts c (site_d d.0) (Handed (D d) (Ready t k counts) ∷ log) ≡ true
got_ready ts c d t k counts log e = grind (arith, or_left, both, site_self)

ready_hand : (ts c : ℕ) (d : DmNo) (m : Msg) (log : Log) (x : Exchange) → IsHonest log (Handed (D d) m)
    → (is_reading x.phase ≡ true → was_asked ts c log ≡ false) → AreReady ts c log x → AreReady ts c (Handed (D d) m ∷ log) (after_hand ts c d.0 m x)
ready_hand ts c d (Ready t k counts) log x honest f h =
    let more = ready_more ts c (Handed (D d) (Ready t k counts)) log x (handed_more ts c (D d) (Ready t k counts) log) h in
    got_if ts c d.0 (Handed (D d) (Ready t k counts) ∷ log) ((t.0 == ts) && (k.0 == c)) x (record x { counts = counted d.0 counts x.counts }) more
    (got_ready ts c d t k counts log) more
ready_hand ts c d (Values t k u vs) log x honest f h =
    let more = ready_more ts c (Handed (D d) (Values t k u vs)) log x (handed_more ts c (D d) (Values t k u vs) log) h in
    past_if ts c d.0 (Handed (D d) (Values t k u vs) ∷ log) ((t.0 == ts) && (k.0 == c)) x
    (record x { union = with_values x.union vs; values = x.values + length vs }) refl (λ b. is_past ts c log x f (honest ts c b)) more
ready_hand ts c d (Reduced t k u n) log x honest f h =
    past_if ts c d.0 (Handed (D d) (Reduced t k u n) ∷ log) ((t.0 == ts) && (k.0 == c)) x (record x { counts = counted d.0 ((u, n) ∷ []) x.counts }) refl
    (λ b. is_past ts c log x f (honest ts c b)) (ready_more ts c (Handed (D d) (Reduced t k u n)) log x (handed_more ts c (D d) (Reduced t k u n) log) h)
ready_hand ts c d (Rows t k rows) log x honest f h =
    let more = ready_more ts c (Handed (D d) (Rows t k rows)) log x (handed_more ts c (D d) (Rows t k rows) log) h in
    past_if ts c d.0 (Handed (D d) (Rows t k rows) ∷ log) ((t.0 == ts) && (k.0 == c)) x (record x { found = x.found ++ rows; rows = x.rows + length rows }) refl
    (λ b. is_past ts c log x f (honest ts c b)) more
ready_hand ts c d m log x honest f h = ready_more ts c (Handed (D d) m) log x (handed_more ts c (D d) m log) h

readied_hand : (s : Setting) (c : ℕ) (from : Site) (m : Msg) (log : Log) (o : Option Attempt) → IsHonest log (Handed from m)
    → AllReadied s c log o → AllReadied s c (Handed from m ∷ log) (active_handed c from m o)
readied_hand s c from m log o honest h = grind (arith, hand_goes, if_way, ready_hand, never, ready_more, handed_more)

-- a Start
starts_with : (s : Setting) (k : ℕ) (log : Log) (q : Queued) (dms : List ℕ)
    → firsts (filter_map module_read (map (λ d. (D (dm_no d), start_read s k log q d)) dms)) ≡ dms
starts_with s k log q [] = refl
starts_with s k log q (d ∷ dms) = ap (λ l. d ∷ l) (starts_with s k log q dms)

empty_or : (ms : List (ℕ × List ℕ)) → (ms ≡ [] → ⊥) ⊎ (ms ≡ [])
empty_or [] = inr refl
empty_or (m ∷ ms) = inl (λ e. cc)

readied_start : (s : Setting) (c : ℕ) (log : Log) (q : Queued) → Each (IsFair s) log
    → AllReadied s c (Did (start_at s c log q) ∷ log) (started (next_stamp s log) (sends_of_act (start_at s c log q)) (Some q))
readied_start s c log q h =
    let ts : ℕ = next_stamp s log in
    let sends : List (Site × Msg) = sends_of_act (start_at s c log q) in
    record {
      modules_are = starts_with s c log q (modules_asked s c q.text);
      ready = grind (arith, start_at, filter_map, module_read, begins, empty_or);
      unasked = λ p. neither (asks_in ts c sends) (was_asked ts c log) (asks_start s ts c c log q) (grind (arith, asked_le));
    }

pub same_attempt : (s : Setting) (c : ℕ) (log : Log) (a b : Attempt) → active s c log ≡ Some a → active s c log ≡ Some b → b ≡ a
same_attempt s c log a b e f = let p : Some a ≡ Some b = sym e ∙ f in cc

readied_send : (s : Setting) (c : ℕ) (log : Log) (to : Site) (m : Msg) (hand : Option ℕ) (o : Option Attempt) → active s c log ≡ o
    → IsSend s log m → AllReadied s c log o → AllReadied s c (Did (Sends to m hand) ∷ log) (active_sent c m o)
readied_send s c log to m hand None e i h = tt
readied_send s c log to m hand (Some a) e i h = grind (arith, asker, same_attempt, never, if_way)

readied_act : (s : Setting) (c : ℕ) (log : Log) (act : Act) → Each (IsFair s) log → IsStep s log act
    → AllReadied s c log (active s c log) → AllReadied s c (Did act ∷ log) (active s c (Did act ∷ log))
readied_act s c log act fair i h = grind (arith, step_way, same_or_not, same_number, readied_start, neither, asks_start, commit_asks, readied_send)

same_readied : (s : Setting) (c : ℕ) (e : Entry) (log : Log) (o : Option Attempt) → ((ts : ℕ) → was_asked ts c (e ∷ log) ≡ was_asked ts c log)
    → ((ts : ℕ) (d : Site) → was_ready ts c d (e ∷ log) ≡ was_ready ts c d log) → AllReadied s c log o → AllReadied s c (e ∷ log) o
same_readied s c e log o f g h = grind (arith, ready_more)

pub readied : (s : Setting) (c : ℕ) (log : Log) → Each (IsFair s) log → Each IsHonest log → AllReadied s c log (active s c log)
readied s c [] h n = tt
readied s c (Handed from m ∷ log) h n = readied_hand s c from m log (active s c log) n.0 (readied s c log h.1 n.1)
readied s c (Did act ∷ log) h n = readied_act s c log act h.1 h.0 (readied s c log h.1 n.1)
readied s c (x ∷ log) h n = same_readied s c x log (active s c log) (λ ts. refl) (λ ts d. refl) (readied s c log h.1 n.1)

pub over_reads : (x : Exchange) → is_over x.phase ≡ true → is_reading x.phase ≡ false
over_reads x e = (grind arith)

pub all_ready : (s : Setting) (c : ℕ) (log : Log) (a : Attempt) (d : ℕ) → Each (IsFair s) log → Each IsHonest log
    → active s c log ≡ Some a → is_reading a.exchange.phase ≡ false → contains (modules_asked s c a.text) d ≡ true → was_ready a.ts c (site_d d) log ≡ true
all_ready s c log a d h n e f p = grind (arith, readied, never)
