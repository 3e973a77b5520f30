-- A site that makes attempts asks in turn, where each answer that is handed to it comes in turn.
use Rattle.sdd_obligations.proofs.All.{Act, Asks, Attempt, Bases, Bool, D, Did, Each, Handed, IsFair, IsSend, IsStep, IsStrict, List, MayAsk, Msg, None, Option, Phase, Queued, Reading, Sends, Setting, Silent, Site, Some, Turn, [], active, active_sent, after_send, and_left, and_no, ap, arith, ascending, asked_by, asks_rows, asks_whose, begins, commit_act, commit_puts, cond, contains, differ, dm_no, drawn_at, eqb-true, false, first_phase, fragments_in, head_of, if_way, if◌then◌else◌, inl, inr, is_a_read, is_exchanging, is_over, is_question, last_stamp, modules_asked, next_stamp, not_both, not_true as asks_not, one_attempt, own_started, questions, queue, refl, same_number, same_or_not, same_site, sends_of_act, site_is, stamp_below_next, stamp_rises, start_at, start_read, started, step_way_over, strict_modules, subst, sym, tail_of, to_site, true, turn_after_question, turn_at, uses_by, uses_in, uses_of, ℕ, ◌&&◌, ◌<◌, ◌==◌, ◌∙◌, ◌∷◌, ◌≡◌, ◌⊎◌}
use Rattle.sdd_obligations.proofs.AtTurn.{IsAt, IsAtTurn, answered_last, apart, awaited, awaits, unsent}
use Rattle.sdd_obligations.proofs.FirstSends.{IsFirstEach, IsFirstSend}
use Rattle.sdd_obligations.proofs.Modules.{firsts, read_firsts, read_modules, read_uses, sent_to_each, to_module, below_not as not_below}
use Rattle.sdd_obligations.proofs.HandedAnswersKeepTurns.{AllAtTurn, AtTurn, InTurn, IsStrictOf, IsTimely, Turns, asked_one, in_turn_hand, quiet_but, quiet_over, turns_now}
use Rattle.sdd_obligations.proofs.Replying.{asks_no_a_read as asks_no_read}
use Rattle.sdd_obligations.proofs.Stages.{nothing as nothing_there}
use Rattle.sdd_invariants.specs.site_module.SiteLog.{Log}

-- a send

pub asks_is_question : (t k ts c : ℕ) (m : Msg) → asks_rows t k m ≡ true → is_question ts c m ≡ asks_rows ts c m
asks_is_question t k ts c m e = grind arith

pub send_is_question : (s : Setting) (log : Log) (ts c : ℕ) (m : Msg) → IsSend s log m → is_question ts c m ≡ asks_rows ts c m
send_is_question s log ts c m e = grind (arith, asks_is_question)

-- the turns after a question to a site
abbrev after_question : ℕ → Site → Msg → Turns → Turns
after_question c to m v ts d = if same_site (D (dm_no d)) to && asks_rows ts c m then turn_after_question m (v ts d) else v ts d

cons_is : (m n : Msg) (ms ns : List Msg) → m ∷ ms ≡ n ∷ ns → (m ≡ n) × (ms ≡ ns)
cons_is m n ms ns e = (cc, cc)

-- the first message is sent
sent_at : (n d : ℕ) (m : Msg) (rest : List (ℕ × Msg)) (ms : List (ℕ × List ℕ)) (p : Phase) (lacks : List ℕ) (v : Turn) (b : Bool)
    → is_a_read m ≡ false → (d == n) ≡ b → IsAt d ms p ((n, m) ∷ rest) lacks v → IsAt d ms p rest lacks (if b then turn_after_question m v else v)
sent_at n d m rest ms p lacks v true r z (unsent q x ns a i e s u w f g) =
    let k = cons_is m q (to_module d rest) [] (subst (λ (b : Bool). (if b then m ∷ to_module d rest else to_module d rest) ≡ q ∷ []) z a) in
    awaited m ns k.1 i (ap (λ l. Asks l m) ((grind arith) ∙ ap uses_in e)) (subst (λ y. awaits p y ≡ true) (sym k.0) w) f g
sent_at n d m rest ms p lacks v true r z (awaited q ns a i e w f g) = grind (arith, nothing_there, to_module)
sent_at n d m rest ms p lacks v true r z (answered_last q ns a i e s f g) =
    nothing_there m (to_module d rest) (subst (λ (b : Bool). (if b then m ∷ to_module d rest else to_module d rest) ≡ []) z a)
sent_at n d m rest ms p lacks v true r z (apart a i e g) =
    nothing_there m (to_module d rest) (subst (λ (b : Bool). (if b then m ∷ to_module d rest else to_module d rest) ≡ []) z a)
sent_at n d m rest ms p lacks v false r z (unsent q x ns a i e s u w f g) =
    unsent q x ns (subst (λ (b : Bool). (if b then m ∷ to_module d rest else to_module d rest) ≡ q ∷ []) z a) i e s u w f g
sent_at n d m rest ms p lacks v false r z (awaited q ns a i e w f g) =
    awaited q ns (subst (λ (b : Bool). (if b then m ∷ to_module d rest else to_module d rest) ≡ []) z a) i e w f g
sent_at n d m rest ms p lacks v false r z (answered_last q ns a i e s f g) =
    answered_last q ns (subst (λ (b : Bool). (if b then m ∷ to_module d rest else to_module d rest) ≡ []) z a) i e s f g
sent_at n d m rest ms p lacks v false r z (apart a i e g) = apart (subst (λ (b : Bool). (if b then m ∷ to_module d rest else to_module d rest) ≡ []) z a) i e g

-- where no question is sent
not_asked_turn : (c : ℕ) (to : Site) (m : Msg) (v : Turns) (ts d : ℕ) → asks_rows ts c m ≡ false → after_question c to m v ts d ≡ v ts d
not_asked_turn c to m v ts d e = grind arith

pub and_true : (b : Bool) (x y : Turn) → (if b && true then x else y) ≡ (if b then x else y)
and_true b x y = grind arith

asked_own : (s : Setting) (c : ℕ) (log : Log) (to : Site) (m : Msg) (hand : Option ℕ) (a : Attempt) (v : Turns) (ts d : ℕ)
    → IsFirstSend s log (Sends to m hand) → active s c log ≡ Some a → AllAtTurn (Some a) v → asks_rows a.ts c m ≡ true
    → IsAtTurn d (after_send a.exchange) (after_question c to m v a.ts d)
asked_own s c log to m hand a v ts d first e h q =
    let f = first a.ts c q in
    let same : f.attempt ≡ a = one_attempt s c log a f.attempt e f.active_is in
    let sends : a.exchange.to_send ≡ (f.module_no, m) ∷ f.rest = subst (λ (y : Attempt). y.exchange.to_send ≡ (f.module_no, m) ∷ f.rest) same f.first in
    let at : IsAt d a.exchange.modules a.exchange.phase ((f.module_no, m) ∷ f.rest) a.exchange.lacks
    (v a.ts d) = subst (λ l. IsAt d a.exchange.modules a.exchange.phase l a.exchange.lacks (v a.ts d))
    sends ((h a.ts d).0 refl) in
    let now = sent_at f.module_no d m f.rest a.exchange.modules a.exchange.phase a.exchange.lacks (v a.ts d)
    (d == f.module_no) (asks_no_read a.ts c m q) refl at in
    let turn_is : (if d == f.module_no then turn_after_question m (v a.ts d) else v a.ts d) ≡ after_question c to m v a.ts d =
    sym (grind (arith, same_site, dm_no, asks_rows, turn_after_question, and_true)) in
    subst (λ l. IsAt d a.exchange.modules a.exchange.phase l a.exchange.lacks (after_question c to m v a.ts d)) (sym (ap tail_of sends))
    (subst (λ w. IsAt d a.exchange.modules a.exchange.phase f.rest a.exchange.lacks w) turn_is now)

sent_turns : (s : Setting) (c : ℕ) (log : Log) (to : Site) (m : Msg) (hand : Option ℕ) (o : Option Attempt) (v : Turns)
    → IsFirstSend s log (Sends to m hand) → active s c log ≡ o → AllAtTurn o v → AllAtTurn (active_sent c m o) (after_question c to m v)
sent_turns s c log to m hand None v first i h = grind (arith, not_asked_turn)
sent_turns s c log to m hand (Some a) v first i h =
    elim (asks_rows a.ts c m) as (λ b. asks_rows a.ts c m ≡ b
    → AllAtTurn (if b then Some (record a { exchange = after_send a.exchange }) else Some a)
    (after_question c to m v)) [
      | true ↦ λ q ts d. (
        λ p. subst (λ t. IsAtTurn d (after_send a.exchange) (after_question c to m v t d)) p (asked_own s c log to m hand a v a.ts d first i h q),
        λ p. (let r : asks_rows ts c m ≡ false = asks_not (asks_rows ts c m) (λ e. differ a.ts ts p (asks_whose a.ts c ts c m q e).0) in
            subst (λ w. is_exchanging w ≡ false) (sym (not_asked_turn c to m v ts d r)) ((h ts d).1 p)),
      )
      | false ↦ λ q ts d.
          (let r : asks_rows ts c m ≡ false = asks_not (asks_rows ts c m) (grind (arith, one_attempt, not_both, asks_rows)) in
          subst (AtTurn ts d (Some a)) (sym (not_asked_turn c to m v ts d r)) (h ts d))
    ] refl

in_turn_send : (s : Setting) (c : ℕ) (log : Log) (to : Site) (m : Msg) (hand : Option ℕ) → Each (IsFair s) log
    → IsFirstSend s log (Sends to m hand) → IsSend s log m → InTurn s c log → InTurn s c (Did (Sends to m hand) ∷ log)
in_turn_send s c log to m hand fair first i h = record {
  turns = turns_now (active_sent c m (active s c log)) (after_question c to m (λ ts d. turn_at ts c d log))
      (λ ts d. turn_at ts c d (Did (Sends to m hand) ∷ log))
      (λ ts d. (grind (arith, asked_one, turn_at, send_is_question))) (sent_turns s c log to m hand (active s c log) (λ ts d. turn_at ts c d log) first refl h.turns);
  fresh = grind (arith, asked_one, send_is_question, not_asked_turn, turn_at, drawn_at);
  strict = (grind (arith, if_way));
}

-- a Start

pub strict_asked : (s : Setting) (k : ℕ) (q : Queued) → IsStrict (modules_asked s k q.text)
strict_asked s k q = strict_modules s.catalogue k (ascending (fragments_in (uses_of s.catalogue q.text)))

abbrev after_start : Setting → ℕ → Log → Queued → ℕ → Turns → Turns
after_start s k log q c v ts d =
    if contains (modules_asked s k q.text) d && ((next_stamp s log == ts) && (k == c)) then turn_after_question (start_read s k log q d) (v ts d) else v ts d

start_turn : (s : Setting) (k : ℕ) (log : Log) (q : Queued) (c ts d : ℕ)
    → turn_at ts c d (Did (start_at s k log q) ∷ log) ≡ after_start s k log q c (λ ts d. turn_at ts c d log) ts d
start_turn s k log q c ts d =
    ap (λ l. asked_by (questions ts c l) (turn_at ts c d log)) (sent_to_each (start_read s k log q) (modules_asked s k q.text) d (strict_asked s k q))
    ∙ asked_one ts c (contains (modules_asked s k q.text) d) (start_read s k log q d) (turn_at ts c d log)

not_started_turn : (s : Setting) (k : ℕ) (log : Log) (q : Queued) (c ts d : ℕ) (v : Turns) → ((next_stamp s log == ts) && (k == c)) ≡ false
    → after_start s k log q c v ts d ≡ v ts d
not_started_turn s k log q c ts d v e = grind arith

first_reading : (ms : List (ℕ × List ℕ)) (d : ℕ) → contains (firsts ms) d ≡ true → first_phase ms ≡ Reading
first_reading ms d e = grind arith

abbrev start_numbers : Setting → ℕ → Log → Queued → ℕ → List ℕ
start_numbers s k log q d = uses_by (start_read s k log q d) []

start_keeps_turn : (s : Setting) (k : ℕ) (log : Log) (q : Queued) (d : ℕ) (v : Turns) → v (next_stamp s log) d ≡ Silent
    → IsAtTurn d (begins q.text (sends_of_act (start_at s k log q))) (after_start s k log q k v (next_stamp s log) d)
start_keeps_turn s k log q d v e =
    let n : ℕ = next_stamp s log in
    let dms : List ℕ = modules_asked s k q.text in
    let f : ℕ → Msg = start_read s k log q in
    let ms : List (ℕ × List ℕ) = read_modules f dms in
    let all : firsts ms ≡ dms = read_firsts f (start_numbers s k log q) dms (λ x. refl) in
    let own : after_start s k log q k v n d ≡ (if contains dms d then turn_after_question (f d) (v n d) else v n d) =
    ap (λ (b : Bool). if contains dms d && b then turn_after_question (f d) (v n d) else v n d) (own_started n k)
    ∙ and_true (contains dms d) (turn_after_question (f d) (v n d)) (v n d) in
    elim (contains dms d) as (λ b. contains dms d ≡ b → IsAtTurn d (begins q.text (sends_of_act (start_at s k log q))) (after_start s k log q k v n d)) [
      | true ↦ λ b.
          let here : contains (firsts ms) d ≡ true = ap (λ l. contains l d) all ∙ b in
          awaited (f d) (start_numbers s k log q d) refl here (own ∙ ap (λ (x : Bool). if x then turn_after_question (f d) (v n d) else v n d) b)
          (subst (λ p. awaits p (f d) ≡ true) (sym (first_reading ms d here)) refl)
          (read_uses f (start_numbers s k log q) dms d (λ x. refl) (strict_asked s k q) b) here
      | false ↦ grind (arith, contains, firsts, apart, turn_after_question)
    ] refl

start_turns : (s : Setting) (k : ℕ) (log : Log) (q : Queued) (v : Turns) → ((d : ℕ) → v (next_stamp s log) d ≡ Silent) → AllAtTurn None v
    → AllAtTurn (started (next_stamp s log) (sends_of_act (start_at s k log q)) (Some q)) (after_start s k log q k v)
start_turns s k log q v e h ts d = (
  λ p. subst (λ t. IsAtTurn d (begins q.text (sends_of_act (start_at s k log q))) (after_start s k log q k v t d)) p (start_keeps_turn s k log q d v (e d)),
  λ p. (grind (arith, next_stamp, is_exchanging, not_started_turn)),
)

start_fresh : (s : Setting) (k : ℕ) (log : Log) (q : Queued) (c ts d : ℕ) → InTurn s c log → next_stamp s log < ts
    → turn_at ts c d (Did (start_at s k log q) ∷ log) ≡ Silent
start_fresh s k log q c ts d h l =
    start_turn s k log q c ts d ∙ not_started_turn s k log q c ts d (λ ts d. turn_at ts c d log) (ap (λ b. b && (k == c)) (not_below (next_stamp s log) ts l))
    ∙ h.fresh ts d (let b = stamp_below_next s log in omega (arith, l, b))

active_started : (s : Setting) (k : ℕ) (log : Log) (q : Queued) → head_of (queue s k log) ≡ Some q
    → active s k (Did (start_at s k log q) ∷ log) ≡ started (next_stamp s log) (sends_of_act (start_at s k log q)) (Some q)
active_started s k log q e = rw (same_number k) (ap (started (next_stamp s log) (sends_of_act (start_at s k log q))) e)

in_turn_start : (s : Setting) (k : ℕ) (log : Log) (q : Queued) → active s k log ≡ None → head_of (queue s k log) ≡ Some q
    → InTurn s k log → InTurn s k (Did (start_at s k log q) ∷ log)
in_turn_start s k log q f e h = record {
  turns = subst (λ o. AllAtTurn o (λ ts d. turn_at ts k d (Did (start_at s k log q) ∷ log))) (sym (active_started s k log q e))
      (turns_now (started (next_stamp s log) (sends_of_act (start_at s k log q)) (Some q))
      (after_start s k log q k (λ ts d. turn_at ts k d log)) (λ ts d. turn_at ts k d (Did (start_at s k log q) ∷ log))
      (λ ts d. start_turn s k log q k ts d) (start_turns s k log q (λ ts d. turn_at ts k d log)
      (λ d. h.fresh (next_stamp s log) d (stamp_below_next s log)) (subst (λ o. AllAtTurn o (λ ts d. turn_at ts k d log)) f h.turns)));
  fresh = λ ts d l. start_fresh s k log q k ts d h l;
  strict = subst IsStrictOf (sym (active_started s k log q e))
      (subst IsStrict (sym (read_firsts (start_read s k log q) (start_numbers s k log q) (modules_asked s k q.text)
      (λ x. refl))) (strict_asked s k q));
}

-- an act of another class

in_turn_other : (s : Setting) (k c : ℕ) (log : Log) (q : Queued) → (k == c) ≡ false → InTurn s c log → InTurn s c (Did (start_at s k log q) ∷ log)
in_turn_other s k c log q p h =
    let same : active s c (Did (start_at s k log q) ∷ log) ≡ active s c log = rw p refl in
    let r : (ts : ℕ) → ((next_stamp s log == ts) && (k == c)) ≡ false = λ ts. ap (λ b. (next_stamp s log == ts) && b) p ∙ and_no (next_stamp s log == ts) in
    record {
      turns = subst (λ o. AllAtTurn o (λ ts d. turn_at ts c d (Did (start_at s k log q) ∷ log))) (sym same)
          (turns_now (active s c log) (λ ts d. turn_at ts c d log)
          (λ ts d. turn_at ts c d (Did (start_at s k log q) ∷ log)) (λ ts d. start_turn s k log q c ts d
          ∙ not_started_turn s k log q c ts d (λ ts d. turn_at ts c d log) (r ts)) h.turns);
      fresh = λ ts d l. start_fresh s k log q c ts d h l;
      strict = subst IsStrictOf (sym same) h.strict;
    }

-- a Commit

commit_of : (s : Setting) (k c : ℕ) (bases : Bases) (a : Attempt) (log : Log) (o : Option Attempt)
    → active s c (Did (commit_act s.catalogue bases k a) ∷ log) ≡ o → AllAtTurn o (λ ts d. turn_at ts c d log) → IsStrictOf o
    → ((ts d : ℕ) → last_stamp s log < ts → turn_at ts c d log ≡ Silent) → InTurn s c (Did (commit_act s.catalogue bases k a) ∷ log)
commit_of s k c bases a log o e h strict fresh = grind (arith, turn_at, turns_now, commit_puts, asked_by)

over_turns : (a : Attempt) (v : Turns) → is_over a.exchange.phase ≡ true → AllAtTurn (Some a) v → AllAtTurn None v
over_turns a v e h ts d = quiet_but a v ts d h (λ i. quiet_over d a.exchange (v ts d) e i)

in_turn_act : (s : Setting) (c : ℕ) (log : Log) (act : Act) → Each (IsFair s) log → IsStep s log act → IsFirstSend s log act
    → InTurn s c log → InTurn s c (Did act ∷ log)
in_turn_act s c log act fair i first h = step_way_over s log act (λ x. IsFirstSend s log x → InTurn s c (Did x ∷ log))
    (λ k q at f e. λ first. elim (same_or_not k c) [
      | inl p ↦ subst (λ j. InTurn s j (Did (start_at s k log q) ∷ log)) p (in_turn_start s k log q f e (subst (λ j. InTurn s j log) (sym p) h))
      | inr p ↦ in_turn_other s k c log q p h
    ])
    (λ k bases a at f o. λ first. elim (same_or_not k c) [
      | inl p ↦ subst (λ j. InTurn s j (Did (commit_act s.catalogue bases k a) ∷ log)) p
          (let own : InTurn s k log = subst (λ j. InTurn s j log) (sym p) h in
          commit_of s k k bases a log None (rw (same_number k) refl)
          (over_turns a (λ ts d. turn_at ts k d log) o (subst (λ o. AllAtTurn o (λ ts d. turn_at ts k d log)) f own.turns)) tt own.fresh)
      | inr p ↦ commit_of s k c bases a log (active s c log) (rw p refl) h.turns h.strict h.fresh
    ]) (λ to m hand f. λ first. in_turn_send s c log to m hand fair first f h) i first

pub in_turn : (s : Setting) (c : ℕ) (log : Log) → Each (IsFair s) log → Each (IsFirstEach s) log → Each (IsTimely c) log → InTurn s c log
in_turn s c [] fair first timely = record { turns = λ ts d. refl; fresh = λ ts d l. refl; strict = tt }
in_turn s c (Handed from m ∷ log) fair first timely = in_turn_hand s c log from m timely.0 (in_turn s c log fair.1 first.1 timely.1)
in_turn s c (Did act ∷ log) fair first timely = in_turn_act s c log act fair.1 fair.0 first.0 (in_turn s c log fair.1 first.1 timely.1)
in_turn s c (x ∷ log) fair first timely = grind (arith, stamp_rises, in_turn s c log fair.1 first.1 timely.1)

-- what the site puts is asked in turn

abbrev pub IsInTurn : Turn → List Msg → Type 0
IsInTurn v ms = (ms ≡ []) ⊎ ((m : Msg) × (ms ≡ m ∷ []) × MayAsk v m)

one_in_turn : (v : Turn) (ms : List Msg) (b x : Bool) (m : Msg) → ms ≡ (if b && x then m ∷ [] else []) → (b ≡ true → x ≡ true → MayAsk v m) → IsInTurn v ms
one_in_turn v ms b x m e f = grind arith

may_sent : (s : Setting) (c : ℕ) (log : Log) (to : Site) (m : Msg) (hand : Option ℕ) (ts d : ℕ) → IsFirstSend s log (Sends to m hand)
    → InTurn s c log → same_site (D (dm_no d)) to ≡ true → asks_rows ts c m ≡ true → MayAsk (turn_at ts c d log) m
may_sent s c log to m hand ts d first h e q = grind (arith, site_is, turn_at, unsent, cons_is, same_number, awaited, answered_last, apart)

pub asks_in_turn : (s : Setting) (c : ℕ) (log : Log) (act : Act) (ts d : ℕ) → IsStep s log act → IsFirstSend s log act → InTurn s c log
    → IsInTurn (turn_at ts c d log) (questions ts c (to_site (D (dm_no d)) (sends_of_act act)))
asks_in_turn s c log act ts d i first h =
    step_way_over s log act (λ x. IsFirstSend s log x → IsInTurn (turn_at ts c d log) (questions ts c (to_site (D (dm_no d)) (sends_of_act x))))
    (λ k q at f e. λ first. one_in_turn (turn_at ts c d log) _ (contains (modules_asked s k q.text) d)
    ((next_stamp s log == ts) && (k == c)) (start_read s k log q d)
    (ap (questions ts c) (sent_to_each (start_read s k log q) (modules_asked s k q.text) d
    (strict_asked s k q)) ∙ (grind (arith, cond)))
    (λ b x. (subst (λ w. MayAsk w (start_read s k log q d)) (sym (h.fresh ts d (let l =
    stamp_below_next s log in omega (arith, eqb-true (next_stamp s log) ts (and_left (next_stamp s log == ts) (k == c) x), l)))) refl)))
    (grind (arith, commit_puts, dm_no, questions))
    (λ to m hand f. λ first. one_in_turn (turn_at ts c d log) _ (same_site (D (dm_no d)) to)
    (is_question ts c m) m (grind (arith, cond))
    (λ b x. may_sent s c log to m hand ts d first h b (sym (send_is_question s log ts c m f) ∙ x))) i first
