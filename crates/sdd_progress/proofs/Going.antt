-- Every step of the exchange of an active attempt leaves it over, or lacking an answer.
use Rattle.sdd_progress.proofs.All.{AllAskParts, Asking, AtTurn, Attempt, Bool, CountsRead, D, Did, Each, Exchange, Fetching, Handed, InTurn, IsCounted, IsFair, IsFirstEach, IsGoing, IsRead, IsTimely, List, Move, Msg, None, Option, Over, Phase, Queued, Ready, Rec, Records, Reduced, ReducesRead, Replies, Rows, Sends, Setting, Shipping, Site, Some, Step, Values, [], active, active_after, active_handed, active_sent, after_hand, answered, answers_asked, ap, arith, askings, awaits, cond, cons_option, contains, contains_either, counted, counts_for, dm_no, eqb-true, false, fetches, fetches_from, filter, filter_map, goes_on, if_way, if◌then◌else◌, in_turn, inl, inr, is_answer, is_awaited, is_empty, is_over, length, map, move_at, never, next_move, not, on_answer, or_left, or_right, phase_ends, queue, readers, reduces, refl, rejects, same_number, ships, subst, sym, true, turn_at, uses_at, with_use, with_values, ℕ, ◌&&◌, ◌++◌, ◌+◌, ◌==◌, ◌∙◌, ◌∷◌, ◌≡◌}
use Rattle.sdd_progress.proofs.Lists.{either}
use Rattle.sdd_progress.proofs.Moves.{move_reads}
use Rattle.sdd_obligations.specs.site_module.SiteLog.{Log}

-- steps from one phase to the next

-- what is known of an exchange that is not over, whatever it lacks
abbrev IsBetween : Exchange → Type 0
IsBetween x = (is_empty x.modules ≡ false) × CountsRead x.modules x.counts × AllAskParts x.left

to_reduce : (ts c : ℕ) (m : Move) (x : Exchange) → IsBetween x → IsRead x.modules m.target.part → IsGoing (reduces ts c m x)
to_reduce ts c m x b r = record { counted = record { modules = λ e. b.0; reduces = r; counts = b.1; left = b.2 }; lacks = λ e. r }

to_fetch : (ts c : ℕ) (m : Move) (x : Exchange) (dms : List ℕ) → IsBetween x → IsRead x.modules m.target.part → IsGoing (fetches_from ts c m x dms)
to_fetch ts c m x dms b r = grind (arith, to_reduce)

to_ship : (ts c : ℕ) (x : Exchange) → IsBetween x → IsGoing (ships ts c x)
to_ship ts c x b = record { counted = record { modules = λ e. b.0; reduces = tt; counts = b.1; left = tt }; lacks = λ e. (grind arith) }

to_next : (ts c : ℕ) (x : Exchange) (qs : List Asking) (done : List Step) → IsBetween x → AllAskParts qs → IsGoing (goes_on ts c x qs done)
to_next ts c x [] done b parts = to_ship ts c x b
to_next ts c x (q ∷ rest) done b parts =
    elim (next_move q.conds (counts_for x.counts q) done) as (λ o. next_move q.conds
    (counts_for x.counts q) done ≡ o
    → IsGoing (elim o as (λ _. Exchange) [
      | None ↦ goes_on ts c x rest []
      | Some m ↦ fetches ts c (move_at q.before m) (record x { left = q ∷ rest; done = done ++ m.step ∷ [] })
    ])) [
      | None ↦ λ e. to_next ts c x rest [] b parts.1
      | Some m ↦ λ e. to_fetch ts c (move_at q.before m) (record x {
        left = q ∷ rest;
        done = done ++ m.step ∷ [];
      }) (with_use x (move_at q.before m).source.part) (b.0, b.1, parts) (move_reads x q done m b.1 parts.0 e)
    ] refl

ended : (ts c : ℕ) (x : Exchange) (p : Phase) → IsCounted x → x.phase ≡ p → IsGoing (phase_ends ts c x p)
ended ts c x (Fetching m) k e = to_reduce ts c m x ((k.modules (ap is_over e ∙ refl), k.counts, k.left)) (subst (ReducesRead x.modules) e k.reduces)
ended ts c x Shipping k e = record { counted = record { modules = λ z. cc; reduces = tt; counts = k.counts; left = k.left }; lacks = λ z. cc }
ended ts c x Over k e = record { counted = k; lacks = λ z. never (is_over x.phase) (ap is_over e) z }
ended ts c x y k e = to_next ts c x x.left x.done ((k.modules (ap is_over e ∙ refl), k.counts, k.left)) k.left

lacks_now : (ts c : ℕ) (x : Exchange) (dms : List ℕ) → IsCounted x → IsGoing (on_answer ts c x dms)
lacks_now ts c x [] k = ended ts c (record x { lacks = [] }) x.phase (grind (arith, reduces)) refl
lacks_now ts c x (d ∷ dms) k = record { counted = record { modules = k.modules; reduces = k.reduces; counts = k.counts; left = k.left }; lacks = λ e. refl }

answer_if : (ts c d : ℕ) (b : Bool) (x y : Exchange) → IsGoing x → (b ≡ true → IsCounted y) → IsGoing (if b then answered ts c d y else x)
answer_if ts c d b x y h k = grind (arith, lacks_now)

-- counts

add_read : (n : ℕ) (ms : List (ℕ × List ℕ)) (f : ((ℕ × ℕ) × ℕ) → Bool) (e : (ℕ × ℕ) × ℕ) (counts : List ((ℕ × ℕ) × ℕ)) → IsRead ms e.0.0 → CountsRead ms counts
    → CountsRead ms (filter f counts ++ e ∷ [])
add_read n ms f e [] r h = (r, tt)
add_read n ms f e (x ∷ counts) r h = grind (arith, (add_read n ms f e counts r h.1))

abbrev AllRead : List (ℕ × List ℕ) → List ℕ → Type 0
AllRead ms [] = Unit {0}
AllRead ms (u ∷ us) = IsRead ms u × AllRead ms us

counted_read : (d : ℕ) (ms : List (ℕ × List ℕ)) (ns : List (ℕ × ℕ)) (counts : List ((ℕ × ℕ) × ℕ)) → AllRead ms (map (λ (n : ℕ × ℕ). n.0) ns)
    → CountsRead ms counts → CountsRead ms (counted d ns counts)
counted_read d ms [] counts r h = h
counted_read d ms (n ∷ ns) counts r h = grind (arith, add_read, (counted_read d ms ns _ r.1 (add_read d ms (λ (e : (ℕ × ℕ) × ℕ). not ((e.0.0 == n.0) && (e.0.1 == d))) ((n.0, d), n.1) counts r.0 h)))

-- what a module reads is read

in_filter : (f : ℕ → Bool) (us : List ℕ) (u : ℕ) → contains (filter f us) u ≡ true → contains us u ≡ true
in_filter f [] u e = cc
in_filter f (x ∷ us) u e =
    elim (f x) as (λ b. contains (cond b (x ∷ filter f us) (filter f us)) u ≡ true → contains (x ∷ us) u ≡ true) [
      | true ↦ λ p. elim (either (x == u) (contains (filter f us) u) p) [
        | inl q ↦ or_left (x == u) (contains us u) q
        | inr q ↦ or_right (x == u) (contains us u) (in_filter f us u q)
      ]
      | false ↦ λ p. or_right (x == u) (contains us u) (in_filter f us u p)
    ] e

read_there : (ms : List (ℕ × List ℕ)) (d u : ℕ) → contains (uses_at ms d) u ≡ true → IsRead ms u
read_there [] d u e = cc
read_there (m ∷ ms) d u e = elim (contains_either (filter (λ (x : ℕ). m.0 == d) m.1) (uses_at ms d) u e) [
  | inl p ↦ (rw (in_filter (λ (x : ℕ). m.0 == d) m.1 u p) refl)
  | inr p ↦ (elim (contains m.1 u) as (λ b. is_empty (cons_option (cond b (Some m.0) None) (readers ms u)) ≡ false) [ true ↦ refl | false ↦ (read_there ms d u p) ])
]

all_read : (ms : List (ℕ × List ℕ)) (d : ℕ) (us : List ℕ) → ((u : ℕ) → contains us u ≡ true → contains (uses_at ms d) u ≡ true) → AllRead ms us
all_read ms d [] f = tt
all_read ms d (u ∷ us) f =
    (read_there ms d u (f u (or_left (u == u) (contains us u) (same_number u))), all_read ms d us (λ w e. f w (or_right (u == w) (contains us w) e)))

-- an answer

-- the question that an answer replies to
record IsReplyTo (x : Exchange) (d : ℕ) (m : Msg) : Type 0 where
  uses : List ℕ
  question : Msg
  replies : Replies uses question m
  awaited : awaits x.phase question ≡ true
  uses_are : uses_at x.modules d ≡ uses

hand_goes : (ts c d : ℕ) (m : Msg) (x : Exchange) → (is_answer ts c m ≡ true → IsReplyTo x d m) → IsGoing x → IsGoing (after_hand ts c d m x)
hand_goes ts c d (Ready t k counts) x r h =
    answer_if ts c d ((t.0 == ts) && (k.0 == c)) x (record x { counts = counted d counts x.counts }) h (λ e.
    (let w = r e in
    let us : map (λ (n : ℕ × ℕ). n.0) counts ≡ w.uses = (grind arith) in
    let all : AllRead x.modules w.uses = all_read x.modules d w.uses (λ u f. subst (λ l. contains l u ≡ true) (sym w.uses_are) f) in
    record {
      modules = h.counted.modules;
      reduces = h.counted.reduces;
      counts = counted_read d x.modules counts x.counts (subst (AllRead x.modules) (sym us) all) h.counted.counts;
      left = h.counted.left;
    }))
hand_goes ts c d (Values t k u values) x r h =
    answer_if ts c d ((t.0 == ts) && (k.0 == c)) x (record x { union = with_values x.union values; values = x.values + length values }) h (λ e. record {
      modules = h.counted.modules;
      reduces = h.counted.reduces;
      counts = h.counted.counts;
      left = h.counted.left;
    })
hand_goes ts c d (Reduced t k u n) x r h =
    answer_if ts c d ((t.0 == ts) && (k.0 == c)) x (record x { counts = counted d ((u, n) ∷ []) x.counts }) h (λ e.
    (let w = r e in
    let read : IsRead x.modules u = (grind (arith, eqb-true)) in
    record {
      modules = h.counted.modules;
      reduces = h.counted.reduces;
      counts = counted_read d x.modules ((u, n) ∷ []) x.counts (read, tt) h.counted.counts;
      left = h.counted.left;
    }))
hand_goes ts c d (Rows t k rows) x r h = grind (arith, answer_if)
hand_goes ts c d _ x r h = h

-- the active attempt

abbrev pub GoesIf : Attempt → Type 0
GoesIf a = AllAskParts (askings 0 a.text.statements) → IsGoing a.exchange

abbrev GoesOf : Option Attempt → Type 0
GoesOf None = Unit {0}
GoesOf (Some a) = GoesIf a

handed_goes : (s : Setting) (c : ℕ) (log : Log) (d : ℕ) (m : Msg) (o : Option Attempt) → active s c log ≡ o
    → InTurn s c log → IsTimely c log (Handed (D (dm_no d)) m) → GoesOf o → GoesOf (active_handed c (D (dm_no d)) m o)
handed_goes s c log d m None e i timely h = tt
handed_goes s c log d m (Some a) e i timely h =
    let at : AtTurn a.ts d (Some a) (turn_at a.ts c d log) = subst (λ o. AtTurn a.ts d o (turn_at a.ts c d log)) e (i.turns a.ts d) in
    if_way GoesOf (rejects m a.ts c) None (Some (record a { exchange = after_hand a.ts c d m a.exchange })) tt
    (λ parts. hand_goes a.ts c d m a.exchange (λ own. (grind (arith, answers_asked, is_awaited))) (h parts))

sent_goes : (c : ℕ) (m : Msg) (o : Option Attempt) → GoesOf o → GoesOf (active_sent c m o)
sent_goes c m o h = grind (arith, if_way, GoesOf)

record_goes : (c k : ℕ) (r : Rec) (sends : List (Site × Msg)) (qs : List Queued) (o : Option Attempt)
    → GoesOf o → GoesOf (active_after c (Records k r sends) qs o)
record_goes c k r sends qs o h = grind (arith, if_way, GoesOf, never, filter_map)

goes_on_log : (s : Setting) (c : ℕ) (log : Log) → Each (IsFair s) log → Each (IsFirstEach s) log → Each (IsTimely c) log → GoesOf (active s c log)
goes_on_log s c [] f first t = tt
goes_on_log s c (Handed (D d) m ∷ log) f first t =
    handed_goes s c log d.0 m (active s c log) refl (in_turn s c log f.1 first.1 t.1) t.0 (goes_on_log s c log f.1 first.1 t.1)
goes_on_log s c (Did (Records k r sends) ∷ log) f first t = record_goes c k r sends (queue s c log) (active s c log) (goes_on_log s c log f.1 first.1 t.1)
goes_on_log s c (Did (Sends to m hand) ∷ log) f first t = sent_goes c m (active s c log) (goes_on_log s c log f.1 first.1 t.1)
goes_on_log s c (_ ∷ log) f first t = goes_on_log s c log f.1 first.1 t.1

-- the exchange of the active attempt lacks an answer, or is over
pub is_going : (s : Setting) (c : ℕ) (log : Log) (a : Attempt) → Each (IsFair s) log → Each (IsFirstEach s) log → Each (IsTimely c) log
    → active s c log ≡ Some a → AllAskParts (askings 0 a.text.statements) → IsGoing a.exchange
is_going s c log a f first t e = subst GoesOf e (goes_on_log s c log f first t)
