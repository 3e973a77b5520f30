-- A data module answers in turn, where each question that is handed to it comes in turn.
use Rattle.sdd_obligations.proofs.All.{Act, Answer, Apply, Asks, Bool, Cond, Did, Done, Each, Handed, IsClassHere, IsDueEach, List, Msg, Null, Open, Pass, Pipe, Read, Ready, Rec, Records, Refused, Reject, Rejected, Replied, Setting, Site, Some, Ts, Turn, Wait, Write, [], and_no, and_right as and_right_of, answers, ap, arith, ask_for, at_seam, cond, done_for, eqb-true, false, filter, frozen, goes_through, head, head_of, head_processed, home_of, if_way, if◌then◌else◌, is_a_refusal, is_answer, is_processing, is_read, length, map, not_own, opens, own_record, pipe, processed_more, refl, rows_asked, same_or_not, same_site, site_self, slice_get, source_of, subst, sym, tail_of, to_site, true, turn_after_answer, turn_after_answers, turn_with, ℕ, ◌&&◌, ◌++◌, ◌∙◌, ◌∷◌, ◌≡◌}
use Rattle.sdd_obligations.proofs.HandedAnswersKeepTurns.{turn_after_one}
use Rattle.sdd_obligations.proofs.DataSteps.{IsDataStep, data_step, data_step_way, ready_counts}
use Rattle.sdd_obligations.proofs.Replying.{HasTurn, HasTurnAt, IsAskedInTurn, IsProcessed, asker, asks_open, from_site, read_asks_none, read_is_a_read, turn_arrives, turn_hand, turn_replies, turn_still}
use Rattle.sdd_invariants.specs.site_module.SiteLog.{Log}

-- a head that is processed

reads_left : (ts c k : ℕ) (r : Rec) (sends : List (Site × Msg)) (log : Log) (m : Msg) → is_processing r ≡ true
    → head (pipe k log) ≡ Some m → is_read ts c m ≡ false
    → filter (is_read ts c) (pipe c (Did (Records k r sends) ∷ log)).unprocessed ≡ filter (is_read ts c) (pipe c log).unprocessed
reads_left ts c k r sends log m p h e = grind (arith, same_or_not, own_record, not_own)

pub read_class : (ts c k : ℕ) (m : Msg) → is_read ts c m ≡ true → goes_through k m ≡ true → k ≡ c
read_class ts c k m e f = grind (arith, eqb-true, and_right_of)

-- the READ of the attempt at a head
pub record IsReadNext (ts c : ℕ) (log : Log) (k : ℕ) (v : Turn) (m : Msg) : Type 0 where
  pub class_is : k ≡ c
  pub uses : List ℕ
  pub is : v ≡ Asks uses m
  pub last : filter (is_read ts c) (tail_of (pipe c log).unprocessed) ≡ []

pub read_next : (ts c : ℕ) (at : Site) (log : Log) (k : ℕ) (v : Turn) (m : Msg) → HasTurn ts c at (opens log) (pipe c log) v
    → head (pipe k log) ≡ Some m → goes_through k m ≡ true → is_read ts c m ≡ true → IsReadNext ts c log k v m
read_next ts c at log k v m h e through f = grind (arith, read_class, through)

ended_turn : (ts c : ℕ) (at : Site) (os : List Open) (p : Pipe) (b : Bool) (ns : List ℕ) (m : Msg) → map asker (filter (asks_open ts c) os) ≡ []
    → filter (is_read ts c) p.unprocessed ≡ [] → IsProcessed ts c p → HasTurn ts c at os p (if b then Refused else Replied ns m)
ended_turn ts c at os p b ns m e f h = grind arith

-- the READY or REJECT that answers the READ at a head
turn_read : (ts c : ℕ) (at : Site) (log : Log) (k : ℕ) (r : Rec) (m x : Msg) (src : Site) → is_processing r ≡ true
    → opens (Did (Records k r ((src, x) ∷ [])) ∷ log) ≡ opens log → head (pipe k log) ≡ Some m → goes_through k m ≡ true
    → is_answer ts c x ≡ is_read ts c m → (k ≡ c → src ≡ at) → HasTurnAt ts c at log → HasTurnAt ts c at (Did (Records k r ((src, x) ∷ [])) ∷ log)
turn_read ts c at log k r m x src p same e through f home h =
    let v : Turn = turn_with ts c at log in
    let act : Act = Records k r ((src, x) ∷ []) in
    let turn_is : turn_with ts c at (Did act ∷ log) ≡ (if same_site at src && is_read ts c m then turn_after_answer x v else v) =
    turn_after_one ts c (same_site at src) x v ∙ ap (λ (b : Bool). if same_site at src && b then turn_after_answer x v else v) f in
    elim (is_read ts c m) as (λ b. is_read ts c m ≡ b → HasTurnAt ts c at (Did act ∷ log)) [
      | true ↦ λ q.
          (let w = read_next ts c at log k v m h e through q in
          let here : same_site at src ≡ true = subst (λ s. same_site at s ≡ true) (sym (home w.class_is)) (site_self at) in
          let now : turn_with ts c at (Did act ∷ log) ≡ (if is_a_refusal x then Refused else Replied w.uses m) =
          turn_is ∙ (λ i. if here i && q i then turn_after_answer x v else v) ∙ ap (turn_after_answer x) w.is in
          let taken : pipe c (Did act ∷ log) ≡ head_processed (pipe c log) =
          subst (λ j. pipe j (Did act ∷ log) ≡ head_processed (pipe j log)) w.class_is (own_record k r ((src, x) ∷ []) log p).0 in
          let at_head : head (pipe c log) ≡ Some m = subst (λ j. head (pipe j log) ≡ Some m) w.class_is e in
          let done : (pipe c (Did act ∷ log)).processed ≡ (pipe c log).processed ++ m ∷ [] =
          ap (λ (y : Pipe). y.processed) taken ∙ processed_more (pipe c log) m at_head in
          subst (λ y. HasTurn ts c at (opens (Did act ∷ log)) (pipe c (Did act ∷ log)) y) (sym now)
          (ended_turn ts c at (opens (Did act ∷ log)) (pipe c (Did act ∷ log)) (is_a_refusal x) w.uses m
          (grind (arith, asker, asks_open, from_site, rows_asked, read_asks_none, read_is_a_read)) (ap (λ (y : Pipe). filter (is_read ts c) y.unprocessed) taken ∙ w.last)
          (record {
            place = length (pipe c log).processed;
            read = m;
            there = subst (λ l. slice_get l (length (pipe c log).processed) ≡ Some m) (sym done) (at_seam (pipe c log).processed [] m);
            is = q;
          })))
      | false ↦ λ q. turn_still ts c at log act
          (turn_is ∙ ap (λ (b : Bool). if same_site at src && b then turn_after_answer x v else v) q
          ∙ ap (λ (b : Bool). if b then turn_after_answer x v else v) (and_no (same_site at src)))
          (ap (filter (asks_open ts c)) same) (reads_left ts c k r ((src, x) ∷ []) log m p e q) h
    ] refl

-- other acts

pub asks_no_answer : (ts c : ℕ) (at : Site) (f : Cond → Site × Msg) (ds : List Cond) → ((d : Cond) → is_answer ts c (f d).1 ≡ false)
    → answers ts c (to_site at (map f ds)) ≡ []
asks_no_answer ts c at f [] h = refl
asks_no_answer ts c at f (d ∷ ds) h =
    if_way (λ l. answers ts c l ≡ []) (same_site at (f d).0) ((f d).1 ∷ to_site at (map f ds)) (to_site at (map f ds))
    (ap (λ (b : Bool). cond b ((f d).1 ∷ answers ts c (to_site at (map f ds)))
    (answers ts c (to_site at (map f ds)))) (h d) ∙ asks_no_answer ts c at f ds h) (asks_no_answer ts c at f ds h)

pub done_no_answer : (ts c : ℕ) (at : Site) (k : ℕ) (t : Ts) → answers ts c (to_site at (done_for k (Done t))) ≡ []
done_no_answer ts c at k t = grind (arith, if_way)

-- heads go through their pipes

abbrev AllThrough : ℕ → List Msg → Type 0
AllThrough c [] = Unit {0}
AllThrough c (m ∷ ms) = (goes_through c m ≡ true) × AllThrough c ms

through_push : (c : ℕ) (ms : List Msg) (m : Msg) → AllThrough c ms → goes_through c m ≡ true → AllThrough c (ms ++ m ∷ [])
through_push c [] m h e = (e, tt)
through_push c (x ∷ ms) m h e = (h.0, through_push c ms m h.1 e)

through : (c : ℕ) (log : Log) → AllThrough c (pipe c log).unprocessed
through c [] = tt
through c (e ∷ log) = grind (arith, through_push, goes_through, pipe, if_way, AllThrough, (through c log))

through_first : (c : ℕ) (ms : List Msg) (m : Msg) → AllThrough c ms → head_of ms ≡ Some m → goes_through c m ≡ true
through_first c ms m h e = grind arith

pub head_through : (c : ℕ) (log : Log) (m : Msg) → head (pipe c log) ≡ Some m → goes_through c m ≡ true
head_through c log m e = through_first c (pipe c log).unprocessed m (through c log) e

-- the site that runs the class is the one to which it is answered
abbrev pub IsHomeOf : Setting → ℕ → Site → Type 0
IsHomeOf s c at = IsClassHere s c → source_of (home_of s) c ≡ at

turn_act : (s : Setting) (ts c : ℕ) (at : Site) (log : Log) (act : Act) → IsHomeOf s c at → IsDataStep s log act → HasTurnAt ts c at log
    → HasTurnAt ts c at (Did act ∷ log)
turn_act s ts c at log act home i h = data_step_way s log act (λ x. HasTurnAt ts c at (Did x ∷ log))
    (λ k txn attempt. turn_arrives ts c at log k txn attempt (home_of s).dm h) (λ k o m e r. turn_replies ts c at log (frozen s k log) k o m e r h)
    (λ k t j txn attempt conds uses l e. turn_read ts c at log k (Answer txn attempt (home_of s).dm)
    (Read t j txn attempt conds uses) (Ready t j (ready_counts s log t.0 uses)) (source_of (home_of s) k) refl refl e (head_through k log _ e) refl
    (λ q. subst (λ n. source_of (home_of s) n ≡ at) (sym q) (home (subst (IsClassHere s) q l))) h)
    (λ k t j txn attempt conds uses by write l e. turn_read ts c at log k
    (Rejected txn attempt (home_of s).dm by write) (Read t j txn attempt conds uses) (Reject t j by write)
    (source_of (home_of s) k) refl refl e (head_through k log _ e) refl
    (λ q. subst (λ n. source_of (home_of s) n ≡ at) (sym q) (home (subst (IsClassHere s) q l))) h)
    (λ k txn attempt ds. turn_still ts c at log (Records k (Wait txn attempt (home_of s).dm ds) (map (ask_for (home_of s)) ds))
    (ap (λ l. turn_after_answers l (turn_with ts c at log)) (asks_no_answer ts c at (ask_for (home_of s)) ds (λ d. refl))) refl
    (grind (arith, is_read, not_own, home_of, ask_for)) h)
    (λ k t j txn changes e. turn_still ts c at log (Records k (Apply txn j (home_of s).dm t) (done_for k (Done t)))
    (ap (λ l. turn_after_answers l (turn_with ts c at log)) (done_no_answer ts c at k t)) refl
    (reads_left ts c k (Apply txn j (home_of s).dm t) (done_for k (Done t)) log (Write t j txn changes) refl e refl) h)
    (λ k j time e. turn_still ts c at log (Records k (Pass j (home_of s).dm time) []) refl refl
    (reads_left ts c k (Pass j (home_of s).dm time) [] log (Null j time) refl e refl) h) i

pub has_turn : (s : Setting) (ts c : ℕ) (at : Site) (log : Log) → IsHomeOf s c at → Each (IsDueEach s) log → Each (IsAskedInTurn c at) log
    → HasTurnAt ts c at log
has_turn s ts c at [] home due timely = record { own = tt; rows_are = refl; reads_are = refl; was_read = λ ns e. cc }
has_turn s ts c at (Handed from m ∷ log) home due timely = turn_hand ts c at log from m timely.0 (has_turn s ts c at log home due.1 timely.1)
has_turn s ts c at (Did act ∷ log) home due timely = turn_act s ts c at log act home (data_step s log act due.0) (has_turn s ts c at log home due.1 timely.1)
has_turn s ts c at (_ ∷ log) home due timely =
    let i = has_turn s ts c at log home due.1 timely.1 in record { own = i.own; rows_are = i.rows_are; reads_are = i.reads_are; was_read = i.was_read }
