-- What a data module has still to answer is what the turns say: a hand, and the answer to a FETCH, REDUCE or SHIP.
use Rattle.sdd_obligations.proofs.All.{Act, Arrive, Asks, Bool, Did, DmNo, Frozen, Handed, List, MayAsk, Msg, None, Open, Option, Pipe, Records, Replied, Sends, Site, Some, Turn, TxnNo, [], and_no, and_right as and_right_of, ap, append-nil, arith, asks_rows, false, filter, filter-append, first_there, goes_through, hands, head_of, if_way, if◌then◌else◌, in_filtered, in_left, inl, inr, is_a_read, is_a_refusal, is_answer, is_asked_of, is_question, is_read, is_some, map, never, not, not_both, not_true, opens, opens_handed, passing, pipe, pipe_acted, processed_handed, put, reads_asked, refl, rows_asked, same_number, same_or_not, same_site, site_self, slice_get, subst, suc, sym, true, turn_after_answer, turn_after_question, turn_with, uses_by, uses_held, uses_in, zero, ℕ, ◌&&◌, ◌++◌, ◌==◌, ◌∙◌, ◌∷◌, ◌≡◌}
use Rattle.sdd_obligations.proofs.HandedAnswersKeepTurns.{turn_is_replied, turn_after_one, asked_one as asked_if}
use Rattle.sdd_obligations.proofs.DataSteps.{reply}
use Rattle.sdd_obligations.proofs.Opened.{are_apart, one_hand, sift_has, sift_swap, sift_within}
use Rattle.sdd_invariants.specs.site_module.SiteLog.{Entry, Log}

-- a question that is handed comes from the site that runs the class, and may come next
abbrev pub IsAskedInTurn : ℕ → Site → Log → Entry → Type 0
IsAskedInTurn c at log (Handed from m) = (ts : ℕ) → is_question ts c m ≡ true → (from ≡ at) × MayAsk (turn_with ts c at log) m
IsAskedInTurn c at log _ = Unit {0}

-- a question that stands is of the attempt, with the numbers of its READ's uses
abbrev pub IsOwn : ℕ → ℕ → Turn → Type 0
IsOwn ts c (Asks ns m) = (is_question ts c m ≡ true) × (uses_by m ns ≡ ns)
IsOwn ts c _ = Unit {0}

-- a READ of the attempt is processed
pub record IsProcessed (ts c : ℕ) (p : Pipe) : Type 0 where
  pub place : ℕ
  pub read : Msg
  pub there : slice_get p.processed place ≡ Some read
  pub is : is_read ts c read ≡ true

abbrev pub asker : Open → Site × Msg
asker o = (o.from, o.msg)

abbrev pub asks_open : ℕ → ℕ → Open → Bool
asks_open ts c o = asks_rows ts c o.msg

abbrev pub from_site : Site → Msg → Site × Msg
from_site at m = (at, m)

-- what the module has still to answer of the attempt is what the turn says
pub record HasTurn (ts c : ℕ) (at : Site) (os : List Open) (p : Pipe) (v : Turn) : Type 0 where
  pub own : IsOwn ts c v
  pub rows_are : map asker (filter (asks_open ts c) os) ≡ map (from_site at) (rows_asked ts c v)
  pub reads_are : filter (is_read ts c) p.unprocessed ≡ reads_asked ts c v
  pub was_read : (ns : List ℕ) → uses_held v ≡ Some ns → IsProcessed ts c p

abbrev pub HasTurnAt : ℕ → ℕ → Site → Log → Type 0
HasTurnAt ts c at log = HasTurn ts c at (opens log) (pipe c log) (turn_with ts c at log)

-- messages

pub asks_question : (ts c : ℕ) (m : Msg) → asks_rows ts c m ≡ true → is_question ts c m ≡ true
asks_question ts c m e = grind arith

pub read_question : (ts c : ℕ) (m : Msg) → is_read ts c m ≡ true → is_question ts c m ≡ true
read_question ts c m e = grind arith

pub read_asks_none : (ts c : ℕ) (m : Msg) → is_a_read m ≡ true → asks_rows ts c m ≡ false
read_asks_none ts c m e = grind arith

pub read_is_a_read : (ts c : ℕ) (m : Msg) → is_read ts c m ≡ true → is_a_read m ≡ true
read_is_a_read ts c m e = grind arith

pub uses_twice : (m : Msg) (ns : List ℕ) → uses_by m (uses_by m ns) ≡ uses_by m ns
uses_twice m ns = grind arith

none_implied : (a b : Bool) → (a ≡ true → b ≡ true) → b ≡ false → a ≡ false
none_implied a b f e = not_true a (λ p. not_both b (f p) e)

-- a hand

map_append : {A B : Type 0} (f : A → B) (xs ys : List A) → map f (xs ++ ys) ≡ map f xs ++ map f ys
map_append f [] ys = refl
map_append f (x ∷ xs) ys = ap (λ l. f x ∷ l) (map_append f xs ys)

rows_handed : (ts c n : ℕ) (from : Site) (m : Msg) (os : List Open)
    → map asker (filter (asks_open ts c) (opens_handed n from m os)) ≡ map asker
    (filter (asks_open ts c) os) ++ (if asks_rows ts c m then (from, m) ∷ [] else [])
rows_handed ts c n from m os = grind (arith, is_some, asker, asks_open, filter-append, map_append, none_implied, append-nil)

reads_handed : (ts c : ℕ) (m : Msg) (p : Pipe)
    → filter (is_read ts c) (if goes_through c m then put m p else p).unprocessed ≡ filter
    (is_read ts c) p.unprocessed ++ (if is_read ts c m then m ∷ [] else [])
reads_handed ts c m p = grind (arith, filter-append, none_implied, and_right_of, append-nil)

pairs_if : (b : Bool) (at from : Site) (m : Msg) → from ≡ at → (if b then (from, m) ∷ [] else []) ≡ map (from_site at) (if b then m ∷ [] else [])
pairs_if b at from m e = grind arith

-- while rows are held they stay so at a question that isn't a READ
held_before : (v : Turn) (m : Msg) (ns : List ℕ) → MayAsk v m → uses_held (turn_after_question m v) ≡ Some ns → uses_held v ≡ Some (uses_in v)
held_before v m ns h e = grind arith

same_processed : (ts c : ℕ) (p q : Pipe) → q.processed ≡ p.processed → IsProcessed ts c p → IsProcessed ts c q
same_processed ts c p q e h = record { place = h.place; read = h.read; there = subst (λ l. slice_get l h.place ≡ Some h.read) (sym e) h.there; is = h.is }

pub asked_turn : (ts c : ℕ) (at from : Site) (m : Msg) (log : Log)
    → turn_with ts c at (Handed from m ∷ log) ≡ (if same_site at from && is_question ts c m then turn_after_question m (turn_with ts c at log) else turn_with ts c at log)
asked_turn ts c at from m log = asked_if ts c (same_site at from) m (turn_with ts c at log)

pub turn_hand : (ts c : ℕ) (at : Site) (log : Log) (from : Site) (m : Msg) → IsAskedInTurn c at log (Handed from m) → HasTurnAt ts c at log
    → HasTurnAt ts c at (Handed from m ∷ log)
turn_hand ts c at log from m timely h =
    let v : Turn = turn_with ts c at log in
    let rows = rows_handed ts c (suc (hands log)) from m (opens log) in
    let reads = reads_handed ts c m (pipe c log) in
    let kept : (pipe c (Handed from m ∷ log)).processed ≡ (pipe c log).processed = processed_handed c from m log in
    subst (λ w. HasTurn ts c at (opens (Handed from m ∷ log)) (pipe c (Handed from m ∷ log)) w) (sym (asked_turn ts c at from m log))
    (elim (is_question ts c m) as (λ b. is_question ts c m ≡ b
    → HasTurn ts c at (opens (Handed from m ∷ log)) (pipe c (Handed from m ∷ log))
    (if same_site at from && b then turn_after_question m v else v)) [
      | true ↦ grind (arith, same_site, site_self, HasTurn, opens, pipe, turn_after_question, uses_twice, uses_in, asks_rows, from_site, pairs_if, is_read, same_processed, held_before)
      | false ↦ λ q.
          subst (λ (w : Turn). HasTurn ts c at (opens (Handed from m ∷ log)) (pipe c (Handed from m ∷ log))
          w) (sym (ap (λ (b : Bool). if b then turn_after_question m v else v) (and_no (same_site at from))))
          (record {
            own = h.own;
            rows_are = rows ∙ ap (λ (b : Bool). map asker (filter (asks_open ts c) (opens log)) ++ (if b then (from, m) ∷ [] else []))
                (none_implied (asks_rows ts c m) (is_question ts c m) (asks_question ts c m) q) ∙ append-nil _ ∙ h.rows_are;
            reads_are = reads ∙ ap (λ (b : Bool). filter (is_read ts c) (pipe c log).unprocessed ++ (if b then m ∷ [] else []))
                (none_implied (is_read ts c m) (is_question ts c m) (read_question ts c m) q) ∙ append-nil _ ∙ h.reads_are;
            was_read = λ ns e. same_processed ts c (pipe c log) (pipe c (Handed from m ∷ log)) kept (h.was_read ns e);
          })
    ] refl)

-- an act

stays_processed : (ts c : ℕ) (act : Act) (p : Pipe) → IsProcessed ts c p → IsProcessed ts c (pipe_acted c act p)
stays_processed ts c act p h = grind (arith, if_way, IsProcessed, in_left)

-- an act that answers nothing of the attempt
pub turn_still : (ts c : ℕ) (at : Site) (log : Log) (act : Act) → turn_with ts c at (Did act ∷ log) ≡ turn_with ts c at log
    → filter (asks_open ts c) (opens (Did act ∷ log)) ≡ filter (asks_open ts c) (opens log)
    → filter (is_read ts c) (pipe c (Did act ∷ log)).unprocessed ≡ filter (is_read ts c) (pipe c log).unprocessed
    → HasTurnAt ts c at log → HasTurnAt ts c at (Did act ∷ log)
turn_still ts c at log act t rows reads h = grind (arith, HasTurn, asker, stays_processed)

-- a READ's arrival
pub turn_arrives : (ts c : ℕ) (at : Site) (log : Log) (k : ℕ) (txn : TxnNo) (attempt : ℕ) (dm : DmNo) → HasTurnAt ts c at log
    → HasTurnAt ts c at (Did (Records k (Arrive txn attempt dm) []) ∷ log)
turn_arrives ts c at log k txn attempt dm h = grind (arith, turn_still, sift_within, asks_open, passing)

-- the answer to a FETCH, REDUCE or SHIP

pub reply_answers : (ts c : ℕ) (f : Option Frozen) (q m : Msg) → reply f q ≡ Some m → is_answer ts c m ≡ asks_rows ts c q
reply_answers ts c f q m e = grind arith

pub reply_no_refusal : (f : Option Frozen) (q m : Msg) → reply f q ≡ Some m → is_a_refusal m ≡ false
reply_no_refusal f q m e = grind arith

pub asks_no_a_read : (ts c : ℕ) (m : Msg) → asks_rows ts c m ≡ true → is_a_read m ≡ false
asks_no_a_read ts c m e = grind arith

-- the open question, where rows are asked for
pub record IsAskedRows (ts c : ℕ) (at : Site) (os : List Open) (v : Turn) (o : Open) : Type 0 where
  pub uses : List ℕ
  pub is : v ≡ Asks uses o.msg
  pub from_is : o.from ≡ at
  pub alone : filter (asks_open ts c) os ≡ o ∷ []

get_map : (os : List Open) (i : ℕ) (o : Open) → slice_get os i ≡ Some o → slice_get (map asker os) i ≡ Some (asker o)
get_map [] i o e = cc
get_map (x ∷ os) zero o e = let q : x ≡ o = cc in ap (λ (y : Open). Some (asker y)) q
get_map (x ∷ os) (suc i) o e = get_map os i o e

one_open : (os : List Open) (p : Site × Msg) (i : ℕ) (o : Open) → map asker os ≡ p ∷ [] → slice_get os i ≡ Some o → os ≡ o ∷ []
one_open (x ∷ []) p zero o e f = let q : x ≡ o = cc in ap (λ y. y ∷ []) q
one_open _ p _ o e f = cc

asked_rows_of : (ts c : ℕ) (at : Site) (os : List Open) (v : Turn) (i : ℕ) (o : Open)
    → map asker (filter (asks_open ts c) os) ≡ map (from_site at) (rows_asked ts c v)
    → slice_get (filter (asks_open ts c) os) i ≡ Some o → IsAskedRows ts c at os v o
asked_rows_of ts c at os v i o e f = grind (arith, asker, asks_open, from_site, IsAskedRows, slice_get, get_map, one_open)

-- an open message that asks for rows of the attempt is the one that the turn says
pub asked_rows : (ts c : ℕ) (at : Site) (log : Log) (v : Turn) (k : ℕ) (o : Open) → HasTurn ts c at (opens log) (pipe c log) v
    → head_of (filter (is_asked_of k) (opens log)) ≡ Some o → asks_rows ts c o.msg ≡ true → IsAskedRows ts c at (opens log) v o
asked_rows ts c at log v k o h e f =
    let i = in_filtered (is_asked_of k) (opens log) 0 o (first_there (filter (is_asked_of k) (opens log)) o e) in
    let j = sift_has (asks_open ts c) (opens log) i.1 o i.2 f in
    asked_rows_of ts c at (opens log) v j.0 o h.rows_are j.1

pub turn_after_hand : (ts c : ℕ) (at to : Site) (m : Msg) (hand : Option ℕ) (log : Log)
    → turn_with ts c at (Did (Sends to m hand) ∷ log) ≡ (if same_site at to && is_answer ts c m then turn_after_answer m (turn_with ts c at log) else turn_with ts c at log)
turn_after_hand ts c at to m hand log = turn_after_one ts c (same_site at to) m (turn_with ts c at log)

pub held_asked : (v : Turn) (ns : List ℕ) (q : Msg) → v ≡ Asks ns q → is_a_read q ≡ false → uses_held v ≡ Some ns
held_asked v ns q e f = ap uses_held e ∙ ap (λ (b : Bool). if b then None else Some ns) f

pub turn_replies : (ts c : ℕ) (at : Site) (log : Log) (f : Option Frozen) (k : ℕ) (o : Open) (m : Msg)
    → head_of (filter (is_asked_of k) (opens log)) ≡ Some o → reply f o.msg ≡ Some m → HasTurnAt ts c at log
    → HasTurnAt ts c at (Did (Sends o.from m (Some o.hand)) ∷ log)
turn_replies ts c at log f k o m e r h =
    let v : Turn = turn_with ts c at log in
    let os : List Open = opens (Did (Sends o.from m (Some o.hand)) ∷ log) in
    subst (λ w. HasTurn ts c at os (pipe c log) w) (sym (turn_after_hand ts c at o.from m (Some o.hand) log
    ∙ ap (λ (b : Bool). if same_site at o.from && b then turn_after_answer m v else v) (reply_answers ts c f o.msg m r)))
    (elim (asks_rows ts c o.msg) as (λ b. asks_rows ts c o.msg ≡ b → HasTurn ts c at os (pipe c log) (if same_site at o.from && b then turn_after_answer m v else v)) [
      | true ↦ λ q.
          (let w = asked_rows ts c at log v k o h e q in
          let here : same_site at o.from ≡ true = subst (λ s. same_site at s ≡ true) (sym w.from_is) (site_self at) in
          let now : turn_after_answer m v ≡ Replied w.uses o.msg = turn_is_replied v w.uses o.msg m w.is (reply_no_refusal f o.msg m r) in
          subst (λ (b : Bool). HasTurn ts c at os (pipe c log) (if b && true then turn_after_answer m v else v)) (sym here)
          (grind (arith, HasTurn, pipe, asker, sift_swap, asks_open, opens, same_number, reads_asked, held_asked, asks_no_a_read)))
      | false ↦ λ q.
          (let i = in_filtered (is_asked_of k) (opens log) 0 o (first_there (filter (is_asked_of k) (opens log)) o e) in
          let apart = are_apart log in
          subst (λ x. HasTurn ts c at os (pipe c log) x) (sym (ap (λ (b : Bool). if b then turn_after_answer m v else v) (and_no (same_site at o.from))))
          (record {
            own = h.own;
            rows_are = ap (map asker) (sift_within (λ (x : Open). not (o.hand == x.hand)) (asks_open ts c) (opens log)
                (λ j x z g. elim (same_or_not o.hand x.hand) [
                  | inl p ↦ never (asks_rows ts c o.msg) (subst (λ (y : Open). asks_rows ts c y.msg ≡ true)
                      (sym (one_hand (opens log) i.1 j o x apart.strict i.2 z p)) g) q
                  | inr p ↦ ap not p
                ])) ∙ h.rows_are;
            reads_are = h.reads_are;
            was_read = h.was_read;
          }))
    ] refl)
