-- How an attempt asks its modules for rows. Each module answers the READ by READY; then the uses of the queries are
-- reduced, step by step, by FETCH, VALUES, REDUCE and REDUCED; at last all rows are shipped.
use Rattle.std.specs.Prelude.{ℕ, ◌+◌, ◌*◌, ◌==◌, Bool, true, false, not, ◌&&◌, cond, if◌then◌else◌, List, [], ◌∷◌, ◌++◌, map, filter, filter_map, length, sum, Option, Some, None}
use Rattle.std.specs.List.{range_with_len}
use Rattle.sdd_module.specs.All.{Act, Condition, D, Delete, Fetch, Msg, Put, Query, Read, Ready, Reduce, Reduced, Ref, Row, Rows, Sends, Ship, Site, Stmt, Txn, Update, Value, Values, class_no, contains, dm_no, tail_of, time_at, uses_in, with_values}
use Rattle.sdd_semijoin.specs.declared.step.Step.{Step}
use Rattle.sdd_semijoin.specs.Steps.{Move, next_move}

-- a query of the transaction: how many uses stand before it, how many it has, and its conditions
pub record Asking : Type 0 where
  pub before : ℕ
  pub uses : ℕ
  pub conds : List Condition

-- what is awaited: READY, VALUES or REDUCED of a move, ROWS, or nothing more
pub data Phase : Type 0 where
  Reading : Phase
  Fetching : Move → Phase
  Reducing : Move → Phase
  Shipping : Phase
  Over : Phase

-- What is known of an attempt's exchange.
pub record Exchange : Type 0 where
  -- its modules, with the numbers of the uses that each reads
  pub modules : List (ℕ × List ℕ)
  pub phase : Phase
  -- the messages that are still to be sent, each with its module, and the modules whose answers are missing
  pub to_send : List (ℕ × Msg)
  pub lacks : List ℕ
  -- how many rows are held, of each use at each module
  pub counts : List ((ℕ × ℕ) × ℕ)
  -- the queries that may still be reduced, and the steps that are done for the first of them
  pub left : List Asking
  pub done : List Step
  -- the values that came for the move under way
  pub union : List Value
  -- how many values and rows were sent for the attempt, and the rows that came
  pub values : ℕ
  pub rows : ℕ
  pub found : List (ℕ × Row)

abbrev pub without : List ℕ → ℕ → List ℕ
without ns n = filter (λ x. not (x == n)) ns

-- how many rows of use u are held at all modules together
abbrev pub count_of : List ((ℕ × ℕ) × ℕ) → ℕ → ℕ
count_of counts u = sum (filter_map (λ e. cond (e.0.0 == u) (Some e.1) None) counts)

-- of each use of a query, in order
abbrev pub counts_for : List ((ℕ × ℕ) × ℕ) → Asking → List ℕ
counts_for counts q = map (λ p. count_of counts (q.before + p)) (range_with_len 1 q.uses)

-- a use of a query as a use of the transaction
abbrev pub use_at : ℕ → Ref → Ref
use_at before r = record r { part = before + r.part }

abbrev pub move_at : ℕ → Move → Move
move_at before m = record m { source = use_at before m.source; target = use_at before m.target }

-- the modules that read use u
abbrev pub with_use : Exchange → ℕ → List ℕ
with_use x u = filter_map (λ m. cond (contains m.1 u) (Some m.0) None) x.modules

abbrev pub to_all : Msg → List ℕ → List (ℕ × Msg)
to_all m dms = map (λ d. (d, m)) dms

-- REDUCE with the values that came goes to the modules of the target; ts and c are the attempt's timestamp and class
abbrev pub reduces : ℕ → ℕ → Move → Exchange → Exchange
reduces ts c m x =
    let dms : List ℕ = with_use x m.target.part in
    record x {
      phase = Reducing m;
      to_send = to_all (Reduce (time_at ts) (class_no c) m.target.part m.target.column x.union) dms;
      lacks = dms;
      values = x.values + length x.union * length dms;
    }

-- FETCH goes to these modules of the source; where there is none, no value comes
abbrev pub fetches_from : ℕ → ℕ → Move → Exchange → List ℕ → Exchange
fetches_from ts c m x [] = reduces ts c m (record x { union = [] })
fetches_from ts c m x (d ∷ dms) = record x {
  phase = Fetching m;
  to_send = to_all (Fetch (time_at ts) (class_no c) m.source.part m.source.column) (d ∷ dms);
  lacks = d ∷ dms;
  union = [];
}

abbrev pub fetches : ℕ → ℕ → Move → Exchange → Exchange
fetches ts c m x = fetches_from ts c m x (with_use x m.source.part)

-- SHIP goes to all modules
abbrev pub ships : ℕ → ℕ → Exchange → Exchange
ships ts c x =
    let dms : List ℕ = map (λ m. m.0) x.modules in
    record x { phase = Shipping; left = []; done = []; to_send = to_all (Ship (time_at ts) (class_no c)) dms; lacks = dms }

-- the next move of the first query that has one, where these steps are done for the first; else the rows are shipped
abbrev pub goes_on : ℕ → ℕ → Exchange → List Asking → List Step → Exchange
goes_on ts c x [] done = ships ts c x
goes_on ts c x (q ∷ rest) done = elim (next_move q.conds (counts_for x.counts q) done) [
  | None ↦ goes_on ts c x rest []
  | Some m ↦ fetches ts c (move_at q.before m) (record x { left = q ∷ rest; done = done ++ m.step ∷ [] })
]

-- all answers of the phase came
abbrev pub phase_ends : ℕ → ℕ → Exchange → Phase → Exchange
phase_ends ts c x Reading = goes_on ts c x x.left x.done
phase_ends ts c x (Fetching m) = reduces ts c m x
phase_ends ts c x (Reducing m) = goes_on ts c x x.left x.done
phase_ends ts c x Shipping = record x { phase = Over }
phase_ends ts c x Over = x

-- the exchange where the answers of these modules are missing
abbrev pub with_lacks : Exchange → List ℕ → Exchange
with_lacks x dms = record x { lacks = dms }

-- An answer came, after which those of these modules are missing: where there is none, the phase ends.
abbrev pub on_answer : ℕ → ℕ → Exchange → List ℕ → Exchange
on_answer ts c x [] = phase_ends ts c (with_lacks x []) x.phase
on_answer ts c x (d ∷ dms) = with_lacks x (d ∷ dms)

-- the answer of module d came
abbrev pub answered : ℕ → ℕ → ℕ → Exchange → Exchange
answered ts c d x = on_answer ts c x (without x.lacks d)

-- the counts of uses at module d, each in the place of an earlier one
abbrev pub counted : ℕ → List (ℕ × ℕ) → List ((ℕ × ℕ) × ℕ) → List ((ℕ × ℕ) × ℕ)
counted d [] counts = counts
counted d (n ∷ ns) counts = counted d ns (filter (λ e. not ((e.0.0 == n.0) && (e.0.1 == d))) counts ++ ((n.0, d), n.1) ∷ [])

-- the exchange of the attempt of class c with timestamp ts, once a message of module d came: the answers to another
-- attempt change nothing
abbrev pub after_hand : ℕ → ℕ → ℕ → Msg → Exchange → Exchange
after_hand ts c d (Ready t k counts) x =
    if (t.0 == ts) && (k.0 == c) then answered ts c d (record x { counts = counted d counts x.counts }) else x
after_hand ts c d (Values t k u values) x =
    if (t.0 == ts) && (k.0 == c) then answered ts c d (record x { union = with_values x.union values; values = x.values + length values }) else x
after_hand ts c d (Reduced t k u n) x =
    if (t.0 == ts) && (k.0 == c) then answered ts c d (record x { counts = counted d ((u, n) ∷ []) x.counts }) else x
after_hand ts c d (Rows t k rows) x =
    if (t.0 == ts) && (k.0 == c) then answered ts c d (record x { found = x.found ++ rows; rows = x.rows + length rows }) else x
after_hand ts c d _ x = x

-- once one of its messages is sent
abbrev pub after_send : Exchange → Exchange
after_send x = record x { to_send = tail_of x.to_send }

-- the query that a statement is, where so many uses stand before it; only the rows of queries are reduced
abbrev pub asking_of : ℕ → Stmt → List Asking
asking_of before (Put rel row) = []
asking_of before (Query out rels conds) = record { before = before; uses = length rels; conds = conds } ∷ []
asking_of before (Update rel sets conds) = []
asking_of before (Delete rel conds) = []

abbrev pub askings : ℕ → List Stmt → List Asking
askings before [] = []
askings before (s ∷ rest) = asking_of before s ++ askings (before + uses_in s) rest

-- a READ's module, and the numbers of its uses
abbrev pub module_read : Site × Msg → Option (ℕ × List ℕ)
module_read (D d, Read ts c txn attempt conds uses) = Some (d.0, map (λ u. u.number) uses)
module_read _ = None

-- an attempt without modules awaits nothing
abbrev pub first_phase : List (ℕ × List ℕ) → Phase
first_phase [] = Over
first_phase (m ∷ ms) = Reading

-- at a Start that sends these READs
abbrev pub begins : Txn → List (Site × Msg) → Exchange
begins txn sends =
    let ms : List (ℕ × List ℕ) = filter_map module_read sends in
    record {
      modules = ms;
      phase = first_phase ms;
      to_send = [];
      lacks = map (λ m. m.0) ms;
      counts = [];
      left = askings 0 txn.statements;
      done = [];
      union = [];
      values = 0;
      rows = 0;
      found = [];
    }

abbrev pub first_send : List (ℕ × Msg) → Option Act
first_send [] = None
first_send (m ∷ rest) = Some (Sends (D (dm_no m.0)) m.1 None)

-- the message that is to be sent next
abbrev pub send_due : Exchange → Option Act
send_due x = first_send x.to_send

-- whether the attempt may commit
abbrev pub is_over : Phase → Bool
is_over Over = true
is_over _ = false
