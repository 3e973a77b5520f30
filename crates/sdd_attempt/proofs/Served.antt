-- An attempt that may commit has rows that serve its database: only the last ROWS makes it so, or it has no module.
use Rattle.sdd_attempt.proofs.All.{AnswersRead, Attempt, Bases, Bool, Catalogue, D, Database, DmNo, Exchange, FitsAnswer, FitsRows, FitsRowsOf, IsAsking, IsAskingAt, IsServed, List, Log, Msg, Phase, Ready, Reduced, Row, Rows, Serves, ServesIfLast, Setting, Site, Some, Txn, Values, [], active, active_handed, after_hand, and_parts, answered, arith, cond, counted, eqb-true, false, fetches_use, handed, is_over, is_reading, is_shipping, length, nat_tests, on_answer, reduces_use, sent, subst, true, with_values, without, ℕ, ◌&&◌, ◌++◌, ◌+◌, ◌==◌, ◌∷◌, ◌≡◌}
use Rattle.sdd_attempt.proofs.Phases.{with_counts, with_union, with_rows, ready_not_over, values_not_over, reduced_not_over}
use Rattle.sdd_attempt.proofs.QuestionsOfAttempt.{ready_awaited, of_class}

-- the exchange is over with rows that serve
abbrev ServesOver : Catalogue → Txn → Database → Exchange → Type 0
ServesOver cat txn db x = is_over x.phase ≡ true → Serves cat txn x.found db

-- an answer of a phase before the last
not_over : (cat : Catalogue) (txn : Txn) (db : Database) (b : Bool) (x y : Exchange) → (b ≡ true → is_over y.phase ≡ false) → ServesOver cat txn db x
    → ServesOver cat txn db (cond b y x)
not_over cat txn db b x y never h over = grind arith

shipping_not_over : (p : Phase) → is_shipping p ≡ true → is_over p ≡ false
shipping_not_over p e = grind arith

last_rows : (s : Setting) (bases : Bases) (a : Attempt) (rows : List (ℕ × Row)) (c : ℕ) (y : Exchange) → y.found ≡ a.exchange.found ++ rows
    → is_shipping y.phase ≡ true → (dms : List ℕ) → ServesIfLast s bases a rows dms → ServesOver s.catalogue a.text (bases a.ts) (on_answer a.ts c y dms)
last_rows s bases a rows c y found e dms h = grind arith

if_serves : (cat : Catalogue) (txn : Txn) (db : Database) (b : Bool) (x y : Exchange) → (b ≡ true → ServesOver cat txn db y) → ServesOver cat txn db x
    → ServesOver cat txn db (cond b y x)
if_serves cat txn db b x y h k = grind arith

rows_of_class : (s : Setting) (bases : Bases) (log : Log) (from : Site) (ts k c : ℕ) (a : Attempt) (rows : List (ℕ × Row))
    → FitsRows s bases (active s k log) from ts rows → k ≡ c → active s c log ≡ Some a → FitsRowsOf s bases a from ts rows
rows_of_class s bases log from ts k c a rows h same is = grind arith

read_of_class : (log : Log) (from : Site) (t k ts c : ℕ) → AnswersRead log from t k → t ≡ ts → k ≡ c → AnswersRead log from ts c
read_of_class log from t k ts c h e f = subst (λ n. AnswersRead log from ts n) f (subst (λ n. AnswersRead log from n k) e h)

reading_is : (x : Exchange) (b : Bool) → (is_reading x.phase && b) ≡ true → is_reading x.phase ≡ true
reading_is x b h = (and_parts (is_reading x.phase) b h).0

served_now : (s : Setting) (bases : Bases) (log : Log) (c : ℕ) (d : DmNo) (m : Msg) (a : Attempt) → active s c log ≡ Some a → FitsAnswer s bases log (D d) m
    → IsAsking c (sent log) (handed log) a
    → ServesOver s.catalogue a.text (bases a.ts) a.exchange → ServesOver s.catalogue a.text (bases a.ts) (after_hand a.ts c d.0 m a.exchange)
served_now s bases log c d (Ready t k counts) a is f asks h =
    let y : Exchange = with_counts a.exchange (counted d.0 counts a.exchange.counts) in
    not_over s.catalogue a.text (bases a.ts) ((t.0 == a.ts) && (k.0 == c)) a.exchange (answered a.ts c d.0 y)
    (λ e.
    let p = and_parts (t.0 == a.ts) (k.0 == c) e in
    let read : AnswersRead log (D d) a.ts c = read_of_class log (D d) t.0 k.0 a.ts c f (eqb-true t.0 a.ts p.0) (eqb-true k.0 c p.1) in
    ready_not_over a.ts c y (without y.lacks d.0) (reading_is a.exchange _ (ready_awaited log c a d asks read))) h
served_now s bases log c d (Values t k u values) a is f asks h =
    let y : Exchange = with_union a.exchange (with_values a.exchange.union values) (a.exchange.values + length values) in
    not_over s.catalogue a.text (bases a.ts) ((t.0 == a.ts) && (k.0 == c)) a.exchange (answered a.ts c d.0 y)
    (λ e. values_not_over a.ts c u y (without y.lacks d.0)
    (of_class s log (fetches_use u) (D d) t.0 k.0 c a f (eqb-true k.0 c (and_parts (t.0 == a.ts) (k.0 == c) e).1) is).phase) h
served_now s bases log c d (Reduced t k u n) a is f asks h =
    let y : Exchange = with_counts a.exchange (counted d.0 ((u, n) ∷ []) a.exchange.counts) in
    not_over s.catalogue a.text (bases a.ts) ((t.0 == a.ts) && (k.0 == c)) a.exchange (answered a.ts c d.0 y)
    (λ e. reduced_not_over a.ts c u y (without y.lacks d.0)
    (of_class s log (reduces_use u) (D d) t.0 k.0 c a f (eqb-true k.0 c (and_parts (t.0 == a.ts) (k.0 == c) e).1) is).phase) h
served_now s bases log c d (Rows t k rows) a is f asks h = grind (arith, nat_tests, with_rows, if_serves, answered, rows_of_class, eqb-true, and_parts, last_rows, without)
served_now s bases log c d m a is f asks h = h

pub served_handed : (s : Setting) (bases : Bases) (log : Log) (c : ℕ) (from : Site) (m : Msg) → FitsAnswer s bases log from m
    → IsAskingAt c (sent log) (handed log) (active s c log)
    → IsServed s.catalogue bases (active s c log) → IsServed s.catalogue bases (active_handed c from m (active s c log))
served_handed s bases log c from m f asks h = grind (arith, served_now)
