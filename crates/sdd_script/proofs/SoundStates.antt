-- What holds in every state, and that each line of rows and transactions keeps it and adds itself to the lines before.
use Rattle.sdd_script.proofs.All.{All, All-append, All-from_recursion, AreDistinct, AreTimely, Bool, Catalogue, ClassPart, Event, FitsStatement, Header, HoldsValues, IsFrom1To, IsName, IsValidClass, IsValidEvent, IsValidRow, IsValidTxn, IsValue, List, MAX_CLASSES, MAX_EVENTS, MAX_LISTS, MAX_ROWS, MAX_TXNS, None, Ok, Place, Plain, Quoted, RelNo, Result, Some, State, Stmt, TmNo, Txn, TxnNo, UnknownName, Value, Word, WorkRule, [], all_classes, ap, append-nil, are_free, arith, bind_ok, both_hold, bytes_eq, class_names, closed, codes, cond, done_words, false, filter_map, header_words, is_free, is_name, is_put, is_some, length, length-append, map, map-append, name_in, name_of, nat_lt, no_classes, not, ok_is, one_more_row, open_list, part_names, position, refl, repeats, require_ok, row_of, row_rules, rows_put_by, start_words, statement_limits, statement_rules, submitted_by, subst, sum_by, sum_by-append, sym, takes_rows, takes_statements, takes_txns, tm_of, true, txn_rules, written_with, ℕ, ◌&&◌, ◌++◌, ◌+◌, ◌<◌, ◌∙◌, ◌∷◌, ◌≡◌, ◌≤◌}
use Rattle.sdd_script.proofs.StepLaws.{must_then, not_true, some_is, known_then}
use Rattle.sdd_script.proofs.RowLaws.{row_takes}
use Rattle.sdd_script.proofs.QueryLaws.{IsStatement, limits_before}
use Rattle.sdd_script.proofs.EventLaws.{tm_takes}
use Rattle.sdd_script.proofs.NamePlaces.{none_found, repeats_not}
use Rattle.sdd_script.proofs.SoFar.{txn_with, so_far, InOrder, row_more, header_more, statement_more, done_more}
use Rattle.sdd_script.proofs.ValueLaws.{some_text as name_if}
use Rattle.sdd_lang.specs.declared.statement.Stmt.TheVariants as statements
use Rattle.sdd_script.specs.declared.fault.Counts.TheVariants as counts
use Rattle.sdd_script.specs.declared.place.Place.TheVariants as places

-- a statement puts one row, or none
abbrev pub rows_put : Stmt → ℕ
rows_put q = cond (is_put q) 1 0

abbrev pub names_of : List Txn → List (List ℕ)
names_of txns = map (λ (t : Txn). t.name) txns

abbrev pub open_name : Place → List (List ℕ)
open_name (places.Inside header) = header.name ∷ []
open_name _ = []

abbrev pub HeaderFits : Catalogue → Place → Type 0
HeaderFits cat (places.Inside header) = IsName header.name × IsFrom1To cat.tms header.tm.0
HeaderFits cat _ = Unit {0}

-- so many classes with those of the catalogue: they are valid, and their names differ
pub record Declares (cat : Catalogue) (classes : List ClassPart) (count : ℕ) : Type 0 where
  pub valid : All (IsValidClass cat) classes
  pub names : repeats (class_names cat ++ part_names classes) ≡ false
  pub counted : count ≡ length cat.classes + length classes
  pub few : count ≤ MAX_CLASSES

-- how many lists are open
abbrev pub lists_open : Place → ℕ
lists_open (places.Listing list) = 1
lists_open _ = 0

pub record Sound (cat : Catalogue) (st : State) : Type 0 where
  pub rows : All (IsValidRow cat) st.rows
  pub txns : All (IsValidTxn cat) st.txns
  pub statements : All (FitsStatement cat) st.statements
  pub values : All HoldsValues st.statements
  pub few_statements : length st.statements ≤ 32
  pub header : HeaderFits cat st.place
  pub names : st.names ≡ names_of st.txns ++ open_name st.place
  pub differ : repeats st.names ≡ false
  pub declares : Declares cat (all_classes st) st.classes
  pub few_lists : length st.lists + lists_open st.place ≤ MAX_LISTS
  pub timely : AreTimely cat (length st.lists) st.events
  pub events : All (IsValidEvent cat (length st.txns)) st.events
  pub submitted : map (λ (t : TxnNo). t.0) st.submitted ≡ filter_map submitted_by st.events
  pub once : AreDistinct (filter_map submitted_by st.events)
  pub written : st.written ≡ length st.rows + sum_by rows_put_by st.txns + sum_by rows_put st.statements
  pub few_rows : st.written ≤ MAX_ROWS
  pub few_txns : length st.names ≤ MAX_TXNS
  pub few_events : length st.events ≤ MAX_EVENTS
  pub order : InOrder st.place st.txns st.lists st.statements st.events

-- a line leads from one state to the next
pub record Leads (cat : Catalogue) (st to : State) (words : List Word) : Type 0 where
  pub sound : Sound cat to
  pub lines : so_far cat to ≡ so_far cat st ++ words ∷ []

pub one : {A : Type 0} (P : A → Type 0) (x : A) → P x → All P (x ∷ [])
one P x h = All-from_recursion P (x ∷ []) (h, tt)

pub all_more : {A : Type 0} (P : A → Type 0) (xs : List A) (x : A) → All P xs → P x → All P (xs ++ x ∷ [])
all_more P xs x h k = All-append P xs (x ∷ []) h (one P x k)

pub one_longer : {A : Type 0} (xs : List A) (x : A) → length (xs ++ x ∷ []) ≡ length xs + 1
one_longer xs x = length-append xs (x ∷ [])

-- ---- a row

abbrev with_row : State → RelNo × List Value → State
with_row st r = record st { rows = st.rows ++ r ∷ []; written = st.written + 1 }

abbrev with_row_at : State → RelNo × List Value → ℕ → State
with_row_at st r n = record st { rows = st.rows ++ r ∷ []; written = n }

one_more_is : (written n : ℕ) (b : Bool) → nat_lt written MAX_ROWS ≡ b → cond b (Some (written + 1)) None ≡ Some n
    → (written + 1 ≡ n) × (written < MAX_ROWS)
one_more_is written n b t e = grind arith

row_sound : (cat : Catalogue) (st : State) (r : RelNo × List Value) → Sound cat st → IsValidRow cat r → st.written < MAX_ROWS
    → Sound cat (with_row st r)
row_sound cat st r s v room = grind (arith, (all_more (IsValidRow cat) st.rows r s.rows v), (one_longer st.rows r))

pub row_leads : (cat : Catalogue) (st to : State) (words : List Word) → Sound cat st
    → row_rules cat st words ≡ Ok to → Leads cat st to (Plain (codes "row") ∷ words)
row_leads cat st to [] s e = absurd cc
row_leads cat st to (name ∷ words) s e =
    let a = must_then _ (takes_rows st.place && (is_free name && are_free words)) _ to e in
    let b = bind_ok (row_of cat name words) _ to a.1 in
    let c = known_then _ (one_more_row st.written) _ to b.2 in
    let n = one_more_is st.written c.0 (nat_lt st.written MAX_ROWS) refl c.1 in
    let place = (both_hold (takes_rows st.place) (is_free name && are_free words) a.0).0 in
    let r = row_takes cat name words b.0 b.1 in
    let valid : IsValidRow cat b.0 = record { fits = (r.fits.0, r.fits.1); values = All-from_recursion IsValue b.0.1 r.fits.2 } in
    let spelled : Plain (codes "row") ∷ name ∷ words ≡ start_words cat b.0 = ap (λ (l : List Word). Plain (codes "row") ∷ l) r.spelled in
    subst (λ (x : State). Leads cat st x (Plain (codes "row") ∷ name ∷ words)) (ap (with_row_at st b.0) n.0 ∙ ok_is (with_row_at st b.0 c.0) to c.2)
    (record {
      sound = row_sound cat st b.0 s valid n.1;
      lines = row_more cat st.rows b.0 st.txns st.lists st.place st.statements st.events place s.order
          ∙ ap (λ (l : List Word). so_far cat st ++ l ∷ []) (sym spelled);
    })

-- ---- a transaction opens

abbrev with_header : State → Header → State
with_header st h = record st { place = places.Inside h; names = st.names ++ h.name ∷ [] }

closed_name : (place : Place) → takes_txns place ≡ true → open_name place ≡ []
closed_name place t = grind arith

-- outside of lists none is open

pub none_open : (place : Place) → takes_txns place ≡ true → open_list place ≡ no_classes
none_open place t = grind arith

pub named_takes : (bytes name : List ℕ) → name_in bytes ≡ Some name → (is_name name ≡ true) × (bytes ≡ name)
named_takes bytes name e = let h = name_if bytes name (is_name bytes) e in (subst (λ (l : List ℕ). is_name l ≡ true) h.1 h.0, h.1)

pub name_of_takes : (w : Word) (name : List ℕ) → name_of w ≡ Ok name → (w ≡ Plain name) × (is_name name ≡ true)
name_of_takes (Plain bytes) name e = let h = named_takes bytes name (require_ok UnknownName (name_in bytes) name e) in (ap (λ (l : List ℕ). Plain l) h.1, h.0)
name_of_takes (Quoted text) name e = absurd cc

abbrev header_of : List ℕ → TmNo → Header
header_of name tm = record { name = name; tm = tm }

pub txn_leads : (cat : Catalogue) (st to : State) (words : List Word) → Sound cat st
    → txn_rules cat st words ≡ Ok to → Leads cat st to (Plain (codes "txn") ∷ words)
txn_leads cat st to (word ∷ tm ∷ []) s e =
    let a = must_then _ (takes_txns st.place && (is_free word && is_free tm)) _ to e in
    let b = bind_ok (name_of word) _ to a.1 in
    let c = bind_ok (tm_of cat tm) _ to b.2 in
    let h : Header = header_of b.0 c.0 in
    let d = must_then _ (not (is_some (position (bytes_eq b.0) st.names))) _ to c.2 in
    let f = must_then _ (nat_lt (length st.names) MAX_TXNS) _ to d.1 in
    let place = (both_hold (takes_txns st.place) (is_free word && is_free tm) a.0).0 in
    let n = name_of_takes word b.0 b.1 in
    let t = tm_takes cat tm c.0 c.1 in
    let other = none_found (bytes_eq b.0) st.names (not_true (is_some (position (bytes_eq b.0) st.names)) d.0) in
    let spelled : Plain (codes "txn") ∷ word ∷ tm ∷ [] ≡ header_words h.name h.tm = cc in
    subst (λ (x : State). Leads cat st x (Plain (codes "txn") ∷ word ∷ tm ∷ [])) (ok_is (with_header st h) to f.1) (record {
      sound = (grind (arith, names_of, closed_name, append-nil, repeats_not, Declares, none_open, one_longer));
      lines = header_more cat st.rows st.txns st.lists st.place st.statements st.events h place s.order
          ∙ ap (λ (l : List Word). so_far cat st ++ l ∷ []) (sym spelled);
    })
txn_leads cat st to _ s e = absurd cc

-- ---- a statement

abbrev with_one : State → Stmt → State
with_one st q = record st { statements = st.statements ++ q ∷ []; written = st.written + rows_put q }

abbrev with_one_at : State → Stmt → ℕ → State
with_one_at st q n = record st { statements = st.statements ++ q ∷ []; written = n }

written_is : (written n : ℕ) (q : Stmt) → written ≤ MAX_ROWS → written_with written q ≡ Some n
    → (written + rows_put q ≡ n) × (written + rows_put q ≤ MAX_ROWS)
written_is written n q few e = grind (arith, one_more_is, nat_lt, some_is)

statement_order : (place : Place) (txns : List Txn) (lists : List (List ClassPart)) (ss other : List Stmt)
    (events : List Event) → takes_statements place ≡ true → InOrder place txns lists ss events
    → InOrder place txns lists other events
statement_order place txns lists ss other events t o = grind arith

statement_sound : (cat : Catalogue) (st : State) (q : Stmt) → Sound cat st
    → takes_statements st.place ≡ true → FitsStatement cat q → HoldsValues q → length st.statements < 32
    → st.written + rows_put q ≤ MAX_ROWS → Sound cat (with_one st q)
statement_sound cat st q s t fits hold few room =
    grind (
      arith,
      (all_more (FitsStatement cat) st.statements q s.statements fits),
      (all_more HoldsValues st.statements q s.values hold),
      (one_longer st.statements q),
      (sum_by-append rows_put st.statements (q ∷ [])),
      statement_order,
    )

pub statement_leads : (cat : Catalogue) (st to : State) (key : List ℕ) (words : List Word)
    (reading : Result Stmt WorkRule) → Sound cat st
    → ((q : Stmt) → reading ≡ Ok q → IsStatement cat key words q) → statement_rules st reading ≡ Ok to
    → Leads cat st to (Plain key ∷ words)
statement_leads cat st to key words reading s read e =
    let a = must_then _ (takes_statements st.place) _ to e in
    let b = bind_ok reading _ to a.1 in
    let q : Stmt = b.0 in
    let c = known_then _ (written_with st.written q) _ to b.2 in
    let n = written_is st.written c.0 q s.few_rows c.1 in
    let d = bind_ok (statement_limits (length st.statements) q) _ to c.2 in
    let r = read q b.1 in
    subst (λ (x : State). Leads cat st x (Plain key ∷ words)) (ap (with_one_at st q) n.0 ∙ ok_is (with_one_at st q c.0) to d.2) (record {
      sound = statement_sound cat st q s a.0 (r.fits (length st.statements) d.0 d.1) r.values (limits_before (length st.statements) q d.0 d.1) n.1;
      lines = statement_more cat st.rows st.txns st.lists st.place st.statements q st.events a.0 s.order
          ∙ ap (λ (l : List Word). so_far cat st ++ l ∷ []) (sym r.spelled);
    })

-- ---- a transaction ends

abbrev with_done : State → Header → State
with_done st h = record st { place = places.Between; txns = st.txns ++ txn_with h st.statements ∷ []; statements = [] }

abbrev pub at_place : State → Place → State
at_place st p = record st { place = p }

done_sound : (cat : Catalogue) (st : State) (h : Header) → Sound cat (at_place st (places.Inside h)) → Sound cat (with_done st h)
done_sound cat st h s = grind (
  arith,
  (all_more (IsValidTxn cat) st.txns (txn_with h st.statements) s.txns),
  map-append,
  append-nil,
  names_of,
  All-from_recursion,
  (sum_by-append rows_put_by st.txns (txn_with h st.statements ∷ [])),
)

pub txn_closed : (cat : Catalogue) (st to : State) (h : Header) → Sound cat (at_place st (places.Inside h))
    → closed (places.Inside h) st ≡ Ok to → Leads cat (at_place st (places.Inside h)) to done_words
txn_closed cat st to h s e =
    subst (λ (x : State). Leads cat (at_place st (places.Inside h)) x done_words) (ok_is (with_done st h) to e) (record {
      sound = done_sound cat st h s;
      lines = done_more cat st.rows st.txns st.lists h st.statements st.events s.order;
    })
