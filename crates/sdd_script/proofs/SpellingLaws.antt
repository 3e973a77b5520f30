-- The spelling of a workload that the catalogue allows is read as the workload.
use Rattle.sdd_script.proofs.All.{AllByRecursion, AreLines, BadLine, Bool, Catalogue, ClassPart, Err, Event, FitsStatement, HasNoNewline, Header, HoldsValues, IsValidRow, IsValidTxn, IsValue, Keyword, List, MAX_ROWS, MAX_TXNS, Ok, Place, Plain, RelNo, Result, State, StatementKey, Stmt, T, Txn, TxnNo, Value, Word, WorkRule, [], ap, append-nil, append_assoc, arith, bytes_eq, cond, done_words, drop, false, flat_map, header_words, is_ended, keyword_rules, length, length-append, line_bytes, line_rules, lt-ltb, map, map-append, one_line, recursion_from_All, refl, repeats, row_words, rows_put_by, site_word, start_words, statement_of, statement_rules, statement_words, subst, sum_by, sum_by-cons, sym, tail_rules, takes_txns, true, txn_lines, ℕ, ◌++◌, ◌+◌, ◌<◌, ◌∙◌, ◌∷◌, ◌≡◌, ◌≤◌}
use Rattle.sdd_script.specs.Walk.{walk}
use Rattle.sdd_script.proofs.WordCuts.{NonePasses}
use Rattle.sdd_script.proofs.WordLooks.{name_free}
use Rattle.sdd_script.proofs.UseLaws.{IsKnown}
use Rattle.sdd_script.proofs.RowLaws.{FitsRowOf, row_again, row_free}
use Rattle.sdd_script.proofs.QueryLaws.{put_again, query_fits, query_again}
use Rattle.sdd_script.proofs.UpdateLaws.{update_fits, update_again, delete_again}
use Rattle.sdd_script.proofs.EventLaws.{tm_again, site_free}
use Rattle.sdd_script.proofs.LineLaws.{keyword_bytes, statement_key_bytes, line_again, line_has_no_newline, words_again}
use Rattle.sdd_script.proofs.NamePlaces.{found_none, apart_before}
use Rattle.sdd_script.proofs.SoundStates.{rows_put, names_of}
use Rattle.sdd_script.proofs.FineLines.{AreFine, row_of_statement, keyword_fine, start_fine, header_fine, statement_fine}
use Rattle.sdd_lang.specs.declared.statement.Stmt.TheVariants as statements
use Rattle.sdd_script.specs.declared.fault.Counts.TheVariants as counts
use Rattle.sdd_script.specs.declared.keyword.Keyword.TheVariants as keys
use Rattle.sdd_script.specs.declared.keyword.StatementKey.TheVariants as skeys
use Rattle.sdd_script.specs.declared.place.Place.TheVariants as places

-- a line that is read
pub record IsStep (cat : Catalogue) (st to : State) (line : List ℕ) : Type 0 where
  pub read : one_line cat st line ≡ Ok to
  pub line_is : HasNoNewline line

-- lines that lead from state to state
abbrev pub Chain : Catalogue → State → List (List ℕ) → State → Type 0
Chain cat st [] to = st ≡ to
Chain cat st (line ∷ lines) to = (next : State) × IsStep cat st next line × Chain cat next lines to

pub chain-append : (cat : Catalogue) (st mid to : State) (xs ys : List (List ℕ)) → Chain cat st xs mid → Chain cat mid ys to
    → Chain cat st (xs ++ ys) to
chain-append cat st mid to [] ys h k = subst (λ (x : State). Chain cat x ys to) (sym h) k
chain-append cat st mid to (x ∷ xs) ys h k = (h.0, h.1, chain-append cat h.0 mid to xs ys h.2 k)

pub chain_lines : (cat : Catalogue) (st to : State) (lines : List (List ℕ)) → Chain cat st lines to → AreLines lines
chain_lines cat st to [] h = tt
chain_lines cat st to (line ∷ lines) h = (h.1.line_is, chain_lines cat h.0 to lines h.2)

pub chain_walk : (cat : Catalogue) (n : ℕ) (st to : State) (lines : List (List ℕ)) → Chain cat st lines to
    → tail_rules to [] ≡ Ok to → walk cat n st lines [] ≡ Ok to
unfolding walk
chain_walk cat n st to [] h e = grind arith
chain_walk cat n st to (line ∷ lines) h e = grind (arith, (chain_walk cat (n + 1) h.0 to lines h.2 e))

-- a line, by its keyword
pub line_step : (cat : Catalogue) (st to : State) (key : Keyword) (words : List Word)
    → is_ended st.place ≡ false → AreFine (Plain (keyword_bytes key) ∷ words) → keyword_rules key cat st words ≡ Ok to
    → IsStep cat st to (line_bytes (Plain (keyword_bytes key) ∷ words))
line_step cat st to key words going fine e = record {
  read = ap (λ (b : Bool). cond b (Err BadLine)
      (line_rules cat st (line_bytes (Plain (keyword_bytes key) ∷ words)))) going
      ∙ line_again cat st (Plain (keyword_bytes key)) words fine ∙ words_again cat st key words ∙ e;
  line_is = line_has_no_newline (Plain (keyword_bytes key)) words fine;
}

abbrev pub state_of : Place → List (RelNo × List Value) → ℕ → List (List ℕ) → List Txn → List Stmt → List (List ClassPart) → ℕ
    → List TxnNo → List Event → State
state_of place rows written names txns statements lists classes submitted events =
    record {
      place = place;
      rows = rows;
      written = written;
      names = names;
      txns = txns;
      statements = statements;
      lists = lists;
      classes = classes;
      submitted = submitted;
      events = events;
    }

-- before the class lists
abbrev pub early : Catalogue → Place → List (RelNo × List Value) → ℕ → List (List ℕ) → List Txn → List Stmt → State
early cat place rows written names txns statements = state_of place rows written names txns statements [] (length cat.classes) [] []

abbrev pub of_rows : Catalogue → List (RelNo × List Value) → ℕ → State
of_rows cat rows written = early cat places.Rows rows written [] [] []

-- ---- rows

row_step : (cat : Catalogue) → IsKnown cat → (rows : List (RelNo × List Value)) (written : ℕ) (r : RelNo × List Value) → IsValidRow cat r
    → written < MAX_ROWS
    → IsStep cat (of_rows cat rows written) (of_rows cat (rows ++ r ∷ []) (written + 1)) (line_bytes (start_words cat r))
row_step cat k rows written r h room =
    let f : FitsRowOf cat r.0 r.1 = (h.fits.0, h.fits.1, recursion_from_All IsValue r.1 h.values) in
    line_step cat _ _ keys.Row (row_words cat r.0 r.1) refl (start_fine cat k r h)
    (rw (row_free cat k r.0 r.1 f, row_again cat k r.0 r.1 f, lt-ltb written MAX_ROWS room) refl)

pub rows_chain : (cat : Catalogue) → IsKnown cat → (rs rows : List (RelNo × List Value)) (written : ℕ)
    → AllByRecursion (IsValidRow cat) rs → written + length rs ≤ MAX_ROWS
    → Chain cat (of_rows cat rows written) (map line_bytes (map (start_words cat) rs)) (of_rows cat (rows ++ rs) (written + length rs))
rows_chain cat k [] rows written h few = grind (arith, append-nil)
rows_chain cat k (r ∷ rs) rows written h few = (
  of_rows cat (rows ++ r ∷ []) (written + 1),
  row_step cat k rows written r h.0 (omega (arith, few)),
  (grind (arith, append_assoc, (rows_chain cat k rs (rows ++ r ∷ []) (written + 1) h.1))),
)

-- ---- statements

abbrev inside : Catalogue → Header → List (RelNo × List Value) → ℕ → List (List ℕ) → List Txn → List Stmt → State
inside cat h rows written names txns ss = early cat (places.Inside h) rows written names txns ss

statement_rules_again : (cat : Catalogue) (h : Header) (rows : List (RelNo × List Value)) (written : ℕ)
    (names : List (List ℕ)) (txns : List Txn) (ss : List Stmt) (q : Stmt) (reading : Result Stmt WorkRule)
    → reading ≡ Ok q → FitsStatement cat q → length ss < 32 → written + rows_put q ≤ MAX_ROWS
    → statement_rules (inside cat h rows written names txns ss) reading ≡ Ok (inside cat h rows (written + rows_put q) names txns (ss ++ q ∷ []))
statement_rules_again cat h rows written names txns ss q reading e fits few room = grind arith

-- a statement's first word, and the words after it
abbrev statement_key : Stmt → StatementKey
statement_key (statements.Put rel row) = skeys.Put
statement_key (statements.Query out rels conds) = skeys.Query
statement_key (statements.Update rel sets conds) = skeys.Update
statement_key (statements.Delete rel conds) = skeys.Delete

abbrev behind_key : Catalogue → Stmt → List Word
behind_key cat q = drop 1 (statement_words cat q)

words_of_statement : (cat : Catalogue) (q : Stmt)
    → Plain (statement_key_bytes (statement_key q)) ∷ behind_key cat q ≡ statement_words cat q
words_of_statement cat q = grind arith

statement_again : (cat : Catalogue) → IsKnown cat → (q : Stmt) → FitsStatement cat q → HoldsValues q
    → statement_of (statement_key q) cat (behind_key cat q) ≡ Ok q
statement_again cat k (statements.Put rel row) fits hold = put_again cat k rel row (row_of_statement cat rel row fits hold)
statement_again cat k (statements.Query out rels conds) fits hold = grind (arith, query_again, query_fits)
statement_again cat k (statements.Update rel sets conds) fits hold =
    update_again cat k rel sets conds (update_fits cat rel sets conds fits hold)
statement_again cat k (statements.Delete rel conds) fits hold = delete_again cat k rel conds fits hold

statement_step : (cat : Catalogue) → IsKnown cat → (h : Header) (rows : List (RelNo × List Value))
    (written : ℕ) (names : List (List ℕ)) (txns : List Txn) (ss : List Stmt) (q : Stmt)
    → FitsStatement cat q → HoldsValues q → length ss < 32 → written + rows_put q ≤ MAX_ROWS
    → IsStep cat (inside cat h rows written names txns ss)
    (inside cat h rows (written + rows_put q) names txns (ss ++ q ∷ []))
    (line_bytes (statement_words cat q))
statement_step cat k h rows written names txns ss q fits hold few room =
    let st : State = inside cat h rows written names txns ss in
    let to : State = inside cat h rows (written + rows_put q) names txns (ss ++ q ∷ []) in
    let whole = words_of_statement cat q in
    subst (λ (l : List Word). IsStep cat st to (line_bytes l)) whole
    (line_step cat st to (keys.Statement (statement_key q)) (behind_key cat q) refl
    (subst AreFine (sym whole) (statement_fine cat k q fits hold))
    (statement_rules_again cat h rows written names txns ss q (statement_of (statement_key q) cat (behind_key cat q))
    (statement_again cat k q fits hold) fits few room))

statements_chain : (cat : Catalogue) → IsKnown cat → (h : Header) (rows : List (RelNo × List Value))
    (names : List (List ℕ)) (txns : List Txn) (qs ss : List Stmt) (written : ℕ)
    → AllByRecursion (FitsStatement cat) qs → AllByRecursion HoldsValues qs → length ss + length qs ≤ 32
    → written + sum_by rows_put qs ≤ MAX_ROWS
    → Chain cat (inside cat h rows written names txns ss) (map line_bytes (map (statement_words cat) qs))
    (inside cat h rows (written + sum_by rows_put qs) names txns (ss ++ qs))
statements_chain cat k h rows names txns [] ss written fits hold few room = grind (arith, append-nil)
statements_chain cat k h rows names txns (q ∷ qs) ss written fits hold few room =
    let sum = sum_by-cons rows_put q qs in
    let n : written + rows_put q + sum_by rows_put qs ≡ written + sum_by rows_put (q ∷ qs) = omega (arith, sum) in
    let more = statements_chain cat k h rows names txns qs (ss ++ q ∷ []) (written + rows_put q) fits.1 hold.1
    (omega (arith, length-append ss (q ∷ []))) (omega (arith, room, n)) in
    (_, statement_step cat k h rows written names txns ss q fits.0 hold.0 (omega (arith, few)) (omega (arith, room, sum)), rw (append_assoc, n) at more)

-- ---- transactions

abbrev pub outside : Catalogue → Place → List (RelNo × List Value) → ℕ → List (List ℕ) → List Txn → State
outside cat place rows written names txns = early cat place rows written names txns []

pub going_on : (place : Place) → takes_txns place ≡ true → is_ended place ≡ false
going_on place t = grind arith

abbrev header_for : Txn → Header
header_for t = record { name = t.name; tm = t.tm }

header_step : (cat : Catalogue) → IsKnown cat → (place : Place) (rows : List (RelNo × List Value))
    (written : ℕ) (names : List (List ℕ)) (txns : List Txn) (t : Txn) → takes_txns place ≡ true
    → IsValidTxn cat t → NonePasses (bytes_eq t.name) names → length names < MAX_TXNS
    → IsStep cat (outside cat place rows written names txns) (inside cat (header_for t) rows written
    (names ++ t.name ∷ []) txns []) (line_bytes (header_words t.name t.tm))
header_step cat k place rows written names txns t at h other room =
    line_step cat _ _ keys.Txn (Plain t.name ∷ site_word (T t.tm) ∷ []) (going_on place at) (header_fine cat k t h)
    (grind (arith, name_free, site_free, tm_again, found_none, lt-ltb))

done_step : (cat : Catalogue) (h : Header) (rows : List (RelNo × List Value)) (written : ℕ) (names : List (List ℕ)) (txns : List Txn) (ss : List Stmt)
    → IsStep cat (inside cat h rows written names txns ss) (outside cat places.Between rows written names
    (txns ++ record { name = h.name; tm = h.tm; statements = ss } ∷ [])) (line_bytes done_words)
done_step cat h rows written names txns ss = line_step cat _ _ keys.Done [] refl (keyword_fine keys.Done, tt) refl

txn_chain : (cat : Catalogue) → IsKnown cat → (place : Place) (rows : List (RelNo × List Value))
    (written : ℕ) (names : List (List ℕ)) (txns : List Txn) (t : Txn) → takes_txns place ≡ true
    → IsValidTxn cat t → NonePasses (bytes_eq t.name) names → length names < MAX_TXNS
    → written + rows_put_by t ≤ MAX_ROWS
    → Chain cat (outside cat place rows written names txns) (map line_bytes (txn_lines cat t))
    (outside cat places.Between rows (written + rows_put_by t) (names ++ t.name ∷ []) (txns ++ t ∷ []))
txn_chain cat k place rows written names txns t at h other room few =
    let hd : Header = header_for t in
    let more : List (List ℕ) = names ++ t.name ∷ [] in
    let body = statements_chain cat k hd rows more txns t.statements [] written
    (recursion_from_All (FitsStatement cat) t.statements h.fits.statements)
    (recursion_from_All HoldsValues t.statements h.values) (omega (arith, h.fits.few)) few in
    let mid : State = inside cat hd rows (written + rows_put_by t) more txns t.statements in
    let to : State = outside cat places.Between rows (written + rows_put_by t) more (txns ++ t ∷ []) in
    let last : Chain cat mid (line_bytes done_words ∷ []) to = (to, done_step cat hd rows (written + rows_put_by t) more txns t.statements, refl) in
    let both : Chain cat (inside cat hd rows written more txns [])
    (map line_bytes (map (statement_words cat) t.statements) ++ line_bytes done_words ∷ []) to =
    chain-append cat (inside cat hd rows written more txns []) mid to
    (map line_bytes (map (statement_words cat) t.statements)) (line_bytes done_words ∷ []) body last in (
      inside cat hd rows written more txns [],
      header_step cat k place rows written names txns t at h other room,
      subst (λ (l : List (List ℕ)). Chain cat (inside cat hd rows written more txns []) l to)
          (sym (map-append line_bytes (map (statement_words cat) t.statements) (done_words ∷ []))) both,
    )

pub record AreRead (cat : Catalogue) (st : State) (lines : List (List ℕ)) (rows : List (RelNo × List Value))
    (written : ℕ) (names : List (List ℕ)) (txns : List Txn) : Type 0 where
  pub place : Place
  pub goes_on : takes_txns place ≡ true
  pub chain : Chain cat st lines (outside cat place rows written names txns)

outside_same : (cat : Catalogue) (place : Place) (rows : List (RelNo × List Value)) (n m : ℕ)
    (names ns : List (List ℕ)) (txns ts : List Txn) → n ≡ m → names ≡ ns → txns ≡ ts
    → outside cat place rows n names txns ≡ outside cat place rows m ns ts
outside_same cat place rows n m names ns txns ts p q r = cc

pub txns_chain : (cat : Catalogue) → IsKnown cat → (rows : List (RelNo × List Value)) (ts : List Txn)
    (place : Place) (written : ℕ) (names : List (List ℕ)) (txns : List Txn) → takes_txns place ≡ true
    → AllByRecursion (IsValidTxn cat) ts → repeats (names ++ names_of ts) ≡ false
    → length names + length ts ≤ MAX_TXNS → written + sum_by rows_put_by ts ≤ MAX_ROWS
    → AreRead cat (outside cat place rows written names txns) (map line_bytes (flat_map (txn_lines cat) ts))
    rows (written + sum_by rows_put_by ts) (names ++ names_of ts) (txns ++ ts)
txns_chain cat k rows [] place written names txns at h differ room few = grind (arith, outside_same, append-nil)
txns_chain cat k rows (t ∷ ts) place written names txns at h differ room few =
    let sum : sum_by rows_put_by (t ∷ ts) ≡ rows_put_by t + sum_by rows_put_by ts = sum_by-cons rows_put_by t ts in
    let len : length (names ++ t.name ∷ []) ≡ length names + 1 = length-append names (t.name ∷ []) in
    let n : written + rows_put_by t + sum_by rows_put_by ts ≡ written + sum_by rows_put_by (t ∷ ts) = omega (arith, sum) in
    let joined : (names ++ t.name ∷ []) ++ names_of ts ≡ names ++ names_of (t ∷ ts) = append_assoc names (t.name ∷ []) (names_of ts) in
    let one = txn_chain cat k place rows written names txns t at h.0
    (apart_before names t.name (names_of ts) differ) (omega (arith, room)) (omega (arith, sum)) in
    let more = txns_chain cat k rows ts places.Between (written + rows_put_by t) (names ++ t.name ∷ [])
    (txns ++ t ∷ []) refl h.1 (subst (λ (l : List (List ℕ)). repeats l ≡ false) (sym joined) differ)
    (omega (arith, room, len)) (omega (arith, n)) in
    let start : State = outside cat place rows written names txns in
    let mid : State = outside cat places.Between rows (written + rows_put_by t) (names ++ t.name ∷ []) (txns ++ t ∷ []) in
    let last : State = outside cat more.place rows (written + rows_put_by t + sum_by rows_put_by ts)
    ((names ++ t.name ∷ []) ++ names_of ts) ((txns ++ t ∷ []) ++ ts) in
    let to : State = outside cat more.place rows (written + sum_by rows_put_by (t ∷ ts)) (names ++ names_of (t ∷ ts)) (txns ++ t ∷ ts) in
    let whole = chain-append cat start mid last (map line_bytes (txn_lines cat t)) (map line_bytes (flat_map (txn_lines cat) ts)) one more.chain in
    let ended : Chain cat start (map line_bytes (txn_lines cat t) ++ map line_bytes (flat_map (txn_lines cat) ts)) to =
    subst (λ (x : State). Chain cat start (map line_bytes (txn_lines cat t) ++ map line_bytes
    (flat_map (txn_lines cat) ts)) x) (outside_same cat more.place rows
    (written + rows_put_by t + sum_by rows_put_by ts) (written + sum_by rows_put_by (t ∷ ts))
    ((names ++ t.name ∷ []) ++ names_of ts) (names ++ names_of (t ∷ ts)) ((txns ++ t ∷ []) ++ ts)
    (txns ++ t ∷ ts) n joined (append_assoc txns (t ∷ []) ts)) whole in
    record {
      place = more.place;
      goes_on = more.goes_on;
      chain =
          subst (λ (l : List (List ℕ)). Chain cat start l to)
          (sym (map-append line_bytes (txn_lines cat t) (flat_map (txn_lines cat) ts))) ended;
    }
