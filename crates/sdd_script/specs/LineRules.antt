-- The rules of a line, by its first word. What the lines before it have said is a state, and a line makes the next one.
use Rattle.std.specs.Prelude.{ℕ, ◌+◌, nat_lt, nat_le, ◌==◌, ◌&&◌, not, List, [], ◌∷◌, ◌++◌, length, Bool, false, Option, Some, None, is_some, Result, Ok, Err, if◌then◌else◌}
use Rattle.std.specs.List.{position, list_any, list_all}
use Rattle.std.specs.Str.{bytes_eq, is_utf8}
use Rattle.sdd_lang.specs.All.{Catalogue, Event, MAX_ASSIGNMENTS, MAX_CONDITIONS, MAX_EVENTS, MAX_OUTPUT_COLUMNS, MAX_ROWS, MAX_STATEMENTS, MAX_TXNS, MAX_USES, RelNo, Submit, TmNo, TxnNo, Value, must, require, ◌>>=◌}
use Rattle.sdd_lang.specs.declared.statement.Stmt.{Stmt}
use Rattle.sdd_lang.specs.declared.statement.Stmt.TheVariants as statements
use Rattle.sdd_words.specs.Keywords.{is_free}
use Rattle.sdd_words.specs.Forms.{are_free}
use Rattle.sdd_words.specs.Scan.{words_of}
use Rattle.sdd_words.specs.Texts.{is_sound}
use Rattle.sdd_words.specs.Words.{Word}
use Rattle.sdd_script.specs.Values.{row_of}
use Rattle.sdd_script.specs.ClassLists.{class_line_rules}
use Rattle.sdd_script.specs.FirstWords.{keyword_of}
use Rattle.sdd_script.specs.Naming.{name_of}
use Rattle.sdd_script.specs.OpenLists.{classes_in}
use Rattle.sdd_script.specs.Redeclaring.{may_follow}
use Rattle.sdd_script.specs.Statements.{statement_of}
use Rattle.sdd_script.specs.Occurrences.{tm_of, event_of}
use Rattle.sdd_script.specs.Places.{takes_rows, takes_txns, takes_statements, takes_events}
use Rattle.sdd_script.specs.declared.fault.Counts.TheVariants as counts
use Rattle.sdd_script.specs.declared.fault.WorkRule.{WorkRule}
use Rattle.sdd_script.specs.declared.fault.WorkRule.TheVariants.{NotUtf8, BadLine, BadEvent, DuplicateTxn, SubmittedTwice, TooMany}
use Rattle.sdd_script.specs.declared.keyword.Keyword.{Keyword}
use Rattle.sdd_script.specs.declared.keyword.Keyword.TheVariants as keys
use Rattle.sdd_script.specs.declared.place.Place.{Place}
use Rattle.sdd_script.specs.declared.place.Place.TheVariants as places
use Rattle.sdd_script.specs.declared.state.State.{State}

-- rows

-- how many rows there are with one more, if there is room for it
abbrev pub one_more_row : ℕ → Option ℕ
one_more_row written = if nat_lt written MAX_ROWS then Some (written + 1) else None

abbrev pub row_rules : Catalogue → State → List Word → Result State WorkRule
row_rules cat st [] = Err BadLine
row_rules cat st (name ∷ words) = do
  _ ← must BadLine (takes_rows st.place && (is_free name && are_free words))
  (r : RelNo × List Value) ← row_of cat name words
  written ← require (TooMany counts.Row) (one_more_row st.written)
  Ok (record st { rows = st.rows ++ r ∷ []; written = written })

-- transactions

abbrev pub opened : State → List ℕ → TmNo → Result State WorkRule
opened st name tm = do
  _ ← must DuplicateTxn (not (is_some (position (bytes_eq name) st.names)))
  _ ← must (TooMany counts.Txn) (nat_lt (length st.names) MAX_TXNS)
  Ok (record st { place = places.Inside (record { name = name; tm = tm }); names = st.names ++ name ∷ [] })

abbrev pub txn_rules : Catalogue → State → List Word → Result State WorkRule
txn_rules cat st (word ∷ tm ∷ []) = do
  _ ← must BadLine (takes_txns st.place && (is_free word && is_free tm))
  name ← name_of word
  t ← tm_of cat tm
  opened st name t
txn_rules cat st _ = Err BadLine

-- how many of a transaction's statements, and of what is in a statement

abbrev pub statement_limits : ℕ → Stmt → Result (Unit {0}) WorkRule
statement_limits before (statements.Put rel row) = must (TooMany counts.Statement) (nat_lt before MAX_STATEMENTS)
statement_limits before (statements.Query out rels conds) = do
  _ ← must (TooMany counts.Statement) (nat_lt before MAX_STATEMENTS)
  _ ← must (TooMany counts.Part) (nat_le (length rels) MAX_USES)
  _ ← must (TooMany counts.Cond) (nat_le (length conds) MAX_CONDITIONS)
  must (TooMany counts.Column) (nat_le (length out) MAX_OUTPUT_COLUMNS)
statement_limits before (statements.Update rel sets conds) = do
  _ ← must (TooMany counts.Statement) (nat_lt before MAX_STATEMENTS)
  _ ← must (TooMany counts.Cond) (nat_le (length conds) MAX_CONDITIONS)
  must (TooMany counts.Column) (nat_le (length sets) MAX_ASSIGNMENTS)
statement_limits before (statements.Delete rel conds) = do
  _ ← must (TooMany counts.Statement) (nat_lt before MAX_STATEMENTS)
  must (TooMany counts.Cond) (nat_le (length conds) MAX_CONDITIONS)

-- how many rows there are with the statement's, if there is room for it
abbrev pub written_with : ℕ → Stmt → Option ℕ
written_with written (statements.Put rel row) = one_more_row written
written_with written statement = Some written

abbrev pub with_statement : State → Stmt → Result State WorkRule
with_statement st statement = do
  written ← require (TooMany counts.Row) (written_with st.written statement)
  _ ← statement_limits (length st.statements) statement
  Ok (record st { statements = st.statements ++ statement ∷ []; written = written })

-- a statement, by its reading
abbrev pub statement_rules : State → Result Stmt WorkRule → Result State WorkRule
statement_rules st reading = do
  _ ← must BadLine (takes_statements st.place)
  statement ← reading
  with_statement st statement

-- a transaction ends, or a class list
abbrev pub closed : Place → State → Result State WorkRule
closed (places.Inside header) st =
    Ok (record st { place = places.Between; txns = st.txns ++ record { name = header.name; tm = header.tm; statements = st.statements } ∷ []; statements = [] })
closed (places.Listing list) st = Ok (record st { place = places.Declared; lists = st.lists ++ classes_in list ∷ [] })
closed place st = Err BadLine

abbrev pub done_rules : State → List Word → Result State WorkRule
done_rules st [] = closed st.place st
done_rules st _ = Err BadLine

-- events

abbrev pub is_submitted : List TxnNo → Event → Bool
is_submitted submitted (Submit txn) = list_any (λ (t : TxnNo). t.0 == txn.0) submitted
is_submitted submitted event = false

abbrev pub with_submitted : List TxnNo → Event → List TxnNo
with_submitted submitted (Submit txn) = submitted ++ txn ∷ []
with_submitted submitted event = submitted

abbrev pub with_event : Catalogue → State → Event → Result State WorkRule
with_event cat st event = do
  _ ← must SubmittedTwice (not (is_submitted st.submitted event))
  _ ← must BadEvent (may_follow cat (length st.lists) st.events event)
  _ ← must (TooMany counts.Event) (nat_lt (length st.events) MAX_EVENTS)
  Ok (record st { place = places.Events; events = st.events ++ event ∷ []; submitted = with_submitted st.submitted event })

-- an event, by its reading
abbrev pub event_rules : Catalogue → State → Result Event WorkRule → Result State WorkRule
event_rules cat st reading = do
  _ ← must BadLine (takes_events st.place)
  event ← reading
  with_event cat st event

abbrev pub end_rules : State → List Word → Result State WorkRule
end_rules st [] = do
  _ ← must BadLine (takes_events st.place)
  Ok (record st { place = places.Ended })
end_rules st _ = Err BadLine

-- a line, by its keyword and the words after it
abbrev pub keyword_rules : Keyword → Catalogue → State → List Word → Result State WorkRule
keyword_rules keys.Row cat st words = row_rules cat st words
keyword_rules keys.Txn cat st words = txn_rules cat st words
keyword_rules (keys.Statement key) cat st words = statement_rules st (statement_of key cat words)
keyword_rules keys.Done cat st words = done_rules st words
keyword_rules (keys.Class key) cat st words = class_line_rules key cat st words
keyword_rules (keys.Event key) cat st words = event_rules cat st (event_of key cat st.names words)
keyword_rules keys.End cat st words = end_rules st words

abbrev pub words_rules : Catalogue → State → List Word → Result State WorkRule
words_rules cat st [] = Err BadLine
words_rules cat st (first ∷ words) = do
  keyword ← require BadLine (keyword_of first)
  keyword_rules keyword cat st words

-- a text that is too long makes the line bad
abbrev pub sound_rules : Catalogue → State → List Word → Result State WorkRule
sound_rules cat st words = do
  _ ← must BadLine (list_all is_sound words)
  words_rules cat st words

-- a line: UTF-8, then words, of which the texts are not too long, then the rules of its first word
unfoldable pub line_rules : Catalogue → State → List ℕ → Result State WorkRule
line_rules cat st line = do
  _ ← must NotUtf8 (is_utf8 line)
  words ← require BadLine (words_of line)
  sound_rules cat st words
