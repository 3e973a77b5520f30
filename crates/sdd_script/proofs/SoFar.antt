-- The lines that a state represents, and how each kind of line adds itself to them.
use Rattle.sdd_script.proofs.All.{Catalogue, ClassPart, Event, Header, List, Place, RelNo, State, Stmt, Txn, Value, Word, Workload, [], append-nil, append_assoc, arith, class_lines, classes_in, done_words, end_words, event_words, flat_map, flat_map-append, header_words, lines_of, list_lines, list_words, map, map-append, start_words, statement_words, takes_events, takes_rows, takes_statements, takes_txns, true, txn_lines, ◌++◌, ◌∷◌, ◌≡◌}
use Rattle.sdd_script.specs.declared.place.Place.TheVariants as places

-- the open transaction
abbrev pub txn_with : Header → List Stmt → Txn
txn_with header statements = record { name = header.name; tm = header.tm; statements = statements }

-- the lines of the transaction or the list that is open
abbrev pub open_lines : Catalogue → Place → List Stmt → List (List Word)
open_lines cat (places.Inside header) statements = header_words header.name header.tm ∷ map (statement_words cat) statements
open_lines cat (places.Listing list) statements = list_words ∷ flat_map class_lines (classes_in list)
open_lines cat _ statements = []

abbrev pub end_lines : Place → List (List Word)
end_lines places.Ended = end_words ∷ []
end_lines _ = []

abbrev pub lines_at : Catalogue → List (RelNo × List Value) → List Txn → List (List ClassPart) → Place → List Stmt → List Event
    → List (List Word)
lines_at cat rows txns lists place statements events =
    map (start_words cat) rows ++ flat_map (txn_lines cat) txns ++ flat_map list_lines lists ++ open_lines
    cat place statements ++ map (event_words txns) events ++ end_lines place

-- the lines that led to a state
abbrev pub so_far : Catalogue → State → List (List Word)
so_far cat st = lines_at cat st.rows st.txns st.lists st.place st.statements st.events

-- rows stand before transactions, these before lists, and these before events
abbrev pub InOrder : Place → List Txn → List (List ClassPart) → List Stmt → List Event → Type 0
InOrder places.Rows txns lists statements events = (txns ≡ []) × (lists ≡ []) × (statements ≡ []) × (events ≡ [])
InOrder (places.Inside header) txns lists statements events = (lists ≡ []) × (events ≡ [])
InOrder places.Between txns lists statements events = (lists ≡ []) × (statements ≡ []) × (events ≡ [])
InOrder (places.Listing list) txns lists statements events = (statements ≡ []) × (events ≡ [])
InOrder places.Declared txns lists statements events = (statements ≡ []) × (events ≡ [])
InOrder places.Events txns lists statements events = statements ≡ []
InOrder places.Ended txns lists statements events = statements ≡ []

-- ---- one line more

pub row_more : (cat : Catalogue) (rows : List (RelNo × List Value)) (r : RelNo × List Value)
    (txns : List Txn) (lists : List (List ClassPart)) (place : Place) (statements : List Stmt)
    (events : List Event) → takes_rows place ≡ true → InOrder place txns lists statements events
    → lines_at cat (rows ++ r ∷ []) txns lists place statements events ≡ lines_at cat rows txns lists place statements events ++ start_words cat r ∷ []
row_more cat rows r txns lists place statements events t o = grind (arith, append-nil, map-append)

-- a transaction opens, or a class list

pub header_more : (cat : Catalogue) (rows : List (RelNo × List Value)) (txns : List Txn)
    (lists : List (List ClassPart)) (place : Place) (statements : List Stmt) (events : List Event)
    (header : Header) → takes_txns place ≡ true → InOrder place txns lists statements events
    → lines_at cat rows txns lists (places.Inside header) statements events ≡ lines_at cat rows txns lists
    place statements events ++ header_words header.name header.tm ∷ []
header_more cat rows txns lists place statements events header t o = grind (arith, append-nil)

-- a statement

pub statement_more : (cat : Catalogue) (rows : List (RelNo × List Value)) (txns : List Txn)
    (lists : List (List ClassPart)) (place : Place) (statements : List Stmt) (s : Stmt)
    (events : List Event) → takes_statements place ≡ true → InOrder place txns lists statements events
    → lines_at cat rows txns lists place (statements ++ s ∷ []) events ≡ lines_at cat rows txns lists place statements events ++ statement_words cat s ∷ []
statement_more cat rows txns lists place statements s events t o = grind (arith, map-append, append-nil, append_assoc)

-- a transaction ends

pub done_more : (cat : Catalogue) (rows : List (RelNo × List Value)) (txns : List Txn)
    (lists : List (List ClassPart)) (header : Header) (statements : List Stmt) (events : List Event)
    → (lists ≡ []) × (events ≡ [])
    → lines_at cat rows (txns ++ txn_with header statements ∷ []) lists places.Between [] events ≡ lines_at
    cat rows txns lists (places.Inside header) statements events ++ done_words ∷ []
done_more cat rows txns lists header statements events o = rw (o.0, o.1) (simp (flat_map-append, append-nil, append_assoc))

-- an event

pub event_more : (cat : Catalogue) (rows : List (RelNo × List Value)) (txns : List Txn)
    (lists : List (List ClassPart)) (place : Place) (statements : List Stmt) (events : List Event)
    (e : Event) → takes_events place ≡ true
    → lines_at cat rows txns lists places.Events statements (events ++ e ∷ []) ≡ lines_at cat rows txns lists place statements events ++ event_words txns e ∷ []
event_more cat rows txns lists place statements events e t = grind (arith, map-append, append-nil, append_assoc)

-- the end

pub end_more : (cat : Catalogue) (rows : List (RelNo × List Value)) (txns : List Txn)
    (lists : List (List ClassPart)) (place : Place) (statements : List Stmt) (events : List Event)
    → takes_events place ≡ true
    → lines_at cat rows txns lists places.Ended statements events ≡ lines_at cat rows txns lists place statements events ++ end_words ∷ []
end_more cat rows txns lists place statements events t = grind (arith, append-nil)

-- at the end these are the lines of the workload
pub lines_at_end : (cat : Catalogue) (w : Workload) (statements : List Stmt)
    → lines_at cat w.rows w.txns w.lists places.Ended statements w.events ≡ lines_of cat w
lines_at_end cat w statements = simp append-nil
