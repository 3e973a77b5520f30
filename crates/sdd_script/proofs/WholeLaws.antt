-- The whole file: the spelling of a workload that the catalogue allows is read as the workload.
use Rattle.sdd_script.proofs.All.{All, All-get_or, AllByRecursion, AreDistinct, AreTimely, Catalogue, ClassPart, Event, IsFrom1To, IsValid, IsValidEvent, IsValidRow, IsValidTxn, List, MAX_EVENTS, MAX_WORKLOAD_BYTES, Ok, Place, Plain, RelNo, Result, State, Submit, Txn, TxnNo, Value, Word, WorkRule, Workload, [], ap, append-nil, append_assoc, arith, cut_again, cut_lines, end_words, event_of, event_rules, event_words, false, filter_map, flat_map, get_or-map, is_ended, is_name, is_submitted, le-ltb, length, length-append, length-map, line_bytes, lines_of, list_any, list_any-map, list_lines, lt-ltb, map, map-append, may_follow, name_of_txn, nothing_read, recursion_from_All, refl, repeats, rows_put_by, spelling, start_words, submit_of, submitted_by, subst, sum_by, sym, takes_events, takes_lists, takes_txns, true, txn_lines, with_submitted, workload, ℕ, ◌++◌, ◌+◌, ◌-◌, ◌<◌, ◌==◌, ◌∙◌, ◌∷◌, ◌≡◌, ◌≤◌}
use Rattle.sdd_script.proofs.WordLooks.{name_fine, name_free}
use Rattle.sdd_script.proofs.UseLaws.{IsKnown}
use Rattle.sdd_script.proofs.EventLaws.{place_again, resend_again, tick_again, down_again, up_again}
use Rattle.sdd_script.proofs.LineLaws.{event_key_bytes}
use Rattle.sdd_script.proofs.NamePlaces.{any_none, place_of_name, apart_from}
use Rattle.sdd_script.proofs.SoundStates.{names_of}
use Rattle.sdd_script.proofs.ReadingLaws.{name_at_number, lines_spelled}
use Rattle.sdd_script.proofs.SpellingLaws.{IsStep, Chain, chain-append, chain_lines, chain_walk, line_step, state_of, of_rows, rows_chain, txns_chain}
use Rattle.sdd_script.proofs.ListChains.{lists_read}
use Rattle.sdd_script.proofs.RedeclareLaws.{timely_may}
use Rattle.sdd_script.proofs.FineLines.{AreFine, keyword_fine, NamesOne, event_key, behind_key, words_of_event, behind_fine}
use Rattle.sdd_script.specs.declared.fault.Counts.TheVariants as counts
use Rattle.sdd_script.specs.declared.keyword.Keyword.TheVariants as keys
use Rattle.sdd_script.specs.declared.keyword.EventKey.TheVariants as ekeys
use Rattle.sdd_script.specs.declared.place.Place.TheVariants as places

abbrev numbers : List TxnNo → List ℕ
numbers submitted = map (λ (t : TxnNo). t.0) submitted

abbrev scheduled : Place → List (RelNo × List Value) → ℕ → List Txn → List (List ClassPart) → ℕ → List TxnNo → List Event → State
scheduled place rows written txns lists classes submitted events = state_of place rows written (names_of txns) txns [] lists classes submitted events

-- ---- the transaction that an event submits

no_txn : Txn
no_txn = record { name = []; tm = record { 0 = 0 }; statements = [] }

pub submitted_name : (cat : Catalogue) (txns : List Txn) (txn : ℕ) → All (IsValidTxn cat) txns
    → IsFrom1To (length txns) txn → is_name (name_of_txn txns txn) ≡ true
submitted_name cat txns txn valid h =
    let lt : txn - 1 < length txns = omega (arith, h.0, h.1) in
    let named = (All-get_or (IsValidTxn cat) txns (txn - 1) no_txn lt valid).named in
    rw (name_at_number, get_or-map (λ (t : Txn). t.name) txns (txn - 1) no_txn [] lt) named

submit_again : (cat : Catalogue) (txns : List Txn) (txn : TxnNo) → All (IsValidTxn cat) txns
    → repeats (names_of txns) ≡ false → IsFrom1To (length txns) txn.0 → submit_of (names_of txns)
    (Plain (name_of_txn txns txn.0) ∷ []) ≡ Ok (Submit txn)
submit_again cat txns txn valid differ h =
    let named = submitted_name cat txns txn.0 valid h in
    let lt : txn.0 - 1 < length (names_of txns) = omega (arith, h.0, h.1, length-map txns (λ (t : Txn). t.name)) in
    let p = place_of_name (names_of txns) (txn.0 - 1) differ lt in
    let n : txn.0 - 1 + 1 ≡ txn.0 = omega (arith, h.0) in
    grind (arith, name_free, name_at_number)

names_one : (cat : Catalogue) (txns : List Txn) (e : Event) → All (IsValidTxn cat) txns → IsValidEvent cat (length txns) e → NamesOne txns e
names_one cat txns (Submit txn) valid h = name_fine (name_of_txn txns txn.0) (submitted_name cat txns txn.0 valid h)
names_one cat txns _ valid h = tt

record IsFresh (submitted : List TxnNo) (e : Event) (es : List Event) : Type 0 where
  new : is_submitted submitted e ≡ false
  distinct : AreDistinct (numbers (with_submitted submitted e) ++ filter_map submitted_by es)

fresh : (submitted : List TxnNo) (e : Event) (es : List Event) → AreDistinct (numbers submitted ++ filter_map submitted_by (e ∷ es))
    → IsFresh submitted e es
fresh submitted (Submit txn) es d =
    let none : list_any (λ (n : ℕ). n == txn.0) (numbers submitted) ≡ false =
    any_none (λ (n : ℕ). n == txn.0) (numbers submitted) (apart_from (numbers submitted) txn.0
    (filter_map submitted_by es) d) in
    let joined : numbers submitted ++ txn.0 ∷ filter_map submitted_by es ≡ numbers (submitted ++ txn ∷ []) ++ filter_map submitted_by es =
    sym (append_assoc (numbers submitted) (txn.0 ∷ []) (filter_map submitted_by es))
    ∙ ap (λ (l : List ℕ). l ++ filter_map submitted_by es)
    (sym (map-append (λ (t : TxnNo). t.0) submitted (txn ∷ []))) in
    record { new = sym (list_any-map (λ (n : ℕ). n == txn.0) (λ (t : TxnNo). t.0) submitted) ∙ none; distinct = subst AreDistinct joined d }
fresh submitted _ es d = record { new = refl; distinct = d }

-- ---- events

still : (place : Place) → takes_events place ≡ true → is_ended place ≡ false
still place t = grind arith

record MayComeNext (cat : Catalogue) (place : Place) (lists : List (List ClassPart)) (submitted : List TxnNo) (events : List Event) (e : Event) : Type 0 where
  takes : takes_events place ≡ true
  new : is_submitted submitted e ≡ false
  may : may_follow cat (length lists) events e ≡ true
  room : length events < MAX_EVENTS

event_rules_again : (cat : Catalogue) (place : Place) (rows : List (RelNo × List Value)) (written : ℕ)
    (txns : List Txn) (lists : List (List ClassPart)) (classes : ℕ) (submitted : List TxnNo)
    (events : List Event) (e : Event) (reading : Result Event WorkRule)
    → reading ≡ Ok e → MayComeNext cat place lists submitted events e
    → event_rules cat (scheduled place rows written txns lists classes submitted events) reading ≡ Ok
    (scheduled places.Events rows written txns lists classes (with_submitted submitted e)
    (events ++ e ∷ []))
event_rules_again cat place rows written txns lists classes submitted events e reading r h = grind (arith, lt-ltb)

event_again : (cat : Catalogue) → IsKnown cat → (txns : List Txn) (e : Event) → All (IsValidTxn cat) txns
    → repeats (names_of txns) ≡ false → IsValidEvent cat (length txns) e
    → event_of (event_key e) cat (names_of txns) (behind_key txns e) ≡ Ok e
event_again cat k txns (Submit txn) valid differ h = submit_again cat txns txn valid differ h
event_again cat k txns _ valid differ h = grind (arith, place_again, resend_again, tick_again, down_again, up_again)

event_step : (cat : Catalogue) → IsKnown cat → (place : Place) (rows : List (RelNo × List Value))
    (written : ℕ) (txns : List Txn) (lists : List (List ClassPart)) (classes : ℕ) (submitted : List TxnNo)
    (events : List Event) (e : Event)
    → All (IsValidTxn cat) txns → repeats (names_of txns) ≡ false → IsValidEvent cat (length txns) e → MayComeNext cat place lists submitted events e
    → IsStep cat (scheduled place rows written txns lists classes submitted events)
    (scheduled places.Events rows written txns lists classes (with_submitted submitted e)
    (events ++ e ∷ [])) (line_bytes (event_words txns e))
event_step cat k place rows written txns lists classes submitted events e valid differ h c =
    let st : State = scheduled place rows written txns lists classes submitted events in
    let to : State = scheduled places.Events rows written txns lists classes (with_submitted submitted e) (events ++ e ∷ []) in
    let fine : AreFine (Plain (event_key_bytes (event_key e)) ∷ behind_key txns e) =
    (keyword_fine (keys.Event (event_key e)), behind_fine cat k txns e h (names_one cat txns e valid h)) in
    subst (λ (l : List Word). IsStep cat st to (line_bytes l)) (words_of_event txns e)
    (line_step cat st to (keys.Event (event_key e)) (behind_key txns e) (still place c.takes) fine
    (event_rules_again cat place rows written txns lists classes submitted events e
    (event_of (event_key e) cat (names_of txns) (behind_key txns e)) (event_again cat k txns e valid differ h) c))

record AreEvents (cat : Catalogue) (st : State) (lines : List (List ℕ)) (rows : List (RelNo × List Value))
    (written : ℕ) (txns : List Txn) (lists : List (List ClassPart)) (classes : ℕ)
    (events : List Event) : Type 0 where
  place : Place
  submitted : List TxnNo
  takes : takes_events place ≡ true
  chain : Chain cat st lines (scheduled place rows written txns lists classes submitted events)

events_chain : (cat : Catalogue) → IsKnown cat → (rows : List (RelNo × List Value)) (written : ℕ)
    (txns : List Txn) (lists : List (List ClassPart)) (classes : ℕ) → All (IsValidTxn cat) txns
    → repeats (names_of txns) ≡ false → (es : List Event) (place : Place) (submitted : List TxnNo) (events : List Event)
    → takes_events place ≡ true → AllByRecursion (IsValidEvent cat (length txns)) es
    → AreDistinct (numbers submitted ++ filter_map submitted_by es)
    → length events + length es ≤ MAX_EVENTS → AreTimely cat (length lists) (events ++ es)
    → AreEvents cat (scheduled place rows written txns lists classes submitted events)
    (map line_bytes (map (event_words txns) es)) rows written txns lists classes (events ++ es)
events_chain cat k rows written txns lists classes valid differ [] place submitted events t h d few y = grind (arith, scheduled, append-nil)
events_chain cat k rows written txns lists classes valid differ (e ∷ es) place submitted events t h d few y =
    let f = fresh submitted e es d in
    let one = event_step cat k place rows written txns lists classes submitted events e valid differ h.0
    (record { takes = t; new = f.new; may = timely_may cat (length lists) events e es y; room = omega (arith, few) }) in
    let joined_on : (events ++ e ∷ []) ++ es ≡ events ++ e ∷ es = append_assoc events (e ∷ []) es in
    let more = events_chain cat k rows written txns lists classes valid differ es places.Events
    (with_submitted submitted e) (events ++ e ∷ []) refl h.1 f.distinct (omega (arith, length-append events (e ∷ []))) (rw joined_on y) in
    record { place = more.place; submitted = more.submitted; takes = more.takes; chain = (_, one, rw joined_on at more.chain) }

-- ---- the whole

lists_from : (place : Place) → takes_txns place ≡ true → takes_lists place ≡ true
lists_from place t = grind arith

end_step : (cat : Catalogue) (place : Place) (rows : List (RelNo × List Value)) (written : ℕ)
    (txns : List Txn) (lists : List (List ClassPart)) (classes : ℕ) (submitted : List TxnNo)
    (events : List Event) → takes_events place ≡ true
    → IsStep cat (scheduled place rows written txns lists classes submitted events)
    (scheduled places.Ended rows written txns lists classes submitted events) (line_bytes end_words)
end_step cat place rows written txns lists classes submitted events t = line_step cat _ _ keys.End [] (still place t) (keyword_fine keys.End, tt) (rw t refl)

record IsWhole (cat : Catalogue) (w : Workload) : Type 0 where
  written : ℕ
  classes : ℕ
  submitted : List TxnNo
  chain : Chain cat (nothing_read cat) (map line_bytes (lines_of cat w)) (scheduled places.Ended w.rows written w.txns w.lists classes submitted w.events)

whole_chain : (cat : Catalogue) → IsKnown cat → (w : Workload) → IsValid cat w → IsWhole cat w
whole_chain cat k w v =
    let rs : List (List ℕ) = map line_bytes (map (start_words cat) w.rows) in
    let ts : List (List ℕ) = map line_bytes (flat_map (txn_lines cat) w.txns) in
    let ls : List (List ℕ) = map line_bytes (flat_map list_lines w.lists) in
    let es : List (List ℕ) = map line_bytes (map (event_words w.txns) w.events) in
    let written : ℕ = length w.rows + sum_by rows_put_by w.txns in
    let zero_more : 0 + length w.rows ≡ length w.rows = omega arith in
    let rows = rows_chain cat k w.rows [] 0 (recursion_from_All (IsValidRow cat) w.rows v.rows) (omega (arith, v.few_rows, zero_more)) in
    let rows_are : Chain cat (nothing_read cat) rs (of_rows cat w.rows (length w.rows)) = rw zero_more at rows in
    let txns = txns_chain cat k w.rows w.txns places.Rows (length w.rows) [] [] refl
    (recursion_from_All (IsValidTxn cat) w.txns v.txns) v.names (omega (arith, v.few_txns)) v.few_rows in
    let after_txns : State = scheduled txns.place w.rows written w.txns [] (length cat.classes) [] [] in
    let lists = lists_read cat k after_txns w.lists (lists_from txns.place txns.goes_on) v.lists in
    let n : ℕ = lists.classes in
    let events = events_chain cat k w.rows written w.txns w.lists n v.txns v.names w.events lists.place []
    [] (grind arith) (recursion_from_All (IsValidEvent cat (length w.txns)) w.events v.events) v.submitted
    (omega (arith, v.few_events)) v.timely in
    let last : State = scheduled places.Ended w.rows written w.txns w.lists n events.submitted w.events in
    let two = chain-append cat (nothing_read cat) _ _ rs ts rows_are txns.chain in
    let three = chain-append cat (nothing_read cat) _ _ (rs ++ ts) ls two lists.chain in
    let four = chain-append cat (nothing_read cat) _ _ (rs ++ ts ++ ls) es three events.chain in
    let five = chain-append cat (nothing_read cat) _ last (rs ++ ts ++ ls ++ es) (line_bytes end_words ∷ []) four
    (last, end_step cat events.place w.rows written w.txns w.lists n events.submitted w.events events.takes, refl) in
    record { written = written; classes = n; submitted = events.submitted; chain = simp map-append five }

-- the spelling of a workload that is allowed is read as the workload
pub read_again : (cat : Catalogue) → IsKnown cat → (w : Workload) → IsValid cat w
    → length (spelling cat w) ≤ MAX_WORKLOAD_BYTES → workload cat (spelling cat w) ≡ Ok w
read_again cat k w v small =
    let c = whole_chain cat k w v in
    let lines : List (List ℕ) = map line_bytes (lines_of cat w) in
    let b : cut_lines (spelling cat w) ≡ (lines, []) = ap cut_lines (sym (lines_spelled (lines_of cat w)))
    ∙ cut_again lines (chain_lines cat (nothing_read cat) _ lines c.chain) in
    let d = chain_walk cat 1 (nothing_read cat) _ lines c.chain refl in
    grind (arith, le-ltb)
