-- What is read is a workload that the catalogue allows, and the file is its spelling.
use Rattle.sdd_script.proofs.All.{Accepts, BadLine, Bool, Catalogue, Deliver, Down, Err, Event, EventKey, IsFrom1To, IsLink, IsSoundCatalogue, IsValidEvent, IsWhole, Keyword, List, Lose, MAX_PLACE, MAX_WORKLOAD_BYTES, Ok, Option, Place, Plain, Quoted, Redeclare, Repeat, Resend, Result, Settle, Site, Some, State, StatementKey, Stmt, Submit, Tick, Txn, TxnNo, Up, Word, WorkFault, WorkRule, Workload, [], ap, append-nil, append_assoc, arith, at_line, bind_ok, bytes_eq, bytes_eq-Decides, codes, cond, count_word, cut_lines, cut_takes, ended, event_of, event_words, false, flat_map, flight_place, get_or, is_ended, is_free, is_utf8, keyword_rules, length, length-map, line_bytes, line_rules, lines_of, ltb-false, map, name_in, name_of_txn, nat_lt, nothing_read, number_named, ok_is, one_line, option_map, option_map_or, position, position-Some, refl, rules, site_word, slice_get, slice_get-map, spelled_lines, spelling, statement_of, submit_of, subst, sym, tail_rules, takes_events, true, txn_named, txn_no, unwrap_or, unwrap_or-slice_get, walk_bytes, workload, workload_of_state, ℕ, ◌++◌, ◌+◌, ◌-◌, ◌<◌, ◌>>=◌, ◌∙◌, ◌∷◌, ◌≡◌}
use Rattle.sdd_script.specs.Walk.{walk}
use Rattle.sdd_script.proofs.StepLaws.{must_then, known_then, some_is}
use Rattle.sdd_script.proofs.QueryLaws.{IsStatement, put_takes, query_takes}
use Rattle.sdd_script.proofs.UpdateLaws.{update_takes, delete_takes}
use Rattle.sdd_script.proofs.EventLaws.{place_takes, resend_takes, tick_takes, settle_takes, redeclare_takes, down_takes, up_takes}
use Rattle.sdd_script.proofs.LineLaws.{line_takes, words_take, keyword_bytes, statement_key_bytes, event_key_bytes}
use Rattle.sdd_script.proofs.SoFar.{lines_at, so_far, lines_at_end}
use Rattle.sdd_script.proofs.SoundEvents.{IsEvent, no_open, event_leads, end_leads}
use Rattle.sdd_script.proofs.SoundStates.{Sound, Leads, names_of, open_name, named_takes, row_leads, txn_leads, statement_leads}
use Rattle.sdd_script.proofs.SoundLists.{list_leads, class_leads, reads_leads, writes_leads, done_leads}
use Rattle.sdd_script.proofs.ClassNames.{class_names_differ}
use Rattle.sdd_script.proofs.RedeclareLaws.{none_timely}
use Rattle.sdd_script.specs.declared.keyword.Keyword.TheVariants as keys
use Rattle.sdd_script.specs.declared.keyword.StatementKey.TheVariants as skeys
use Rattle.sdd_script.specs.declared.keyword.ClassKey.TheVariants as class_keys
use Rattle.sdd_script.specs.declared.keyword.EventKey.TheVariants as ekeys
use Rattle.sdd_script.specs.declared.place.Place.TheVariants as places

-- ---- events

or_named : (o : Option Txn) → option_map_or (λ (t : Txn). t.name) o [] ≡ unwrap_or (option_map (λ (t : Txn). t.name) o) []
or_named o = grind arith

pub name_at_number : (txns : List Txn) (txn : ℕ) → name_of_txn txns txn ≡ get_or (names_of txns) (txn - 1) []
name_at_number txns txn = or_named (slice_get txns (txn - 1)) ∙ ap (λ (o : Option (List ℕ)). unwrap_or o [])
    (sym (slice_get-map (λ (t : Txn). t.name) txns (txn - 1))) ∙ unwrap_or-slice_get (names_of txns)
    (txn - 1) []

record IsSubmit (names : List (List ℕ)) (words : List Word) (e : Event) : Type 0 where
  place : ℕ
  within : place < length names
  spelled : words ≡ Plain (get_or names place []) ∷ []
  is : Submit (txn_no (place + 1)) ≡ e

numbered_at : (o : Option ℕ) (n : ℕ) → option_map (λ place. place + 1) o ≡ Some n → (place : ℕ) × (o ≡ Some place) × (place + 1 ≡ n)
numbered_at o n e = grind (arith, some_is)

named_submit : (names : List (List ℕ)) (w : Word) (txn : TxnNo) → txn_named names w ≡ Ok txn → (place : ℕ)
    × (place < length names) × (w ≡ Plain (get_or names place [])) × (txn_no (place + 1) ≡ txn)
named_submit names (Quoted text) txn e = absurd cc
named_submit names (Plain bytes) txn e =
    let a = known_then _ (name_in bytes) _ txn e in
    let m = known_then _ (number_named names a.0) _ txn a.2 in
    let b = numbered_at (position (bytes_eq a.0) names) m.0 m.1 in
    let n = named_takes bytes a.0 a.1 in
    let p = position-Some (bytes_eq a.0) names b.0 [] b.1 in
    let same : a.0 ≡ get_or names b.0 [] = (bytes_eq-Decides a.0 (get_or names b.0 [])).0 p.1 in
    (b.0, p.0, ap (λ (l : List ℕ). Plain l) (n.1 ∙ same), ap txn_no b.2 ∙ ok_is (txn_no m.0) txn m.2)

submit_takes : (names : List (List ℕ)) (words : List Word) (e : Event) → submit_of names words ≡ Ok e → IsSubmit names words e
submit_takes names (w ∷ []) e h =
    let a = must_then _ (is_free w) _ e h in
    let b = bind_ok (txn_named names w) _ e a.1 in
    let n = named_submit names w b.0 b.1 in
    record { place = n.0; within = n.1; spelled = ap (λ (x : Word). x ∷ []) n.2; is = ap (λ (t : TxnNo). Submit t) n.3 ∙ ok_is (Submit b.0) e b.2 }
submit_takes names _ e h = absurd cc

submit_is : (cat : Catalogue) (st : State) (words : List Word) (e : Event) → Sound cat st
    → takes_events st.place ≡ true → submit_of st.names words ≡ Ok e
    → IsEvent cat st (codes "submit") words e
submit_is cat st words e s t h =
    let r = submit_takes st.names words e h in
    let names : st.names ≡ names_of st.txns = s.names ∙ ap (λ (l : List (List ℕ)). names_of st.txns ++ l) (no_open st.place t) ∙ append-nil
    (names_of st.txns) in
    let len : length st.names ≡ length st.txns = rw names (length-map st.txns (λ (t : Txn). t.name)) in
    let back : r.place + 1 - 1 ≡ r.place = omega arith in
    let name : name_of_txn st.txns (r.place + 1) ≡ get_or st.names r.place [] = grind (arith, name_at_number) in
    rw (← r.is) (record { spelled = cc; valid = (omega arith, omega (arith, r.within, len)) })

-- an event whose words are spelled so
is_event : (cat : Catalogue) (st : State) (key : List ℕ) (words ws : List Word) (x e : Event) → x ≡ e → words ≡ ws
    → Plain key ∷ ws ≡ event_words st.txns x → IsValidEvent cat (length st.txns) x → IsEvent cat st key words e
is_event cat st key words ws x e is spelled whole valid = grind (arith, IsEvent)

-- an event of one form with two others
flight_is : (make : Site → Site → ℕ → Event) (cat : Catalogue) (st : State) (key : List ℕ) (words : List Word) (e : Event)
    → ((from to : Site) (n : ℕ) → Plain key ∷ site_word from ∷ site_word to ∷ count_word n ∷ []
    ≡ event_words st.txns (make from to n))
    → ((from to : Site) (n : ℕ) → IsLink cat from to → IsFrom1To MAX_PLACE n → IsValidEvent cat (length st.txns) (make from to n))
    → (flight_place cat words >>= λ (p : Site × Site × ℕ). Ok (make p.0 p.1 p.2)) ≡ Ok e → IsEvent cat st key words e
flight_is make cat st key words e whole valid h = grind (arith, bind_ok, place_takes, is_event, ok_is)

event_is : (key : EventKey) (cat : Catalogue) (st : State) (words : List Word) (e : Event) → Sound cat st
    → takes_events st.place ≡ true
    → event_of key cat st.names words ≡ Ok e → IsEvent cat st (event_key_bytes key) words e
event_is ekeys.Submit cat st words e s t h = submit_is cat st words e s t h
event_is ekeys.Deliver cat st words e s t h =
    flight_is Deliver cat st (codes "deliver") words e (λ _ _ _. refl) (λ _ _ _ l p. (l, p)) h
event_is ekeys.Lose cat st words e s t h = flight_is Lose cat st (codes "lose") words e (λ _ _ _. refl) (λ _ _ _ l p. (l, p)) h
event_is ekeys.Repeat cat st words e s t h =
    flight_is Repeat cat st (codes "repeat") words e (λ _ _ _. refl) (λ _ _ _ l p. (l, p)) h
event_is ekeys.Resend cat st words e s t h =
    let r = resend_takes cat words e h in
    is_event cat st (codes "resend") words _ (Resend r.from r.to) e r.is r.spelled refl r.linked
event_is ekeys.Tick cat st words e s t h =
    let r = tick_takes cat words e h in
    is_event cat st (codes "tick") words _ (Tick r.tm r.n) e r.is r.spelled refl (r.there, r.counted)
event_is ekeys.Settle cat st words e s t h = grind (arith, settle_takes, is_event)
event_is ekeys.Redeclare cat st words e s t h =
    let r = redeclare_takes words e h in is_event cat st (codes "redeclare") words [] Redeclare e r.1 r.0 refl tt
event_is ekeys.Down cat st words e s t h =
    let r = down_takes cat words e h in is_event cat st (codes "down") words _ (Down r.at) e r.is r.spelled refl r.there
event_is ekeys.Up cat st words e s t h =
    let r = up_takes cat words e h in is_event cat st (codes "up") words _ (Up r.at) e r.is r.spelled refl r.there

-- ---- a line

statement_takes : (key : StatementKey) (cat : Catalogue) (words : List Word) (q : Stmt) → statement_of key cat words ≡ Ok q
    → IsStatement cat (statement_key_bytes key) words q
statement_takes skeys.Put cat words q h = put_takes cat words q h
statement_takes skeys.Query cat words q h = query_takes cat words q h
statement_takes skeys.Update cat words q h = update_takes cat words q h
statement_takes skeys.Delete cat words q h = delete_takes cat words q h

keyword_leads : (cat : Catalogue) (st to : State) (key : Keyword) (words : List Word) → Sound cat st
    → keyword_rules key cat st words ≡ Ok to → Leads cat st to (Plain (keyword_bytes key) ∷ words)
keyword_leads cat st to keys.Row words s e = row_leads cat st to words s e
keyword_leads cat st to keys.Txn words s e = txn_leads cat st to words s e
keyword_leads cat st to (keys.Statement key) words s e =
    statement_leads cat st to (statement_key_bytes key) words (statement_of key cat words) s
    (λ q h. statement_takes key cat words q h) e
keyword_leads cat st to keys.Done words s e = done_leads cat st to words s e
keyword_leads cat st to (keys.Class class_keys.List) words s e = list_leads cat st to words s e
keyword_leads cat st to (keys.Class class_keys.Class) words s e = class_leads cat st to words s e
keyword_leads cat st to (keys.Class class_keys.Reads) words s e = reads_leads cat st to words s e
keyword_leads cat st to (keys.Class class_keys.Writes) words s e = writes_leads cat st to words s e
keyword_leads cat st to (keys.Event key) words s e =
    event_leads cat st to (event_key_bytes key) words (event_of key cat st.names words) s
    (λ t x h. event_is key cat st words x s t h) e
keyword_leads cat st to keys.End words s e = end_leads cat st to words s e

record IsRead (cat : Catalogue) (st to : State) (line : List ℕ) : Type 0 where
  words : List Word
  spelled : line ≡ line_bytes words
  leads : Leads cat st to words

line_leads : (cat : Catalogue) (st to : State) (line : List ℕ) → Sound cat st → line_rules cat st line ≡ Ok to → IsRead cat st to line
line_leads cat st to line s e =
    let l = line_takes cat st to line e in
    let k = words_take cat st to l.words l.rules in
    record { words = l.words; spelled = l.spelled; leads = rw k.whole (keyword_leads cat st to k.key k.words s k.rules) }

one_if : (cat : Catalogue) (st to : State) (line : List ℕ) (b : Bool) → cond b (Err BadLine) (line_rules cat st line) ≡ Ok to
    → line_rules cat st line ≡ Ok to
one_if cat st to line b e = grind arith

-- ---- a file

at_ok : (n : ℕ) (r : Result State WorkRule) (f : State → Result State WorkFault) (to : State)
    → at_line n r f ≡ Ok to → (st : State) × (r ≡ Ok st) × (f st ≡ Ok to)
at_ok n r f to e = grind arith

record IsEnd (st to : State) (tail : List ℕ) : Type 0 where
  nothing : tail ≡ []
  is : st ≡ to
  ended : is_ended st.place ≡ true

ended_if : (st to : State) (b : Bool) (rule : WorkRule) → cond b (Ok st) (Err rule) ≡ Ok to → (b ≡ true) × (st ≡ to)
ended_if st to b rule e = grind arith

tail_takes : (st to : State) (tail : List ℕ) → tail_rules st tail ≡ Ok to → IsEnd st to tail
tail_takes st to tail e = grind (arith, ended_if, is_utf8)

record IsFile (cat : Catalogue) (st to : State) (lines : List (List ℕ)) (tail : List ℕ) : Type 0 where
  words : List (List Word)
  spelled : lines ≡ map line_bytes words
  nothing : tail ≡ []
  sound : Sound cat to
  so : so_far cat to ≡ so_far cat st ++ words
  ended : is_ended to.place ≡ true

walk_takes : (cat : Catalogue) (n : ℕ) (st to : State) (lines : List (List ℕ)) (tail : List ℕ)
    → Sound cat st → walk cat n st lines tail ≡ Ok to → IsFile cat st to lines tail
unfolding walk
walk_takes cat n st to [] tail s e = grind (arith, at_ok, tail_takes, IsFile, append-nil, so_far)
walk_takes cat n st to (line ∷ lines) tail s e =
    let a = at_ok n (one_line cat st line) (λ s. walk cat (n + 1) s lines tail) to e in
    let r = line_leads cat st a.0 line s (one_if cat st a.0 line (is_ended st.place) a.1) in
    let more = walk_takes cat (n + 1) a.0 to lines tail r.leads.sound a.2 in
    let so : so_far cat to ≡ so_far cat st ++ r.words ∷ more.words = grind (arith, append_assoc) in
    record { words = r.words ∷ more.words; spelled = cc; nothing = more.nothing; sound = more.sound; so = so; ended = more.ended }

nothing_sound : (cat : Catalogue) → IsSoundCatalogue cat → IsWhole cat → Sound cat (nothing_read cat)
nothing_sound cat sound whole = grind (arith, append-nil, class_names_differ, none_timely)

-- ---- the workload

abbrev made : State → Workload
made st = record { rows = st.rows; txns = st.txns; lists = st.lists; events = st.events }

ended_place : (place : Place) → is_ended place ≡ true → place ≡ places.Ended
ended_place place e = grind arith

finished_ok : (r : Result State WorkFault) (w : Workload) → workload_of_state r ≡ Ok w → (st : State) × (r ≡ Ok st) × (made st ≡ w)
finished_ok r w e = grind arith

state_spelled : (cat : Catalogue) (st : State) → st.place ≡ places.Ended → so_far cat st ≡ lines_of cat (made st)
state_spelled cat st p = ap (λ (x : Place). lines_at cat st.rows st.txns st.lists x st.statements st.events) p ∙ lines_at_end cat (made st) st.statements

small_if : (bytes : List ℕ) (w : Workload) (fault : WorkFault) (r : Result Workload WorkFault) (b : Bool)
    → cond b (Err fault) r ≡ Ok w → (b ≡ false) × (r ≡ Ok w)
small_if bytes w fault r b e = grind arith

-- lines joined are lines with their newlines
pub lines_spelled : (lines : List (List Word)) → spelled_lines (map line_bytes lines) ≡ flat_map ended lines
lines_spelled [] = refl
lines_spelled (l ∷ lines) = grind (arith, append_assoc, flat_map, (lines_spelled lines))

-- a file that gives a workload spells it
pub reads_spelling : (cat : Catalogue) → IsSoundCatalogue cat → IsWhole cat → (bytes : List ℕ) (w : Workload) → workload cat bytes ≡ Ok w
    → Accepts cat bytes w
reads_spelling cat sound whole bytes w e =
    let a = small_if bytes w _ (workload_of_state (walk_bytes cat 1 (nothing_read cat) bytes)) (nat_lt MAX_WORKLOAD_BYTES (length bytes)) e in
    let b = finished_ok (walk_bytes cat 1 (nothing_read cat) bytes) w a.1 in
    let st : State = b.0 in
    let f = walk_takes cat 1 (nothing_read cat) st (cut_lines bytes).0 (cut_lines bytes).1 (nothing_sound cat sound whole) b.1 in
    let place = ended_place st.place f.ended in
    let words : f.words ≡ lines_of cat (made st) = sym f.so ∙ state_spelled cat st place in
    let spelled : bytes ≡ spelling cat (made st) =
    sym (cut_takes bytes)
    ∙ ap (λ (l : List ℕ). spelled_lines (cut_lines bytes).0 ++ l) f.nothing
    ∙ append-nil (spelled_lines (cut_lines bytes).0)
    ∙ ap spelled_lines f.spelled
    ∙ ap (λ (l : List (List Word)). spelled_lines (map line_bytes l)) words
    ∙ lines_spelled (lines_of cat (made st)) in
    subst (λ (x : Workload). Accepts cat bytes x) b.2 (record {
      small = ltb-false MAX_WORKLOAD_BYTES (length bytes) a.0;
      valid = (grind (arith, names_of, open_name, append-nil, length-map));
      spelled = spelled;
    })
