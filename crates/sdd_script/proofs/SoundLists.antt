-- The lines of class lists keep what holds in every state, and add themselves to the lines before.
use Rattle.sdd_script.proofs.All.{Bool, Catalogue, ClassPart, DmNo, Event, IsValidRead, List, MAX_CLASSES, MAX_LISTS, MAX_READS, None, Ok, OpenList, Place, Plain, ReadPart, Some, State, Stmt, Txn, Word, [], ap, append-nil, arith, bind_ok, both_hold, class_rules, classes_in, closed, codes, cond, dm_of, done_rules, done_words, fragment_of, has_copy, has_name, is_free, is_taken, joined, length, list_rules, ltb-true, name_of, nat_lt, no_classes, not, ok_is, one_more_class, open_list, read_names, reads_at, reads_rules, reads_words, refl, sym, takes_classes, takes_lists, takes_reads, takes_reads_in, takes_writes, takes_writes_in, tm_of, true, with_class, with_read, with_write, writes_at, writes_rules, writes_words, ℕ, ◌&&◌, ◌++◌, ◌+◌, ◌<◌, ◌∙◌, ◌∷◌, ◌≡◌, ◌≤◌}
use Rattle.sdd_script.proofs.StepLaws.{must_then, known_then, not_true}
use Rattle.sdd_script.proofs.EventLaws.{dm_takes, tm_takes}
use Rattle.sdd_script.proofs.Fragments.{fragment_takes, kept_at}
use Rattle.sdd_script.proofs.Declaring.{class_declared, read_declared, write_declared}
use Rattle.sdd_script.proofs.ListLines.{AddsLine, list_more, listing_more, class_more, read_more, write_more, listed_more}
use Rattle.sdd_script.proofs.RedeclareLaws.{none_timely}
use Rattle.sdd_script.proofs.SoFar.{lines_at, InOrder}
use Rattle.sdd_script.proofs.SoundStates.{Sound, Declares, Leads, HeaderFits, names_of, open_name, lists_open, name_of_takes, one_longer, at_place, txn_closed}
use Rattle.sdd_script.proofs.ListChains.{joined_on as joined_more}
use Rattle.sdd_script.specs.declared.fault.Counts.TheVariants as counts
use Rattle.sdd_script.specs.declared.place.Place.TheVariants as places

-- ---- only the place, the lists and the count of classes change

abbrev with_lists : State → Place → List (List ClassPart) → ℕ → State
with_lists st p lists n = record st { place = p; lists = lists; classes = n }

record IsMoved (cat : Catalogue) (st : State) (p : Place) (lists : List (List ClassPart)) (n : ℕ) : Type 0 where
  header : HeaderFits cat p
  unnamed : open_name p ≡ []
  declares : Declares cat (joined lists ++ classes_in (open_list p)) n
  few_lists : length lists + lists_open p ≤ MAX_LISTS
  order : InOrder p st.txns lists st.statements st.events

moved : (cat : Catalogue) (st : State) (p : Place) (lists : List (List ClassPart)) (n : ℕ) → Sound cat st
    → open_name st.place ≡ [] → st.events ≡ [] → IsMoved cat st p lists n → Sound cat (with_lists st p lists n)
moved cat st p lists n s unnamed none o = grind (arith, names_of, none_timely)

-- ---- a list begins

record IsOutside (place : Place) (ss : List Stmt) (events : List Event) : Type 0 where
  unnamed : open_name place ≡ []
  none : open_list place ≡ no_classes
  no_statements : ss ≡ []
  no_events : events ≡ []

outside : (place : Place) (txns : List Txn) (lists : List (List ClassPart)) (ss : List Stmt)
    (events : List Event) → takes_lists place ≡ true → InOrder place txns lists ss events
    → IsOutside place ss events
outside place txns lists ss events t o = grind arith

pub list_leads : (cat : Catalogue) (st to : State) (words : List Word) → Sound cat st
    → list_rules st words ≡ Ok to → Leads cat st to (Plain (codes "list") ∷ words)
list_leads cat st to [] s e =
    let a = must_then _ (takes_lists st.place) _ to e in
    let b = must_then _ (nat_lt (length st.lists) MAX_LISTS) _ to a.1 in
    let o = outside st.place st.txns st.lists st.statements st.events a.0 s.order in
    let room : length st.lists < MAX_LISTS = ltb-true (length st.lists) MAX_LISTS b.0 in
    let d : Declares cat (joined st.lists ++ classes_in no_classes) st.classes = rw o.none at s.declares in
    let m = moved cat st (places.Listing no_classes) st.lists st.classes s o.unnamed o.no_events (record {
      header = tt;
      unnamed = refl;
      declares = d;
      few_lists = omega (arith, room);
      order = (o.no_statements, o.no_events);
    }) in
    grind (arith, ok_is, list_more)
list_leads cat st to (w ∷ words) s e = absurd cc

-- ---- a line inside a list

abbrev Within : Place → Type 0
Within place = place ≡ places.Listing (open_list place)

inside_leads : (cat : Catalogue) (st : State) (new : OpenList) (n : ℕ) (w : List Word) → Sound cat st
    → Within st.place → Declares cat (joined st.lists ++ classes_in new) n → AddsLine (open_list st.place) new w
    → Leads cat st (with_lists st (places.Listing new) st.lists n) w
inside_leads cat st new n w s within d adds =
    let o : (st.statements ≡ []) × (st.events ≡ []) = rw within at s.order in
    let few : length st.lists + 1 ≤ MAX_LISTS = rw within at s.few_lists in
    record {
      sound = moved cat st (places.Listing new) st.lists n s (ap open_name within) o.1
          (record { header = tt; unnamed = refl; declares = d; few_lists = few; order = o });
      lines =
          listing_more cat st.rows st.txns st.lists (open_list st.place) new w st.statements st.events adds o.1
          ∙ ap (λ (p : Place). lines_at cat st.rows st.txns st.lists p st.statements st.events ++ w ∷ []) (sym within);
    }

-- a class

in_list : (place : Place) → takes_classes place ≡ true → Within place
in_list place t = grind arith

one_more_is : (classes n : ℕ) (b : Bool) → nat_lt classes MAX_CLASSES ≡ b
    → cond b (Some (classes + 1)) None ≡ Some n → (classes + 1 ≡ n) × (classes < MAX_CLASSES)
one_more_is classes n b t e = grind arith

pub class_leads : (cat : Catalogue) (st to : State) (words : List Word) → Sound cat st
    → class_rules cat st words ≡ Ok to → Leads cat st to (Plain (codes "class") ∷ words)
class_leads cat st to (word ∷ tm ∷ []) s e =
    let a = must_then _ (takes_classes st.place && (is_free word && is_free tm)) _ to e in
    let b = bind_ok (name_of word) _ to a.1 in
    let c = bind_ok (tm_of cat tm) _ to b.2 in
    let d = must_then _ (not (is_taken cat st b.0)) _ to c.2 in
    let f = known_then _ (one_more_class st.classes) _ to d.1 in
    let place = (both_hold (takes_classes st.place) (is_free word && is_free tm) a.0).0 in
    let n = one_more_is st.classes f.0 (nat_lt st.classes MAX_CLASSES) refl f.1 in
    let w = name_of_takes word b.0 b.1 in
    let t = tm_takes cat tm c.0 c.1 in
    let l : OpenList = open_list st.place in
    let leads = inside_leads cat st (with_class l b.0 c.0) (st.classes + 1) _ s (in_list st.place place)
    (class_declared cat st.lists l st.classes b.0 c.0 s.declares w.1 t.1 (not_true (is_taken cat st b.0) d.0) n.1) (class_more l b.0 c.0) in
    grind arith
class_leads cat st to _ s e = absurd cc

-- a read

reads_within : (place : Place) → takes_reads place ≡ true → Within place × (takes_reads_in (open_list place) ≡ true)
reads_within place t = grind arith

abbrev read_at : List ℕ → DmNo → ReadPart
read_at name dm = record { fragment = name; at = dm.0 }

abbrev may_read : Catalogue → State → List ℕ × ℕ → DmNo → Bool
may_read cat st f dm = not (has_name (read_names (reads_at st.place)) f.0) && has_copy cat dm.0 f.1

pub reads_leads : (cat : Catalogue) (st to : State) (words : List Word) → Sound cat st
    → reads_rules cat st words ≡ Ok to → Leads cat st to (Plain (codes "reads") ∷ words)
reads_leads cat st to (word ∷ dm ∷ []) s e =
    let a = must_then _ (takes_reads st.place && (is_free word && is_free dm)) _ to e in
    let b = bind_ok (fragment_of cat word) _ to a.1 in
    let c = bind_ok (dm_of cat dm) _ to b.2 in
    let d = must_then _ (may_read cat st b.0 c.0) _ to c.2 in
    let f = must_then _ (nat_lt (length (reads_at st.place)) MAX_READS) _ to d.1 in
    let place = reads_within st.place (both_hold (takes_reads st.place) (is_free word && is_free dm) a.0).0 in
    let may = both_hold (not (has_name (read_names (reads_at st.place)) b.0.0)) (has_copy cat c.0.0 b.0.1) d.0 in
    let w = fragment_takes cat word b.0 b.1 in
    let t = dm_takes cat dm c.0 c.1 in
    let l : OpenList = open_list st.place in
    let r : ReadPart = read_at b.0.0 c.0 in
    let valid : IsValidRead cat r = record { fragment = w.there; module_is_there = t.1; copy = kept_at cat c.0.0 b.0.0 b.0.1 w.number ∙ may.1 } in
    let spelled : Plain (codes "reads") ∷ word ∷ dm ∷ [] ≡ reads_words r =
    ap (λ (x : Word). Plain (codes "reads") ∷ x ∷ dm ∷ []) w.spelled
    ∙ ap (λ (x : Word). Plain (codes "reads") ∷ Plain b.0.0 ∷ x ∷ []) t.0 in
    let leads = inside_leads cat st (with_read l r) st.classes (reads_words r) s place.0
    (read_declared cat (joined st.lists) l st.classes r s.declares valid
    (not_true (has_name (read_names (reads_at st.place)) b.0.0) may.0)
    (ltb-true (length (reads_at st.place)) MAX_READS f.0)) (read_more l r place.1) in
    grind arith
reads_leads cat st to _ s e = absurd cc

-- a write

writes_within : (place : Place) → takes_writes place ≡ true → Within place × (takes_writes_in (open_list place) ≡ true)
writes_within place t = grind arith

pub writes_leads : (cat : Catalogue) (st to : State) (words : List Word) → Sound cat st
    → writes_rules cat st words ≡ Ok to → Leads cat st to (Plain (codes "writes") ∷ words)
writes_leads cat st to (word ∷ []) s e =
    let a = must_then _ (takes_writes st.place && is_free word) _ to e in
    let b = bind_ok (fragment_of cat word) _ to a.1 in
    let d = must_then _ (not (has_name (writes_at st.place) b.0.0)) _ to b.2 in
    let place = writes_within st.place (both_hold (takes_writes st.place) (is_free word) a.0).0 in
    let w = fragment_takes cat word b.0 b.1 in
    let l : OpenList = open_list st.place in
    let spelled : Plain (codes "writes") ∷ word ∷ [] ≡ writes_words b.0.0 = cc in
    let leads = inside_leads cat st (with_write l b.0.0) st.classes (writes_words b.0.0) s place.0
    (write_declared cat (joined st.lists) l st.classes b.0.0 s.declares w.there
    (not_true (has_name (writes_at st.place) b.0.0) d.0)) (write_more l b.0.0 place.1) in
    grind arith
writes_leads cat st to _ s e = absurd cc

-- ---- a list ends, or a transaction

abbrev listed : State → OpenList → State
listed st l = record st { place = places.Declared; lists = st.lists ++ classes_in l ∷ [] }

list_closed : (cat : Catalogue) (st to : State) (l : OpenList) → Sound cat (at_place st (places.Listing l))
    → closed (places.Listing l) st ≡ Ok to → Leads cat (at_place st (places.Listing l)) to done_words
list_closed cat st to l s e =
    let joins : joined (st.lists ++ classes_in l ∷ []) ++ [] ≡ joined st.lists ++ classes_in l = append-nil _ ∙ joined_more st.lists (classes_in l) in
    rw (← ok_is (listed st l) to e) (record {
      sound = moved cat (at_place st (places.Listing l)) places.Declared (st.lists ++ classes_in l ∷ []) st.classes s refl s.order.1 (record {
        header = tt;
        unnamed = refl;
        declares = rw joins s.declares;
        few_lists = omega (arith, s.few_lists, one_longer st.lists (classes_in l));
        order = s.order;
      });
      lines = listed_more cat st.rows st.txns st.lists l st.statements st.events s.order.1;
    })

closed_leads : (cat : Catalogue) (st to : State) (p : Place) → Sound cat (at_place st p) → closed p st ≡ Ok to → Leads cat (at_place st p) to done_words
closed_leads cat st to (places.Inside h) s e = txn_closed cat st to h s e
closed_leads cat st to (places.Listing l) s e = list_closed cat st to l s e
closed_leads cat st to _ s e = absurd cc

pub done_leads : (cat : Catalogue) (st to : State) (words : List Word) → Sound cat st
    → done_rules st words ≡ Ok to → Leads cat st to (Plain (codes "done") ∷ words)
done_leads cat st to [] s e = closed_leads cat st to st.place s e
done_leads cat st to (w ∷ words) s e = absurd cc
