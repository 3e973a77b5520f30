-- An event, and the end, keep what holds in every state, and add themselves to the lines before.
use Rattle.sdd_script.proofs.All.{AreDistinct, Bool, Catalogue, ClassPart, Event, IsValidEvent, List, MAX_EVENTS, Ok, Place, Plain, Result, State, Stmt, Submit, Txn, TxnNo, Word, WorkRule, [], ap, append-nil, arith, bind_ok, classes_in, codes, end_rules, end_words, event_rules, event_words, false, filter_map, filter_map-append, is_submitted, joined, length, list_any-map, ltb-true, map, map-append, may_follow, nat_lt, no_classes, not, ok_is, open_list, submitted_by, subst, sym, takes_events, true, with_submitted, ℕ, ◌++◌, ◌<◌, ◌==◌, ◌∙◌, ◌∷◌, ◌≡◌}
use Rattle.sdd_script.proofs.StepLaws.{must_then, not_true}
use Rattle.sdd_script.proofs.WordCuts.{NonePasses}
use Rattle.sdd_script.proofs.NamePlaces.{none_any, distinct_more}
use Rattle.sdd_script.proofs.RedeclareLaws.{timely_more}
use Rattle.sdd_script.proofs.SoFar.{so_far, InOrder, event_more, end_more}
use Rattle.sdd_script.proofs.SoundStates.{Sound, Declares, Leads, open_name, all_more, one_longer}
use Rattle.sdd_script.specs.declared.fault.Counts.TheVariants as counts
use Rattle.sdd_script.specs.declared.place.Place.TheVariants as places

-- ---- an event

pub record IsEvent (cat : Catalogue) (st : State) (key : List ℕ) (words : List Word) (e : Event) : Type 0 where
  pub spelled : Plain key ∷ words ≡ event_words st.txns e
  pub valid : IsValidEvent cat (length st.txns) e

abbrev with_occurrence : State → Event → State
with_occurrence st e = record st { place = places.Events; events = st.events ++ e ∷ []; submitted = with_submitted st.submitted e }

pub no_open : (place : Place) → takes_events place ≡ true → open_name place ≡ []
no_open place t = grind arith

pub no_statements : (place : Place) (txns : List Txn) (lists : List (List ClassPart)) (ss : List Stmt)
    (events : List Event) → takes_events place ≡ true → InOrder place txns lists ss events → ss ≡ []
no_statements place txns lists ss events t o = grind arith

-- no list is open there
none_open : (place : Place) → takes_events place ≡ true → open_list place ≡ no_classes
none_open place t = grind arith

abbrev numbers : List TxnNo → List ℕ
numbers txns = map (λ (t : TxnNo). t.0) txns

same_distinct : (ns ms : List ℕ) → AreDistinct ns → ns ≡ ms → AreDistinct ms
same_distinct ns ms h e = subst AreDistinct e h

once_more : (submitted : List TxnNo) (events : List Event) (e : Event)
    → numbers submitted ≡ filter_map submitted_by events → AreDistinct (filter_map submitted_by events)
    → is_submitted submitted e ≡ false → AreDistinct (filter_map submitted_by (events ++ e ∷ []))
once_more submitted events (Submit txn) h d other =
    let none : NonePasses (λ (n : ℕ). n == txn.0) (filter_map submitted_by events) =
    subst (NonePasses (λ (n : ℕ). n == txn.0)) h (none_any (λ (n : ℕ). n == txn.0) (numbers submitted)
    (list_any-map (λ (n : ℕ). n == txn.0) (λ (t : TxnNo). t.0) submitted ∙ other)) in
    same_distinct (filter_map submitted_by events ++ txn.0 ∷ [])
    (filter_map submitted_by (events ++ Submit txn ∷ []))
    (distinct_more (filter_map submitted_by events) txn.0 d none)
    (sym (filter_map-append submitted_by events (Submit txn ∷ [])))
once_more submitted events e h d other = grind (arith, append-nil, filter_map-append)

event_sound : (cat : Catalogue) (st : State) (e : Event) → Sound cat st → takes_events st.place ≡ true
    → IsValidEvent cat (length st.txns) e → is_submitted st.submitted e ≡ false
    → may_follow cat (length st.lists) st.events e ≡ true → length st.events < MAX_EVENTS
    → Sound cat (with_occurrence st e)
event_sound cat st e s t valid other may room =
    let d : Declares cat (joined st.lists ++ classes_in no_classes) st.classes = rw (none_open st.place t) at s.declares in
    let m = timely_more cat (length st.lists) st.events e s.timely may in
    let a = all_more (IsValidEvent cat (length st.txns)) st.events e s.events valid in
    let o = once_more st.submitted st.events e s.submitted s.once other in
    let n = one_longer st.events e in
    let x = no_statements st.place st.txns st.lists st.statements st.events t s.order in
    grind (arith, no_open, map-append, filter_map-append, append-nil)

pub event_leads : (cat : Catalogue) (st to : State) (key : List ℕ) (words : List Word)
    (reading : Result Event WorkRule) → Sound cat st → (takes_events st.place ≡ true → (e : Event)
    → reading ≡ Ok e → IsEvent cat st key words e) → event_rules cat st reading ≡ Ok to
    → Leads cat st to (Plain key ∷ words)
event_leads cat st to key words reading s read h =
    let a = must_then _ (takes_events st.place) _ to h in
    let b = bind_ok reading _ to a.1 in
    let e : Event = b.0 in
    let may : Bool = may_follow cat (length st.lists) st.events e in
    let c = must_then _ (not (is_submitted st.submitted e)) _ to b.2 in
    let m = must_then _ may _ to c.1 in
    let d = must_then _ (nat_lt (length st.events) MAX_EVENTS) _ to m.1 in
    let r = read a.0 e b.1 in
    subst (λ (x : State). Leads cat st x (Plain key ∷ words)) (ok_is (with_occurrence st e) to d.1) (record {
      sound = event_sound cat st e s a.0 r.valid (not_true (is_submitted st.submitted e) c.0) m.0 (ltb-true (length st.events) MAX_EVENTS d.0);
      lines = event_more cat st.rows st.txns st.lists st.place st.statements st.events e a.0
          ∙ ap (λ (l : List Word). so_far cat st ++ l ∷ []) (sym r.spelled);
    })

-- ---- the end

abbrev with_end : State → State
with_end st = record st { place = places.Ended }

end_sound : (cat : Catalogue) (st : State) → Sound cat st → takes_events st.place ≡ true → Sound cat (with_end st)
end_sound cat st s t = grind arith

pub end_leads : (cat : Catalogue) (st to : State) (words : List Word) → Sound cat st
    → end_rules st words ≡ Ok to → Leads cat st to (Plain (codes "end") ∷ words)
end_leads cat st to [] s e =
    let a = must_then _ (takes_events st.place) _ to e in
    subst (λ (x : State). Leads cat st x end_words) (ok_is (with_end st) to a.1) (record {
      sound = end_sound cat st s a.0;
      lines = end_more cat st.rows st.txns st.lists st.place st.statements st.events a.0;
    })
end_leads cat st to (w ∷ words) s e = absurd cc
