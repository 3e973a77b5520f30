-- The report on a run is verified.
use Rattle.sdd_verified.proofs.All.{All, All-head, All-tail, AllFewTicks, AreNamed, AreSubmittedOnce, Catalogue, ComesBefore, Committed, Contains, History, Input, IsCommitted, IsFrom1To, IsName, IsOfSubmit, IsReportOn, IsSoundCatalogue, IsSubmitted, IsSubmittedBefore, IsValid, IsValidTxn, IsVerified, KeepsStarts, List, MAX_REPORT_BYTES, Reply, Report, Some, Txn, TxnNo, Workload, [], after_replies, all_members, ap, arith, at, cases_lt, catalogue_at, class_for, class_of, classes_in, classes_submitted, database_of, era_at, eras_are, eras_in, eras_of, event_at, event_of_submit, few_lists, few_ticks, history, index_or, inl, input_of, inr, length, list_at_number, map, named_by_events, names_of, nth_era, once, order_line, redeclares, refl, replies, replies_along, report_of, run, serial, serial_order, serial_replies, slice_get, spelled_lines, starts, submits_in, submitted, subst, sym, texts_of, txn_of, whole_in, whole_over, ℕ, ◌++◌, ◌-◌, ◌<◌, ◌∙◌, ◌∷◌, ◌≡◌, ◌≢◌, ◌≤◌}
use Rattle.sdd_verified.proofs.ClassPlaces.{class_at, redeclared_at}
use Rattle.sdd_verified.proofs.ListAt.{list_at}
use Rattle.sdd_verified.proofs.FirstLines.{FirstLine, first_line, whole_end}
use Rattle.sdd_verified.proofs.Moved.{AreInTurn, IsSubmittedOne, moved, moved_line, moved_texts, moved_there, moved_turn}
use Rattle.sdd_verified.proofs.Numbered.{one_place, separates}
use Rattle.sdd_verified.proofs.Positions.{AreDifferent, different, member, not_before}
use Rattle.sdd_verified.proofs.ReportLines.{lines_in, rest_begins, trace_is, trace_lines, trace_others}
use Rattle.sdd_verified.proofs.Submitting.{is_in_schedule, submitted_first}

-- replies by the names of their transactions, and by their texts

abbrev HasText : List Txn → TxnNo → Type 0
HasText txns n = (t : Txn) × (txn_of txns n ≡ Some t)

replies_are : (txns : List Txn) (order : List TxnNo) (answers : List Reply) → All (HasText txns) order
    → replies_along (names_of txns order) answers ≡ replies (texts_of txns order) answers
replies_are txns [] answers there = refl
replies_are txns (n ∷ order) [] there = grind (arith, All-head)
replies_are txns (n ∷ order) (reply ∷ answers) there =
    grind (arith, All-head, replies_are txns order answers (All-tail (HasText txns) n order there))

pub names_of_txns : (cat : Catalogue) (txns : List Txn) → All (IsValidTxn cat) txns → All (λ (t : Txn). IsName t.name) txns
names_of_txns cat txns valid = grind arith

module _ (cat : Catalogue) (work : Workload) (text : List ℕ) (sound : IsSoundCatalogue (whole_in cat work)) (named : AreNamed (whole_in cat work))
    (valid : IsValid cat work) (r : IsReportOn cat work text) where
  abbrev whole : Catalogue
  whole = whole_in cat work

  abbrev given : Input
  given = input_of cat r.of_run.tables work

  abbrev Happened : History
  Happened = history r.of_run.log

  abbrev order : List TxnNo
  order = serial_order whole (history r.of_run.log)

  keeps : KeepsStarts whole (eras_of given r.of_run.log) work.txns (history r.of_run.log)
  keeps = starts cat r.of_run.tables work sound valid r.of_run.tables_are r.of_run.log r.of_run.log_is

  few : AreSubmittedOnce work.events
  few = once work.events valid.submitted

  -- a transaction of the order is committed, and was submitted
  record IsMember (n : TxnNo) : Type 0 where
    committed : Committed
    is_committed : IsCommitted (history r.of_run.log) committed
    number_is : committed.start.txn ≡ n.0
    of_submit : IsOfSubmit whole (eras_of given r.of_run.log) work.txns (history r.of_run.log) committed.start

  is_member : (n : TxnNo) → Contains order n → IsMember n
  is_member n there =
      let c = r.serial.committed n there in
      record { committed = c.0; is_committed = c.1; number_is = c.2; of_submit = keeps.submitted c.0.start c.1.started }

  some : (n : TxnNo) → IsMember n → 1 ≤ submits_in n.0 work.events
  some n m =
      subst (λ (k : ℕ). 1 ≤ submits_in k work.events) m.number_is
      (is_in_schedule given r.of_run.log r.of_run.log_is.lawful few m.committed.start.txn m.of_submit.place m.of_submit.submitted)

  -- so it is one of the transactions that are given
  pub one_given : (n : TxnNo) → Contains (serial_order whole (history r.of_run.log)) n → IsFrom1To (length work.txns) n.0
  one_given n there = named_by_events cat (length work.txns) n.0 work.events valid.events (some n (is_member n there))

  abbrev has_text : (n : TxnNo) → IsMember n → HasText work.txns n
  has_text n m = (m.of_submit.txn, ap (λ (k : ℕ). slice_get work.txns (k - 1)) (sym m.number_is) ∙ m.of_submit.txn_is)

  -- its class is that by the list in force where it was submitted

  few_ticks_given : AllFewTicks given.events
  few_ticks_given = few_ticks cat (length work.txns) work.events valid.events

  list_in_force : (k : ℕ) → k ≤ redeclares r.of_run.log → (nth_era given k).catalogue ≡ era_at cat (eras_in cat work) k
  list_in_force k most =
      let last = few_lists cat r.of_run.tables work sound valid r.of_run.tables_are r.of_run.log r.of_run.log_is.lawful in
      sym (index_or (eras_in cat work) k cat (nth_era given k).catalogue
      (list_at_number cat r.of_run.tables work r.of_run.tables_are k (omega (arith, most, last))).there)

  current_era_is : (n place : ℕ) → IsSubmitted (history r.of_run.log) n place
      → catalogue_at whole (eras_of given r.of_run.log) (event_at (history r.of_run.log) place) ≡ era_at cat (eras_in cat work) (redeclared_at n 0 work.events)
  current_era_is n place s =
      let x = list_at given r.of_run.log r.of_run.log_is.lawful few few_ticks_given n place s in
      ap (λ (p : ℕ). catalogue_at whole (eras_of given r.of_run.log) (event_at (history r.of_run.log) p)) (sym x.place_is)
      ∙ event_of_submit given r.of_run.log (eras_of given r.of_run.log) n x.later x.rest x.at (eras_are cat r.of_run.tables work sound valid r.of_run.tables_are r.of_run.log r.of_run.log_is) x.is
      ∙ list_in_force (redeclares x.rest) x.few ∙ ap (era_at cat (eras_in cat work)) x.lists_are

  class_is : (n : TxnNo) → (m : IsMember n) → class_of (classes_submitted cat work) (moved cat work valid n) ≡ m.committed.start.class
  class_is n m =
      let t = has_text n m in
      class_at (era_at cat (eras_in cat work)) work.txns n.0 t.0 t.1 cat 0 work.events valid.events (some n m)
      ∙ sym (ap (λ (k : ℕ). class_for (era_at cat (eras_in cat work) (redeclared_at k 0 work.events)) t.0) m.number_is)
      ∙ sym (ap (λ (c : Catalogue). class_for c t.0) (current_era_is m.committed.start.txn m.of_submit.place m.of_submit.submitted))
      ∙ sym m.of_submit.class_is

  all_submitted : All (IsSubmittedOne cat work valid) order
  all_submitted = all_members (IsSubmittedOne cat work valid) order (λ n there. some n (is_member n there))

  apart : AreDifferent order
  apart = different whole (history r.of_run.log) order r.serial.along

  -- of one class the one that was submitted first stands first
  not_turned : (i k : ℕ) → i < k → k < length order → class_of (classes_submitted cat work) (moved cat work valid (at order i))
      ≡ class_of (classes_submitted cat work) (moved cat work valid (at order k))
      → (moved cat work valid (at order k)).0 < (moved cat work valid (at order i)).0 → ⊥
  not_turned i k less within class turned =
      let x = is_member (at order i) (member order i (omega (arith, less, within))) in
      let y = is_member (at order k) (member order k within) in
      let s = separates work.events (at order k).0 (at order i).0 (some (at order k) y) turned in
      let other : (at order k).0 ≢ (at order i).0 = λ e. apart i k less within (sym e) in
      let first = subst (λ (n : ℕ). IsSubmitted (history r.of_run.log) n y.of_submit.place) y.number_is y.of_submit.submitted in
      let second = subst (λ (n : ℕ). IsSubmitted (history r.of_run.log) n x.of_submit.place) x.number_is x.of_submit.submitted in
      let before = submitted_first given r.of_run.log r.of_run.log_is.lawful few (at order k).0
      (at order i).0 y.of_submit.place x.of_submit.place other s first second in
      let submitted_before : IsSubmittedBefore (history r.of_run.log) y.committed x.committed = record {
        first_place = y.of_submit.place;
        second_place = x.of_submit.place;
        first = y.of_submit.submitted;
        second = x.of_submit.submitted;
        before = before;
      } in
      let one_class : y.committed.start.class ≡ x.committed.start.class = sym (class_is (at order k) y) ∙ sym class ∙ class_is (at order i) x in
      let is_recorded = r.in_turn y.committed x.committed y.is_committed x.is_committed one_class submitted_before in
      not_before order i k apart less within
      (subst (λ (n : ℕ). ComesBefore order n (at order i).0) y.number_is
      (subst (λ (n : ℕ). ComesBefore order y.committed.start.txn n) x.number_is is_recorded))

  in_turn : AreInTurn cat work valid order
  in_turn i k less within =
      let x = is_member (at order i) (member order i (omega (arith, less, within))) in
      let y = is_member (at order k) (member order k within) in
      let a : ℕ = (moved cat work valid (at order i)).0 in
      let b : ℕ = (moved cat work valid (at order k)).0 in
      let places : a ≢ b = λ e. apart i k less within (one_place work.events (at order i).0 (at order k).0 (some (at order i) x) (some (at order k) y) e) in (
        places,
        λ class.
            elim (cases_lt a b) [
              | inl before ↦ before
              | inr behind ↦ elim (cases_lt b a) [
                | inl turned ↦ absurd (not_turned i k less within class turned)
                | inr also ↦ absurd (places (omega (arith, behind, also)))
              ]
            ],
      )

  -- the text, part by part

  abbrev reported : Report
  reported = report_of given r.of_run.log

  follows : FirstLine (after_replies reported)
  follows = grind (arith, first_line, rest_begins, whole_end)

  abbrev Placed : List TxnNo
  Placed = map (moved cat work valid) order

  replied : replies_along (names_of work.txns order) (run whole work.rows work.txns order).0 ≡ serial_replies cat work (map (moved cat work valid) order)
  replied =
      ap (λ (c : Catalogue). replies_along (names_of work.txns order) (run c work.rows work.txns order).0) (whole_over cat cat.classes (classes_in cat work))
      ∙ replies_are work.txns order (run cat work.rows work.txns order).0 (all_members (HasText work.txns) order (λ n there. has_text n (is_member n there)))
      ∙ ap (λ (texts : List Txn). replies texts (serial cat (database_of cat work.rows) texts).0) (sym (moved_texts cat work valid order all_submitted))

  pub verified : length text ≤ MAX_REPORT_BYTES → IsVerified cat work text
  verified small =
      let names = names_of_txns cat work.txns valid.txns in
      let before : List (List ℕ) = lines_in whole work.txns named.classes names (history r.of_run.log) in
      let line : List ℕ = order_line work.txns order in
      let answers : List ℕ = replies_along (names_of work.txns order) (run whole work.rows work.txns order).0 in
      let after : List ℕ = after_replies reported in
      record {
        small = small;
        order = map (moved cat work valid) order;
        are_submitted = moved_there cat work valid order all_submitted;
        in_turn = moved_turn cat work valid order in_turn;
        before = before;
        before_lines = trace_lines whole work.txns named.classes names (history r.of_run.log);
        before_order = trace_others whole work.txns named.classes names (history r.of_run.log);
        next = follows.next;
        next_line = follows.line;
        next_other = follows.other;
        rest = follows.rest;
        text_is = r.text_has_replies ∙ ap (λ (l : List ℕ). l ++ (line ++ (answers ++ after))) (trace_is whole work.txns named.classes names (history r.of_run.log))
            ∙ ap (λ (l : List ℕ). spelled_lines before ++ (l ++ (answers ++ after))) (sym (moved_line cat work valid order all_submitted))
            ∙ ap (λ (l : List ℕ). spelled_lines before ++ (order_line (submitted work) (map (moved cat work valid) order) ++ (l ++ after))) replied
            ∙ ap (λ (l : List ℕ). spelled_lines before ++ (order_line (submitted work)
            (map (moved cat work valid) order) ++ (serial_replies cat work (map (moved cat work valid) order) ++ l))) follows.is;
      }
