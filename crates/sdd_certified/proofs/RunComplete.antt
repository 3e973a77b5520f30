-- The report on a run is complete.
use Rattle.std.proofs.Common.{All, Contains, List, Some, [], ap, append_assoc, arith, codes, flat_map, length, option_map, refl, rules, slice_get, slice_index_or as get_or, subst, suc, sym, zero, ℕ, ◌++◌, ◌-◌, ◌<◌, ◌∙◌, ◌∷◌, ◌≡◌, ◌≤◌}
use Rattle.sdd_certify.specs.Complete.{complete}
use Rattle.sdd_certify.specs.Kept.{HasOrder}
use Rattle.sdd_certify.specs.Told.{commit_on}
use Rattle.sdd_certify.specs.declared.finding.Finding.TheVariants.{Yes}
use Rattle.sdd_certify.specs.verifying.Orders.{names_on}
use Rattle.sdd_certify.specs.verifying.declared.limits.TheConstants.{MAX_REPORT_BYTES}
use Rattle.sdd_certify.proofs.CompleteMeans.{complete_again}
use Rattle.sdd_certify.proofs.verifying.Submissions.{some_is}
use Rattle.sdd_certify.proofs.verifying.OrderWords.{HaveNoSpace, is_order_line_again, names_again}
use Rattle.sdd_verified.specs.run.progress.obligations.All.{Catalogue, Commit, Committed, History, IsCommitted, IsRecordAt, Rec, Txn, TxnNo, history, txn_no}
use Rattle.sdd_verified.specs.run.progress.obligations.catalog.Naming.{AreNamed}
use Rattle.sdd_verified.specs.run.progress.obligations.history.declared.record.Rec.TheVariants as records
use Rattle.sdd_verified.specs.run.progress.obligations.links.Attempts.{HasCommit}
use Rattle.sdd_verified.specs.run.class_lists.InForce.{whole_in}
use Rattle.sdd_verified.specs.run.Reports.{report_of}
use Rattle.sdd_verified.specs.run.Runs.{IsReportOn, input_of, order_of, plain_run}
use Rattle.sdd_verified.specs.report.Committed.{names_of, order_line}
use Rattle.sdd_verified.specs.report.Names.{spaced, txn_name}
use Rattle.sdd_verified.specs.report.Replies.{replies_along}
use Rattle.sdd_verified.specs.report.Report.{after_replies}
use Rattle.sdd_verified.specs.script.All.{IsName, IsValid, spelled_lines}
use Rattle.sdd_verified.specs.script.declared.workload.Workload.{Workload}
use Rattle.sdd_verified.proofs.script.WordLooks.{no_newline-append}
use Rattle.sdd_verified.proofs.CleanWords.{names_are, spaced_names}
use Rattle.sdd_verified.proofs.ReportLines.{line_of, lines_in, trace_is, trace_lines, trace_others}
use Rattle.sdd_verified.proofs.Reported.{names_of_txns}
use Rattle.sdd_certified.proofs.CommitLines.{committed_by, line_tells}
use Rattle.sdd_certified.proofs.NamedBytes.{bytes_spaceless, txn_bytes}

-- the names of an order hold no space
names_spaceless : (txns : List Txn) (order : List TxnNo) → All (λ (t : Txn). IsName t.name) txns → HaveNoSpace (names_of txns order)
names_spaceless txns [] named = tt
names_spaceless txns (n ∷ order) named = (bytes_spaceless (txn_name txns n.0) (txn_bytes txns n.0 named), names_spaceless txns order named)

-- and those of its members are among them
named_member : (txns : List Txn) (order : List TxnNo) (n : TxnNo) (k : ℕ) → k < length order → get_or order k n ≡ n
    → Contains (names_of txns order) (txn_name txns n.0)
named_member txns [] n k lt is = absurd (omega (arith, lt))
named_member txns (m ∷ order) n zero lt is = (0, omega arith, ap (λ (x : TxnNo). txn_name txns x.0) is)
named_member txns (m ∷ order) n (suc k) lt is =
    let more = named_member txns order n k (omega (arith, lt)) is in
    let within : more.0 < length (names_of txns order) = more.1 in
    (suc more.0, omega (arith, within), more.2)

module _ (cat : Catalogue) (work : Workload) (text : List ℕ) (named : AreNamed (whole_in cat work)) (valid : IsValid cat work)
    (r : IsReportOn cat work text) where
  abbrev whole : Catalogue
  whole = whole_in cat work

  abbrev order : List TxnNo
  order = order_of cat work r.of_run.log

  abbrev names : All (λ (t : Txn). IsName t.name) work.txns
  names = names_of_txns cat work.txns valid.txns

  -- what a Commit commits stands in the order
  commit_stands : (n : TxnNo) (attempt place : ℕ) → HasCommit (history r.of_run.log) n.0 attempt place → Contains order n
  commit_stands n attempt place c =
      let a = r.orderable.started n.0 attempt place c in
      let of_attempt = subst (λ k. IsRecordAt (history r.of_run.log) place (Commit (txn_no n.0) k c.reply c.changes c.values c.rows)) (sym a.3) c.is_recorded in
      let t : Committed = record { start = a.0; reply = c.reply; changes = c.changes; values = c.values; rows = c.rows; place = place } in
      let is : IsCommitted (history r.of_run.log) t = record {
        started = a.1;
        committed = subst (λ m. IsRecordAt (history r.of_run.log) place (Commit (txn_no m) a.0.number c.reply c.changes c.values c.rows)) (sym a.2) of_attempt;
      } in
      subst (λ (m : ℕ). Contains order (txn_no m)) a.2 (r.serial.whole t is)

  -- so does what the line of a record tells
  record_stands : (place : ℕ) (made : Rec) (name : List ℕ) → IsRecordAt (history r.of_run.log) place made
      → committed_by whole work.txns names made ≡ Some name → Contains (names_of work.txns order) name
  record_stands place (records.Commit txn attempt reply changes values rows) name is e =
      let there = commit_stands txn attempt place (record { reply = reply; changes = changes; values = values; rows = rows; is_recorded = is }) in
      subst (Contains (names_of work.txns order)) (some_is (txn_name work.txns txn.0) name e) (named_member work.txns order txn there.0 there.1 there.2)
  record_stands place _ name is e = absurd cc

  -- the lines of a trace

  record MadeAt (h : History) (line : List ℕ) : Type 0 where
    place : ℕ
    made : ℕ × Rec
    is : slice_get h place ≡ Some made
    line_is : line_of whole work.txns named.classes names made ≡ line

  abbrev Lines : History → List (List ℕ)
  Lines h = lines_in whole work.txns named.classes names h

  made_at : (h : History) (k : ℕ) (line : List ℕ) → k < length (Lines h) → get_or (Lines h) k line ≡ line → MadeAt h line
  made_at [] k line lt is = absurd (omega (arith, lt))
  made_at (made ∷ h) zero line lt is = record { place = 0; made = made; is = refl; line_is = is }
  made_at (made ∷ h) (suc k) line lt is =
      let m = made_at h k line (omega (arith, lt)) is in
      record { place = suc m.place; made = m.made; is = m.is; line_is = m.line_is }

  line_stands : (line name : List ℕ) → Contains (Lines (history r.of_run.log)) line → commit_on line ≡ Some name → Contains (names_of work.txns order) name
  line_stands line name there told =
      let m = made_at (history r.of_run.log) there.0 line there.1 there.2 in
      let recorded : IsRecordAt (history r.of_run.log) m.place m.made.1 = ap (option_map (λ (e : ℕ × Rec). e.1)) m.is in
      record_stands m.place m.made.1 name recorded
      (sym (line_tells whole work.txns names m.made.0 m.made.1) ∙ ap commit_on m.line_is ∙ told)

  -- the order line

  abbrev Order : List ℕ
  Order = codes "order" ++ flat_map spaced (names_of work.txns order)

  order_names : names_on Order ≡ names_of work.txns order
  order_names = names_again (names_of work.txns order) (names_spaceless work.txns order names)

  regroup : (word words rest : List ℕ) → (word ++ (words ++ 10 ∷ [])) ++ rest ≡ (word ++ words) ++ 10 ∷ rest
  regroup word words rest =
      append_assoc word (words ++ 10 ∷ []) rest ∙ ap (λ (l : List ℕ). word ++ l) (append_assoc words (10 ∷ []) rest) ∙ sym (append_assoc word words (10 ∷ rest))

  has_order : length text ≤ MAX_REPORT_BYTES → HasOrder text
  has_order small =
      let ns : List (List ℕ) = names_of work.txns order in
      let answers : List ℕ = replies_along ns (plain_run cat work r.of_run.log).0 in
      let after : List ℕ = after_replies (report_of (input_of cat r.of_run.tables work) r.of_run.log) in
      record {
        small = small;
        before = Lines (history r.of_run.log);
        before_lines = trace_lines whole work.txns named.classes names (history r.of_run.log);
        before_order = trace_others whole work.txns named.classes names (history r.of_run.log);
        order = Order;
        order_line = no_newline-append (codes "order") (flat_map spaced ns) (search rules)
            (spaced_names whole work.txns named.classes named.fragments names ns
            (names_are whole work.txns named.classes named.fragments names order));
        order_is = is_order_line_again ns;
        rest = answers ++ after;
        text_is = r.text_has_replies
            ∙ ap (λ (l : List ℕ). l ++ (order_line work.txns order ++ (answers ++ after))) (trace_is whole work.txns named.classes names (history r.of_run.log))
            ∙ ap (λ (l : List ℕ). spelled_lines (Lines (history r.of_run.log)) ++ l) (regroup (codes "order") (flat_map spaced ns) (answers ++ after));
      }

  pub run_complete : length text ≤ MAX_REPORT_BYTES → complete text ≡ Yes
  unfolding has_order
  run_complete small =
      complete_again text
      (record {
        parts = has_order small;
        named = λ line name there told. subst (λ (ns : List (List ℕ)). Contains ns name) (sym order_names) (line_stands line name there told);
      })
