-- A report, by its lines.
use Rattle.sdd_verified.proofs.All.{All, AllByRecursion, AllZip, AreNamed, Bool, Catalogue, CopyTable, IsName, IsReplyOf, IsReportOn, IsSoundCatalogue, IsValid, IsValue, List, Rec, Reply, Report, Txn, TxnNo, Value, Workload, [], all_by_member, all_pending_words, all_shipped_words, ap, arith, codes, copies_lines, copies_words, copy_words, cut_again, cut_lines, false, history, input_of, length, length-map, lt-ltb, names_of, nat_lt, order_line, order_words, pending_lines, record_words, refl, replies_along, replies_words, report_of, run, serial_order, spaced, subst, suc, sym, trace, true, txn_name, value_fine, whole_in, ℕ, ◌++◌, ◌∙◌, ◌∷◌, ◌≡◌, ◌≤◌}
use Rattle.sdd_verified.proofs.GivenValues.{answers_given, copied_given}
use Rattle.sdd_verified.proofs.PartsBack.{AllPass, AreAllValues, AreAnswers, FirstFails, FitsReport, fails_on, ints_fit_report, is_pending, is_reply, is_shipped}
use Rattle.sdd_verified.proofs.PassingLines.{first_copy, first_pending, first_shipped}
use Rattle.sdd_verified.proofs.ReportLines.{decimal_is, lines_in}
use Rattle.sdd_verified.proofs.Reported.{names_of_txns}
use Rattle.sdd_verified.proofs.SpelledParts.{Spells, all_pending_spell, all_shipped_spell, copies_spell, end_spells, order_spells, replies_spell, spells_both, trace_spells}
use Rattle.sdd_verified.proofs.CleanWords.{IsClean, ints_clean, names_are}
use Rattle.sdd_verified.proofs.ValuesKept.{Hold}

-- a value of a workload holds no newline
clean : (v : Value) → IsValue v → IsClean v
clean v h = (value_fine v h).line

-- numbers of 64 bits, and values of workloads, are reported as they are
fits_report : (v : Value) → IsValue v → FitsReport v
fits_report v h = grind arith

-- a line that begins with a digit
abbrev pub is_numbered : List ℕ → Bool
is_numbered [] = false
is_numbered (c ∷ line) = nat_lt c 58

zip_long : {A B : Type 0} (R : A → B → Type 0) (xs : List A) (ys : List B) → AllZip R xs ys → length xs ≡ length ys
zip_long R [] [] h = refl
zip_long R (x ∷ xs) (y ∷ ys) h = ap suc (zip_long R xs ys h.1)
zip_long R _ _ h = absurd h

-- one report, by its lines

module _ (cat : Catalogue) (work : Workload) (text : List ℕ) (sound : IsSoundCatalogue (whole_in cat work)) (named : AreNamed (whole_in cat work))
    (valid : IsValid cat work) (r : IsReportOn cat work text) where
  abbrev whole : Catalogue
  whole = whole_in cat work

  abbrev pub order : List TxnNo
  order = serial_order whole (history r.of_run.log)

  abbrev pub names : List (List ℕ)
  names = names_of work.txns (serial_order whole (history r.of_run.log))

  abbrev pub replies : List Reply
  replies = (run whole work.rows work.txns (serial_order whole (history r.of_run.log))).0

  abbrev pub tells : Report
  tells = report_of (input_of cat r.of_run.tables work) r.of_run.log

  pub txns_named : All (λ (t : Txn). IsName t.name) work.txns
  txns_named = names_of_txns cat work.txns valid.txns

  abbrev pub happened : List (List ℕ)
  happened = lines_in whole work.txns named.classes txns_named (history r.of_run.log)

  abbrev pub shipped : List (List ℕ)
  shipped = all_shipped_words work.txns (history r.of_run.log) (serial_order whole (history r.of_run.log))

  abbrev pub waiting : List (List ℕ)
  waiting = all_pending_words whole work.txns tells.pending

  abbrev pub kept : List (List ℕ)
  kept = copies_words whole tells.copies

  abbrev pub all_lines : List (List ℕ)
  all_lines = happened ++ (order_words names ∷ (replies_words names replies ++ (shipped ++ (waiting ++ (kept ++ codes "end" ∷ [])))))

  spelled : Spells all_lines text
  spelled =
      let c = named.classes in
      let f = named.fragments in
      let shipped_text = all_shipped_spell whole work.txns c f txns_named (history r.of_run.log) order in
      let copies_text = copies_spell whole work.txns c f txns_named tells.copies
      (all_by_member (λ (table : CopyTable). Hold IsClean ints_clean table.rows) tells.copies
      (copied_given IsClean ints_clean clean cat work text sound valid r)) in
      let last = spells_both kept (codes "end" ∷ []) (copies_lines whole tells.copies) (codes "end\n") copies_text end_spells in
      let left = spells_both waiting (kept ++ codes "end" ∷ []) (pending_lines whole work.txns tells.pending) _
      (all_pending_spell whole work.txns c f txns_named tells.pending) last in
      let behind = spells_both shipped (waiting ++ (kept ++ codes "end" ∷ [])) _ _ shipped_text left in
      let answered = spells_both (replies_words names replies) (shipped ++ (waiting ++ (kept ++ codes "end" ∷ []))) (replies_along names replies) _
      (replies_spell names replies (names_are whole work.txns c f txns_named order)
      (answers_given IsClean ints_clean clean cat work text sound valid r)) behind in
      let ordered = spells_both (order_words names ∷ []) (replies_words names replies ++ (shipped ++ (waiting ++ (kept ++ codes "end" ∷ []))))
      (order_line work.txns order) _ (order_spells whole work.txns c f txns_named order) answered in
      let everything = spells_both happened (order_words names ∷ (replies_words names replies ++ (shipped ++ (waiting ++ (kept ++ codes "end" ∷ [])))))
      (trace whole work.txns (history r.of_run.log)) _ (trace_spells whole work.txns c f txns_named (history r.of_run.log)) ordered in
      subst (Spells all_lines) (sym r.text_has_replies) everything

  pub lines_are : (cut_lines text).0 ≡ all_lines
  lines_are = ap (λ (l : List ℕ). (cut_lines l).0) spelled.is ∙ ap (λ (cut : List (List ℕ) × List ℕ). cut.0) (cut_again all_lines spelled.are)

  numbered_by : (first : ℕ) (rest line : List ℕ) → line ≡ first ∷ rest → first ≤ 57 → (more : List ℕ) → is_numbered (line ++ more) ≡ true
  numbered_by first rest line e most more = subst (λ (l : List ℕ). is_numbered (l ++ more) ≡ true) (sym e) (lt-ltb first 58 (omega (arith, most)))

  happened_pass : (h : List (ℕ × Rec)) → AllPass is_numbered (lines_in whole work.txns named.classes txns_named h)
  happened_pass [] = tt
  happened_pass (made ∷ h) =
      let d = decimal_is made.0 in
      (numbered_by d.first d.rest _ d.is d.most (spaced (record_words whole work.txns made.1)), happened_pass h)

  pub trace_passes : AllPass is_numbered happened
  trace_passes = happened_pass (history r.of_run.log)

  pub replies_long : length names ≡ length replies
  replies_long = length-map order (λ (n : TxnNo). txn_name work.txns n.0) ∙ zip_long (IsReplyOf (history r.of_run.log)) order replies r.replies

  pub answers_are_given : AllByRecursion AreAnswers replies
  answers_are_given = answers_given FitsReport ints_fit_report fits_report cat work text sound valid r

  pub copies_values : AllByRecursion (λ (t : CopyTable). AreAllValues t.rows) tells.copies
  copies_values = all_by_member (λ (t : CopyTable). AreAllValues t.rows) tells.copies
      (copied_given FitsReport ints_fit_report fits_report cat work text sound valid r)

  -- what stands after the replies is none

  copies_fail : (p : List ℕ → Bool) → ((t : CopyTable) → p (copy_words whole t) ≡ false) → p (codes "end") ≡ false
      → FirstFails p (kept ++ codes "end" ∷ [])
  copies_fail p f e = fails_on p kept (codes "end" ∷ []) (first_copy p whole f tells.copies) e

  pub behind_pending : FirstFails is_pending (kept ++ codes "end" ∷ [])
  behind_pending = copies_fail is_pending (λ t. refl) refl

  pub behind_shipped : FirstFails is_shipped (waiting ++ (kept ++ codes "end" ∷ []))
  behind_shipped =
      fails_on is_shipped waiting (kept ++ codes "end" ∷ []) (first_pending is_shipped (λ line. refl) whole work.txns tells.pending)
      (copies_fail is_shipped (λ t. refl) refl)

  pub behind_replies : FirstFails is_reply (shipped ++ (waiting ++ (kept ++ codes "end" ∷ [])))
  behind_replies =
      fails_on is_reply shipped (waiting ++ (kept ++ codes "end" ∷ [])) (first_shipped is_reply (λ line. refl) work.txns (history r.of_run.log) order)
      (fails_on is_reply waiting (kept ++ codes "end" ∷ []) (first_pending is_reply (λ line. refl) whole work.txns tells.pending)
      (copies_fail is_reply (λ t. refl) refl))
