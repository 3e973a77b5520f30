-- A report has as many lines of pending transactions as transactions are pending.
use Rattle.sdd_verified.proofs.All.{AreNamed, Bool, Catalogue, Contains, Contains-cases, Contains-nil, IsReportOn, IsSoundCatalogue, IsValid, List, Pending, TxnNo, Workload, [], ap, arith, codes, cond, count_by, false, history, inl, input_of, inr, length, length-map, lines_of, ltb-true, ne_eqb, not, order_words, pending_words, refl, replies_words, report_of, serial_order, subst, sum_by-cons, sym, tells_pending, true, whole_in, ℕ, ◌++◌, ◌+◌, ◌∙◌, ◌∷◌, ◌≡◌}
use Rattle.sdd_verified.proofs.PartsBack.{AllPass}
use Rattle.sdd_verified.proofs.PassingLines.{copies_pass, pending_pass, replies_pass, shipped_pass}
use Rattle.sdd_verified.proofs.ReportParts.{happened, is_numbered, kept, lines_are, names, replies, shipped, trace_passes, waiting}

-- one for a line that tells of one
abbrev counts : Bool → ℕ
counts b = cond b 1 0

counted_more : (line : List ℕ) (lines : List (List ℕ)) → count_by tells_pending (line ∷ lines) ≡ counts (tells_pending line) + count_by tells_pending lines
counted_more line lines = sum_by-cons (λ (l : List ℕ). counts (tells_pending l)) line lines

counted_both : (xs ys : List (List ℕ)) → count_by tells_pending (xs ++ ys) ≡ count_by tells_pending xs + count_by tells_pending ys
counted_both [] ys = omega arith
counted_both (x ∷ xs) ys = let a = counted_more x (xs ++ ys) in let b = counted_more x xs in let c = counted_both xs ys in omega (arith, a, b, c)

-- a line that tells of none
abbrev tells_other : List ℕ → Bool
tells_other line = not (tells_pending line)

not_one : (b : Bool) → counts b ≡ 0 → b ≡ false
not_one b h = grind arith

other_none : (b : Bool) → not b ≡ true → counts b ≡ 0
other_none b h = grind arith

none_counted : (lines : List (List ℕ)) → AllPass tells_other lines → count_by tells_pending lines ≡ 0
none_counted [] h = refl
none_counted (line ∷ lines) h =
    let a = counted_more line lines in let b = other_none (tells_pending line) h.0 in let c = none_counted lines h.1 in omega (arith, a, b, c)

all_counted : (lines : List (List ℕ)) → AllPass tells_pending lines → count_by tells_pending lines ≡ length lines
all_counted [] h = refl
all_counted (line ∷ lines) h =
    let a = counted_more line lines in
    let b : counts (tells_pending line) ≡ 1 = ap counts h.0 in
    let c = all_counted lines h.1 in
    omega (arith, a, b, c)

-- where none is counted, none tells of one
none_there : (lines : List (List ℕ)) → count_by tells_pending lines ≡ 0 → (line : List ℕ) → Contains lines line → tells_pending line ≡ false
none_there [] h line there = absurd (Contains-nil line there)
none_there (first ∷ lines) h line there =
    let more = counted_more first lines in
    elim (Contains-cases first lines line there) [
      | inl same ↦ subst (λ (l : List ℕ). tells_pending l ≡ false) (sym same) (not_one (tells_pending first) (omega (arith, h, more)))
      | inr later ↦ none_there lines (omega (arith, h, more)) line later
    ]

-- a line that begins with a digit tells of none
numbered_other : (line : List ℕ) → is_numbered line ≡ true → tells_other line ≡ true
numbered_other line h = grind (arith, ltb-true, ne_eqb)

all_numbered : (lines : List (List ℕ)) → AllPass is_numbered lines → AllPass tells_other lines
all_numbered [] h = tt
all_numbered (line ∷ lines) h = (numbered_other line h.0, all_numbered lines h.1)

-- so many lines of a report tell of one as its pending part has
counted : (happened replies shipped waiting copies : List (List ℕ)) (first last : List ℕ) → AllPass tells_other happened → tells_other first ≡ true
    → AllPass tells_other replies → AllPass tells_other shipped → AllPass tells_pending waiting → AllPass tells_other copies → tells_other last ≡ true
    → count_by tells_pending (happened ++ (first ∷ (replies ++ (shipped ++ (waiting ++ (copies ++ last ∷ [])))))) ≡ length waiting
counted happened replies shipped waiting copies first last h f a s w c e =
    let kept = counted_both copies (last ∷ []) in
    let left = counted_both waiting (copies ++ last ∷ []) in
    let behind = counted_both shipped (waiting ++ (copies ++ last ∷ [])) in
    let answered = counted_both replies (shipped ++ (waiting ++ (copies ++ last ∷ []))) in
    let ordered = counted_more first (replies ++ (shipped ++ (waiting ++ (copies ++ last ∷ [])))) in
    let whole = counted_both happened (first ∷ (replies ++ (shipped ++ (waiting ++ (copies ++ last ∷ []))))) in
    let none_happened = none_counted happened h in
    let none_first = other_none (tells_pending first) f in
    let none_replied = none_counted replies a in
    let none_shipped = none_counted shipped s in
    let all_waiting = all_counted waiting w in
    let none_copied = none_counted copies c in
    let none_last = none_counted (last ∷ []) (e, tt) in
    omega (arith, kept, left, behind, answered, ordered, whole, none_happened, none_first, none_replied, none_shipped, all_waiting, none_copied, none_last)

module _ (cat : Catalogue) (work : Workload) (text : List ℕ) (sound : IsSoundCatalogue (whole_in cat work)) (named : AreNamed (whole_in cat work))
    (valid : IsValid cat work) (r : IsReportOn cat work text) where
  abbrev whole : Catalogue
  whole = whole_in cat work

  pub as_many_lines : count_by tells_pending (lines_of text) ≡ length (report_of (input_of cat r.of_run.tables work) r.of_run.log).pending
  as_many_lines =
      let order : List TxnNo = serial_order whole (history r.of_run.log) in
      ap (λ (l : List (List ℕ)). count_by tells_pending l) (lines_are cat work text sound named valid r)
      ∙ counted (happened cat work text sound named valid r)
      (replies_words (names cat work text sound named valid r) (replies cat work text sound named valid r))
      (shipped cat work text sound named valid r) (waiting cat work text sound named valid r) (kept cat work text sound named valid r)
      (order_words (names cat work text sound named valid r)) (codes "end")
      (all_numbered (happened cat work text sound named valid r) (trace_passes cat work text sound named valid r)) refl
      (replies_pass tells_other (λ line. refl) (λ number rows. refl) (λ name word. refl) (names cat work text sound named valid r)
      (replies cat work text sound named valid r)) (shipped_pass tells_other (λ line. refl) work.txns (history r.of_run.log) order)
      (pending_pass tells_pending (λ line. refl) whole work.txns (report_of (input_of cat r.of_run.tables work) r.of_run.log).pending)
      (copies_pass tells_other whole (λ line. refl) (λ t. refl) (report_of (input_of cat r.of_run.tables work) r.of_run.log).copies) refl
      ∙ length-map (report_of (input_of cat r.of_run.tables work) r.of_run.log).pending (pending_words whole work.txns)

  pub no_line : (report_of (input_of cat r.of_run.tables work) r.of_run.log).pending ≡ [] → (line : List ℕ) → Contains (lines_of text) line → tells_pending line ≡ false
  no_line empty line there = none_there (lines_of text) (as_many_lines ∙ ap (λ (xs : List Pending). length xs) empty) line there
