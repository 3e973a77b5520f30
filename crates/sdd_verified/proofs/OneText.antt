-- Two reports that have one text tell the same.
use Rattle.sdd_verified.proofs.All.{All, AllByRecursion, AreNamed, Catalogue, CopyTable, HasNoSpace, IsName, IsReportOn, IsSoundCatalogue, IsValid, List, None, Option, Reply, Report, Some, TellAlike, Txn, TxnNo, Workload, [], ap, append_cancel_right, classes_in, codes, copies_words, found_member, history, length, name_fine, names_of, option_map_or, order_of, order_words, plain_spaceless, refl, replies_words, slice_get, sym, txn_name, whole_in, whole_named, whole_over, whole_sound, ℕ, ◌++◌, ◌-◌, ◌∙◌, ◌∷◌, ◌≡◌}
use Rattle.sdd_verified.proofs.PartsBack.{copies_back, is_pending, is_reply, is_shipped, order_back, parted, pending_back, replies_back, same_first}
use Rattle.sdd_verified.proofs.PassingLines.{pending_pass, replies_pass, shipped_pass}
use Rattle.sdd_verified.proofs.ReportParts.{answers_are_given, behind_pending, behind_replies, behind_shipped, copies_values, happened, is_numbered, kept, lines_are, names, replies, replies_long, shipped, tells, trace_passes, waiting}
use Rattle.sdd_verified.proofs.Reported.{names_of_txns}

-- names

spaceless_by : (txns : List Txn) (i : ℕ) (o : Option Txn) → slice_get txns i ≡ o → All (λ (t : Txn). IsName t.name) txns
    → HasNoSpace (option_map_or (λ (t : Txn). t.name) o [])
spaceless_by txns i None is named = tt
spaceless_by txns i (Some t) is named = plain_spaceless t.name (name_fine t.name (found_member (λ (u : Txn). IsName u.name) txns i t named is)).word

spaceless : (txns : List Txn) → All (λ (t : Txn). IsName t.name) txns → (n : ℕ) → HasNoSpace (txn_name txns n)
spaceless txns named n = spaceless_by txns (n - 1) (slice_get txns (n - 1)) refl named

names_spaceless : (txns : List Txn) → All (λ (t : Txn). IsName t.name) txns → (order : List TxnNo) → AllByRecursion HasNoSpace (names_of txns order)
names_spaceless txns named [] = tt
names_spaceless txns named (n ∷ order) = (spaceless txns named n.0, names_spaceless txns named order)

-- the lines of copies know no classes
copies_of_whole : (cat : Catalogue) (work : Workload) (copies : List CopyTable) → copies_words (whole_in cat work) copies ≡ copies_words cat copies
copies_of_whole cat work copies = ap (λ (c : Catalogue). copies_words c copies) (whole_over cat cat.classes (classes_in cat work))

pub one_text : (cat : Catalogue) (work other : Workload) (text : List ℕ) → IsSoundCatalogue cat → AreNamed cat → IsValid cat work → IsValid cat other
    → (one : IsReportOn cat work text) → (two : IsReportOn cat other text) → TellAlike cat work other text one two
one_text cat work other text sound named valid fine one two =
    let sound1 = whole_sound cat work sound valid in
    let sound2 = whole_sound cat other sound fine in
    let named1 = whole_named cat work named valid in
    let named2 = whole_named cat other named fine in
    let last : List (List ℕ) = codes "end" ∷ [] in
    let names1 : List (List ℕ) = names cat work text sound1 named1 valid one in
    let names2 : List (List ℕ) = names cat other text sound2 named2 fine two in
    let replies1 : List Reply = replies cat work text sound1 named1 valid one in
    let replies2 : List Reply = replies cat other text sound2 named2 fine two in
    let shipped1 : List (List ℕ) = shipped cat work text sound1 named1 valid one in
    let shipped2 : List (List ℕ) = shipped cat other text sound2 named2 fine two in
    let waiting1 : List (List ℕ) = waiting cat work text sound1 named1 valid one in
    let waiting2 : List (List ℕ) = waiting cat other text sound2 named2 fine two in
    let kept1 : List (List ℕ) = kept cat work text sound1 named1 valid one in
    let kept2 : List (List ℕ) = kept cat other text sound2 named2 fine two in
    let tells1 : Report = tells cat work text sound1 named1 valid one in
    let tells2 : Report = tells cat other text sound2 named2 fine two in
    let behind1 : List (List ℕ) = shipped1 ++ (waiting1 ++ (kept1 ++ last)) in
    let behind2 : List (List ℕ) = shipped2 ++ (waiting2 ++ (kept2 ++ last)) in
    let whole = sym (lines_are cat work text sound1 named1 valid one) ∙ lines_are cat other text sound2 named2 fine two in
    let a = parted is_numbered (happened cat work text sound1 named1 valid one) (happened cat other text sound2 named2 fine two)
    (order_words names1 ∷ (replies_words names1 replies1 ++ behind1)) (order_words names2 ∷ (replies_words names2 replies2 ++ behind2))
    (trace_passes cat work text sound1 named1 valid one) (trace_passes cat other text sound2 named2 fine two) refl refl whole in
    let b = same_first (order_words names1) (order_words names2) (replies_words names1 replies1 ++ behind1) (replies_words names2 replies2 ++ behind2) a.1 in
    let txns1 = names_of_txns cat work.txns valid.txns in
    let txns2 = names_of_txns cat other.txns fine.txns in
    let same_names : names1 ≡ names2 = order_back names1 names2 (names_spaceless work.txns txns1 (order_of cat work one.of_run.log))
    (names_spaceless other.txns txns2 (order_of cat other two.of_run.log)) b.0 in
    let c = parted is_reply (replies_words names1 replies1) (replies_words names2 replies2) behind1 behind2
    (replies_pass is_reply (λ line. refl) (λ number rows. refl) (λ name word. refl) names1 replies1)
    (replies_pass is_reply (λ line. refl) (λ number rows. refl) (λ name word. refl) names2 replies2)
    (behind_replies cat work text sound1 named1 valid one) (behind_replies cat other text sound2 named2 fine two) b.1 in
    let long2 : length names1 ≡ length replies2 =
    ap (λ (l : List (List ℕ)). length l) same_names ∙ replies_long cat other text sound2 named2 fine two in
    let d = parted is_shipped shipped1 shipped2 (waiting1 ++ (kept1 ++ last)) (waiting2 ++ (kept2 ++ last))
    (shipped_pass is_shipped (λ line. refl) work.txns (history one.of_run.log) (order_of cat work one.of_run.log))
    (shipped_pass is_shipped (λ line. refl) other.txns (history two.of_run.log) (order_of cat other two.of_run.log))
    (behind_shipped cat work text sound1 named1 valid one) (behind_shipped cat other text sound2 named2 fine two) c.1 in
    let e = parted is_pending waiting1 waiting2 (kept1 ++ last) (kept2 ++ last)
    (pending_pass is_pending (λ line. refl) (whole_in cat work) work.txns tells1.pending)
    (pending_pass is_pending (λ line. refl) (whole_in cat other) other.txns tells2.pending)
    (behind_pending cat work text sound1 named1 valid one) (behind_pending cat other text sound2 named2 fine two) d.1 in
    record {
      order = same_names;
      replies = replies_back names1 replies1 replies2 (replies_long cat work text sound1 named1 valid one) long2
          (answers_are_given cat work text sound1 named1 valid one) (answers_are_given cat other text sound2 named2 fine two)
          (c.0 ∙ ap (λ (l : List (List ℕ)). replies_words l replies2) (sym same_names));
      pending = pending_back (whole_in cat work) (whole_in cat other) work.txns other.txns
          (spaceless work.txns txns1) (spaceless other.txns txns2) tells1.pending tells2.pending e.0;
      copies = copies_back cat tells1.copies tells2.copies (copies_values cat work text sound1 named1 valid one)
          (copies_values cat other text sound2 named2 fine two)
          (sym (copies_of_whole cat work tells1.copies) ∙ append_cancel_right kept1 kept2 last e.1 ∙ copies_of_whole cat other tells2.copies);
    }
