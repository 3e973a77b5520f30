-- The parts of a report's text are their lines.
use Rattle.sdd_verified.proofs.All.{All, AllByRecursion, AreLines, Catalogue, Class, CopyTable, Fragment, HasNoNewline, IsName, List, None, Option, Overflow, Pending, Rec, Reply, ReportedCommit, Row, Rows, Some, TooMany, Txn, TxnNo, [], all_pending_words, all_shipped_words, ap, append_assoc, codes, copies_lines, copies_words, copy_lines, copy_words, decimal, flat_map, fragment_name, length, module_word, names_of, no_newline-append, option_map_or, order_line, order_words, pending_line, pending_lines, pending_words, place_words, queries_from, queries_words, query_lines, query_words, refl, replies_along, replies_words, reply_lines, reply_words, reported_of, row_line, row_words, rows_words, rules, shipped_line, shipped_of, shipped_words, spaced, spelled_lines, subst, trace, txn_name, value_bytes, why_words, ℕ, ◌++◌, ◌+◌, ◌∙◌, ◌∷◌, ◌≡◌}
use Rattle.sdd_verified.proofs.ReportLines.{lines_in, module_line, number_line, spaced_line, trace_is, trace_lines, txn_line}
use Rattle.sdd_verified.proofs.CleanWords.{IsClean, fragment_line, ints_clean, names_are, spaced_names, values_line, why_line}
use Rattle.sdd_verified.proofs.ValuesKept.{Answers, Hold, Holds}

are_both : (xs ys : List (List ℕ)) → AreLines xs → AreLines ys → AreLines (xs ++ ys)
are_both [] ys h k = k
are_both (x ∷ xs) ys h k = (h.0, are_both xs ys h.1 k)

spelled_both : (xs ys : List (List ℕ)) → spelled_lines xs ++ spelled_lines ys ≡ spelled_lines (xs ++ ys)
spelled_both [] ys = refl
spelled_both (x ∷ xs) ys = append_assoc x (10 ∷ spelled_lines xs) (spelled_lines ys) ∙ ap (λ (l : List ℕ). x ++ 10 ∷ l) (spelled_both xs ys)

-- a text of these lines
pub record Spells (lines : List (List ℕ)) (text : List ℕ) : Type 0 where
  pub are : AreLines lines
  pub is : text ≡ spelled_lines lines

spells_none : Spells [] []
spells_none = record { are = tt; is = refl }

pub spells_both : (xs ys : List (List ℕ)) (text other : List ℕ) → Spells xs text → Spells ys other → Spells (xs ++ ys) (text ++ other)
spells_both xs ys text other h k =
    record {
      are = are_both xs ys h.are k.are;
      is = ap (λ (l : List ℕ). l ++ other) h.is ∙ ap (λ (l : List ℕ). spelled_lines xs ++ l) k.is ∙ spelled_both xs ys;
    }

spells_line : (line : List ℕ) → HasNoNewline line → Spells (line ∷ []) (line ++ 10 ∷ [])
spells_line line h = record { are = (h, tt); is = refl }

-- a line of two parts, of which the second stands before its end
spells_parts : (a b : List ℕ) → HasNoNewline a → HasNoNewline b → Spells ((a ++ b) ∷ []) (a ++ (b ++ 10 ∷ []))
spells_parts a b h k = subst (Spells ((a ++ b) ∷ [])) (append_assoc a b (10 ∷ [])) (spells_line (a ++ b) (no_newline-append a b h k))

-- rows

row_spells : (row : Row) → Holds IsClean ints_clean row → Spells (row_words row ∷ []) (row_line row)
row_spells row h =
    spells_line (row_words row) (no_newline-append (codes "row") (flat_map (λ v. 32 ∷ value_bytes v) row) (search rules) (values_line row h))

rows_spell : (rows : List Row) → Hold IsClean ints_clean rows → Spells (rows_words rows) (flat_map row_line rows)
rows_spell [] h = spells_none
rows_spell (row ∷ rows) h =
    spells_both (row_words row ∷ []) (rows_words rows) (row_line row) (flat_map row_line rows) (row_spells row h.0) (rows_spell rows h.1)

-- replies

query_spells : (number : ℕ) (rows : List Row) → Hold IsClean ints_clean rows → Spells (query_words number rows ∷ rows_words rows) (query_lines number rows)
query_spells number rows h =
    let words : List ℕ = codes "query " ++ decimal number in
    spells_both (query_words number rows ∷ []) (rows_words rows) (query_words number rows ++ 10 ∷ []) (flat_map row_line rows)
    (spells_line (query_words number rows)
    (no_newline-append words (32 ∷ decimal (length rows)) (no_newline-append (codes "query ") (decimal number) (search rules) (number_line number))
    (spaced_line (decimal (length rows)) (number_line (length rows))))) (rows_spell rows h)

queries_spell : (number : ℕ) (answers : List (List Row)) → AllByRecursion (Hold IsClean ints_clean) answers
    → Spells (queries_words number answers) (queries_from number answers)
queries_spell number [] h = spells_none
queries_spell number (rows ∷ answers) h =
    spells_both (query_words number rows ∷ rows_words rows) (queries_words (number + 1) answers) (query_lines number rows) (queries_from (number + 1) answers)
    (query_spells number rows h.0) (queries_spell (number + 1) answers h.1)

replied : (name word : List ℕ) → HasNoNewline name → HasNoNewline word
    → Spells (((codes "reply " ++ name) ++ word) ∷ []) ((codes "reply " ++ name) ++ (word ++ 10 ∷ []))
replied name word h k = spells_parts (codes "reply " ++ name) word (no_newline-append (codes "reply ") name (search rules) h) k

reply_spells : (name : List ℕ) (reply : Reply) → HasNoNewline name → Answers IsClean ints_clean reply → Spells (reply_words name reply) (reply_lines name reply)
reply_spells name (Rows answers) h k =
    let first : List ℕ = codes "reply " ++ name in
    subst (Spells (reply_words name (Rows answers))) (append_assoc first (codes " ok\n") (queries_from 1 answers))
    (spells_both ((first ++ codes " ok") ∷ []) (queries_words 1 answers) (first ++ codes " ok\n") (queries_from 1 answers)
    (replied name (codes " ok") h (search rules)) (queries_spell 1 answers k))
reply_spells name Overflow h k = replied name (codes " overflow") h (search rules)
reply_spells name TooMany h k = replied name (codes " toomany") h (search rules)

pub replies_spell : (names : List (List ℕ)) (replies : List Reply) → AllByRecursion HasNoNewline names
    → AllByRecursion (Answers IsClean ints_clean) replies → Spells (replies_words names replies) (replies_along names replies)
replies_spell (name ∷ names) (reply ∷ replies) h k =
    spells_both (reply_words name reply) (replies_words names replies) (reply_lines name reply) (replies_along names replies)
    (reply_spells name reply h.0 k.0) (replies_spell names replies h.1 k.1)
replies_spell _ _ h k = spells_none

module _ (cat : Catalogue) (txns : List Txn) (classes_named : All (λ (k : Class). IsName k.name) cat.classes)
    (fragments_named : All (λ (f : Fragment). IsName f.name) cat.fragments)
    (txns_named : All (λ (t : Txn). IsName t.name) txns) where
  pub trace_spells : (history : List (ℕ × Rec)) → Spells (lines_in cat txns classes_named txns_named history) (trace cat txns history)
  trace_spells history = record { are = trace_lines cat txns classes_named txns_named history; is = trace_is cat txns classes_named txns_named history }

  pub order_spells : (order : List TxnNo) → Spells (order_words (names_of txns order) ∷ []) (order_line txns order)
  order_spells order =
      spells_parts (codes "order") (flat_map spaced (names_of txns order)) (search rules)
      (spaced_names cat txns classes_named fragments_named txns_named (names_of txns order) (names_are cat txns classes_named fragments_named txns_named order))

  -- what was shipped

  name_line : (n : ℕ) → HasNoNewline (txn_name txns n)
  name_line n = txn_line cat txns classes_named txns_named n

  shipped_spells : (n : TxnNo) (o : Option ReportedCommit)
      → Spells (shipped_words txns n o) (option_map_or (λ (reported : ReportedCommit). shipped_line (txn_name txns n.0) reported) o [])
  shipped_spells n None = spells_none
  shipped_spells n (Some reported) =
      let name : List ℕ = spaced (txn_name txns n.0) in
      let values : List ℕ = spaced (decimal reported.values) in
      let rows : List ℕ = spaced (decimal reported.rows) in
      let line : List ℕ = codes "shipped" ++ (name ++ (values ++ rows)) in
      let clean : HasNoNewline line = no_newline-append (codes "shipped") (name ++ (values ++ rows)) (search rules)
      (no_newline-append name (values ++ rows) (spaced_line (txn_name txns n.0) (name_line n.0))
      (no_newline-append values rows (spaced_line (decimal reported.values) (number_line reported.values))
      (spaced_line (decimal reported.rows) (number_line reported.rows)))) in
      subst (Spells (line ∷ []))
      (append_assoc (codes "shipped") (name ++ (values ++ rows)) (10 ∷ [])
      ∙ ap (λ (l : List ℕ). codes "shipped" ++ l)
      (append_assoc name (values ++ rows) (10 ∷ []) ∙ ap (λ (l : List ℕ). name ++ l) (append_assoc values rows (10 ∷ [])))) (spells_line line clean)

  pub all_shipped_spell : (history : List (ℕ × Rec)) (order : List TxnNo)
      → Spells (all_shipped_words txns history order) (flat_map (shipped_of txns history) order)
  all_shipped_spell history [] = spells_none
  all_shipped_spell history (n ∷ order) =
      spells_both (shipped_words txns n (reported_of history n.0)) (all_shipped_words txns history order)
      (shipped_of txns history n) (flat_map (shipped_of txns history) order) (shipped_spells n (reported_of history n.0)) (all_shipped_spell history order)

  -- the pending ones

  pending_spells : (p : Pending) → Spells (pending_words cat txns p ∷ []) (pending_line cat txns p)
  pending_spells p =
      let name : List ℕ = spaced (txn_name txns p.txn.0) in
      let why : List ℕ = spaced (why_words cat p.why) in
      let clean : HasNoNewline (pending_words cat txns p) = no_newline-append (codes "pending") (name ++ why) (search rules)
      (no_newline-append name why (spaced_line (txn_name txns p.txn.0) (name_line p.txn.0))
      (spaced_line (why_words cat p.why) (why_line cat txns classes_named fragments_named txns_named p.why))) in
      subst (Spells (pending_words cat txns p ∷ []))
      (append_assoc (codes "pending") (name ++ why) (10 ∷ []) ∙ ap (λ (l : List ℕ). codes "pending" ++ l) (append_assoc name why (10 ∷ [])))
      (spells_line (pending_words cat txns p) clean)

  pub all_pending_spell : (left : List Pending) → Spells (all_pending_words cat txns left) (pending_lines cat txns left)
  all_pending_spell [] = spells_none
  all_pending_spell (p ∷ left) =
      spells_both (pending_words cat txns p ∷ []) (all_pending_words cat txns left) (pending_line cat txns p) (pending_lines cat txns left)
      (pending_spells p) (all_pending_spell left)

  -- the copies

  copy_spells : (table : CopyTable) → Hold IsClean ints_clean table.rows → Spells (copy_words cat table ∷ rows_words table.rows) (copy_lines cat table)
  copy_spells table h =
      let place : List ℕ = place_words cat table.dm.0 table.frag.0 in
      let many : List ℕ = spaced (decimal (length table.rows)) in
      let rows : List ℕ = flat_map row_line table.rows in
      let dm : List ℕ = spaced (module_word table.dm.0) in
      let name : List ℕ = spaced (fragment_name cat table.frag.0) in
      let clean : HasNoNewline place = no_newline-append (codes "copy") (dm ++ name) (search rules)
      (no_newline-append dm name (module_line cat txns classes_named txns_named table.dm.0)
      (spaced_line (fragment_name cat table.frag.0) (fragment_line cat txns classes_named fragments_named txns_named table.frag.0))) in
      let is : ((place ++ many) ++ 10 ∷ []) ++ rows ≡ place ++ (many ++ 10 ∷ rows) =
      append_assoc (place ++ many) (10 ∷ []) rows ∙ append_assoc place many (10 ∷ rows) in
      subst (Spells (copy_words cat table ∷ rows_words table.rows)) is
      (spells_both ((place ++ many) ∷ []) (rows_words table.rows) ((place ++ many) ++ 10 ∷ []) rows
      (spells_line (place ++ many) (no_newline-append place many clean (spaced_line (decimal (length table.rows)) (number_line (length table.rows)))))
      (rows_spell table.rows h))

  pub copies_spell : (copies : List CopyTable) → AllByRecursion (λ (table : CopyTable). Hold IsClean ints_clean table.rows) copies
      → Spells (copies_words cat copies) (copies_lines cat copies)
  copies_spell [] h = spells_none
  copies_spell (table ∷ copies) h =
      spells_both (copy_words cat table ∷ rows_words table.rows) (copies_words cat copies) (copy_lines cat table) (copies_lines cat copies)
      (copy_spells table h.0) (copies_spell copies h.1)

pub end_spells : Spells (codes "end" ∷ []) (codes "end\n")
end_spells = spells_line (codes "end") (search rules)
