-- The replies of transactions that have to come, one after the other.
use Rattle.sdd_verify.proofs.All.{Bor, Catalogue, Database, Fails, Flaw, List, Numbered, Ok, Overflow, Reply, Result, Rows, TooMany, Txn, Value, [], after_changes, ap, append_assoc, arith, codes, decimal, drop, drop_all, drop_more, effect, fails_bind, flat_map, get_or, length, line_in, lines_of, map, nat_tests, passed, past, queries_from, query_lines, replies, replies_on, reply_lines, row_line, subst, value_bytes, ℕ, ◌++◌, ◌+◌, ◌<◌, ◌>>=◌, ◌∙◌, ◌∷◌, ◌≡◌, ◌≤◌}
use Rattle.sdd_script.specs.words.Lines.{cut_lines}
use Rattle.sdd_verify.proofs.LineCuts.{IsWhole, whole_append, whole_behind, whole_empty, whole_ended}
use Rattle.sdd_verify.proofs.LinesPassed.{after_lines}

-- all that is printed of replies ends its lines

rows_whole : (rows : List (List Value)) → IsWhole (flat_map row_line rows)
rows_whole [] = whole_empty
rows_whole (row ∷ rows) =
    whole_append (row_line row) (flat_map row_line rows) (whole_ended (codes "row" ++ flat_map (λ v. 32 ∷ value_bytes v) row) [] whole_empty) (rows_whole rows)

query_whole : (number : ℕ) (rows : List (List Value)) → IsWhole (query_lines number rows)
query_whole number rows =
    whole_append (((codes "query " ++ decimal number) ++ 32 ∷ decimal (length rows)) ++ 10 ∷ []) (flat_map row_line rows)
    (whole_ended ((codes "query " ++ decimal number) ++ 32 ∷ decimal (length rows)) [] whole_empty) (rows_whole rows)

queries_whole : (number : ℕ) (answers : List (List (List Value))) → IsWhole (queries_from number answers)
queries_whole number [] = whole_empty
queries_whole number (rows ∷ answers) =
    whole_append (query_lines number rows) (queries_from (number + 1) answers) (query_whole number rows) (queries_whole (number + 1) answers)

-- after a text that ends no line
behind_front : (front word rest : List ℕ) → IsWhole rest → IsWhole (front ++ (word ++ 10 ∷ rest))
behind_front front word rest h = subst IsWhole (append_assoc front word (10 ∷ rest)) (whole_ended (front ++ word) rest h)

pub reply_whole : (name : List ℕ) (reply : Reply) → IsWhole (reply_lines name reply)
reply_whole name (Rows answers) = behind_front (codes "reply " ++ name) (codes " ok") (queries_from 1 answers) (queries_whole 1 answers)
reply_whole name Overflow = behind_front (codes "reply " ++ name) (codes " overflow") [] whole_empty
reply_whole name TooMany = behind_front (codes "reply " ++ name) (codes " toomany") [] whole_empty

pub replies_whole : (txns : List Txn) (answers : List Reply) → IsWhole (replies txns answers)
replies_whole (txn ∷ txns) (reply ∷ answers) =
    whole_append (reply_lines txn.name reply) (replies txns answers) (reply_whole txn.name reply) (replies_whole txns answers)
replies_whole _ _ = whole_empty

-- the first reply, and then the others
first_reply : (number : ℕ) (name : List ℕ) (reply : Reply) (others : List ℕ) (lines : List (List ℕ))
    → passed number (lines_of (reply_lines name reply ++ others)) lines ≡ (passed number
    (lines_of (reply_lines name reply)) lines >>= λ rest. passed rest.0 (lines_of others) rest.1)
first_reply number name reply others lines =
    ap (λ (cut : List (List ℕ) × List ℕ). passed number cut.0 lines) (whole_behind (reply_lines name reply) others (reply_whole name reply))
    ∙ after_lines number (lines_of (reply_lines name reply)) (lines_of others) lines

-- the transactions that are left, the first of them apart
module _ (cat : Catalogue) (db : Database) (txns : List (Bor Txn)) (i : ℕ) (t : Bor Txn) (reply : Reply) (number : ℕ) (lines : List (List ℕ))
    (within : i < length txns) (there : t ≡ get_or txns i t) (replied : reply ≡ (effect cat db t.now).reply) where
  -- where the first reply is there, the others have to come after it
  pub goes_on : (name : List ℕ) (now : Database) (rest : Numbered) (total : Result Numbered ℕ)
      → name ≡ t.now.name → now ≡ after_changes cat db (effect cat db t.now).changes → passed number (lines_of (reply_lines name reply)) lines ≡ Ok rest
      → passed number (lines_of (replies_on cat db (map (λ u. u.now) (drop i txns)))) lines ≡ total
      → passed rest.0 (lines_of (replies_on cat now (map (λ u. u.now) (drop (i + 1) txns)))) rest.1 ≡ total
  goes_on name now rest total same is passes so_far =
      grind (arith, nat_tests, passed, lines_of, reply_lines, after_changes, effect, replies_on, drop_more, first_reply)

  -- where it isn't, its fault is that of all
  pub fails : (e : Flaw) (name : List ℕ) (total : Result Numbered ℕ) → name ≡ t.now.name
      → Fails line_in e (passed number (lines_of (reply_lines name reply)) lines)
      → passed number (lines_of (replies_on cat db (map (λ u. u.now) (drop i txns)))) lines ≡ total → Fails line_in e total
  fails e name total same breaks so_far =
      grind (arith, nat_tests, line_in, after_changes, effect, passed, lines_of, replies_on, reply_lines, drop_more, first_reply, fails_bind)

-- where no transaction is left, nothing has to come
pub none_left : (cat : Catalogue) (db : Database) (txns : List (Bor Txn)) (i number : ℕ) (lines : List (List ℕ)) (total : Result Numbered ℕ) → length txns ≤ i
    → passed number (lines_of (replies_on cat db (map (λ u. u.now) (drop i txns)))) lines ≡ total → total ≡ Ok (number, lines)
unfolding cut_lines
none_left cat db txns i number lines total past so_far = grind (arith, nat_tests, passed, lines_of, replies_on, drop_all)
