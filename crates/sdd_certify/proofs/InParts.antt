-- Serial execution in two parts.
use Rattle.sdd_certify.proofs.All.{Catalogue, Database, GoesOn, List, Reply, ServesBoth, Txn, TxnNo, Workload, [], after_changes, after_reply, ap, append_assoc, database_of, effect, left_by, refl, replies, reply_lines, serial, serial_replies, sym, txns_along, ℕ, ◌++◌, ◌∙◌, ◌∷◌, ◌≡◌}

pub in_parts : (cat : Catalogue) (db : Database) (front rest : List Txn)
    → serial cat db (front ++ rest) ≡ ((serial cat db front).0 ++ (serial cat (serial cat db front).1 rest).0, (serial cat (serial cat db front).1 rest).1)
in_parts cat db [] rest = refl
in_parts cat db (txn ∷ front) rest =
    ap (after_reply (effect cat db txn).reply) (in_parts cat (after_changes cat db (effect cat db txn).changes) front rest)

-- the lines of the replies, part by part
replies_in_parts : (cat : Catalogue) (db : Database) (front rest : List Txn) (answers : List Reply)
    → replies (front ++ rest) ((serial cat db front).0 ++ answers) ≡ replies front (serial cat db front).0 ++ replies rest answers
replies_in_parts cat db [] rest answers = refl
replies_in_parts cat db (txn ∷ front) rest answers =
    let here : List ℕ = reply_lines txn.name (effect cat db txn).reply in
    let now : Database = after_changes cat db (effect cat db txn).changes in
    ap (λ (l : List ℕ). here ++ l) (replies_in_parts cat now front rest answers)
    ∙ sym (append_assoc here (replies front (serial cat now front).0) (replies rest answers))

pub both_served : (cat : Catalogue) (first next : Workload) (one two : List TxnNo) → GoesOn cat first one next → ServesBoth cat first next one two
both_served cat first next one two goes_on =
    let db : Database = database_of cat first.rows in
    let front : List Txn = txns_along first one in
    let rest : List Txn = txns_along next two in
    let parts = in_parts cat db front rest in
    record {
      replies = ap (λ (r : List Reply × Database). replies (front ++ rest) r.0) parts
          ∙ replies_in_parts cat db front rest (serial cat (left_by cat first one) rest).0
          ∙ ap (λ (d : Database). serial_replies cat first one ++ replies rest (serial cat d rest).0) (sym goes_on);
      left = ap (λ (r : List Reply × Database). r.1) parts ∙ ap (λ (d : Database). (serial cat d rest).1) (sym goes_on);
    }
