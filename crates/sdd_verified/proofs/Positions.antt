-- Members of an order by their places, where none stands twice.
use Rattle.sdd_verified.proofs.All.{Catalogue, ComesBefore, Contains, Contains-here, Contains-later, History, IsAlong, List, TxnNo, [], ap, arith, at, length, refl, slice_index_or as get_or, suc, sym, txn_no, zero, ℕ, ◌++◌, ◌+◌, ◌<◌, ◌∙◌, ◌∷◌, ◌≡◌, ◌≢◌}

pub member : (order : List TxnNo) (i : ℕ) → i < length order → Contains order (at order i)
member [] i lt = absurd (omega arith)
member (n ∷ order) zero lt = Contains-here n order
member (n ∷ order) (suc i) lt = Contains-later n order (at order i) (member order i (omega arith))

abbrev pub AreDifferent : List TxnNo → Type 0
AreDifferent order = (i k : ℕ) → i < k → k < length order → (at order i).0 ≢ (at order k).0

-- no member of an order along precedence stands twice
pub different : (cat : Catalogue) (h : History) (order : List TxnNo) → IsAlong cat h order → AreDifferent order
different cat h (n ∷ order) along zero (suc k) less within = λ same. along.0.other (at order k) (member order k (omega arith)) (sym same)
different cat h (n ∷ order) along (suc i) (suc k) less within = different cat h order along.1 i k (omega arith) (omega arith)
different cat h _ along i _ less within = absurd (omega arith)

-- so its place is known
one_place : (order : List TxnNo) (i k : ℕ) → AreDifferent order → i < length order → k < length order → (at order i).0 ≡ (at order k).0 → i ≡ k
one_place order i k apart in_i in_k same = grind arith

at_front : (front : List TxnNo) (n : TxnNo) (rest : List TxnNo) → at (front ++ n ∷ rest) (length front) ≡ n
at_front [] n rest = refl
at_front (x ∷ front) n rest = at_front front n rest

at_behind : (front : List TxnNo) (n : TxnNo) (rest : List TxnNo) (j : ℕ) → at (front ++ n ∷ rest) (length front + suc j) ≡ at rest j
at_behind [] n rest j = let e : 0 + suc j ≡ suc j = omega arith in ap (at (n ∷ rest)) e
at_behind (x ∷ front) n rest j = grind (arith, at_behind front n rest j)

any_default : (xs : List TxnNo) (j : ℕ) (x d : TxnNo) → j < length xs → get_or xs j x ≡ get_or xs j d
any_default [] j x d lt = absurd (omega arith)
any_default (y ∷ xs) zero x d lt = refl
any_default (y ∷ xs) (suc j) x d lt = any_default xs j x d (omega arith)

front_length : (front : List TxnNo) (n : TxnNo) (rest : List TxnNo) → length (front ++ n ∷ rest) ≡ length front + suc (length rest)
front_length [] n rest = omega arith
front_length (x ∷ front) n rest = let more = front_length front n rest in omega (arith, more)

-- of two members the one that stands before the other has the smaller place
pub not_before : (order : List TxnNo) (i k : ℕ) → AreDifferent order → i < k → k < length order → ComesBefore order (at order k).0 (at order i).0 → ⊥
not_before order i k apart less within b =
    let first : TxnNo = txn_no (at order k).0 in
    let front = b.front in
    let rest = b.rest in
    let j = b.behind.0 in
    let in_rest : j < length rest = b.behind.1 in
    let long : length order ≡ length front + suc (length rest) = ap (λ (l : List TxnNo). length l) b.is ∙ front_length front first rest in
    let here : at order (length front) ≡ first = ap (λ (l : List TxnNo). at l (length front)) b.is ∙ at_front front first rest in
    let there : at order (length front + suc j) ≡ txn_no (at order i).0 =
    ap (λ (l : List TxnNo). at l (length front + suc j)) b.is ∙ at_behind front first rest j
    ∙ any_default rest j (txn_no 0) (txn_no (at order i).0) in_rest ∙ b.behind.2 in
    let p : length front ≡ k = one_place order (length front) k apart (omega (arith, long)) within (ap (λ (n : TxnNo). n.0) here) in
    let q : length front + suc j ≡ i =
    one_place order (length front + suc j) i apart (omega (arith, long, in_rest)) (omega (arith, less, within)) (ap (λ (n : TxnNo). n.0) there) in
    omega (arith, p, q, less)
