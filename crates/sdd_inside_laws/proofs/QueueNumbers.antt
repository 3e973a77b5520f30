-- Lists of different transactions that lose members from the front and get new ones at the end: what is told of the change gives
-- the new list.
use Rattle.std.proofs.Common.{ap, arith, eq-eqb, inl, inr, le-ltb, lt-ltb, ne_eqb, sym, ◌∙◌}
use Rattle.std.proofs.lemmas.Bool.{cases_lt}
use Rattle.std.proofs.lemmas.List.{drop-drop}
use Rattle.std.proofs.lemmas.List.Sums.{prefix_len-le-length}
use Rattle.std.proofs.Math.Seq.{drop-append_seam}
use Rattle.std.specs.Prelude.{ℕ, zero, suc, ◌+◌, ◌-◌, ◌≡◌, ◌≢◌, ◌≤◌, false, not, List, [], ◌∷◌, ◌++◌, drop, length, refl}
use Rattle.std.specs.List.{position_or_len}
use Rattle.sdd_app_inside.specs.watch.obligations.All.{TxnNo}
use Rattle.sdd_inside.specs.Differences.{came, gone, is_first}

-- apart from all of a list; all different; all new beside a list

abbrev pub AllApart : TxnNo → List TxnNo → Type 0
AllApart n [] = Unit {0}
AllApart n (m ∷ ms) = (n.0 ≢ m.0) × AllApart n ms

abbrev pub AllDiffer : List TxnNo → Type 0
AllDiffer [] = Unit {0}
AllDiffer (n ∷ ns) = AllApart n ns × AllDiffer ns

abbrev pub AllNew : List TxnNo → List TxnNo → Type 0
AllNew [] others = Unit {0}
AllNew (n ∷ ns) others = AllApart n others × AllNew ns others

new_beside_rest : (ns : List TxnNo) (m : TxnNo) (ms : List TxnNo) → AllNew ns (m ∷ ms) → AllNew ns ms
new_beside_rest [] m ms h = tt
new_beside_rest (n ∷ ns) m ms h = (h.0.1, new_beside_rest ns m ms h.1)

apart_from_new : (ns : List TxnNo) (m : TxnNo) (ms : List TxnNo) → AllNew ns (m ∷ ms) → AllApart m ns
apart_from_new [] m ms h = tt
apart_from_new (n ∷ ns) m ms h = (λ e. h.0.0 (sym e), apart_from_new ns m ms h.1)

apart_join : (n : TxnNo) (xs ys : List TxnNo) → AllApart n xs → AllApart n ys → AllApart n (xs ++ ys)
apart_join n [] ys h k = k
apart_join n (x ∷ xs) ys h k = (h.0, apart_join n xs ys h.1 k)

-- it isn't the first of what is left of them
not_first : (j : ℕ) (n : TxnNo) (xs : List TxnNo) → AllApart n xs → is_first (drop j xs) n ≡ false
not_first zero n [] h = refl
not_first zero n (x ∷ xs) h = ne_eqb x.0 n.0 (λ e. h.0 (sym e))
not_first (suc j) n [] h = refl
not_first (suc j) n (x ∷ xs) h = not_first j n xs h.1

-- the place of the first that is left

pub gone_is : (before after : List TxnNo) → gone before after ≡ position_or_len (is_first after) before
gone_is before after = elim (cases_lt (position_or_len (is_first after) before) (length before)) [
  | inl l ↦ rw (lt-ltb (position_or_len (is_first after) before) (length before) l) refl
  | inr g ↦ rw (le-ltb (position_or_len (is_first after) before) (length before) g) (omega (arith, g, prefix_len-le-length (λ n. not (is_first after n)) before))
]

within : (k : ℕ) (before more : List TxnNo) → AllDiffer before → AllNew more before → k ≤ length before
    → position_or_len (is_first (drop k (before ++ more))) before ≡ k
within zero [] more d n l = refl
within (suc k) [] more d n l = absurd (omega (arith, l))
within zero (b ∷ bs) more d n l = rw (eq-eqb b.0 b.0 refl) refl
within (suc k) (b ∷ bs) more d n l =
    let apart = apart_join b bs more d.0 (apart_from_new more b bs n) in
    rw (not_first k b (bs ++ more) apart) (omega (arith, within k bs more d.1 (new_beside_rest more b bs n) (omega (arith, l))))

beyond : (j : ℕ) (before more : List TxnNo) → AllNew more before → position_or_len (is_first (drop j more)) before ≡ length before
beyond j [] more n = refl
beyond j (b ∷ bs) more n = rw (not_first j b more (apart_from_new more b bs n)) (omega (arith, beyond j bs more (new_beside_rest more b bs n)))

pub queue_told : (k : ℕ) (before more : List TxnNo) → AllDiffer before → AllNew more before
    → drop (gone before (drop k (before ++ more))) (before ++ came before (drop k (before ++ more))) ≡ drop k (before ++ more)
queue_told k before more d n =
    let after : List TxnNo = drop k (before ++ more) in
    let size : ℕ = length before in
    elim (cases_lt size k) [
      | inr l ↦
          let g : gone before after ≡ k = gone_is before after ∙ within k before more d n l in
          let all : k + (size - k) ≡ size = omega (arith, l) in
          let rest : drop (size - gone before after) after ≡ more =
          ap (λ j. drop (size - j) after) g ∙ drop-drop (size - k) k (before ++ more) ∙ ap (λ j. drop j (before ++ more)) all ∙ drop-append_seam before more in
          (λ i. drop (g i) (before ++ rest i))
      | inl l ↦
          let further : size + (k - size) ≡ k = omega (arith, l) in
          let left : drop (k - size) more ≡ after =
          ap (drop (k - size)) (sym (drop-append_seam before more)) ∙ drop-drop (k - size) size (before ++ more) ∙ ap (λ j. drop j (before ++ more)) further in
          let g : gone before after ≡ size =
          gone_is before after ∙ ap (λ xs. position_or_len (is_first xs) before) (sym left) ∙ beyond (k - size) before more n in
          let none : size - size ≡ 0 = omega arith in
          let rest : drop (size - gone before after) after ≡ after = ap (λ j. drop (size - j) after) g ∙ ap (λ j. drop j after) none in
          (λ i. drop (g i) (before ++ rest i)) ∙ drop-append_seam before after
    ]
