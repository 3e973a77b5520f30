-- The text so far: one line more with each event, and the same text where a round begins or an event more is given.
use Rattle.sdd_watch.proofs.All.{Event, Input, IsLawful, List, Log, Round, [], ap, append-nil, append_assoc, arith, at_event, beginning, cases_lt, change, flat_map, flat_map_more, inl, inr, inside_text, line, line_of, marks, numbers_to, range_more, range_with_len, refl, suc, sym, tables_of, with_event, zero, ℕ, ◌++◌, ◌+◌, ◌-◌, ◌<◌, ◌∙◌, ◌∷◌, ◌≡◌, ◌≤◌}
use Rattle.sdd_watch.proofs.EachEvent.{IsMarkedBetween, at_below, at_old, at_self}
use Rattle.sdd_watch.proofs.GivenMore.{line_more}
use Rattle.sdd_watch.proofs.RoundEntry.{change_round}

-- lists that are made of numbers, where each gives the same
same_from : (f h : ℕ → List ℕ) (a n : ℕ) → ((k : ℕ) → a ≤ k → k < a + n → f k ≡ h k) → flat_map f (range_with_len a n) ≡ flat_map h (range_with_len a n)
same_from f h a zero same = refl
same_from f h a (suc n) same =
    let first : f a ≡ h a = same a (omega arith) (omega arith) in
    let rest = same_from f h (a + 1) n (λ k low high. same k (omega (arith, low)) (omega (arith, high))) in
    ap (λ xs. xs ++ flat_map f (range_with_len (a + 1) n)) first ∙ ap (λ xs. h a ++ xs) rest

same_to : (f h : ℕ → List ℕ) (n : ℕ) → ((k : ℕ) → 1 ≤ k → k ≤ n → f k ≡ h k) → flat_map f (numbers_to n) ≡ flat_map h (numbers_to n)
same_to f h n same = same_from f h 1 n (λ k low high. same k low (omega (arith, high)))

one_number : (f : ℕ → List ℕ) (n : ℕ) → flat_map f (numbers_to (suc n)) ≡ flat_map f (numbers_to n) ++ f (suc n)
one_number f n =
    let last : 1 + n ≡ suc n = omega arith in
    ap (flat_map f) (range_more 1 n ∙ ap (λ k. numbers_to n ++ k ∷ []) last) ∙ sym (flat_map_more f [] (numbers_to n) (suc n))

abbrev first_line : Input → List ℕ
first_line g = beginning g.catalogue g.txns (tables_of g [])

-- of the empty log
pub text_begins : (g : Input) → first_line g ≡ inside_text g []
text_begins g = sym (append-nil (first_line g))

-- an event more is given
pub text_given : (g : Input) (f : Event) (log : Log) → IsLawful g log → inside_text (with_event g f) log ≡ inside_text g log
text_given g f log l =
    ap (λ xs. first_line g ++ xs)
    (same_to (line_of (with_event g f) log) (line_of g log) (marks log) (λ k some few. line_more g f log k l some few))

-- a round begins
pub text_round : (g : Input) (es : List Event) (log : Log) → inside_text g (Round es ∷ log) ≡ inside_text g log
text_round g es log = ap (λ xs. first_line g ++ xs) (same_to (line_of g (Round es ∷ log)) (line_of g log) (marks log) same_line)
  where
    same_line : (k : ℕ) → 1 ≤ k → k ≤ marks log → line_of g (Round es ∷ log) k ≡ line_of g log k
    same_line k some few =
        let before : at_event (k - 1) (Round es ∷ log) ≡ at_event (k - 1) log = at_below (k - 1) (Round es) log (omega (arith, some, few)) in
        elim (cases_lt k (marks log)) [
          | inl below ↦
              let after : at_event k (Round es ∷ log) ≡ at_event k log = at_below k (Round es) log below in
              λ i. line g.catalogue g.txns (change g (before i) (after i))
          | inr last ↦
              let here : at_event k (Round es ∷ log) ≡ Round es ∷ log = at_self k (Round es ∷ log) last in
              let there : at_event k log ≡ log = at_self k log last in
              (λ i. line g.catalogue g.txns (change g (before i) (here i)))
              ∙ ap (line g.catalogue g.txns) (change_round g (at_event (k - 1) log) es log)
              ∙ (λ i. line g.catalogue g.txns (change g (at_event (k - 1) log) (sym there i)))
        ]

-- an event is over
module _ (g : Input) (old new : Log) (e : Event) (b : IsMarkedBetween g old new e) where
  earlier_line : (k : ℕ) → 1 ≤ k → k ≤ marks old → line_of g new k ≡ line_of g old k
  earlier_line k some few =
      let before = at_old g old new e (k - 1) b (omega (arith, few)) in
      λ i. line g.catalogue g.txns (change g (before i) (at_old g old new e k b few i))

  last_line : (n : ℕ) → n ≡ marks old → line_of g new (suc n) ≡ line g.catalogue g.txns (change g old new)
  last_line n is =
      let k : suc n - 1 ≡ n = omega arith in
      let before : at_event (suc n - 1) new ≡ old =
      ap (λ j. at_event j new) k ∙ at_old g old new e n b (omega (arith, is)) ∙ at_self n old (omega (arith, is)) in
      let after : at_event (suc n) new ≡ new = at_self (suc n) new (omega (arith, is, b.marks_are)) in
      λ i. line g.catalogue g.txns (change g (before i) (after i))

  pub text_more : inside_text g new ≡ inside_text g old ++ line g.catalogue g.txns (change g old new)
  text_more =
      let n : ℕ = marks old in
      let lines : flat_map (line_of g new) (numbers_to (marks new))
      ≡ flat_map (line_of g old) (numbers_to n) ++ line g.catalogue g.txns (change g old new) =
      ap (λ k. flat_map (line_of g new) (numbers_to k)) b.marks_are
      ∙ one_number (line_of g new) n
      ∙ (λ i. same_to (line_of g new) (line_of g old) n earlier_line i ++ last_line n refl i) in
      ap (λ xs. first_line g ++ xs) lines
      ∙ sym (append_assoc (first_line g) (flat_map (line_of g old) (numbers_to n)) (line g.catalogue g.txns (change g old new)))
