-- A report is found strict exactly where it is strict.
use Rattle.sdd_certify.proofs.All.{Bool, IsStrict, List, None, Option, Some, StandsBefore, Yes, [], ap, arith, commit_on, cond, false, fold, get_or, last_committed, late_behind, late_on, length, line_at, lt-ltb, ltb-false, ltb-true, map, max, name_at, names_on, nat_lt, place_of, refl, strict, submission_on, suc, sym, take, true, zero, ℕ, ◌&&◌, ◌<◌, ◌∙◌, ◌∷◌, ◌≡◌, ◌≢◌, ◌≤◌}
use Rattle.sdd_certify.proofs.NoFault.{all_none, none_found}
use Rattle.sdd_certify.proofs.OrderFound.{order_found, yes_order}

-- the greatest of some numbers

least : (m : ℕ) (ns : List ℕ) → m ≤ fold max m ns
least m [] = omega arith
least m (n ∷ ns) = let more = least (max m n) ns in omega (arith, more)

bounds : (f : List ℕ → ℕ) (lines : List (List ℕ)) (m i k : ℕ) → i < k → k ≤ length lines → f (line_at lines i) ≤ fold max m (map f (take k lines))
bounds f [] m i k less within = absurd (omega (arith, less, within))
bounds f (line ∷ lines) m i zero less within = absurd (omega (arith, less))
bounds f (line ∷ lines) m zero (suc k) less within = let more = least (max m (f line)) (map f (take k lines)) in omega (arith, more)
bounds f (line ∷ lines) m (suc i) (suc k) less within = bounds f lines (max m (f line)) i k (omega (arith, less)) (omega (arith, within))

-- where it is greater than the first, it is one of the others
record Reached (f : List ℕ → ℕ) (lines : List (List ℕ)) (k greatest : ℕ) : Type 0 where
  at : ℕ
  less : at < k
  is : f (line_at lines at) ≡ greatest

reached : (f : List ℕ → ℕ) (lines : List (List ℕ)) (m k : ℕ) → k ≤ length lines → m < fold max m (map f (take k lines))
    → Reached f lines k (fold max m (map f (take k lines)))
reached f [] m zero within h = absurd (omega (arith, h))
reached f [] m (suc k) within h = absurd (omega (arith, within))
reached f (line ∷ lines) m zero within h = absurd (omega (arith, h))
reached f (line ∷ lines) m (suc k) within h =
    by_test (nat_lt (max m (f line)) (fold max (max m (f line)) (map f (take k lines)))) refl
    (λ less. reached f lines (max m (f line)) k (omega (arith, within)) less)
  where
    by_test : (b : Bool) → nat_lt (max m (f line)) (fold max (max m (f line)) (map f (take k lines))) ≡ b
        → (max m (f line) < fold max (max m (f line)) (map f (take k lines))
        → Reached f lines k (fold max (max m (f line)) (map f (take k lines))))
        → Reached f (line ∷ lines) (suc k) (fold max m (map f (take (suc k) (line ∷ lines))))
    by_test true e later =
        let more = later (ltb-true (max m (f line)) (fold max (max m (f line)) (map f (take k lines))) e) in
        let less = more.less in
        record { at = suc more.at; less = omega (arith, less); is = more.is }
    by_test false e later =
        let most = least (max m (f line)) (map f (take k lines)) in
        let not_more = ltb-false (max m (f line)) (fold max (max m (f line)) (map f (take k lines))) e in
        record { at = 0; less = omega arith; is = omega (arith, most, not_more, h) }

-- nobody is late

late_by : (names : List (List ℕ)) (last submitted : ℕ) → submitted ≢ 0 → submitted < last → late_behind names last submitted ≡ None → ⊥
late_by names last submitted some less h =
    let a : nat_lt 0 submitted ≡ true = lt-ltb 0 submitted (omega (arith, some)) in
    let b : nat_lt submitted last ≡ true = lt-ltb submitted last less in
    let found : late_behind names last submitted ≡ Some (name_at names last) = rw (a, b) refl in
    absurd cc

none_late : (names : List (List ℕ)) (last submitted : ℕ) → (0 < submitted → submitted < last → ⊥) → late_behind names last submitted ≡ None
none_late names last submitted never = by_tests (nat_lt 0 submitted) (nat_lt submitted last) refl refl
  where
    by_tests : (a b : Bool) → nat_lt 0 submitted ≡ a → nat_lt submitted last ≡ b → cond (a && b) (Some (name_at names last)) None ≡ None
    by_tests true true e f = absurd (never (ltb-true 0 submitted e) (ltb-true submitted last f))
    by_tests true false e f = refl
    by_tests false b e f = refl

-- of a line at which another is late, who they are
both_named : (names : List (List ℕ)) (committed submitted : Option (List ℕ)) (last : ℕ) → place_of names committed ≡ last
    → 0 < place_of names submitted → place_of names submitted < last
    → ((first later : List ℕ) → StandsBefore names first later → committed ≡ Some later → submitted ≡ Some first → ⊥) → ⊥
both_named names committed None last is some less never = omega (arith, some)
both_named names None (Some first) last is some less never = omega (arith, is, less)
both_named names (Some later) (Some first) last is some less never =
    never first later (record { stands = λ e. omega (arith, some, e); before = omega (arith, is, less) }) refl refl

pub is_strict : (report : List ℕ) → strict report ≡ Yes → IsStrict report
is_strict report h =
    let f = yes_order late_on report h in
    let names : List (List ℕ) = names_on f.has.order in
    let before : List (List ℕ) = f.has.before in
    record {
      parts = f.has;
      strict = λ first later stands i k less within told submitted.
          let place : List ℕ → ℕ = λ line. place_of names (commit_on line) in
          let none = none_found (late_on names) [] before f.is k within in
          let of_first : place_of names (submission_on (line_at before k)) ≡ place_of names (Some first) = ap (place_of names) submitted in
          let of_later : place (line_at before i) ≡ place_of names (Some later) = ap (place_of names) told in
          let most : place (line_at before i) ≤ last_committed names (take k before) = bounds place before 0 i k less (omega (arith, within)) in
          let some = stands.stands in
          let before_it = stands.before in
          late_by names (last_committed names (take k before)) (place_of names (Some first)) some (omega (arith, of_later, most, before_it))
          (ap (late_behind names (last_committed names (take k before))) (sym of_first) ∙ none);
    }

pub strict_again : (report : List ℕ) → IsStrict report → strict report ≡ Yes
strict_again report s =
    let names : List (List ℕ) = names_on s.parts.order in
    let before : List (List ℕ) = s.parts.before in
    let place : List ℕ → ℕ = λ line. place_of names (commit_on line) in
    order_found late_on report Yes
    (record {
      has = s.parts;
      is = all_none (late_on names) [] before
          (λ k lt. none_late names (last_committed names (take k before)) (place_of names (submission_on (get_or before k [])))
          (λ some less.
          let r = reached place before 0 k (omega (arith, lt)) (omega (arith, some, less)) in
          both_named names (commit_on (line_at before r.at)) (submission_on (line_at before k)) (last_committed names (take k before)) r.is some less
          (λ first later stands told submitted. s.strict first later stands r.at k r.less lt told submitted)));
    })
