-- The open ASKs: the first of a class that can be answered goes away with its NULL.
use Rattle.sdd_tm.proofs.All.{Attempt, Bool, ClassView, List, None, Null, Option, Question, Rise, Sends, Some, View, [], answer_time, ap, arith, asked, asks_of, can_answer, class_no, cond, eqb-true, false, false≢true, filter, find, first_some, if◌then◌else◌, list_any, map, ne_eqb, not, null_at, null_time, null_to, or_else, or_parts, refl, time_at, true, without_first, ℕ, ◌<◌, ◌==◌, ◌||◌, ◌∙◌, ◌∷◌, ◌≡◌, ◌≢◌, ◌≤◌}

-- the ASKs of a class

-- without the one that came by a hand
abbrev pub without_hand : ℕ → List Question → List Question
without_hand n qs = filter (λ q. not (n == q.hand)) qs

all_later : (n low high : ℕ) (qs : List Question) → n ≤ low → Rise low high qs → without_hand n qs ≡ qs
all_later n low high [] l h = refl
all_later n low high (q ∷ qs) l h = grind (arith, ne_eqb, (all_later n q.hand high qs (omega arith) h.1))

not_yet : (v : View) (a : Option Attempt) (q : Question) → can_answer a (asked q) ≡ false → null_at q (null_time v a q.time) ≡ None
not_yet v a q e = grind arith

-- none of a class can be answered
pub none_answered : (v : View) (k : ClassView) (qs : List Question)
    → list_any (can_answer k.active) (asks_of k.class qs) ≡ false → first_some (null_to v k) qs ≡ None
none_answered v k [] h = refl
none_answered v k (q ∷ qs) h =
    elim (q.class == k.class)
    as (λ b. list_any (can_answer k.active)
    (map asked (cond b (q ∷ filter (λ r. r.class == k.class) qs) (filter (λ r. r.class == k.class) qs)))
    ≡ false
    → or_else (if b then null_at q (null_time v k.active q.time) else None) (first_some (null_to v k) qs) ≡ None) [
      | true ↦ λ g.
          let p = or_parts (can_answer k.active (asked q)) (list_any (can_answer k.active) (asks_of k.class qs)) g in
          rw (not_yet v k.active q p.0) (none_answered v k qs p.1)
      | false ↦ λ g. none_answered v k qs g
    ] h

-- the first of a class that can be answered
pub record IsFirst (v : View) (k : ClassView) (low : ℕ) (qs : List Question) : Type 0 where
  pub question : Question
  pub due : first_some (null_to v k) qs ≡ Some (Sends question.from (Null (class_no k.class) (time_at (answer_time v.clock k.active))) (Some question.hand))
  pub found : find (can_answer k.active) (asks_of k.class qs) ≡ Some (asked question)
  pub later : low < question.hand
  pub gone : asks_of k.class (without_hand question.hand qs) ≡ without_first (can_answer k.active) (asks_of k.class qs)
  pub others : (c : ℕ) → k.class ≢ c → asks_of c (without_hand question.hand qs) ≡ asks_of c qs

answered_now : (v : View) (k : ClassView) (q : Question) → q.class ≡ k.class → can_answer k.active (asked q) ≡ true
    → null_at q (null_time v k.active q.time) ≡ Some
    (Sends q.from (Null (class_no k.class) (time_at (answer_time v.clock k.active))) (Some q.hand))
answered_now v k q same e = grind arith

-- one ASK more before them: of another class, or not yet to be answered
skips : (v : View) (k : ClassView) (low high : ℕ) (q : Question) (qs : List Question) → Rise low high (q ∷ qs) → null_to v k q ≡ None
    → (q.class ≡ k.class → can_answer k.active (asked q) ≡ false) → IsFirst v k q.hand qs → IsFirst v k low (q ∷ qs)
skips v k low high q qs h none not_yet first =
    let m : low < q.hand = h.0 in
    let l : q.hand < first.question.hand = first.later in
    let apart : (first.question.hand == q.hand) ≡ false = ne_eqb first.question.hand q.hand (λ e. absurd (omega arith)) in
    let kept : without_hand first.question.hand (q ∷ qs) ≡ q ∷ without_hand first.question.hand qs = rw apart refl in
    record {
      question = first.question;
      due = rw none first.due;
      found = find_on (q.class == k.class) (λ e. not_yet (eqb-true q.class k.class e)) first.found;
      later = omega arith;
      gone = ap (asks_of k.class) kept ∙ gone_on (q.class == k.class) (λ e. not_yet (eqb-true q.class k.class e)) first.gone;
      others = λ c d. ap (asks_of c) kept ∙ other_on c (q.class == c) (first.others c d);
    }
  where
    find_on : (b : Bool) → (b ≡ true → can_answer k.active (asked q) ≡ false)
        → find (can_answer k.active) (asks_of k.class qs) ≡ Some (asked first.question) → find (can_answer k.active)
        (map asked (cond b (q ∷ filter (λ r. r.class == k.class) qs) (filter (λ r. r.class == k.class) qs))) ≡ Some (asked first.question)
    find_on true f g = rw (f refl) g
    find_on false f g = g

    gone_on : (b : Bool) → (b ≡ true → can_answer k.active (asked q) ≡ false)
        → asks_of k.class (without_hand first.question.hand qs) ≡ without_first (can_answer k.active)
        (asks_of k.class qs)
        → map asked (cond b (q ∷ filter (λ r. r.class == k.class) (without_hand first.question.hand qs))
        (filter (λ r. r.class == k.class) (without_hand first.question.hand qs)))
        ≡ without_first (can_answer k.active) (map asked (cond b (q ∷ filter (λ r. r.class == k.class) qs) (filter (λ r. r.class == k.class) qs)))
    gone_on true f g = rw (f refl) (ap (λ rest. asked q ∷ rest) g)
    gone_on false f g = g

    other_on : (c : ℕ) (b : Bool) → asks_of c (without_hand first.question.hand qs) ≡ asks_of c qs
        → map asked (cond b (q ∷ filter (λ r. r.class == c) (without_hand first.question.hand qs))
        (filter (λ r. r.class == c) (without_hand first.question.hand qs)))
        ≡ map asked (cond b (q ∷ filter (λ r. r.class == c) qs) (filter (λ r. r.class == c) qs))
    other_on c true g = ap (λ rest. asked q ∷ rest) g
    other_on c false g = g

first_here : (v : View) (k : ClassView) (low high : ℕ) (q : Question) (qs : List Question) → Rise low high (q ∷ qs)
    → (q.class == k.class) ≡ true → can_answer k.active (asked q) ≡ true → IsFirst v k low (q ∷ qs)
first_here v k low high q qs h own yes_now =
    let gone : without_hand q.hand (q ∷ qs) ≡ qs = grind (arith, all_later) in
    let here : asks_of k.class (q ∷ qs) ≡ asked q ∷ asks_of k.class qs = cc in
    let to : null_to v k q ≡ Some (Sends q.from (Null (class_no k.class) (time_at (answer_time v.clock k.active)))
    (Some q.hand)) = rw own (answered_now v k q (eqb-true q.class k.class own) yes_now) in
    record {
      question = q;
      due = ap (λ o. or_else o (first_some (null_to v k) qs)) to;
      found = ap (find (can_answer k.active)) here ∙ ap (λ b. cond b (Some (asked q)) (find (can_answer k.active) (asks_of k.class qs))) yes_now;
      later = h.0;
      gone = cc;
      others = λ c apart. grind (arith, ne_eqb, gone, asked, cond);
    }

pub first_answered : (v : View) (k : ClassView) (low high : ℕ) (qs : List Question) → Rise low high qs
    → list_any (can_answer k.active) (asks_of k.class qs) ≡ true → IsFirst v k low qs
first_answered v k low high [] h e = absurd (false≢true e)
first_answered v k low high (q ∷ qs) h e =
    elim (q.class == k.class) as (λ b. (q.class == k.class) ≡ b
    → list_any (can_answer k.active)
    (map asked (cond b (q ∷ filter (λ r. r.class == k.class) qs) (filter (λ r. r.class == k.class) qs))) ≡ true
    → IsFirst v k low (q ∷ qs)) [
      | true ↦ λ own g.
          elim (can_answer k.active (asked q)) as (λ b. can_answer k.active (asked q) ≡ b
          → (b || list_any (can_answer k.active) (asks_of k.class qs)) ≡ true → IsFirst v k low (q ∷ qs)) [
            | true ↦ λ yes_now f. first_here v k low high q qs h own yes_now
            | false ↦ λ not_now f. skips v k low high q qs h (grind arith) (λ r. not_now) (first_answered v k q.hand high qs h.1 f)
          ] refl g
      | false ↦ λ other g. grind (arith, first_answered v k q.hand high qs h.1 g)
    ] refl e
