-- Where nothing is left to do, the lowest site that hasn't stopped has finished.
use Rattle.sdd_control.proofs.All.{Act, Bool, Deliver, FitAll, GONE, Gone, LeaderEnds, List, Log, Message, NoMessages, NoSends, None, Note, Nothing, OK, Ok, Option, T, VALUE, Val, Value, [], all_answered, and_both, answered, ap, arith, cases_Bool, cond, drop, eqb-true, false, first_from, heir, inl, inr, is_above, is_finish, is_gone, is_ok, is_stop, is_tell, is_value, knows, leads, link, log_after, log_of, ltb→lt, nat_lt, nat_tests, not, note_of, noted, or_left, or_right, put, refl, send, stopped, subst, sym, taken, true, untold, unwritten, value, ℕ, ◌&&◌, ◌+◌, ◌-◌, ◌<◌, ◌==◌, ◌∙◌, ◌∷◌, ◌≡◌, ◌≢◌, ◌≤◌, ◌⊎◌}
use Rattle.sdd_control.proofs.Lists.{and_left, and_right, or_cases, not_both, every_all, none_at, Has, has_left, has_right}
use Rattle.sdd_control.proofs.Cases.{Case, case_of}
use Rattle.sdd_control.proofs.Cases.Case.{empty, dropped, learns, hears, ignores, takes}
use Rattle.sdd_control.proofs.Puts.{same_itself, stop_is, tell_is, two_same}
use Rattle.sdd_control.proofs.Kept.{Kept, heir_at, more, kept_nil, kept_on}

-- where a stopped site's GONE is, and where the answer to a Tell is
pub data Missed (log : Log) (l j : ℕ) : Type 0 where
  on_its_way : Has (link log l j) GONE → Missed log l j
  known : knows log j l ≡ true → Missed log l j
  no_one : stopped log j ≡ true → Missed log l j

pub data Awaited (log : Log) (i j : ℕ) : Type 0 where
  asked : (v : Val) → Has (link log i j) (VALUE v) → Awaited log i j
  answering : Has (link log j i) OK → Awaited log i j
  heard : noted (is_ok i j) log ≡ true → Awaited log i j
  none_there : stopped log j ≡ true → Awaited log i j
  none_here : stopped log i ≡ true → Awaited log i j

pub record Flows (log : Log) : Type 0 where
  pub missed : (l j : ℕ) → l ≢ j → stopped log l ≡ true → Missed log l j
  pub awaited : (i j : ℕ) → noted (is_tell i j) log ≡ true → Awaited log i j

-- a message stays on its link, or is the first and arrival
first_or : (i j : ℕ) (xs : List Message) (m : Message) → Has xs m → Has (drop 1 xs) m ⊎ ((rest : List Message) × (xs ≡ m ∷ rest))
first_or i j xs m h = grind (arith, nat_tests)

stays : (a : Act) (i j : ℕ) (xs : List Message) (m : Message) → Has xs m
    → Has (taken a i j xs) m ⊎ ((rest : List Message) × (xs ≡ m ∷ rest) × (a ≡ Deliver i j))
stays a i j xs m h = grind (arith, nat_tests, first_or)

module _ (backups writes : ℕ) (log : Log) where
  gone_comes : (i j : ℕ) (n : Note) (rest : List Message) → Case backups writes log (Deliver i j) n
      → link log i j ≡ GONE ∷ rest → (n ≡ Gone j i) ⊎ (stopped log j ≡ true)
  gone_comes i j n rest (empty _ _ p) e = let q : [] ≡ GONE ∷ rest = sym p ∙ e in absurd (cc)
  gone_comes i j n rest (dropped _ _ p) e = inr p
  gone_comes i j n rest (learns _ _ r p q) e = inl refl
  gone_comes i j n rest (hears _ _ r p q) e = let s : OK ∷ r ≡ GONE ∷ rest = sym q ∙ e in absurd (cc)
  gone_comes i j n rest (ignores _ _ v r p q t) e = let s : VALUE v ∷ r ≡ GONE ∷ rest = sym q ∙ e in absurd (cc)
  gone_comes i j n rest (takes _ _ v r p q t) e = let s : VALUE v ∷ r ≡ GONE ∷ rest = sym q ∙ e in absurd (cc)

  ok_comes : (i j : ℕ) (n : Note) (rest : List Message) → Case backups writes log (Deliver i j) n
      → link log i j ≡ OK ∷ rest → (n ≡ Ok j i) ⊎ (stopped log j ≡ true)
  ok_comes i j n rest (empty _ _ p) e = let q : [] ≡ OK ∷ rest = sym p ∙ e in absurd (cc)
  ok_comes i j n rest (dropped _ _ p) e = inr p
  ok_comes i j n rest (learns _ _ r p q) e = let s : GONE ∷ r ≡ OK ∷ rest = sym q ∙ e in absurd (cc)
  ok_comes i j n rest (hears _ _ r p q) e = inl refl
  ok_comes i j n rest (ignores _ _ v r p q t) e = let s : VALUE v ∷ r ≡ OK ∷ rest = sym q ∙ e in absurd (cc)
  ok_comes i j n rest (takes _ _ v r p q t) e = let s : VALUE v ∷ r ≡ OK ∷ rest = sym q ∙ e in absurd (cc)

  value_comes : (i j : ℕ) (n : Note) (w : Val) (rest : List Message) → Case backups writes log (Deliver i j) n → link log i j ≡ VALUE w ∷ rest
      → ((v : Val) × (n ≡ Value j i v)) ⊎ (stopped log j ≡ true) ⊎ (noted (is_above j i) log ≡ true)
  value_comes i j n w rest (empty _ _ p) e = let q : [] ≡ VALUE w ∷ rest = sym p ∙ e in absurd (cc)
  value_comes i j n w rest (dropped _ _ p) e = inr (inl p)
  value_comes i j n w rest (learns _ _ r p q) e = let s : GONE ∷ r ≡ VALUE w ∷ rest = sym q ∙ e in absurd (cc)
  value_comes i j n w rest (hears _ _ r p q) e = let s : OK ∷ r ≡ VALUE w ∷ rest = sym q ∙ e in absurd (cc)
  value_comes i j n w rest (ignores _ _ v r p q t) e = inr (inr t)
  value_comes i j n w rest (takes _ _ v r p q t) e = inl (v, refl)

-- a value of a site above i
pub above_one : (j i : ℕ) (log : Log) → noted (is_above j i) log ≡ true → (k : ℕ) × (i < k) × (noted (is_value j k) log ≡ true)
above_one j i [] e = absurd (cc)
above_one j i (x ∷ log) e =
    elim (or_cases (is_above j i x.note) (noted (is_above j i) log) e) [
      | inl h ↦ let g = here x.note h in (g.0, g.1, or_left (is_value j g.0 x.note) (noted (is_value j g.0) log) g.2)
      | inr h ↦ let g = above_one j i log h in (g.0, g.1, or_right (is_value j g.0 x.note) (noted (is_value j g.0) log) g.2)
    ]
  where
    here : (n : Note) → is_above j i n ≡ true → (k : ℕ) × (i < k) × (is_value j k n ≡ true)
    here (Value a b v) e = (b, ltb→lt i b (subst T (sym (and_right (a == j) (nat_lt i b) e)) tt), and_both (a == j) (b == b) (and_left (a == j) (nat_lt i b) e) (same_itself b))
    here _ e = absurd (cc)

above_stopped : (backups writes : ℕ) (log : Log) → Kept backups writes log → (i j : ℕ) → noted (is_above j i) log ≡ true → stopped log i ≡ true
above_stopped backups writes log k i j e =
    let g = above_one j i log e in
    let t = k.rising g.0 j g.2 in
    let s = k.last_sound t.from j t.val t.is in
    k.gone_stopped i t.from (heir_at log t.from i s.heir (let l = t.least in let m = g.1 in omega arith))

differ : (l j : ℕ) → l ≢ j → (l == j) ≡ false
differ l j n = elim (cases_Bool (l == j)) [ inl e ↦ absurd (n (eqb-true l j e)) | inr e ↦ e ]

module _ (backups writes : ℕ) (log : Log) (a : Act) (n : Note) (c : Case backups writes log a n) (k : Kept backups writes log) (f : Flows log) where
  keep : (i j : ℕ) (m : Message) → Has (link log i j) m
      → Has (link (more log a n) i j) m ⊎ ((rest : List Message) × (link log i j ≡ m ∷ rest) × Case backups writes log (Deliver i j) n)
  keep i j m h = grind (arith, nat_tests, stays, link, has_left, taken, put, Case)

  stop_more : (i : ℕ) → stopped log i ≡ true → stopped (more log a n) i ≡ true
  stop_more i e = or_right (is_stop i n) (stopped log i) e

  missed_on : (l j : ℕ) → l ≢ j → stopped (more log a n) l ≡ true → Missed (more log a n) l j
  missed_on l j d e =
      elim (or_cases (is_stop l n) (stopped log l) e) [
        | inl p ↦
            let q = stop_is l n p in
            let b : ((l == l) && not (l == j)) ≡ true = and_both (l == l) (not (l == j)) (same_itself l) (ap not (differ l j d)) in
            let h : Has (put n l j) GONE = subst (λ z. Has (put z l j) GONE) (sym q) (subst (λ z. Has (cond z (GONE ∷ []) []) GONE) (sym b) (inl refl)) in
            on_its_way (has_right (taken a l j (link log l j)) (put n l j) GONE h)
        | inr p ↦ old (f.missed l j d p)
      ]
    where
      old : Missed log l j → Missed (more log a n) l j
      old (on_its_way h) =
          elim (keep l j GONE h) [
            | inl x ↦ on_its_way x
            | inr x ↦ elim (gone_comes backups writes log l j n x.0 x.2 x.1) [
              | inl q ↦ known (or_left (is_gone j l n) (knows log j l) (subst (λ z. is_gone j l z ≡ true) (sym q) (two_same j l)))
              | inr q ↦ no_one (stop_more j q)
            ]
          ]
      old (known q) = known (or_right (is_gone j l n) (knows log j l) q)
      old (no_one q) = no_one (stop_more j q)

  awaited_on : (i j : ℕ) → noted (is_tell i j) (more log a n) ≡ true → Awaited (more log a n) i j
  awaited_on i j e =
      elim (or_cases (is_tell i j n) (noted (is_tell i j) log) e) [
        | inl p ↦
            let q = tell_is i j n p in
            let h : Has (put n i j) (VALUE q.0) = subst (λ z. Has (put z i j) (VALUE q.0)) (sym q.1)
            (subst (λ z. Has (cond z (VALUE q.0 ∷ []) []) (VALUE q.0)) (sym (two_same i j)) (inl refl)) in
            asked q.0 (has_right (taken a i j (link log i j)) (put n i j) (VALUE q.0) h)
        | inr p ↦ old (f.awaited i j p)
      ]
    where
      old : Awaited log i j → Awaited (more log a n) i j
      old (asked v h) =
          elim (keep i j (VALUE v) h) [
            | inl x ↦ asked v x
            | inr x ↦ elim (value_comes backups writes log i j n v x.0 x.2 x.1) [
              | inl q ↦
                  let g : Has (put n j i) OK = subst (λ z. Has (put z j i) OK) (sym q.1)
                  (subst (λ z. Has (cond z (OK ∷ []) []) OK) (sym (two_same j i)) (inl refl)) in
                  answering (has_right (taken a j i (link log j i)) (put n j i) OK g)
              | inr (inl q) ↦ none_there (stop_more j q)
              | inr (inr q) ↦ none_here (stop_more i (above_stopped backups writes log k i j q))
            ]
          ]
      old (answering h) =
          elim (keep j i OK h) [
            | inl x ↦ answering x
            | inr x ↦ elim (ok_comes backups writes log j i n x.0 x.2 x.1) [
              | inl q ↦ heard (or_left (is_ok i j n) (noted (is_ok i j) log) (subst (λ z. is_ok i j z ≡ true) (sym q) (two_same i j)))
              | inr q ↦ none_here (stop_more i q)
            ]
          ]
      old (heard q) = heard (or_right (is_ok i j n) (noted (is_ok i j) log) q)
      old (none_there q) = none_there (stop_more j q)
      old (none_here q) = none_here (stop_more i q)

  pub flows_on : Flows (more log a n)
  flows_on = record { missed = missed_on; awaited = awaited_on }

pub flows_after : (backups writes : ℕ) (log : Log) (acts : List Act) → Kept backups writes log
    → Flows log → FitAll backups acts → Flows (log_after backups writes log acts)
flows_after backups writes log [] k g f = g
flows_after backups writes log (a ∷ acts) k g f =
    grind (arith, Case, note_of, case_of, more, kept_on, flows_on, (flows_after backups writes (more log a (note_of backups writes log a)) acts))

pub flows : (backups writes : ℕ) (acts : List Act) → FitAll backups acts → Flows (log_of backups writes acts)
flows backups writes acts f = grind (arith, nat_tests, flows_after, kept_nil)

-- a leader that send nothing has told all, and lacks an answer
no_send : (i : ℕ) (to : Option ℕ) (all : Bool) (v : Val) (left : Option ℕ) → send i true to all v left ≡ Nothing → (to ≡ None) × (all ≡ false)
no_send i to all v left e = grind arith

told_or_known : (a b : Bool) → (not a && not b) ≡ false → (a ≡ true) ⊎ (b ≡ true)
told_or_known a b e = grind arith

module _ (backups writes : ℕ) (log : Log) (f : Flows log) (q : NoMessages backups log) (r : NoSends backups writes log) (m : ℕ)
    (in_range : m ≤ backups) (up : stopped log m ≡ false) where
  -- m knows each stopped site gone
  knows_it : (l : ℕ) → l ≤ backups → l ≢ m → stopped log l ≡ true → knows log m l ≡ true
  knows_it l b d s = grind (arith, q, (f.missed l m d s))

  has_answered : (j : ℕ) → j ≤ backups → m < j → noted (is_tell m j) log ≡ true → answered log m j ≡ true
  has_answered j b l t =
      elim (cases_Bool (stopped log j)) [
        | inl s ↦ or_right (noted (is_ok m j) log) (knows log m j) (knows_it j b (λ e. omega arith) s)
        | inr s ↦ by_case s (f.awaited m j t)
      ]
    where
      by_case : stopped log j ≡ false → Awaited log m j → answered log m j ≡ true
      by_case s (asked v h) = absurd (subst (λ z. Has z (VALUE v)) (q m j in_range b (λ e. omega arith) s) h)
      by_case s (answering h) = absurd (subst (λ z. Has z OK) (q j m b in_range (λ e. omega arith) up) h)
      by_case s (heard e) = or_left (noted (is_ok m j) log) (knows log m j) e
      by_case s (none_there e) = absurd (not_both (stopped log j) e s)
      by_case s (none_here e) = absurd (not_both (stopped log m) e up)

  leader_finished : ((l : ℕ) → l < m → stopped log l ≡ true) → noted (is_finish m) log ≡ true
  leader_finished low =
      elim (cases_Bool (noted (is_finish m) log)) [
        | inl e ↦ e
        | inr e ↦
            let h : heir log m ≡ true = every_all (λ z. knows log m z) 0 m (λ l p r. knows_it l (omega arith) (λ w. omega arith) (low l (omega arith))) in
            let b : (leads log m && not (noted (is_finish m) log)) ≡ true = grind (arith, nat_tests, and_both, leads, noted, is_finish, stopped, heir) in
            let n : send m true (first_from (untold log m) (m + 1) (backups - m)) (all_answered backups log m) (value log m)
            (unwritten writes log m) ≡ Nothing =
            subst (λ z. send m z (first_from (untold log m) (m + 1) (backups - m)) (all_answered backups log m) (value log m)
            (unwritten writes log m) ≡ Nothing) b (r m in_range up) in
            let s = no_send m (first_from (untold log m) (m + 1) (backups - m)) (all_answered backups log m) (value log m) (unwritten writes log m) n in
            let all : all_answered backups log m ≡ true =
            every_all (answered log m) (m + 1) (backups - m)
            (λ j p u. elim (told_or_known (noted (is_tell m j) log) (knows log m j) (none_at (untold log m) (m + 1) (backups - m) j s.0 p u)) [
              | inl t ↦ has_answered j (omega arith) (omega arith) t
              | inr t ↦ or_right (noted (is_ok m j) log) (knows log m j) t
            ]) in
            absurd (not_both (all_answered backups log m) all s.1)
      ]

pub leader_ends_of : (backups writes : ℕ) (acts : List Act) → FitAll backups acts → LeaderEnds backups writes (log_of backups writes acts)
leader_ends_of backups writes acts f q r m low =
    leader_finished backups writes (log_of backups writes acts) (flows backups writes acts f)
    q r m low.0 low.1 low.2
