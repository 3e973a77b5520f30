-- What every log keeps: one event more.
use Rattle.sdd_control.proofs.All.{Act, All, Deliver, Finish, GONE, Gone, IsNoted, List, Log, Message, None, Note, OK, Ok, Option, Some, Stop, Tell, VALUE, Val, Value, Write, [], all_answered, answered, ap, append-nil, arith, cases_Bool, false, heir, inl, inr, is_above, is_gone, is_ok, is_stop, is_value, is_write, knows, last, last_of, link, nat_tests, not, not_false, noted, or_left, or_right, put, refl, stopped, subst, sym, taken, true, untold, unwritten, value, value_by, ℕ, ◌++◌, ◌+◌, ◌-◌, ◌<◌, ◌∙◌, ◌∷◌, ◌≡◌, ◌≤◌, ◌⊎◌}
use Rattle.sdd_control.proofs.Lists.{or_cases, not_both, every_at, every_all, first_at, none_at, Has, Tidy, has_append, has_first, tidy_drop, tidy_append, tidy_gone}
use Rattle.sdd_control.proofs.Cases.{Case}
use Rattle.sdd_control.proofs.Cases.Case.{tells, writes_one, finishes, learns, hears, takes, stops}
use Rattle.sdd_control.proofs.Puts.{same_itself, gone_is, ok_is, value_is, put_value, put_ok, put_gone, put_tidy, put_by, has_taken, taken_here, taken_nil, tidy_taken}

-- a value that i told j
pub record Sound (log : Log) (i j : ℕ) (v : Val) : Type 0 where
  pub below : i < j
  pub heir : heir log i ≡ true
  pub value : value log i ≡ v

-- the last value that j took is from i or a site above it
pub record Latest (log : Log) (i j : ℕ) : Type 0 where
  pub from : ℕ
  pub val : Val
  pub least : i ≤ from
  pub is : last log j ≡ Some (from, val)

-- i has led, and each higher site has answered
pub record Ready (backups : ℕ) (log : Log) (i : ℕ) (v : Val) : Type 0 where
  pub within : i ≤ backups
  pub heir : heir log i ≡ true
  pub answers : all_answered backups log i ≡ true
  pub value : value log i ≡ v

pub record Kept (backups writes : ℕ) (log : Log) : Type 0 where
  pub gone_stopped : (i j : ℕ) → knows log j i ≡ true → stopped log i ≡ true
  pub link_gone : (i j : ℕ) → Has (link log i j) GONE → stopped log i ≡ true
  pub never_both : (i j : ℕ) → knows log j i ≡ true → knows log i j ≡ true → ⊥
  pub tidy : (i j : ℕ) → Tidy (link log i j)
  pub gone_empty : (i j : ℕ) → knows log j i ≡ true → link log i j ≡ []
  pub on_link : (i j : ℕ) (v : Val) → Has (link log i j) (VALUE v) → Sound log i j v
  pub last_sound : (i j : ℕ) (v : Val) → last log j ≡ Some (i, v) → Sound log i j v
  pub rising : (i j : ℕ) → noted (is_value j i) log ≡ true → Latest log i j
  pub ok_noted : (i j : ℕ) → noted (is_ok i j) log ≡ true → noted (is_value j i) log ≡ true
  pub ok_link : (i j : ℕ) → Has (link log j i) OK → noted (is_value j i) log ≡ true
  pub finished : (i : ℕ) (v : Val) → IsNoted log (Finish i v) → Ready backups log i v
  pub wrote : (i k : ℕ) → IsNoted log (Write i k) → Ready backups log i All
  pub all_written : (i k : ℕ) → IsNoted log (Finish i All) → 1 ≤ k → k ≤ writes → noted (is_write i k) log ≡ true

pub kept_nil : (backups writes : ℕ) → Kept backups writes []
kept_nil backups writes = grind arith

pub heir_at : (log : Log) (i l : ℕ) → heir log i ≡ true → l < i → knows log i l ≡ true
heir_at log i l h m = every_at (λ z. knows log i z) 0 i l h (omega arith) (omega arith)

pub last_of_cases : (j : ℕ) (n : Note) (before : Option (ℕ × Val))
    → (last_of j n before ≡ before) ⊎ ((i : ℕ) × (v : Val) × (n ≡ Value j i v) × (last_of j n before ≡ Some (i, v)))
last_of_cases j n before = grind (arith, nat_tests)

-- no value of a site above i, one of k: k is not above i
not_above : (j i k : ℕ) (log : Log) → noted (is_above j i) log ≡ false → noted (is_value j k) log ≡ true → k ≤ i
not_above j i k [] e f = absurd (cc)
not_above j i k (x ∷ log) e f = grind (arith, nat_tests, or_cases, value_is, (not_above j i k log))

module _ (backups writes : ℕ) (log : Log) where
  pub gone_case : (a : Act) (j i : ℕ) → Case backups writes log a (Gone j i)
      → (rest : List Message) × (a ≡ Deliver i j) × (stopped log j ≡ false) × (link log i j ≡ GONE ∷ rest)
  gone_case a j i (learns _ _ rest p q) = (rest, refl, p, q)

  pub ok_case : (a : Act) (j i : ℕ) → Case backups writes log a (Ok j i) → (rest : List Message) × (link log i j ≡ OK ∷ rest)
  ok_case a j i (hears _ _ rest p q) = (rest, q)

  pub value_case : (a : Act) (j i : ℕ) (v : Val) → Case backups writes log a (Value j i v)
      → (rest : List Message) × (stopped log j ≡ false) × (link log i j ≡ VALUE v ∷ rest) × (noted (is_above j i) log ≡ false)
  value_case a j i v (takes _ _ _ rest p q r) = (rest, p, q, r)

  pub tell_case : (a : Act) (i j : ℕ) (v : Val) → Case backups writes log a (Tell i j v) → (stopped log i ≡ false) × Sound log i j v
  tell_case a i j v (tells _ _ _ l p q r s) = let f = first_at (untold log i) (i + 1) (backups - i) j r in (p, record { below = let g = f.0 in omega arith; heir = q; value = s })

  pub stop_case : (a : Act) (i : ℕ) → Case backups writes log a (Stop i) → stopped log i ≡ false
  stop_case a i (stops _ p) = p

  pub write_case : (a : Act) (i k : ℕ) → Case backups writes log a (Write i k) → Ready backups log i All × (unwritten writes log i ≡ Some k)
  write_case a i k (writes_one _ _ l p q r s t) = (record { within = l; heir = q; answers = r; value = s }, t)

  pub finish_case : (a : Act) (i : ℕ) (v : Val) → Case backups writes log a (Finish i v) → Ready backups log i v × (v ≡ All → unwritten writes log i ≡ None)
  finish_case a i v (finishes _ _ l p q r s t) = (record { within = l; heir = q; answers = r; value = s }, t)

abbrev pub more : Log → Act → Note → Log
more log a n = record { act = a; note = n } ∷ log

module _ (backups writes : ℕ) (log : Log) (a : Act) (n : Note) (c : Case backups writes log a n) (k : Kept backups writes log) where
  stop_on : (i : ℕ) → stopped log i ≡ true → stopped (more log a n) i ≡ true
  stop_on i e = or_right (is_stop i n) (stopped log i) e

  know_on : (j i : ℕ) → knows log j i ≡ true → knows (more log a n) j i ≡ true
  know_on j i e = or_right (is_gone j i n) (knows log j i) e

  know_new : (j i : ℕ) → knows (more log a n) j i ≡ true → (n ≡ Gone j i) ⊎ (knows log j i ≡ true)
  know_new j i e = elim (or_cases (is_gone j i n) (knows log j i) e) [ inl h ↦ inl (gone_is j i n h) | inr h ↦ inr h ]

  heir_on : (i : ℕ) → heir log i ≡ true → heir (more log a n) i ≡ true
  heir_on i h = every_all (λ z. knows (more log a n) i z) 0 i (λ l p q. know_on i l (heir_at log i l h (omega arith)))

  answers_on : (i : ℕ) → all_answered backups log i ≡ true → all_answered backups (more log a n) i ≡ true
  answers_on i h =
      every_all (answered (more log a n) i) (i + 1) (backups - i)
      (λ l p q. elim (or_cases (noted (is_ok i l) log) (knows log i l) (every_at (answered log i) (i + 1) (backups - i) l h p q)) [
        | inl e ↦ or_left (noted (is_ok i l) (more log a n)) (knows (more log a n) i l) (or_right (is_ok i l n) (noted (is_ok i l) log) e)
        | inr e ↦ or_right (noted (is_ok i l) (more log a n)) (knows (more log a n) i l) (know_on i l e)
      ])

  -- who takes a value is not yet heir
  value_from : (j i : ℕ) (v : Val) → n ≡ Value j i v → Sound log i j v
  value_from j i v e =
      let h = value_case backups writes log a j i v (subst (λ z. Case backups writes log a z) e c) in
      k.on_link i j v (has_first (link log i j) h.0 (VALUE v) h.2)

  last_on : (i : ℕ) → heir log i ≡ true → last (more log a n) i ≡ last log i
  last_on i h =
      elim (last_of_cases i n (last log i)) [
        | inl e ↦ e
        | inr x ↦
            let s = value_from i x.0 x.1 x.2 in
            let g = value_case backups writes log a i x.0 x.1 (subst (λ z. Case backups writes log a z) x.2 c) in
            let e = k.gone_empty x.0 i (heir_at log i x.0 h s.below) in
            let f : [] ≡ VALUE x.1 ∷ g.0 = sym e ∙ g.2 in
            absurd (cc)
      ]

  value_on : (i : ℕ) → heir log i ≡ true → value (more log a n) i ≡ value log i
  value_on i h = grind (arith, nat_tests, last_on, heir, more, heir_on, value_by, last)

  sound_on : (i j : ℕ) (v : Val) → Sound log i j v → Sound (more log a n) i j v
  sound_on i j v s = record { below = s.below; heir = heir_on i s.heir; value = value_on i s.heir ∙ s.value }

  ready_on : (i : ℕ) (v : Val) → Ready backups log i v → Ready backups (more log a n) i v
  ready_on i v r = record { within = r.within; heir = heir_on i r.heir; answers = answers_on i r.answers; value = value_on i r.heir ∙ r.value }

  has_new : (i j : ℕ) (m : Message) → Has (link (more log a n) i j) m → Has (link log i j) m ⊎ Has (put n i j) m
  has_new i j m h = elim (has_append (taken a i j (link log i j)) (put n i j) m h) [ inl x ↦ inl (has_taken a i j (link log i j) m x) | inr x ↦ inr x ]

  -- a stopped site puts nothing
  put_free : (i j : ℕ) → stopped log i ≡ true → put n i j ≡ []
  put_free i j s = grind (arith, put_by, tell_case, value_case, stop_case)

  gone_now : (i j : ℕ) → n ≡ Gone j i → (stopped log i ≡ true) × (stopped log j ≡ false)
  gone_now i j e = grind (arith, nat_tests, gone_case, Case, has_first, link)

  gone_stopped_on : (i j : ℕ) → knows (more log a n) j i ≡ true → stopped (more log a n) i ≡ true
  gone_stopped_on i j e = elim (know_new j i e) [ inl h ↦ let g = gone_now i j h in stop_on i g.0 | inr h ↦ stop_on i (k.gone_stopped i j h) ]

  link_gone_on : (i j : ℕ) → Has (link (more log a n) i j) GONE → stopped (more log a n) i ≡ true
  link_gone_on i j h = elim (has_new i j GONE h) [ inl x ↦ stop_on i (k.link_gone i j x) | inr x ↦ or_left (is_stop i n) (stopped log i) (put_gone n i j x) ]

  never_both_on : (i j : ℕ) → knows (more log a n) j i ≡ true → knows (more log a n) i j ≡ true → ⊥
  never_both_on i j e f =
      elim (know_new j i e) [
        | inl p ↦ let g = gone_now i j p in elim (know_new i j f) [
          | inl q ↦ let r = gone_now j i q in not_both (stopped log i) g.0 r.1
          | inr q ↦ not_both (stopped log j) (k.gone_stopped j i q) g.1
        ]
        | inr p ↦ elim (know_new i j f) [
          | inl q ↦ let g = gone_now j i q in not_both (stopped log i) (k.gone_stopped i j p) g.1
          | inr q ↦ k.never_both i j p q
        ]
      ]

  tidy_on : (i j : ℕ) → Tidy (link (more log a n) i j)
  tidy_on i j = grind (arith, Tidy, tidy_taken, tidy_drop, cases_Bool, put_free, append-nil, tidy_append, not_both, has_taken, put_tidy)

  gone_empty_on : (i j : ℕ) → knows (more log a n) j i ≡ true → link (more log a n) i j ≡ []
  gone_empty_on i j e =
      elim (know_new j i e) [
        | inl p ↦ grind (arith, nat_tests, gone_case, Case, gone_now, tidy_gone, link, taken, taken_here, put, put_free)
        | inr p ↦ ap (λ z. taken a i j z ++ put n i j) (k.gone_empty i j p) ∙ ap (λ z. z ++ put n i j) (taken_nil a i j) ∙ put_free i j (k.gone_stopped i j p)
      ]

  on_link_on : (i j : ℕ) (v : Val) → Has (link (more log a n) i j) (VALUE v) → Sound (more log a n) i j v
  on_link_on i j v h =
      elim (has_new i j (VALUE v) h) [
        | inl x ↦ sound_on i j v (k.on_link i j v x)
        | inr x ↦ let t = tell_case backups writes log a i j v (subst (λ z. Case backups writes log a z) (put_value n i j v x) c) in sound_on i j v t.1
      ]

  last_sound_on : (i j : ℕ) (v : Val) → last (more log a n) j ≡ Some (i, v) → Sound (more log a n) i j v
  last_sound_on i j v e =
      elim (last_of_cases j n (last log j)) [
        | inl p ↦ sound_on i j v (k.last_sound i j v (sym p ∙ e))
        | inr x ↦
            let q : ◌≡◌ {A = Option (ℕ × Val)} (Some (x.0, x.1)) (Some (i, v)) = sym x.3 ∙ e in
            let r : ◌≡◌ {A = ℕ × Val} (x.0, x.1) (i, v) = cc in
            sound_on i j v (subst (λ (z : ℕ × Val). Sound log z.0 j z.1) r (value_from j x.0 x.1 x.2))
      ]

  rising_on : (i j : ℕ) → noted (is_value j i) (more log a n) ≡ true → Latest (more log a n) i j
  rising_on i j e =
      elim (last_of_cases j n (last log j)) [
        | inl p ↦ elim (or_cases (is_value j i n) (noted (is_value j i) log) e) [
          | inl q ↦ grind (arith, nat_tests, value_is, last_of, last, same_itself)
          | inr q ↦ let l = k.rising i j q in record { from = l.from; val = l.val; least = l.least; is = p ∙ l.is }
        ]
        | inr x ↦
            let h = value_case backups writes log a j x.0 x.1 (subst (λ z. Case backups writes log a z) x.2 c) in
            elim (or_cases (is_value j i n) (noted (is_value j i) log) e) [
              | inl q ↦ grind (arith, nat_tests, value_is, last_of, last, same_itself)
              | inr q ↦ record { from = x.0; val = x.1; least = not_above j x.0 i log h.3 q; is = x.3 }
            ]
      ]

  ok_noted_on : (i j : ℕ) → noted (is_ok i j) (more log a n) ≡ true → noted (is_value j i) (more log a n) ≡ true
  ok_noted_on i j e =
      elim (or_cases (is_ok i j n) (noted (is_ok i j) log) e) [
        | inl p ↦ grind (arith, nat_tests, ok_case, Case, ok_is, or_right, is_value, noted, has_first, link)
        | inr p ↦ or_right (is_value j i n) (noted (is_value j i) log) (k.ok_noted i j p)
      ]

  ok_link_on : (i j : ℕ) → Has (link (more log a n) j i) OK → noted (is_value j i) (more log a n) ≡ true
  ok_link_on i j h = grind (arith, nat_tests, has_new, or_right, is_value, noted, or_left, put_ok)

  finished_on : (i : ℕ) (v : Val) → IsNoted (more log a n) (Finish i v) → Ready backups (more log a n) i v
  finished_on i v (inl e) = let h = finish_case backups writes log a i v (subst (λ z. Case backups writes log a z) e c) in ready_on i v h.0
  finished_on i v (inr s) = ready_on i v (k.finished i v s)

  wrote_on : (i m : ℕ) → IsNoted (more log a n) (Write i m) → Ready backups (more log a n) i All
  wrote_on i m (inl e) = let h = write_case backups writes log a i m (subst (λ z. Case backups writes log a z) e c) in ready_on i All h.0
  wrote_on i m (inr s) = ready_on i All (k.wrote i m s)

  all_written_on : (i m : ℕ) → IsNoted (more log a n) (Finish i All) → 1 ≤ m → m ≤ writes → noted (is_write i m) (more log a n) ≡ true
  all_written_on i m (inl e) l u =
      let h = finish_case backups writes log a i All (subst (λ z. Case backups writes log a z) e c) in
      let f = none_at (λ z. not (noted (is_write i z) log)) 1 writes m (h.1 refl) l (omega arith) in
      or_right (is_write i m n) (noted (is_write i m) log) (not_false (noted (is_write i m) log) f)
  all_written_on i m (inr s) l u = or_right (is_write i m n) (noted (is_write i m) log) (k.all_written i m s l u)

  pub kept_on : Kept backups writes (more log a n)
  kept_on =
      record {
        gone_stopped = gone_stopped_on;
        link_gone = link_gone_on;
        never_both = never_both_on;
        tidy = tidy_on;
        gone_empty = gone_empty_on;
        on_link = on_link_on;
        last_sound = last_sound_on;
        rising = rising_on;
        ok_noted = ok_noted_on;
        ok_link = ok_link_on;
        finished = finished_on;
        wrote = wrote_on;
        all_written = all_written_on;
      }
