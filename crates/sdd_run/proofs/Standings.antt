-- Between calls, where nothing is due: where each transaction stands at its site, and what it waits for there. An attempt lacks
-- the answer of a data module; and an undeclared transaction whose attempt hasn't begun lacks the HELD of a T.
use Rattle.sdd_run.proofs.All.{AtTurn, Bool, Catalogue, D, Exchange, FitsInput, HasNear, Input, IsClass, IsInLine, IsLawful, IsModule, IsNearBy, IsNumberedSite, IsPermitted, IsSoundCatalogue, IsStanding, IsUnderway, Line, List, Log, None, Option, Queued, Site, Some, Standing, T, TmCounts, Turn, U, WaitsForHeld, [], active, active_near, all_served, all_true, and_left, and_right, answered_last, ap, apart, arith, attempt_at, attempt_due, awaited, base_of, both, chain_at, class_at, class_no, contains, counts, counts_at_u, counts_tm, dec_le, differ, dm_no, eq-eqb, eqb-true, false, find, firsts, goes_on, head_of, home, home_fair, home_turns, if_none, if◌then◌else◌, in_filtered, in_line, in_mapped, in_range, inl, inr, is_asking_to_hold, is_none, is_over, is_site, is_unanswered, lacks_answer_of, last_served, list_all, local_of, lowest, map, ne_eqb, near_one, next_at, no_act, no_active, no_sends, none_at, not, not_both, not_false, not_zero, numbers_to, option_map, or_none, or_standing, position, position-Some, positive, queue, queue_at_home, queued_at, refl, run_at, runs_place, same_or_not, send_due, setting_of, site_due, site_of, site_there, slice_get, slice_get-get_or, small_home, sound_whole, spoken, standing_among, standing_at, standing_at_t, standing_at_u, standing_by, standing_of, subst, suc, sym, t_site, tail_of, tm_no, tm_of, to_module, true, turn_at, underway, unsent, waiting, without_served, zero, zero_head, ℕ, ◌&&◌, ◌-◌, ◌<◌, ◌==◌, ◌∙◌, ◌∷◌, ◌≡◌, ◌≤◌, ◌⊎◌}
use Rattle.sdd_progress.specs.obligations.All.{Attempt, IsFrom1To}
use Rattle.sdd_progress.specs.Quiet.{at_home}
use Rattle.sdd_progress.proofs.obligations.AtTurn.{IsAtTurn}
use Rattle.sdd_progress.proofs.obligations.invariants.logs.tm.Lists.{get_map as at_map}
use Rattle.sdd_progress.specs.obligations.site_rules.declared.standing.Standing.TheVariants as standings
use Rattle.sdd_progress.specs.obligations.tm.Due as tm
use Rattle.sdd_progress.specs.obligations.tm.State as tm_states
use Rattle.sdd_progress.specs.obligations.tm.Views as tm_views
use Rattle.sdd_progress.specs.obligations.umod.Due as um
use Rattle.sdd_progress.specs.obligations.umod.Standing as u_standing
use Rattle.sdd_progress.specs.obligations.umod.State as um_states
use Rattle.sdd_progress.specs.obligations.umod.Views as um_views
use Rattle.sdd_progress.proofs.obligations.logs.Steps.{none_in}
use Rattle.sdd_progress.proofs.AttemptsRest.{attempts_rest}
use Rattle.sdd_run.proofs.Lowest.{first_in, lowest_of}

-- the first item that passes a test is one of the list
record IsFound {A : Type 0} (p : A → Bool) (xs : List A) : Type 0 where
  place : ℕ
  item : A
  there : slice_get xs place ≡ Some item
  found : find p xs ≡ Some item

abbrev FailAll : {A : Type 0} → (A → Bool) → List A → Type 0
FailAll {A = A} p xs = (k : ℕ) (x : A) → slice_get xs k ≡ Some x → p x ≡ false

fail_more : {A : Type 0} (p : A → Bool) (y : A) (xs : List A) → p y ≡ false → FailAll p xs → FailAll p (y ∷ xs)
fail_more p y xs e none h6 x is = grind arith

found_or_none : {A : Type 0} (p : A → Bool) (xs : List A) → IsFound p xs ⊎ FailAll p xs
found_or_none p [] = inr (λ k x e. cc)
found_or_none {A = A} p (y ∷ xs) =
    elim (p y) as (λ b. p y ≡ b → IsFound p (y ∷ xs) ⊎ FailAll p (y ∷ xs)) [
      | true ↦ λ e. inl (record { place = 0; item = y; there = refl; found = rw e refl })
      | false ↦ λ e. elim (found_or_none p xs) [
        | inl f ↦ inl (record { place = suc f.place; item = f.item; there = f.there; found = rw e f.found })
        | inr none ↦ inr (fail_more p y xs e none)
      ]
    ] refl

-- nothing is due at U

module _ (g : Input) (log : Log) (idle : site_due g log ≡ None) where
  none_next : next_at g log U ≡ None
  none_next = grind (arith, site_there, no_act, none_at)

  none_started : um.start_due g.catalogue (um_views.view_of (setting_of g U) (local_of g U log)) ≡ None
  none_started = (or_none _ _ (or_none _ _ (or_none _ _ (none_in g log U refl none_next)).1).1).0

-- an attempt that has nothing to send and isn't over lacks the answer of a data module, which its site has asked

asked_at : (d : ℕ) (x : Exchange) (v : Turn) → x.to_send ≡ [] → contains x.lacks d ≡ true → IsAtTurn d x v
    → (is_unanswered v ≡ true) × (contains (firsts x.modules) d ≡ true)
asked_at d x v e l (unsent m q ns a b w s u z f h) = let p : to_module d [] ≡ m ∷ [] = subst (λ sends. to_module d sends ≡ m ∷ []) e a in cc
asked_at d x v e l (awaited m ns a b w z f h) = (ap is_unanswered w, h)
asked_at d x v e l (answered_last q ns a b w s f h) = absurd (not_both (contains x.lacks d) l b)
asked_at d x v e l (apart a b w h) = absurd (not_both (contains x.lacks d) l b)

not_asked : (d : ℕ) (x : Exchange) (v : Turn) → contains x.lacks d ≡ false → IsAtTurn d x v → is_unanswered v ≡ false
not_asked d x v l (unsent m q ns a b w s u z f h) = absurd (not_both (contains x.lacks d) b l)
not_asked d x v l (awaited m ns a b w z f h) = absurd (not_both (contains x.lacks d) b l)
not_asked d x v l (answered_last q ns a b w s f h) = ap is_unanswered w
not_asked d x v l (apart a b w h) = ap is_unanswered w

pub record LacksAnswer (g : Input) (log : Log) (c : ℕ) (a : Attempt) (d : ℕ) : Type 0 where
  pub module_is : IsModule g.catalogue d
  pub missing : lacks_answer_of g log c a d ≡ true
  pub none_lower : (e : ℕ) → e < d → lacks_answer_of g log c a e ≡ false

-- so each transaction stands as its site says

abbrev pub IsTrueStanding : Input → Log → ℕ → Standing → Type 0
IsTrueStanding g log n standings.Absent = Unit {0}
IsTrueStanding g log n (standings.Queued class place) = IsInLine g log class.0 place n
IsTrueStanding g log n (standings.Underway class None at) = (t : ℕ) × (at ≡ T (tm_no t)) × WaitsForHeld g log n t
IsTrueStanding g log n (standings.Underway class (Some ts) at) =
    (a : Attempt) × (d : ℕ) × (at ≡ D (dm_no d)) × IsUnderway g log n class.0 a × (ts.0 ≡ a.ts) × LacksAnswer g log class.0 a d

first_of : (P : Standing → Type 0) (s next : Standing) → P s → P next → P (or_standing s next)
first_of P standings.Absent next h i = i
first_of P (standings.Queued class place) next h i = h
first_of P (standings.Underway class ts at) next h i = h

among : (P : Standing → Type 0) → P standings.Absent → (ls : List Line) (n : ℕ) → ((j : ℕ) (l : Line) → slice_get ls j ≡ Some l → P (standing_of l n))
    → P (standing_among ls n)
among P absent [] n h = absent
among P absent (l ∷ ls) n h = first_of P (standing_of l n) (standing_among ls n) (h 0 l refl) (among P absent ls n (λ j x e. h (suc j) x e))

-- a class that runs at a transaction module
run_here : (g : Input) (t j c : ℕ) → slice_get (tm_views.runs (setting_of g (T (tm_no t)))) j ≡ Some c
    → IsClass g.catalogue c × (home g.catalogue c ≡ T (tm_no t))
run_here g t j c e = grind (arith, in_filtered, in_range, eqb-true, not_zero)

is_declared : (cat : Catalogue) (c t : ℕ) → home cat c ≡ T (tm_no t) → (c == 0) ≡ false
is_declared cat c t e = elim (c == 0) as (λ b. (if b then U else T (tm_no (class_at cat c).tm.0)) ≡ T (tm_no t) → b ≡ false) [
  | true ↦ λ h. cc
  | false ↦ λ h. refl
] e

-- the place of an item that passes a test
found_there : {A : Type 0} (p : A → Bool) (xs : List A) (k : ℕ) → position p xs ≡ Some k → (x : A) × (slice_get xs k ≡ Some x) × (p x ≡ true)
found_there p [] k e = cc
found_there p (y ∷ xs) k e = let i = position-Some p (y ∷ xs) k y e in (_, slice_get-get_or (y ∷ xs) k y i.0, i.1)

first_there : (qs : List Queued) (q : Queued) → slice_get qs 0 ≡ Some q → head_of qs ≡ Some q
first_there [] q e = cc
first_there (x ∷ qs) q e = e

in_tail : (qs : List Queued) (k : ℕ) → slice_get (tail_of qs) k ≡ slice_get qs (suc k)
in_tail [] k = refl
in_tail (q ∷ qs) k = refl

-- a place in the line of a class
queued_true : (g : Input) (log : Log) (c n : ℕ) (qs : List Queued) → IsClass g.catalogue c → in_line g log c ≡ qs
    → (o : Option ℕ) → position (λ (q : Queued). q.number == n) qs ≡ o → IsTrueStanding g log n (queued_at c o)
queued_true g log c n qs class are None e = tt
queued_true g log c n qs class are (Some k) e =
    let q = found_there (λ (x : Queued). x.number == n) qs k e in
    let before : suc k - 1 ≡ k = omega arith in
    record {
      class_is = class;
      from = omega arith;
      waiting = q.0;
      there = ap (slice_get (in_line g log c)) before ∙ ap (λ xs. slice_get xs k) are ∙ q.1;
      number_is = eqb-true q.0.number n q.2;
    }

module _ (g : Input) (log : Log) (permitted : IsPermitted g log) (good : FitsInput g) (lawful : IsLawful g log) (idle : site_due g log ≡ None) where
  lacks_lowest : (c : ℕ) (a : Attempt) → IsClass g.catalogue c → attempt_at g log c ≡ Some a
      → (d : ℕ) × (lowest a.exchange.lacks ≡ Some d) × LacksAnswer g log c a d
  lacks_lowest c a l e =
      let s = setting_of g (home g.catalogue c) in
      let going = goes_on g log c a permitted good l e in
      let p =
      or_none (send_due a.exchange) _ (subst (λ o. attempt_due g.catalogue (base_of g log) c o ≡ None) e (attempts_rest g log c good.sound l lawful idle)) in
      let sent : a.exchange.to_send ≡ [] = no_sends a.exchange.to_send p.0 in
      let low = lowest_of a.exchange.lacks (going.lacks (if_none (is_over a.exchange.phase) _ p.1)) in
      let turns = home_turns g c log permitted (spoken g c log permitted (small_home g.catalogue good.sound c l)) in
      let at_turn : (k : ℕ) → AtTurn a.ts k (Some a) (turn_at a.ts c k (at_home g c log)) =
      λ k. subst (λ o. AtTurn a.ts k o (turn_at a.ts c k (at_home g c log))) e (turns.turns a.ts k) in
      let near : IsNearBy g.catalogue.dms a.exchange =
      subst (HasNear g.catalogue.dms) e (active_near s c (at_home g c log) (sound_whole g.catalogue good.sound) (home_fair g c log permitted)) in
      let asked = asked_at low.0 a.exchange (turn_at a.ts c low.0 (at_home g c log)) sent low.2.there ((at_turn low.0).0 refl) in (
        low.0,
        low.1,
        record {
          module_is = near_one g.catalogue.dms low.0 a.exchange.modules a.exchange near asked.1;
          missing = asked.0;
          none_lower = λ k less. not_asked k a.exchange (turn_at a.ts c k (at_home g c log)) (low.2.least k less) ((at_turn k).0 refl);
        },
      )

  -- in the line of a class that has no transaction underway before its Start
  in_line_true : (c n : ℕ) → IsClass g.catalogue c → (attempt_at g log c ≡ None → ((c == 0) && is_asking_to_hold g log) ≡ false)
      → IsTrueStanding g log n (standing_by c (queue_at_home g log c) (attempt_at g log c) n)
  in_line_true c n class not_held =
      let qs = queue_at_home g log c in
      elim (attempt_at g log c) as (λ o. attempt_at g log c ≡ o → IsTrueStanding g log n (standing_by c qs o n)) [
        | None ↦ λ e.
            let are : in_line g log c ≡ qs =
            ap (λ o. without_served o ((c == 0) && is_asking_to_hold g log) qs) e ∙ ap (λ (b : Bool). if b then tail_of qs else qs) (not_held e) in
            queued_true g log c n qs class are (position (λ (q : Queued). q.number == n) qs) refl
        | Some a ↦ λ e.
            let are : in_line g log c ≡ waiting (Some a) qs = ap (λ o. without_served o ((c == 0) && is_asking_to_hold g log) qs) e in
            let low = lacks_lowest c a class e in
            elim (a.txn == n)
            as (λ b. (a.txn == n) ≡ b → IsTrueStanding g log n (if b then underway c a.ts a.exchange
            else queued_at c (position (λ (q : Queued). q.number == n) (waiting (Some a) qs)))) [
              | true ↦ λ p. (a, low.0, ap site_of low.1, record { class_is = class; active_is = e; number_is = eqb-true a.txn n p }, refl, low.2)
              | false ↦ λ p. queued_true g log c n (waiting (Some a) qs) class are (position (λ (q : Queued). q.number == n) (waiting (Some a) qs)) refl
            ] refl
      ] refl

  is_true_at_t : (t n : ℕ) → IsTrueStanding g log n (standing_at_t (setting_of g (T (tm_no t))) (local_of g (T (tm_no t)) log) n)
  is_true_at_t t n =
      let s = setting_of g (T (tm_no t)) in
      let lt = local_of g (T (tm_no t)) log in
      let states = map (tm_states.class_of s lt) (tm_views.runs s) in
      among (IsTrueStanding g log n) tt (map (λ (k : tm_states.ClassState). k.line) states) n (λ j l e.
      (let r = in_mapped (λ (k : tm_states.ClassState). k.line) states j l e in
      let q = in_mapped (tm_states.class_of s lt) (tm_views.runs s) j r.0 r.1 in
      let run = run_here g t j q.0 q.1 in
      let declared = is_declared g.catalogue q.0 t run.1 in
      subst (λ x. IsTrueStanding g log n (standing_of x n)) (ap (λ (k : tm_states.ClassState). k.line) q.2 ∙ r.2)
      (subst (λ y. IsTrueStanding g log n
      (standing_by q.0 (queue (setting_of g y) q.0 (local_of g y log)) (active (setting_of g y) q.0 (local_of g y log)) n)) run.1
      (in_line_true q.0 n run.0 (λ none. ap (λ b. b && is_asking_to_hold g log) declared)))))

  -- at U, before an attempt begins

  -- of each T what was counted
  of_t : (k : ℕ) (x : TmCounts) → slice_get (map (λ t. counts t (local_of g U log)) (numbers_to g.catalogue.tms)) k ≡ Some x
      → (t : ℕ) × IsFrom1To g.catalogue.tms t × (counts t (local_of g U log) ≡ x)
  of_t k x e = grind (arith, in_mapped, in_range)

  -- where no HELD lacks, each T holds
  all_hold : FailAll (u_standing.lacks_held (suc (last_served (setting_of g U) (local_of g U log)).commits))
      (map (λ t. counts t (local_of g U log)) (numbers_to g.catalogue.tms))
      → list_all (um.is_holding (um_views.view_of (setting_of g U) (local_of g U log)))
      (map (λ t. counts t (local_of g U log)) (numbers_to g.catalogue.tms)) ≡ true
  all_hold none =
      let lu = local_of g U log in
      let v = um_views.view_of (setting_of g U) lu in
      let n : ℕ = (last_served (setting_of g U) lu).commits in
      all_true (um.is_holding v) (map (λ t. counts t lu) (numbers_to g.catalogue.tms)) (λ k x e.
      (let r = of_t k x e in
      let c = chain_at g (tm_no r.0) log r.1.0 r.1.1 permitted in
      let helds_are : (counts r.0 lu).helds ≡ suc n = (ap (λ (y : TmCounts). y.helds) r.2) ∙ eqb-true x.helds (suc n) (not_false _ (none k x e)) in
      let held : (counts r.0 lu).holds ≡ suc n = omega (arith, helds_are, c.put_held, c.got_hold, c.put_hold, c.one_ahead, c.committed) in
      ap (um.is_holding v) (sym r.2) ∙ both _ _ (eq-eqb _ _ held) (eq-eqb _ _ helds_are)))

  -- no T says HELD more often than once more than there are Commits
  few_helds : (t : ℕ) → IsFrom1To g.catalogue.tms t
      → u_standing.lacks_held (suc (last_served (setting_of g U) (local_of g U log)).commits) (counts_at_u g log t) ≡ true
      → (counts_at_u g log t).helds < suc (last_served (setting_of g U) (local_of g U log)).commits
  few_helds t within lacks =
      let n : ℕ = (last_served (setting_of g U) (local_of g U log)).commits in
      let c = chain_at g (tm_no t) log within.0 within.1 permitted in
      let most : (counts_at_u g log t).helds ≤ suc n = omega (arith, c.put_held, c.got_hold, c.put_hold, c.one_ahead, c.committed) in
      elim (same_or_not (counts_at_u g log t).helds (suc n)) [
        | inl same ↦ absurd (not_both (not ((counts_at_u g log t).helds == suc n)) lacks (ap not (eq-eqb _ _ same)))
        | inr other ↦ (elim (dec_le (suc (counts_at_u g log t).helds) (suc n)) [
          | yes l ↦ l
          | no k ↦ absurd (differ _ _ other (omega (arith, most, k)))
        ])
      ]

  held_missing : (n : ℕ) (q : Queued) → attempt_at g log 0 ≡ None → is_asking_to_hold g log ≡ true → head_of (queue_at_home g log 0) ≡ Some q → q.number ≡ n
      → (t : ℕ) × (u_standing.missing_site (um_states.state_of (setting_of g U) (local_of g U log)) ≡ T (tm_no t)) × WaitsForHeld g log n t
  held_missing n q none asking first number =
      let s = setting_of g U in
      let lu = local_of g U log in
      let v = um_views.view_of s lu in
      let lacking = u_standing.lacks_held (suc (last_served s lu).commits) in
      elim (found_or_none lacking (map (λ t. counts t lu) (numbers_to g.catalogue.tms))) [
        | inl f ↦
            (let r = first_in (λ t. counts t lu) lacking 1 g.catalogue.tms f.item f.found in
            let low = r.from in
            let high = r.to in
            let within : IsFrom1To g.catalogue.tms r.number = (low, omega (arith, high)) in
            let number_is : f.item.tm ≡ r.number = ap (λ (y : TmCounts). y.tm) (sym r.is) ∙ counts_tm r.number lu in (
              r.number,
              ap (λ o. u_standing.site_of (option_map tm_of o)) f.found ∙ ap (λ m. T (tm_no m)) number_is,
              record {
                tm_is = within;
                not_started = none;
                is_asked = asking;
                first = q;
                first_is = first;
                number_is = number;
                missing = few_helds r.number within r.passes;
                lowest = λ k l less. eqb-true (counts k lu).helds (suc (last_served s lu).commits) (not_false _ (r.none_lower k l less));
              },
            ))
        | inr all ↦
            (let fresh : q.tries ≡ 0 = zero_head (queue s 0 lu) q (all_served g log (sound_whole g.catalogue good.sound) permitted none).1 first in
            let due : um.start_of g.catalogue v (Some q) ≡ None = subst (λ o. um.start_of g.catalogue v o ≡ None) first (none_started g log idle) in
            absurd (not_both _ (both _ _ (eq-eqb _ _ fresh) (all_hold all)) (if_none _ _ due)))
      ]

  -- the first in the queue is underway, and the others come behind it
  behind_first : (n : ℕ) → attempt_at g log 0 ≡ None → is_asking_to_hold g log ≡ true → (o : Option ℕ)
      → position (λ (q : Queued). q.number == n) (queue_at_home g log 0) ≡ o
      → IsTrueStanding g log n (u_standing.first_underway (u_standing.missing_site (um_states.state_of (setting_of g U) (local_of g U log))) (queued_at 0 o))
  behind_first n none asking None e = tt
  behind_first n none asking (Some zero) e =
      let q = found_there (λ (x : Queued). x.number == n) (queue_at_home g log 0) 0 e in
      held_missing n q.0 none asking (first_there (queue_at_home g log 0) q.0 q.1) (eqb-true q.0.number n q.2)
  behind_first n none asking (Some (suc k)) e =
      let qs = queue_at_home g log 0 in
      let site = u_standing.missing_site (um_states.state_of (setting_of g U) (local_of g U log)) in
      let q = found_there (λ (x : Queued). x.number == n) qs (suc k) e in
      let are : in_line g log 0 ≡ tail_of qs =
      ap (λ o. without_served o (is_asking_to_hold g log) qs) none ∙ ap (λ (b : Bool). if b then tail_of qs else qs) asking in
      let before : suc k - 1 ≡ k = omega arith in
      let not_first : (suc (suc k) == 1) ≡ false = ne_eqb (suc (suc k)) 1 (λ same. omega (arith, same)) in
      let standing_is : u_standing.first_underway site (queued_at 0 (Some (suc k))) ≡ standings.Queued (class_no 0) (suc k) =
      ap (λ (b : Bool). if b then standings.Underway (class_no 0) None site else standings.Queued (class_no 0) (suc (suc k) - 1)) not_first
      ∙ ap (standings.Queued (class_no 0)) (omega arith) in
      subst (IsTrueStanding g log n) (sym standing_is) (record {
        class_is = omega arith;
        from = omega arith;
        waiting = q.0;
        there = ap (slice_get (in_line g log 0)) before ∙ ap (λ xs. slice_get xs k) are ∙ in_tail qs k ∙ q.1;
        number_is = eqb-true q.0.number n q.2;
      })

  is_true_at_u : (n : ℕ) → IsTrueStanding g log n (standing_at_u (setting_of g U) (local_of g U log) n)
  is_true_at_u n =
      let s = setting_of g U in
      let lu = local_of g U log in
      let state = um_states.state_of s lu in
      let qs = queue_at_home g log 0 in
      elim (u_standing.is_awaiting_helds state)
      as (λ b. u_standing.is_awaiting_helds state ≡ b
      → IsTrueStanding g log n (if b then u_standing.first_underway (u_standing.missing_site state) (standing_of state.line n) else standing_of state.line n)) [
        | true ↦ λ e.
            let none : attempt_at g log 0 ≡ None = no_active (attempt_at g log 0) (and_left (is_none (attempt_at g log 0)) (is_asking_to_hold g log) e) in
            let asking = and_right (is_none (attempt_at g log 0)) (is_asking_to_hold g log) e in
            subst (λ o. IsTrueStanding g log n (u_standing.first_underway (u_standing.missing_site state) (standing_by 0 qs o n))) (sym none)
            (behind_first n none asking (position (λ (q : Queued). q.number == n) qs) refl)
        | false ↦ λ e. in_line_true 0 n (omega arith) (λ none. ap (λ o. is_none o && is_asking_to_hold g log) (sym none) ∙ e)
      ] refl

  -- at each site
  pub each_is_true : (at : Site) (n : ℕ) → IsTrueStanding g log n (standing_at standing_at_u standing_at_t at (setting_of g at) (local_of g at log) n)
  each_is_true U n = is_true_at_u n
  each_is_true (T t) n = is_true_at_t t.0 n
  each_is_true (D d) n = tt

  as_it_may : (n : ℕ) (s : Standing) → IsTrueStanding g log n s → IsStanding g.catalogue s
  as_it_may n standings.Absent h = tt
  as_it_may n (standings.Queued class place) h = (h.class_is, h.from)
  as_it_may n (standings.Underway class None at) h = subst (IsNumberedSite g.catalogue) (sym h.1) h.2.tm_is
  as_it_may n (standings.Underway class (Some ts) at) h = subst (IsNumberedSite g.catalogue) (sym h.2) h.5.module_is

  pub each_is_standing : (at : Site) (n : ℕ) → IsStanding g.catalogue (standing_at standing_at_u standing_at_t at (setting_of g at) (local_of g at log) n)
  each_is_standing at n = as_it_may n (standing_at standing_at_u standing_at_t at (setting_of g at) (local_of g at log) n) (each_is_true at n)
