-- Each transaction that was submitted and isn't committed is listed as pending.
use Rattle.sdd_run.proofs.All.{AreNumbered, Bool, ClassState, Commit, HasSoundLists, History, Input, IsClass, IsClassOf, IsListed, IsPermitted, IsQueued, IsRecordAt, IsSubmitted, Line, List, Log, None, NonePasses, Option, Pending, Queued, Rec, Site, Some, Standing, Submit, T, WasCommitted, Why, [], active, ap, arith, at_home, at_map, class_at, class_of, commits, committed_or_queued, cons_option, either, eqb-true, false, filter_map, history, home, home_setting, if◌then◌else◌, in_runs, inl, inr, is_some, kept_there, list_any, local_of, map, none_found, not, or_standing, pending_as, pending_in, pending_of, position, positive, queue, queued_at, refl, runs, same_number, same_or_not, setting_of, slice_get, standing_among, standing_at, standing_at_t, standing_at_u, standing_by, standing_in, standing_of, subst, suc, sym, tm_no, true, txn_no, underway, waiting, why_of, why_pending, zero, ℕ, ◌-◌, ◌==◌, ◌∙◌, ◌∷◌, ◌≡◌, ◌⊎◌}
use Rattle.sdd_run.proofs.LastHomes.{submitted_there}
use Rattle.sdd_progress.specs.obligations.All.{Attempt}
use Rattle.sdd_progress.specs.obligations.site_rules.declared.standing.Standing.TheVariants as standings
use Rattle.sdd_progress.specs.obligations.umod.State as um
use Rattle.sdd_report.specs.declared.pending.Why.TheVariants as reasons

-- what a queue has stands at some place of it

passes_none : {A : Type 0} (p : A → Bool) (xs : List A) (j : ℕ) (x : A) → NonePasses p xs → slice_get xs j ≡ Some x → p x ≡ true → ⊥
passes_none p [] j x none e h = cc
passes_none p (y ∷ xs) zero x none e h = let q : y ≡ x = cc in let a : p y ≡ true = subst (λ z. p z ≡ true) (sym q) h in let b : p y ≡ false = none.0 in cc
passes_none p (y ∷ xs) (suc j) x none e h = passes_none p xs j x none.1 e h

position_there : {A : Type 0} (p : A → Bool) (xs : List A) (j : ℕ) (x : A) → slice_get xs j ≡ Some x → p x ≡ true → (k : ℕ) × (position p xs ≡ Some k)
position_there p xs j x e h = elim (position p xs) as (λ o. position p xs ≡ o → (k : ℕ) × (position p xs ≡ Some k)) [
  | None ↦ λ r. absurd (passes_none p xs j x (none_found p xs (ap is_some r)) e h)
  | Some k ↦ λ r. (k, r)
] refl

-- so its site has it

abbrev IsHere : Standing → Type 0
IsHere standings.Absent = ⊥
IsHere (standings.Queued class place) = Unit {0}
IsHere (standings.Underway class ts at) = Unit {0}

queued_here : (c : ℕ) (o : Option ℕ) (k : ℕ) → o ≡ Some k → IsHere (queued_at c o)
queued_here c o k e = grind arith

other_number : (n m : ℕ) → (m == n) ≡ false → not (n == m) ≡ true
other_number n m e = grind (arith, same_or_not, same_number)

line_here : (c : ℕ) (qs : List Queued) (o : Option Attempt) (n j : ℕ) (q : Queued) → slice_get qs j ≡ Some q → q.number ≡ n → IsHere (standing_by c qs o n)
line_here c qs None n j q there is =
    let p = position_there (λ (x : Queued). x.number == n) qs j q there (ap (λ m. m == n) is ∙ same_number n) in
    queued_here c (position (λ (x : Queued). x.number == n) qs) p.0 p.1
line_here c qs (Some a) n j q there is =
    elim (a.txn == n)
    as (λ b. (a.txn == n) ≡ b
    → IsHere (if b then underway c a.ts a.exchange else queued_at c (position (λ (x : Queued). x.number == n) (waiting (Some a) qs)))) [
      | true ↦ λ e. tt
      | false ↦ λ e.
          let kept = kept_there (λ (x : Queued). not (x.number == a.txn)) qs j q there (ap (λ m. not (m == a.txn)) is ∙ other_number n a.txn e) in
          let p = position_there (λ (x : Queued). x.number == n) (waiting (Some a) qs) kept.0 q kept.1 (ap (λ m. m == n) is ∙ same_number n) in
          queued_here c (position (λ (x : Queued). x.number == n) (waiting (Some a) qs)) p.0 p.1
    ] refl

here_first : (s next : Standing) → IsHere s → IsHere (or_standing s next)
here_first s next h = grind arith

here_next : (s next : Standing) → IsHere next → IsHere (or_standing s next)
here_next s next h = grind arith

among_here : (ls : List Line) (n j : ℕ) (l : Line) → slice_get ls j ≡ Some l → IsHere (standing_of l n) → IsHere (standing_among ls n)
among_here [] n j l e h = cc
among_here (x ∷ ls) n zero l e h = let q : x ≡ l = cc in here_first (standing_of x n) (standing_among ls n) (subst (λ y. IsHere (standing_of y n)) (sym q) h)
among_here (x ∷ ls) n (suc j) l e h = here_next (standing_of x n) (standing_among ls n) (among_here ls n j l e h)

at_u_here : (state : um.State) (n : ℕ) → IsHere (standing_of state.line n) → IsHere (standing_in state n)
at_u_here state n h = grind (arith, IsHere)

here_t : (g : Input) (log : Log) (c n j : ℕ) (q : Queued) → IsClassOf g.catalogue c
    → slice_get (queue (setting_of g (T (tm_no (class_at g.catalogue c).tm.0))) c (local_of g (T (tm_no (class_at g.catalogue c).tm.0)) log)) j ≡ Some q
    → q.number ≡ n
    → IsHere (standing_at standing_at_u standing_at_t (T (tm_no (class_at g.catalogue c).tm.0)) (setting_of g (T (tm_no (class_at g.catalogue c).tm.0)))
    (local_of g (T (tm_no (class_at g.catalogue c).tm.0)) log) n)
here_t g log c n j q class there is =
    let at : Site = T (tm_no (class_at g.catalogue c).tm.0) in
    let l = local_of g at log in
    let s = setting_of g at in
    let r = in_runs g c class in
    let there_line = at_map (λ (k : ClassState). k.line) (map (class_of s l) (runs s)) r.0 (class_of s l c) (at_map (class_of s l) (runs s) r.0 c r.1) in
    among_here (map (λ (k : ClassState). k.line) (map (class_of s l) (runs s))) n r.0 (class_of s l c).line there_line
    (line_here c (queue s c l) (active s c l) n j q there is)

here_at : (g : Input) (log : Log) (c n j : ℕ) (q : Queued) → IsClass g.catalogue c → slice_get (queue (home_setting g c) c (at_home g c log)) j ≡ Some q
    → q.number ≡ n → IsHere (standing_at standing_at_u standing_at_t (home g.catalogue c) (home_setting g c) (at_home g c log) n)
here_at g log c n j q within there is = grind (arith, slice_get, IsHere, at_u_here, line_here, eqb-true, here_t, positive)

-- and so there is a reason

why_here : (g : Input) (log : Log) (s : Standing) → IsHere s → (w : Why) × (why_of g log s ≡ Some w)
why_here g log standings.Absent h = absurd h
why_here g log (standings.Queued class place) h = (reasons.Queued class place, refl)
why_here g log (standings.Underway class None at) h = (reasons.Underway at, refl)
why_here g log (standings.Underway class (Some ts) at) h = (_, refl)

reason_here : (g : Input) (log : Log) (n : ℕ) → IsPermitted g log → IsQueued g log n
    → (w : Why) × (why_pending g log n ≡ Some w)
reason_here g log n permitted x = grind (arith, submitted_there, here_at, why_here, home_setting, at_home)

-- some record commits it, or it is listed

later_commit : (e : ℕ × Rec) (h : History) (n : ℕ) → WasCommitted h n → WasCommitted (e ∷ h) n
later_commit e h n w = let c = w.commit in record {
  place = suc w.place;
  number = w.number;
  commit = record { reply = c.reply; changes = c.changes; values = c.values; rows = c.rows; is_recorded = c.is_recorded };
}

was_committed : (h : History) (n : ℕ) → list_any (commits n) h ≡ true → WasCommitted h n
was_committed [] n e = cc
was_committed ((event, Commit txn attempt reply changes values rows) ∷ h) n e = elim (either (txn.0 == n) (list_any (commits n) h) e) [
  | inl p ↦
      (let same : Commit txn attempt reply changes values rows ≡ Commit (txn_no n) attempt reply changes values rows =
      ap (λ k. Commit (txn_no k) attempt reply changes values rows) (eqb-true txn.0 n p) in
      record {
        place = 0;
        number = attempt;
        commit = record { reply = reply; changes = changes; values = values; rows = rows; is_recorded = ap (λ r. Some r) same };
      })
  | inr p ↦ later_commit (event, Commit txn attempt reply changes values rows) h n (was_committed h n p)
]
was_committed (x ∷ h) n e = later_commit x h n (was_committed h n e)

listed_at : (f : ℕ × Rec → Option Pending) (h : History) (n k : ℕ) (one : Pending) → IsRecordAt h k (Submit (txn_no n))
    → ((event : ℕ) → f (event, Submit (txn_no n)) ≡ Some one) → (j : ℕ) × (slice_get (filter_map f h) j ≡ Some one)
listed_at f [] n k one e h = cc
listed_at f ((event, r) ∷ rest) n zero one e h = grind arith
listed_at f (x ∷ rest) n (suc k) one e h =
    let i = listed_at f rest n k one e h in
    elim (f x) as (λ o. (j : ℕ) × (slice_get (cons_option o (filter_map f rest)) j ≡ Some one)) [ None ↦ i | Some y ↦ (suc i.0, i.1) ]

pub each_listed : (g : Input) (log : Log) → IsPermitted g log → HasSoundLists g log → AreNumbered g log → (n k : ℕ) → IsSubmitted (history log) n k
    → WasCommitted (history log) n ⊎ IsListed (pending_of g log) n
each_listed g log permitted lists numbered n k submitted =
    elim (list_any (commits n) (history log)) as (λ b. list_any (commits n) (history log) ≡ b
    → WasCommitted (history log) n ⊎ IsListed (pending_of g log) n) [
      | true ↦ λ e. inl (was_committed (history log) n e)
      | false ↦ λ e. elim (committed_or_queued g log permitted lists numbered n k submitted) [
        | inl w ↦ inl w
        | inr x ↦
            let w = reason_here g log n permitted x in
            let left : Pending = record { txn = txn_no n; why = w.0 } in
            let reason = w.1 in
            let i = listed_at (pending_in g log)
            (history log) n k left submitted (λ event. rw e (ap (pending_as (txn_no n)) reason)) in
            inr (record { place = i.0; one = left; there = i.1; txn_is = refl })
      ]
    ] refl
