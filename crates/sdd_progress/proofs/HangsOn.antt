-- What undeclared transactions hang on while modules are down, and who else goes on.
use Rattle.sdd_progress.proofs.All.{AllCommitted, AppliedBefore, AreAllApplied, AreNumbered, Attempt, Committed, CostsNoMore, D, Does, HasSoundLists, Input, IsApplied, IsClass, IsCommitted, IsIdleAtRedeclares, IsModule, IsModuleOf, IsPermitted, IsSoundCatalogue, IsSoundList, IsStill, IsSubmittedIn, Log, None, Option, Queued, Site, Some, T, U, UndeclaredAreDone, WasCommitted, [], active, all_new, ap, applied_before, arith, at_home, at_module, at_place, chain_at, commit_act, commit_of_log, committed_in, contains, copy_module, counts, dec_le, dm_no, false, has_copy, head_of, history, home, inl, inr, is_down, is_met, is_tried, last_served, length, local_of, none_not_some, not, not_both, not_zero, pipe, positive, queue, queue_is, redeclares, refl, same_Some, same_or_not, setting_of, subst, suc, sym, tm_no, true, u_fair, u_table, view_of, zero, zero_head, ℕ, ◌++◌, ◌-◌, ◌<◌, ◌==◌, ◌∙◌, ◌∷◌, ◌≡◌, ◌≤◌, ◌⊎◌}
use Rattle.sdd_obligations.proofs.invariants.HoldChain.{idle_between}
use Rattle.sdd_obligations.proofs.invariants.Queues.{served_head}
use Rattle.sdd_obligations.specs.All.{IsClassOf}
use Rattle.sdd_obligations.specs.invariants.All.{IsServed, starts}
use Rattle.sdd_obligations.specs.site_module.SiteLog as site
use Rattle.sdd_progress.proofs.Committed.{at_home_by, committed_where_none_queued, submitted_class}
use Rattle.sdd_progress.proofs.Dones.{each_counted, from_applied, from_module}
use Rattle.sdd_progress.proofs.Finished.{AllReleased, IsHolding, IsLastServed, NoAttempt, asked_to_hold, holds_where_up, none_held, released_where_counted, served_last}
use Rattle.sdd_progress.proofs.Lacking.{lacks_one, unanswered_at}
use Rattle.sdd_progress.proofs.Lists.{no_head}
use Rattle.sdd_progress.proofs.NoneWaits.{none_under_way, undeclared_needs, undeclared_reader, unmet}
use Rattle.sdd_progress.proofs.Outage.{applied_by_record}
use Rattle.sdd_progress.proofs.ReadsUnderWay.{applied_where_up, read_under_way}
use Rattle.sdd_progress.proofs.Still.{d_site, run_at, runs_place, t_site}
use Rattle.sdd_progress.proofs.WaitedFor.{some_head}
use Rattle.sdd_progress.specs.HangsOn.{HangsOn, HoldsUpUndeclared, WaitsToPass, answer, hold, turn, wait, write}

-- while one is under way, no attempt of a declared class is

more_starts : (g : Input) (log : Log) (a : Attempt) → IsPermitted g log → active (setting_of g U) 0 (local_of g U log) ≡ Some a
    → (last_served (setting_of g U) (local_of g U log)).commits < starts (local_of g U log)
more_starts g log a h e =
    let s = setting_of g U in
    let lu : site.Log = local_of g U log in
    let q = served_head a (queue s 0 lu) (subst (λ o. IsServed o (queue s 0 lu)) e (queue_is s 0 lu (u_fair g log h) (all_new g U log h)).served) in
    elim (is_tried s lu (u_table g log h)) [
      | inl p ↦ (let z = zero_head (queue s 0 lu) q.0 p.1 q.1 in absurd (omega (arith, z, q.4, q.5)))
      | inr p ↦ omega (arith, p.1)
    ]

idle_beside : (g : Input) (log : Log) (a : Attempt) (c : ℕ) → IsPermitted g log → IsSoundCatalogue g.catalogue
    → active (setting_of g U) 0 (local_of g U log) ≡ Some a → (c == 0) ≡ false → IsClass g.catalogue c
    → active (setting_of g (home g.catalogue c)) c (at_home g c log) ≡ None
idle_beside g log a c h sound e z l =
    let r = run_at g.catalogue c sound z l in
    let j = runs_place g c r.t (positive c z) l r.number_is in
    let k = chain_at g (tm_no r.t) log r.from r.to h in
    let more = more_starts g log a h e in
    let idle = idle_between g (tm_no r.t) log h (omega (arith, k.released, k.committed, k.got_held, k.put_held, more)) in
    subst (λ x. active (setting_of g x) c (local_of g x log) ≡ None) (sym r.home_is) (idle j.0 c j.1)

-- how many DONEs came of each module

abbrev HasNone : (ℕ → ℕ) → ℕ → Type 0
HasNone f n = (d : ℕ) × (1 ≤ d) × (d ≤ n) × (f d ≡ 0)

each_or_none : (f : ℕ → ℕ) (n : ℕ) → ((d : ℕ) → 1 ≤ d → d ≤ n → 1 ≤ f d) ⊎ HasNone f n
each_or_none f zero = inl (λ d l m. absurd (omega (arith, l, m)))
each_or_none f (suc n) = elim (dec_le 1 (f (suc n))) [
  | no p ↦ inr (suc n, omega arith, omega arith, omega (arith, p))
  | yes p ↦ elim (each_or_none f n) [
    | inr x ↦ inr (x.0, x.1, omega (arith, x.2), x.3)
    | inl all ↦ inl (λ d l m. elim (dec_le d n) [ yes q ↦ all d l q | no q ↦ (let e : suc n ≡ d = omega (arith, m, q) in subst (λ k. 1 ≤ f k) e p) ])
  ]
]

-- and whether some class has an attempt under way

abbrev HasOne : {A : Type 0} → (ℕ → Option A) → ℕ → Type 0
HasOne {A = A} f n = (c : ℕ) × (1 ≤ c) × (c ≤ n) × (a : A) × (f c ≡ Some a)

none_or_one : {A : Type 0} (f : ℕ → Option A) (n : ℕ) → ((c : ℕ) → 1 ≤ c → c ≤ n → f c ≡ None) ⊎ HasOne f n
none_or_one f zero = inl (λ c l m. absurd (omega (arith, l, m)))
none_or_one f (suc n) = elim (f (suc n)) as (λ o. f (suc n) ≡ o → ((c : ℕ) → 1 ≤ c → c ≤ suc n → f c ≡ None) ⊎ HasOne f (suc n)) [
  | Some a ↦ λ e. inr (suc n, omega arith, omega arith, a, e)
  | None ↦ λ e. elim (none_or_one f n) [
    | inr x ↦ inr (x.0, x.1, omega (arith, x.2), x.3, x.4)
    | inl all ↦ inl (λ c l m. elim (dec_le c n) [ yes q ↦ all c l q | no q ↦ (let k : suc n ≡ c = omega (arith, m, q) in subst (λ j. f j ≡ None) k e) ])
  ]
] refl

-- or something hangs where it doesn't hold

each_or : (P : ℕ → Type 0) (H : Type 0) (n : ℕ) → ((t : ℕ) → 1 ≤ t → t ≤ n → P t ⊎ H) → ((t : ℕ) → 1 ≤ t → t ≤ n → P t) ⊎ H
each_or P H zero f = inl (λ t l m. absurd (omega (arith, l, m)))
each_or P H (suc n) f = elim (each_or P H n (λ t l m. f t l (omega (arith, m)))) [
  | inr x ↦ inr x
  | inl all ↦ elim (f (suc n) (omega arith) (omega arith)) [
    | inr x ↦ inr x
    | inl p ↦ inl (λ t l m. elim (dec_le t n) [ yes q ↦ all t l q | no q ↦ (let e : suc n ≡ t = omega (arith, m, q) in subst P e p) ])
  ]
]

-- the Commit of an attempt of the class is applied at the module
abbrev AppliesAt : Input → Log → ℕ → ℕ → Type 0
AppliesAt g log d c =
    (later before : Log) (bases : site.Bases) (a : Attempt) → log ≡ later ++ Does (home g.catalogue c) (commit_act g.catalogue bases c a) ∷ before
    → active (setting_of g (home g.catalogue c)) c (local_of g (home g.catalogue c) before) ≡ Some a → IsApplied g log (dm_no d) c a

module _ (g : Input) (log : Log) (h : IsStill g log) (lists : HasSoundLists g log) (marks : IsIdleAtRedeclares g log) where
  one : IsSoundList g (redeclares log)
  one = lists (redeclares log) (omega arith)

  sound : IsSoundCatalogue g.catalogue
  sound = one.fits.sound

  abbrev u_active : Option Attempt
  u_active = active (setting_of g U) 0 (local_of g U log)

  -- what is committed is applied at a module that is up

  applied_up : (t : Committed) (d : ℕ) → IsCommitted (history log) t → t.start.class ≡ 0 → IsModule g.catalogue d → is_down (D (dm_no d)) log ≡ false
      → AppliedBefore (history log) t.start.txn d (length (history log))
  applied_up t d c zero_is m up =
      let x = committed_in g log t sound h.permitted c in
      let applied = subst (AppliesAt g log d) (sym zero_is)
      (λ later before bases a is running. applied_where_up g log h sound later before bases a is running d one.fits m up)
      x.later x.before x.bases x.running x.is x.active_is in
      subst (λ n. AppliedBefore (history log) n d (length (history log))) x.txn_is
      (applied_before g log [] log (dm_no d) t.start.class x.running refl h.permitted applied)

  -- and an attempt that is under way lacks answers of modules alone that are down, or at which its READ waits

  waits_to_pass : (a : Attempt) (d : ℕ) → u_active ≡ Some a → contains a.exchange.lacks d ≡ true → is_down (D (dm_no d)) log ≡ false
      → (j : ℕ) × WaitsToPass g log a d j
  waits_to_pass a d e lack up =
      let x = unanswered_at g log 0 d a h one.fits (omega arith) refl e lack (λ m q. up) in
      let u = x.0.unanswered in
      let first = some_head (pipe 0 (at_module g u.d log)).unprocessed u.place u.message u.there in
      let r = undeclared_reader g log u.d first.0 h u.module_is x.0.up first.1 in
      let run = read_under_way g log r.ts r.conds r.reader h.permitted sound in
      let at : r.reader.d ≡ d = r.at ∙ x.1 in
      let is_up : is_down (D (dm_no r.reader.d)) log ≡ false = subst (λ n. is_down (D (dm_no n)) log ≡ false) (sym at) up in
      let y = unmet g log 0 r.ts r.conds r.reader h is_up in (
        y.cond.class.0,
        record {
          ts = r.ts;
          conds = r.conds;
          its = sym run.2 ∙ ap (λ (z : Attempt). z.ts) (same_Some run.0 a (sym run.1 ∙ e));
          reader = r.reader;
          at = at;
          place = y.place;
          cond = y.cond;
          there = y.there;
          names = refl;
          unmet = subst (λ n. is_met (view_of (setting_of g (D (dm_no n))) (at_module g n log)) y.cond ≡ false) at y.unmet;
          needs = undeclared_needs g log h one marks r.ts r.conds r.reader is_up y;
        },
      )

  lacks_so : (a : Attempt) (d : ℕ) → u_active ≡ Some a → contains a.exchange.lacks d ≡ true
      → (is_down (D (dm_no d)) log ≡ true) ⊎ ((j : ℕ) × WaitsToPass g log a d j)
  lacks_so a d e lack = elim (is_down (D (dm_no d)) log) as (λ b. is_down (D (dm_no d)) log ≡ b
      → (is_down (D (dm_no d)) log ≡ true) ⊎ ((j : ℕ) × WaitsToPass g log a d j)) [
        | true ↦ λ p. inl p
        | false ↦ λ p. inr (waits_to_pass a d e lack p)
      ] refl

  under_way_hangs : (a : Attempt) → u_active ≡ Some a → HangsOn g log
  under_way_hangs a e =
      let d = lacks_one g log 0 a h one.fits (omega arith) refl e in
      elim (lacks_so a d.0 e d.1) [ inl down ↦ answer a d.0 e d.1 d.2 down | inr w ↦ wait a d.0 w.0 e w.1 ]

  -- where none is under way, the last one is applied nowhere that is down, or one hangs there

  write_hangs : (last : IsLastServed g log) (d : ℕ) → IsModule g.catalogue d → from_module last.attempt.ts (local_of g U log) d ≡ 0 → HangsOn g log
  write_hangs last d m none =
      let c = commit_of_log g log last.later last.before 0 last.bases last.attempt sound h.permitted last.is last.active_is in
      let t : Committed = c.committed in
      let unapplied : ¬ AppliedBefore (history log) t.start.txn d (length (history log)) = λ x.
      (let y = applied_by_record g log sound h.permitted last.later last.before last.bases last.attempt last.is last.active_is d x in
      let n = from_applied g log d last.attempt h sound m y in omega (arith, n, none)) in
      let down : is_down (D (dm_no d)) log ≡ true = elim (is_down (D (dm_no d)) log) as (λ b. is_down (D (dm_no d)) log ≡ b → b ≡ true) [
        | true ↦ λ p. refl
        | false ↦ λ p. absurd (unapplied (applied_up t d c.is_committed c.class_is m p))
      ] refl in
      write t d c.is_committed c.class_is unapplied m down

  all_released : AllReleased g log ⊎ HangsOn g log
  all_released = elim (dec_le 1 (last_served (setting_of g U) (local_of g U log)).commits) [
    | no p ↦ inl (λ t l m. released_where_counted g log t h l m (λ some. absurd (omega (arith, p, some))))
    | yes p ↦ (let last = served_last g log h.permitted p in
        elim (each_or_none (from_module last.attempt.ts (local_of g U log)) g.catalogue.dms) [
          | inr x ↦ inr (write_hangs last x.0 (x.1, x.2) x.3)
          | inl all ↦ inl (λ t l m. released_where_counted g log t h l m
              (λ some. each_counted g log (t - 1) t last.attempt h.permitted (at_place g.catalogue.tms t l m) last.ts_is
              (λ d from to. all d from (omega (arith, to)))))
        ])
  ]

  -- and once it is released the next one starts, or an attempt of a declared class is under way

  none_else : u_active ≡ None → ((c : ℕ) → 1 ≤ c → c ≤ length g.catalogue.classes
      → active (setting_of g (home g.catalogue c)) c (at_home g c log) ≡ None) → NoAttempt g log
  none_else idle none c l = elim (same_or_not c 0) [
    | inl p ↦ subst (λ k. active (setting_of g (home g.catalogue k)) k (at_home g k log) ≡ None) (sym p) idle
    | inr z ↦ none c (positive c z) l
  ]

  -- once each transaction module holds for it

  holds_or_hangs : AllReleased g log → NoAttempt g log → (q : Queued) → head_of (queue (setting_of g U) 0 (local_of g U log)) ≡ Some q
      → (t : ℕ) → 1 ≤ t → t ≤ g.catalogue.tms → IsHolding g log t ⊎ HangsOn g log
  holds_or_hangs all idle q e t l m =
      elim (is_down (T (tm_no t)) log) as (λ b. is_down (T (tm_no t)) log ≡ b → IsHolding g log t ⊎ HangsOn g log) [
        | false ↦ λ up. inl (holds_where_up g log q t h all idle e l m (ap not up))
        | true ↦ λ down. (let n : ℕ = (last_served (setting_of g U) (local_of g U log)).commits in
            let c = chain_at g (tm_no t) log l m h.permitted in
            let asked = (asked_to_hold g log q t h all e l m).1 in
            elim (dec_le (counts t (local_of g U log)).helds n) [
              | yes few ↦ inr (hold q t e (t_site g.catalogue t l m) down few)
              | no more ↦ inl (asked, omega (arith, more, c.put_held, c.got_hold, c.put_hold, c.one_ahead, c.committed))
            ])
      ] refl

  none_waiting : AllReleased g log → NoAttempt g log → (o : Option Queued) → head_of (queue (setting_of g U) 0 (local_of g U log)) ≡ o
      → (queue (setting_of g U) 0 (local_of g U log) ≡ []) ⊎ HangsOn g log
  none_waiting all idle None e = inl (no_head (queue (setting_of g U) 0 (local_of g U log)) e)
  none_waiting all idle (Some q) e = elim (each_or (IsHolding g log) (HangsOn g log) g.catalogue.tms (holds_or_hangs all idle q e)) [
    | inr hangs ↦ inr hangs
    | inl holding ↦ inl (no_head (queue (setting_of g U) 0 (local_of g U log))
        (none_held g log h sound (idle 0 (omega arith)) (λ p f. holding) (head_of (queue (setting_of g U) 0 (local_of g U log))) refl))
  ]

  none_queued : u_active ≡ None → AllReleased g log → (queue (setting_of g U) 0 (local_of g U log) ≡ []) ⊎ HangsOn g log
  none_queued idle all =
      let running : ℕ → Option Attempt = λ c. active (setting_of g (home g.catalogue c)) c (at_home g c log) in
      elim (none_or_one running (length g.catalogue.classes)) [
        | inl none ↦ none_waiting all (none_else idle none) (head_of (queue (setting_of g U) 0 (local_of g U log))) refl
        | inr x ↦ (let class : IsClassOf g.catalogue x.0 = record { from = x.1; to = x.2 } in
            inr (turn x.0 x.3 class x.4
            (λ up. none_not_some (running x.0) x.3 (none_under_way g log h one marks x.0 (not_zero x.0 x.1) class up) x.4)))
      ]

  none_pending : (queue (setting_of g U) 0 (local_of g U log) ≡ []) ⊎ HangsOn g log
  none_pending = elim u_active as (λ o. u_active ≡ o → (queue (setting_of g U) 0 (local_of g U log) ≡ []) ⊎ HangsOn g log) [
    | Some a ↦ λ e. inr (under_way_hangs a e)
    | None ↦ λ e. elim all_released [ inl all ↦ none_queued e all | inr x ↦ inr x ]
  ] refl

  committed : (n : ℕ) → IsSubmittedIn g log n 0 → WasCommitted (history log) n ⊎ HangsOn g log
  committed n submitted = elim none_pending [
    | inr x ↦ inr x
    | inl none ↦ (let x = at_home_by g log h.permitted lists n 0 submitted in
        inl (committed_where_none_queued g log n h.permitted x.0
        (subst (λ k. queue (setting_of g (home g.catalogue k)) k (at_home g k log) ≡ []) (sym x.1) none)))
  ]

  pub holds_up_undeclared : HoldsUpUndeclared g log
  holds_up_undeclared = record {
    committed = committed;
    none_pending = none_pending;
    applied = applied_up;
    lacking = lacks_so;
    alone = λ a c e class. idle_beside g log a c h.permitted sound e (not_zero c class.from) class.to;
    ended = λ c class up. none_under_way g log h one marks c (not_zero c class.from) class up;
  }

-- where no module is down nothing hangs, so all is committed and applied

none_hangs : (g : Input) (log : Log) → ((at : Site) → IsModuleOf g at → is_down at log ≡ false) → HangsOn g log → ⊥
none_hangs g log up (answer a d e lacks m down) = not_both (is_down (D (dm_no d)) log) down (up (D (dm_no d)) (d_site g.catalogue d m))
none_hangs g log up (wait a d j e w) = w.needs (λ at m n. up at m)
none_hangs g log up (hold q t e m down few) = not_both (is_down (T (tm_no t)) log) down (up (T (tm_no t)) m)
none_hangs g log up (write t d c class unapplied m down) = not_both (is_down (D (dm_no d)) log) down (up (D (dm_no d)) (d_site g.catalogue d m))
none_hangs g log up (turn c a class e needs) = needs (λ at m n. up at m)

not_hanging : {P : Type 0} (g : Input) (log : Log) → ((at : Site) → IsModuleOf g at → is_down at log ≡ false) → P ⊎ HangsOn g log → P
not_hanging g log up (inl p) = p
not_hanging g log up (inr x) = absurd (none_hangs g log up x)

pub outage_settles : (g : Input) (log : Log) → IsPermitted g log → AreNumbered g log → CostsNoMore g log → HoldsUpUndeclared g log
    → ((at : Site) → IsModuleOf g at → is_down at log ≡ false) → AllCommitted (history log)
outage_settles g log h numbered costs undeclared up n k submitted =
    let done : UndeclaredAreDone g log = record {
      none_pending = not_hanging g log up undeclared.none_pending;
      applied = λ t d c class m. undeclared.applied t d c class m (up (D (dm_no d)) (d_site g.catalogue d m));
    } in
    let s = submitted_class g log h numbered n k submitted in
    elim (same_or_not s.0 0) [
      | inl p ↦ not_hanging g log up (undeclared.committed n (subst (IsSubmittedIn g log n) p s.1))
      | inr z ↦ costs.committed done n s.0 s.1 (positive s.0 z) (λ at m x. up at m)
    ]

pub outage_leaves : (g : Input) (log : Log) (f d : ℕ) → IsSoundCatalogue g.catalogue → CostsNoMore g log → HoldsUpUndeclared g log
    → ((at : Site) → IsModuleOf g at → is_down at log ≡ false) → has_copy g.catalogue d f ≡ true → AreAllApplied (history log) f d (length (history log))
outage_leaves g log f d sound costs undeclared up copied t c e =
    let m = copy_module g.catalogue sound d f copied in
    let here = up (D (dm_no d)) (d_site g.catalogue d m) in
    elim (same_or_not t.start.class 0) [
      | inl p ↦ undeclared.applied t d c p m here
      | inr z ↦ costs.applied t f d c (positive t.start.class z) e copied here (λ at n x. up at n)
    ]
