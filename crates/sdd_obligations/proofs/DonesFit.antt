-- A DONE that is next to be handed over answers the last Commit of U, and is the first of its module.
use Rattle.sdd_obligations.proofs.All.{Act, Attempt, Bases, Bool, Commit, D, Did, DmNo, Does, Done, Each, FitsDone, Hand, Handed, Input, IsDoneBy, IsFair, IsFairU, IsPermitted, IsStepU, List, Log, Msg, NoRecord, Queued, Records, Setting, Some, Ts, U, Write, [], active, ap, append_assoc, arith, class_number, commit_act, compare, dones_few, dones_of, each_at, false, hand_ts, handed, head_put, inl, inr, is_done, is_done_of, is_recorded, last_served, local_grows, local_of, next_stamp, numbers_to, one_if, own_act, permitted_before, place_of_act, put_in_by_d, put_once, puts_to, refl, same_number, setting_of, slice_get, start_at, start_of_active, start_u, subst, sym, tally, true, true_or_false, ts_of, u_due, u_fair, u_table, u_way, write_origin, zero_pair, ℕ, ◌++◌, ◌+◌, ◌<◌, ◌∙◌, ◌∷◌, ◌≡◌, ◌≤◌, ◌⊎◌}
use Rattle.sdd_obligations.proofs.Answering.{none_before}
use Rattle.sdd_invariants.specs.site_module.SiteLog.{Entry}
use Rattle.sdd_invariants.specs.site_module.SiteLog as site

-- the first of its module

same_tally : (ts : ℕ) (ms : List Msg) → tally (is_done ts) ms ≡ tally (is_done_of ts) ms
same_tally ts ms = grind (arith, one_if)

-- what was served last: since a Commit, unless there was another

abbrev is_commit : Act → Bool
is_commit (Records k (Commit txn attempt reply changes values rows) sends) = true
is_commit _ = false

-- another Commit after it
record IsAgain (y : Act) (x : site.Log) : Type 0 where
  pub later : site.Log
  pub act : Act
  pub between : site.Log
  pub is : x ≡ later ++ Did act ∷ between
  pub commits : is_commit act ≡ true

more_again : (y : Act) (e : Entry) (x : site.Log) → IsAgain y x → IsAgain y (e ∷ x)
more_again y e x h = record { later = e ∷ h.later; act = h.act; between = h.between; is = ap (λ l. e ∷ l) h.is; commits = h.commits }

abbrev ServedOr : Setting → ℕ → Act → site.Log → site.Log → Type 0
ServedOr s t y b x = ((last_served s (x ++ Did y ∷ b)).ts ≡ t) ⊎ IsAgain y x

served_did : (s : Setting) (t : ℕ) (y : Act) (b : site.Log) (act : Act) (x : site.Log) → ServedOr s t y b x → ServedOr s t y b (Did act ∷ x)
served_did s t y b act x h = elim (true_or_false (is_commit act)) [
  | inl p ↦ inr (record { later = []; act = act; between = x; is = refl; commits = p })
  | inr p ↦ grind (arith, active, last_served, more_again)
]

served_or : (s : Setting) (t : ℕ) (y : Act) (b : site.Log) → (last_served s (Did y ∷ b)).ts ≡ t → (x : site.Log) → ServedOr s t y b x
served_or s t y b e [] = inl e
served_or s t y b e (Handed from m ∷ x) = grind (arith, hand_ts, more_again, (served_or s t y b e x))
served_or s t y b e (Did act ∷ x) = served_did s t y b act x (served_or s t y b e x)
served_or s t y b e (w ∷ x) = elim (served_or s t y b e x) [ inl q ↦ inl q | inr q ↦ inr (more_again y w x q) ]

-- a Commit at U is of the active attempt
abbrev IsOfActive : Setting → site.Log → Act → Type 0
IsOfActive s l act = is_commit act ≡ true → (a : Attempt) × (active s 0 l ≡ Some a)

commit_active : (s : Setting) (l : site.Log) (act : Act) → IsStepU s l act → IsOfActive s l act
commit_active s l act = u_way s l act (IsOfActive s l) (λ q i z r e. cc) (λ bases a i e. (a, i)) (λ d m a i e. cc) (λ t ts i p e. cc) (λ t i e. cc)

no_record_at : (c : ℕ) (z : site.Log) (e : Entry) (w : site.Log) → NoRecord c (z ++ e ∷ w) → is_recorded c e ≡ false
no_record_at c [] e w h = h.0
no_record_at c (x ∷ z) e w h = no_record_at c z e w h.1

-- so between two Commits of U a Start stands
record HasStartIn (s : Setting) (y : Act) (b l : site.Log) : Type 0 where
  pub later : site.Log
  pub between : site.Log
  pub queued : Queued
  pub is : l ≡ later ++ Did (start_at s 0 (between ++ Did y ∷ b) queued) ∷ (between ++ Did y ∷ b)

start_between : (s : Setting) (y : Act) (b l : site.Log) (a : Attempt) (front : site.Log) → is_commit y ≡ true → is_recorded 0 (Did y) ≡ true
    → Each (IsFair s) l → active s 0 l ≡ Some a → l ≡ front ++ Did y ∷ b → HasStartIn s y b l
start_between s y b l a front c r f e is =
    let st = start_of_active s 0 l a f e in
    elim (compare front st.later (Did y) (Did (start_at s 0 st.before st.queued)) b st.before (sym is ∙ st.is)) [
      | inl u ↦ absurd (let p : y ≡ start_at s 0 st.before st.queued = cc in
          let f : is_commit (start_at s 0 st.before st.queued) ≡ true = subst (λ a. is_commit a ≡ true) p c in cc)
      | inr u ↦ elim u [
        | inl v ↦ grind (arith, start_at)
        | inr v ↦ (let n = no_record_at 0 front (Did y) v.between
            (subst (NoRecord 0) v.front st.none_since) in let z : ◌≡◌ {A = Bool} true false = sym r ∙ n in cc)
      ]
    ]

dones_up : (x : ℕ) (later l : site.Log) → dones_of x l ≤ dones_of x (later ++ l)
dones_up x [] l = omega arith
dones_up x (Handed from m ∷ later) l = let i = dones_up x later l in omega (arith, i)
dones_up x (_ ∷ later) l = dones_up x later l

-- at such a Start every module's DONE for the Commit before it was handed
all_done : (g : Input) (k t : ℕ) (log : Log) (y : Act) (b : site.Log) (a : Attempt) → slice_get (numbers_to g.catalogue.tms) k ≡ Some t
    → IsPermitted g log → HasStartIn (setting_of g U) y b (local_of g U log) → Each (IsFair (setting_of g U)) b
    → active (setting_of g U) 0 b ≡ Some a → g.catalogue.dms ≤ dones_of a.ts (local_of g U log)
all_done g k t log y b a i h w fair e =
    let s : Setting = setting_of g U in
    let p = place_of_act g U log w.later (start_at s 0 (w.between ++ Did y ∷ b) w.queued) (w.between ++ Did y ∷ b) w.is in
    let st = start_of_active s 0 b a fair e in
    let here : local_of g U p.rest ≡ (w.between ++ Did y ∷ st.later) ++ Did
    (start_at s 0 st.before st.queued) ∷ st.before = p.local_is ∙ ap (λ x. w.between ++ Did y ∷ x) st.is
    ∙ sym (append_assoc w.between (Did y ∷ st.later) (Did (start_at s 0 st.before st.queued) ∷ st.before))
    in
    let q = place_of_act g U p.rest (w.between ++ Did y ∷ st.later) (start_at s 0 st.before st.queued) st.before here in
    let start : start_at s 0 (w.between ++ Did y ∷ b) w.queued ≡ start_u g p.rest w.queued = ap (λ x. start_at s 0 x w.queued) (sym p.local_is) in
    let first : start_at s 0 st.before st.queued ≡ start_u g q.rest st.queued = ap (λ x. start_at s 0 x st.queued) (sym q.local_is) in
    let hp : IsPermitted g (Does U (start_at s 0 (w.between ++ Did y ∷ b) w.queued) ∷ p.rest) =
    permitted_before g p.later (Does U (start_at s 0 (w.between ++ Did y ∷ b) w.queued) ∷ p.rest) (subst (IsPermitted g) p.is h) in
    let z = zero_pair g k t p.rest q.later q.rest w.queued st.queued i
    (subst (λ x. IsPermitted g (Does U x ∷ p.rest)) start hp) (q.is ∙ ap (λ x. q.later ++ Does U x ∷ q.rest) first) in
    let stamp : next_stamp s (local_of g U q.rest) ≡ a.ts = ap (next_stamp s) q.local_is ∙ sym st.ts_is in
    let got : g.catalogue.dms ≤ dones_of a.ts (local_of g U p.rest) = subst (λ x. g.catalogue.dms ≤ dones_of x (local_of g U p.rest)) stamp z.0 in
    let x = local_grows g U (p.later ++ Does U (start_at s 0 (w.between ++ Did y ∷ b) w.queued) ∷ []) p.rest in
    let whole : local_of g U log ≡ x.0 ++ local_of g U p.rest =
    ap (local_of g U) (p.is ∙ sym (append_assoc p.later (Does U (start_at s 0 (w.between ++ Did y ∷ b) w.queued) ∷ []) p.rest)) ∙ x.1 in
    omega (arith, got, (subst (λ l. dones_of a.ts (local_of g U p.rest) ≤ dones_of a.ts l) (sym whole) (dones_up a.ts x.0 (local_of g U p.rest))))

-- so no other Commit stands after that of a DONE that is still to come
commit_last : (g : Input) (k t : ℕ) (log : Log) (bases : Bases) (a : Attempt) (x b : site.Log) → slice_get (numbers_to g.catalogue.tms) k ≡ Some t
    → IsPermitted g log → local_of g U log ≡ x ++ Did (commit_act g.catalogue bases 0 a) ∷ b → active (setting_of g U) 0 b ≡ Some a
    → dones_of a.ts (local_of g U log) < g.catalogue.dms → (last_served (setting_of g U) (local_of g U log)).ts ≡ a.ts
commit_last g k t log bases a x b i h e act less =
    let s : Setting = setting_of g U in
    let y : Act = commit_act g.catalogue bases 0 a in
    let start : (last_served s (Did y ∷ b)).ts ≡ a.ts = ap ts_of act in
    elim (served_or s a.ts y b start x) [
      | inl q ↦ ap (λ l. (last_served s l).ts) e ∙ q
      | inr q ↦ (let whole : local_of g U log ≡ q.later ++ Did q.act ∷ (q.between ++ Did y ∷ b) =
          e ∙ ap (λ l. l ++ Did y ∷ b) q.is ∙ append_assoc q.later (Did q.act ∷ q.between) (Did y ∷ b) in
          let u = each_at (IsFairU s) q.later (Did q.act) (q.between ++ Did y ∷ b) (subst (Each (IsFairU s)) whole (u_table g log h)) in
          let v = each_at (IsFair s) q.later (Did q.act) (q.between ++ Did y ∷ b) (subst (Each (IsFair s)) whole (u_fair g log h)) in
          let c = commit_active s (q.between ++ Did y ∷ b) q.act (u_due s u.0.0.0 (q.between ++ Did y ∷ b) q.act u.0.0.1) q.commits in
          let w = start_between s y b (q.between ++ Did y ∷ b) c.0 q.between refl refl v.1 c.1 refl in
          let again : HasStartIn s y b (local_of g U log) =
          record {
            later = q.later ++ Did q.act ∷ w.later;
            between = w.between;
            queued = w.queued;
            is =
                grind (arith, append_assoc, start_at);
          } in
          absurd (omega (arith, all_done g k t log y b a i h again (each_at (IsFair s) q.between (Did y) b v.1).1 act, less)))
    ]

pub done_fits : (g : Input) (k t : ℕ) (log : Log) (d : DmNo) (n : ℕ) (ts : Ts) → slice_get (numbers_to g.catalogue.tms) k ≡ Some t
    → IsPermitted g (Hand (D d) U n (Done ts) ∷ log) → slice_get (puts_to U (local_of g (D d) log)) (handed (D d) U log) ≡ Some (Done ts)
    → FitsDone (setting_of g U) (local_of g U log) (D d) ts.0
done_fits g k t log d n ts i h e =
    let p = put_in_by_d g log d U (handed (D d) U log) (Done ts) h.1 e in
    let by : IsDoneBy (setting_of g (D d)) (local_of g (D d) p.before) U p.act ts = p.by in
    let hb = (permitted_before g p.later (Does (D d) p.act ∷ p.before) (subst (IsPermitted g) p.is h.1)).1 in
    let put = head_put g 0 d p.before (Write ts by.class by.txn by.changes) hb by.head_is in
    let o = write_origin g p.before 0 d ts by.class by.txn by.changes (class_number by.class.0 0 ts.0 put.of_class) put in
    let y : Act = commit_act g.catalogue o.bases 0 o.attempt in
    let front : Log = p.later ++ Does (D d) p.act ∷ o.later in
    let whole : log ≡ front ++ Does U y ∷ o.before = p.is ∙ ap (λ l. p.later ++ Does (D d) p.act ∷ l) o.is
    ∙ sym (append_assoc p.later (Does (D d) p.act ∷ o.later) (Does U y ∷ o.before)) in
    let x = local_grows g U front (Does U y ∷ o.before) in
    let here : local_of g U log ≡ x.0 ++ Did y ∷ local_of g U o.before = ap (local_of g U) whole ∙ x.1 ∙ ap (λ l. x.0 ++ l) (own_act g U y o.before) in
    let few = dones_few g (Hand (D d) U n (Done ts) ∷ log) ts.0 h in
    let one : one_if (is_done_of ts.0 (Done ts)) ≡ 1 = ap one_if (same_number ts.0) in
    let grown : dones_of ts.0 (local_of g U (Hand (D d) U n (Done ts) ∷ log)) ≡ one_if (is_done_of ts.0 (Done ts)) + dones_of ts.0 (local_of g U log) = refl in
    let less : dones_of o.attempt.ts (local_of g U log) < g.catalogue.dms =
    subst (λ q. dones_of q (local_of g U log) < g.catalogue.dms) o.ts_is (omega (arith, few, grown, one))
    in
    let c = commit_last g k t log o.bases o.attempt x.0 (local_of g U o.before) i h.1 here o.active_is less in
    let le = put_once g log ts.0 d h.1 in let same = same_tally ts.0 (puts_to U (local_of g (D d) log)) in
    record { current = c ∙ sym o.ts_is; first = none_before g (D d) U log (is_done ts.0) (Done ts) h.1 e (same_number ts.0) (omega (arith, le, same)) }
