-- Where nothing goes on, a READ that waits at a module that is up does so because of another READ that waits at one: an
-- earlier one of the class that it waits for, or one that holds back a WRITE of that class; if the modules are up that the
-- class asks.
use Rattle.sdd_progress.proofs.All.{Ask, Attempt, Change, ClassNo, ClassView, Cond, D, FitsInput, Input, IsBelow, IsClass, IsEarlierReader, IsHolder, IsModule, IsReader, IsRising, IsStill, IsStuck, IsThere, List, Log, Msg, None, Null, Option, Read, Setting, Site, Some, T, Ts, TxnNo, View, Write, [], active, all_of, and_left, and_right, any_at, ap, append-nil, append_assoc, arith, ask_for, at_home, at_map, at_module, class_at_place, class_in, class_in_view, class_rises, d_fair, dm_no, eqb-true, false, goes_through, hands_from, head, head_below, head_of, head_stuck, holds_back, home, home_of, if◌then◌else◌, inl, inr, is_down, is_met, is_put, le_is, least_at, list_any, local_of, map, nat_le, not, not_both, passed, passed_lasts, pipe, place_within, positive, puts_to, reached_is_passed, read_time, refl, same_number, same_site, sends_of_act, setting_of, since, site_self, slice_get, small_home, source_is_home, source_of, subst, suc, sym, t_table, takes_part, time_of, tm_no, to_site, touches, true, true_or_false, view_of, waits, zero, ℕ, ◌&&◌, ◌++◌, ◌<◌, ◌==◌, ◌∙◌, ◌∷◌, ◌≡◌, ◌≤◌, ◌⊎◌}
use Rattle.sdd_progress.proofs.Applied.{pipe_has_all}
use Rattle.sdd_progress.proofs.Handed.{all_handed}
use Rattle.sdd_progress.proofs.Lacking.{AsksUp, has_unanswered}
use Rattle.sdd_progress.proofs.Lists.{kept_there, no_head}
use Rattle.sdd_progress.proofs.Questions.{covered, open_is_blocked}
use Rattle.sdd_progress.proofs.Still.{d_still, home_linked, run_at, runs_place, t_still}
use Rattle.sdd_obligations.specs.dm.Due.{holds}
use Rattle.sdd_obligations.specs.site_module.SiteLog as site

-- times in pipes

pub pipe_rises : (g : Input) (log : Log) (c d : ℕ) → IsStill g log → FitsInput g → IsClass g.catalogue c → IsModule g.catalogue d
    → is_down (D (dm_no d)) log ≡ false → IsRising (map time_of (all_of (pipe c (at_module g d log))))
pipe_rises g log c d h good l m up =
    subst (λ ms. IsRising (map time_of ms)) (sym (pipe_has_all g log c d h good.sound l m up))
    (class_rises g c (dm_no d) log h.permitted (small_home g.catalogue good.sound c l))

pub first_le : (ms : List Msg) (k : ℕ) (x m : Msg) → IsRising (map time_of ms) → head_of ms ≡ Some x → slice_get ms k ≡ Some m → time_of x ≤ time_of m
first_le [] k x m h e f = cc
first_le (y ∷ ms) zero x m h e f = let p : y ≡ x = cc in let q : y ≡ m = cc in let same : time_of x ≡ time_of m = ap time_of (sym p ∙ q) in omega (arith, same)
first_le (y ∷ ms) (suc k) x m h e f =
    let p : y ≡ x = cc in
    omega (arith, least_at (time_of y) ms k m h.0 f, ap time_of p)

pub rising_right : (xs ys : List Msg) → IsRising (map time_of (xs ++ ys)) → IsRising (map time_of ys)
rising_right [] ys h = h
rising_right (x ∷ xs) ys h = rising_right xs ys h.1

pub some_head : (ms : List Msg) (k : ℕ) (m : Msg) → slice_get ms k ≡ Some m → (x : Msg) × (head_of ms ≡ Some x)
some_head [] k m e = cc
some_head (x ∷ ms) k m e = (x, refl)

-- the message of class j that is next at a module that is up has a time before t
pub record IsBelowUp (g : Input) (log : Log) (j t : ℕ) : Type 0 where
  pub here : IsBelow g log j t
  pub up : is_down (D (dm_no here.d)) log ≡ false

-- an active attempt before t keeps a message before t next at some module
below_attempt : (g : Input) (log : Log) (c : ℕ) (a : Attempt) (t : ℕ) → IsStill g log → FitsInput g → IsClass g.catalogue c → AsksUp g log c
    → active (setting_of g (home g.catalogue c)) c (at_home g c log) ≡ Some a → a.ts < t → IsBelowUp g log c t
below_attempt g log c a t h good l ups e below =
    let w = has_unanswered g log c a h good l ups e in
    let u = w.unanswered in
    let p = pipe c (at_module g u.d log) in
    let x = some_head p.unprocessed u.place u.message u.there in
    let le =
    first_le p.unprocessed u.place x.0 u.message (rising_right p.processed p.unprocessed (pipe_rises g log c u.d h good l u.module_is w.up)) x.1 u.there in
    let time = read_time a.ts c u.message u.is_its in
    record { here = record { d = u.d; module_is = u.module_is; message = x.0; head_is = x.1; below = omega (arith, le, time, below) }; up = w.up }

-- what the site of a class put for a module came to its pipe

in_class : (c : ℕ) (ms : List Msg) (k : ℕ) (m : Msg) → slice_get ms k ≡ Some m → goes_through c m ≡ true → IsThere (class_in c ms) m
in_class c ms k m e f = kept_there (goes_through c) ms k m e f

put_in_pipe : (g : Input) (log : Log) (c d k : ℕ) (m : Msg) → IsStill g log → FitsInput g → IsClass g.catalogue c → IsModule g.catalogue d
    → is_down (D (dm_no d)) log ≡ false → slice_get (puts_to (D (dm_no d)) (at_home g c log)) k ≡ Some m → goes_through c m ≡ true
    → IsThere (all_of (pipe c (at_module g d log))) m
put_in_pipe g log c d k m h good l w up e f =
    subst (λ ms. IsThere ms m) (sym (pipe_has_all g log c d h good.sound l w up)) (in_class c (puts_to (D (dm_no d)) (at_home g c log)) k m e f)

-- an ASK of a READ that waits, where its class has nothing next at the module

asked : (g : Input) (log : Log) (j d n : ℕ) (c : ClassNo) (t : Ts) → IsStill g log → FitsInput g
    → IsModule g.catalogue d → (j == 0) ≡ false → IsClass g.catalogue j
    → c.0 ≡ j → slice_get (puts_to (home g.catalogue j) (at_module g d log)) n ≡ Some (Ask c t) → passed (pipe j (at_module g d log)) t.0 ≡ false
    → head (pipe j (at_module g d log)) ≡ None → is_down (D (dm_no d)) log ≡ false → AsksUp g log j → IsBelowUp g log j t.0
asked g log j d n c t h good m z l same put not_yet empty up ups =
    let run = run_at g.catalogue j good.sound z l in
    let at : Site = T (tm_no run.t) in
    let lt : site.Log = local_of g at log in
    let linked = home_linked g.catalogue j d good.sound l m in
    let got : slice_get (hands_from (D (dm_no d)) (at_home g j log)) n ≡ Some (Ask c t) =
    ap (λ ms. slice_get ms n) (all_handed g log (D (dm_no d)) (home g.catalogue j) h ups.0 linked.1) ∙ put in
    let here : slice_get (hands_from (D (dm_no d)) lt) n ≡ Some (Ask c t) =
    subst (λ x. slice_get (hands_from (D (dm_no d)) (local_of g x log)) n ≡ Some (Ask c t)) run.home_is
    got in
    let place = runs_place g j run.t (positive j z) l run.number_is in
    elim (covered (setting_of g at) (D (dm_no d)) lt (t_table g (tm_no run.t) log h.permitted) n c t here) [
      | inl o ↦ (
          let part = subst (λ x. takes_part x log ≡ true) run.home_is ups.0 in
          let e = open_is_blocked (setting_of g at) lt place.0 j o.question place.1 (t_still g log run.t h run.from run.to part).nulls o.there
          (o.class ∙ same) in
          let mine : active (setting_of g (home g.catalogue j)) j (at_home g j log) ≡ Some e.attempt =
          subst (λ x. active (setting_of g x) j (local_of g x log) ≡ Some e.attempt) (sym run.home_is) e.active_is in
          let b = e.below in
          let time = o.time in
          below_attempt g log j e.attempt t.0 h good l ups mine (omega (arith, b, time)))
      | inr w ↦ (
          let at_home_put : slice_get (puts_to (D (dm_no d)) (at_home g j log)) w.place ≡ Some
          (Null c w.time) = subst (λ x. slice_get (puts_to (D (dm_no d)) (local_of g x log))
          w.place ≡ Some (Null c w.time)) (sym run.home_is) w.put in
          let through : goes_through j (Null c w.time) ≡ true = subst (λ x. (x == j) ≡ true) (sym same) (same_number j) in
          let i = put_in_pipe g log j d w.place (Null c w.time) h good l m up at_home_put through in
          let p = pipe j (at_module g d log) in
          let all = (ap (λ ms. p.processed ++ ms) (no_head p.unprocessed empty) ∙ append-nil p.processed) in
          let within = place_within p.processed i.0 (Null c w.time) (subst (λ ms. slice_get ms i.0 ≡ Some (Null c w.time)) all i.1) in
          let now = reached_is_passed p t.0 (pipe_rises g log j d h good l m up) (record {
            place = i.0;
            msg = Null c w.time;
            there = i.1;
            reaches = w.late;
            up_to_head = omega (arith, within);
          }) in
          absurd (not_both (passed p t.0) now not_yet))
    ]

-- the ASK of a condition that wasn't met when the READ began to wait

sent_to : (b : Site) (xs : List (Site × Msg)) (k : ℕ) (m : Msg) → slice_get xs k ≡ Some (b, m) → IsThere (to_site b xs) m
sent_to b [] k m e = cc
sent_to b (x ∷ xs) zero m e = grind (arith, site_self)
sent_to b (x ∷ xs) (suc k) m e =
    let i = sent_to b xs k m e in
    elim (same_site b x.0) as (λ c. IsThere (if c then x.1 ∷ to_site b xs else to_site b xs) m) [ true ↦ (suc i.0, i.1) | false ↦ i ]

abbrev conds_of : Option Msg → List Cond
conds_of (Some (Read ts of txn attempt conds uses)) = conds
conds_of _ = []

-- what a READ that waits lacks now it lacked when it began to wait
ask_put : (g : Input) (log : Log) (c ts : ℕ) (conds : List Cond) (r : IsReader g log c ts conds) (n : ℕ) (x : Cond) → IsStill g log → FitsInput g
    → is_down (D (dm_no r.d)) log ≡ false → slice_get conds n ≡ Some x → IsClass g.catalogue x.class.0
    → passed (pipe x.class.0 (at_module g r.d log)) x.time.0 ≡ false
    → (k : ℕ) × (slice_get (puts_to (home g.catalogue x.class.0) (at_module g r.d log)) k ≡ Some (Ask x.class x.time))
ask_put g log c ts conds r n x h good up e l not_yet =
    let s : Setting = setting_of g (D (dm_no r.d)) in
    let lm : site.Log = at_module g r.d log in
    let i = since s c lm (d_fair g (dm_no r.d) log h.permitted) r.waits_there in
    let w = i.wait in
    let same : conds ≡ w.conds = ap conds_of (sym r.head_is ∙ i.same_head ∙ w.head_is) in
    let there : slice_get w.conds n ≡ Some x = subst (λ ds. slice_get ds n ≡ Some x) same e in
    let v : View = view_of s i.before in
    let unmet : is_met v x ≡ false = elim (true_or_false (is_met v x)) [
      | inr q ↦ q
      | inl q ↦ (let before : passed (pipe x.class.0 i.before) x.time.0 ≡ true =
          subst (λ (k : ClassView). passed k.pipe x.time.0 ≡ true) (class_in_view s i.before x.class.0 (omega (arith, l))) q in
          let whole : (i.later ++ site.Did i.act ∷ []) ++ i.before ≡ lm = append_assoc i.later (site.Did i.act ∷ []) i.before ∙ sym i.is in
          let rises = subst (λ z. IsRising (map time_of (all_of (pipe x.class.0 z)))) (sym whole) (pipe_rises g log x.class.0 r.d h good l r.module_is up) in
          let now : passed (pipe x.class.0 lm) x.time.0 ≡ true =
          subst (λ z. passed (pipe x.class.0 z) x.time.0 ≡ true) whole (passed_lasts x.class.0 x.time.0
          (i.later ++ site.Did i.act ∷ []) i.before rises before) in
          absurd (not_both (passed (pipe x.class.0 lm) x.time.0) now not_yet))
    ] in
    let lacks = kept_there (λ (y : Cond). not (is_met v y)) w.conds n x there (ap not unmet) in
    let listed : slice_get (w.first ∷ w.more) lacks.0 ≡ Some x = subst (λ ds. slice_get ds lacks.0 ≡ Some x) w.lacks lacks.1 in
    let to : source_of (home_of s) x.class.0 ≡ home g.catalogue x.class.0 = source_is_home s x.class.0 (omega (arith, l)) in
    let sent : slice_get (map (ask_for (home_of s)) (w.first ∷ w.more)) lacks.0 ≡ Some (home g.catalogue x.class.0, Ask x.class x.time) =
    at_map (ask_for (home_of s)) (w.first ∷ w.more) lacks.0 x listed ∙ ap (λ b. Some (b, Ask x.class x.time)) to in
    let by : slice_get (sends_of_act i.act) lacks.0 ≡ Some (home g.catalogue x.class.0, Ask x.class x.time) =
    subst (λ a. slice_get (sends_of_act a) lacks.0 ≡ Some (home g.catalogue x.class.0, Ask x.class x.time)) (sym w.act_is) sent in
    let out = sent_to (home g.catalogue x.class.0) (sends_of_act i.act) lacks.0 (Ask x.class x.time) by in
    let put = is_put (home g.catalogue x.class.0) i.later i.act i.before out.0 (Ask x.class x.time) out.1 in
    (put.0, subst (λ z. slice_get (puts_to (home g.catalogue x.class.0) z) put.0 ≡ Some (Ask x.class x.time)) (sym i.is) put.1)

-- the class for which a READ waits has a message before that time next at some module
pub next_head : (g : Input) (log : Log) (c ts : ℕ) (conds : List Cond) (r : IsReader g log c ts conds) (n : ℕ) (x : Cond) → IsStill g log → FitsInput g
    → is_down (D (dm_no r.d)) log ≡ false → AsksUp g log x.class.0 → slice_get conds n ≡ Some x → (x.class.0 == 0) ≡ false → IsClass g.catalogue x.class.0
    → is_met (view_of (setting_of g (D (dm_no r.d))) (at_module g r.d log)) x ≡ false → IsBelowUp g log x.class.0 x.time.0
next_head g log c ts conds r n x h good up ups e z l unmet =
    let j : ℕ = x.class.0 in
    let lm : site.Log = at_module g r.d log in
    let not_yet : passed (pipe j lm) x.time.0 ≡ false =
    subst (λ (k : ClassView). passed k.pipe x.time.0 ≡ false) (class_in_view (setting_of g (D (dm_no r.d))) lm j (omega (arith, l)))
    unmet in
    elim (head (pipe j lm)) as (λ o. head (pipe j lm) ≡ o → IsBelowUp g log j x.time.0) [
      | Some m ↦ λ p. record {
        here = record { d = r.d; module_is = r.module_is; message = m; head_is = p; below = head_below (pipe j lm) x.time.0 m p not_yet };
        up = up;
      }
      | None ↦ λ p. (let put = ask_put g log c ts conds r n x h good up e l not_yet in asked g log j r.d put.0
          x.class x.time h good r.module_is z l refl put.1 not_yet p up ups)
    ] refl

-- and so a READ of that class waits there, or one that holds back a WRITE of it

abbrev pub IsEarlierAt : Input → Log → ℕ → ℕ → ℕ → Type 0
IsEarlierAt g log j t d = (e : IsEarlierReader g log j t) × (e.reader.d ≡ d)

abbrev pub IsHolderAt : Input → Log → ℕ → ℕ → ℕ → Type 0
IsHolderAt g log j t d = (k : IsHolder g log j t) × (k.reader.d ≡ d)

held_by : (g : Input) (log : Log) (j t d c : ℕ) (w : Ts) (of : ClassNo) (txn : TxnNo)
    (changes : List Change) (o : Option Msg) → IsModule g.catalogue d → IsClass g.catalogue c
    → head (pipe j (at_module g d log)) ≡ Some (Write w of txn changes) → w.0 < t → waits c (at_module g d log) ≡ true
    → head (pipe c (at_module g d log)) ≡ o → holds_back j w.0 changes o ≡ true → IsHolderAt g log j t d
held_by g log j t d c w of txn changes (Some (Read ts k n attempt conds uses)) m l e b waiting at f =
    let q = any_at (holds j w.0 changes) conds f in
    let both_of = and_right (q.1.class.0 == j) (nat_le q.1.time.0 w.0 && touches q.1.frags changes) q.3 in
    let is_it : IsHolder g log j t = record {
      class = c;
      ts = ts.0;
      conds = conds;
      reader = record { d = d; module_is = m; class_is = l; waits_there = waiting; of = k; txn = n; attempt = attempt; uses = uses; head_is = at };
      place = q.0;
      cond = q.1;
      there = q.2;
      names = eqb-true q.1.class.0 j (and_left (q.1.class.0 == j) (nat_le q.1.time.0 w.0 && touches q.1.frags changes) q.3);
      write = w.0;
      of = of;
      txn = txn;
      changes = changes;
      write_is = e;
      held = le_is q.1.time.0 w.0 (and_left (nat_le q.1.time.0 w.0) (touches q.1.frags changes) both_of);
      below = b;
    } in
    (is_it, refl)
held_by g log j t d c w of txn changes _ m l e b waiting at f = cc

by_head : (g : Input) (log : Log) (j t d : ℕ) (m : Msg) → IsClass g.catalogue j → IsModule g.catalogue d
    → head (pipe j (at_module g d log)) ≡ Some m → time_of m < t
    → IsStuck (setting_of g (D (dm_no d))) (at_module g d log) j (Some m) → IsEarlierAt g log j t d ⊎ IsHolderAt g log j t d
by_head g log j t d (Read ts of txn attempt conds uses) l p e b stuck =
    let is_it : IsEarlierReader g log j t = record {
      ts = ts.0;
      conds = conds;
      reader = record { d = d; module_is = p; class_is = l; waits_there = stuck.0; of = of; txn = txn; attempt = attempt; uses = uses; head_is = e };
      below = b;
    } in
    inl (is_it, refl)
by_head g log j t d (Write w of txn changes) l p e b stuck =
    let s : Setting = setting_of g (D (dm_no d)) in
    let v : View = view_of s (at_module g d log) in
    let a = any_at (λ (k : ClassView). k.waits && holds_back j w.0 changes (head k.pipe)) v.classes
    (and_right (not (j == 0)) (list_any (λ (k : ClassView). k.waits && holds_back j w.0 changes (head k.pipe)) v.classes) stuck) in
    let c = class_at_place s (at_module g d log) a.0 a.1 a.2 in
    let f : (waits c.0 (at_module g d log) && holds_back j w.0 changes (head (pipe c.0 (at_module g d log)))) ≡ true =
    subst (λ (k : ClassView). (k.waits && holds_back j w.0 changes (head k.pipe)) ≡ true) (sym c.2) a.3 in
    inr (held_by g log j t d c.0 w of txn changes (head (pipe c.0 (at_module g d log))) p (omega (arith, c.1)) e b (and_left _ _ f) refl (and_right _ _ f))
by_head g log j t d m l p e b stuck = absurd stuck

pub next_reader : (g : Input) (log : Log) (j t : ℕ) → IsStill g log → IsClass g.catalogue j → (b : IsBelow g log j t) → is_down (D (dm_no b.d)) log ≡ false
    → IsEarlierAt g log j t b.d ⊎ IsHolderAt g log j t b.d
next_reader g log j t h l b up =
    let s : Setting = setting_of g (D (dm_no b.d)) in
    let stuck = head_stuck s (at_module g b.d log) j (omega (arith, l)) (d_still g log b.d h b.module_is up) in
    by_head g log j t b.d b.message l b.module_is b.head_is b.below (subst (IsStuck s (at_module g b.d log) j) b.head_is stuck)
