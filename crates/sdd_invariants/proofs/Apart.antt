-- H5 without the Applies: an undeclared transaction and a declared one. The declared one committed before the undeclared one's Start, with a smaller timestamp; or it started when that one's RELEASE was handed to its site, with a greater one.
use Rattle.sdd_invariants.proofs.All.{Act, Ask, Attempt, Bool, Did, Does, Each, Handed, Held, Input, IsCommitT, IsFair, IsFairT, IsHeldAt, IsHigh, IsLow, IsPermitted, IsStartU, List, Msg, None, Queued, Reject, Release, Sends, Setting, Site, Some, Submits, T, Ticking, U, [], active, allowed_act, ap, append-nil, append_assoc, arith, bound, clock, commit_act, counts, dones_of, drawn_so_far, drop, false, filter_map-append, handed, hands_from, holds, if◌then◌else◌, in_left, inl, inr, is_a_held, is_a_release, length, local_of, number_of, numbers_to, one_if, pushed_by, puts_to, refl, release_time, release_times, runs, same_site, setting_of, slice_get, stamp_of, start_at, start_u, starts, subst, suc, sym, take, take-append-drop, tally, tm_no, to_site, true, u_stamp, zero, ℕ, ◌*◌, ◌++◌, ◌+◌, ◌/◌, ◌∙◌, ◌∷◌, ◌≡◌, ◌≤◌, ◌⊎◌}
use Rattle.sdd_invariants.proofs.HoldChain.{from_u, handed_helds, handed_holds, hold_chain, t_table, u_table}
use Rattle.sdd_invariants.proofs.Holding.{hold_rule, still, t_helds}
use Rattle.sdd_invariants.proofs.Releases.{serving, start_ready}
use Rattle.sdd_invariants.proofs.Rose.{held_idle, held_rose, held_time, helds_grow, start_off}
use Rattle.sdd_invariants.proofs.Serving.{u_due}
use Rattle.sdd_invariants.proofs.Clocks.{clock_grows, clock_rises}
use Rattle.sdd_invariants.proofs.Origins.{is_put}
use Rattle.sdd_invariants.proofs.Places.{committed_by, compare}
use Rattle.sdd_invariants.proofs.Again.{mapped_in, stamp_ticks}
use Rattle.sdd_invariants.proofs.Active.{each_at}
use Rattle.sdd_invariants.proofs.Lists.{in_taken, member_there}
use Rattle.sdd_invariants.proofs.Fair.{t_fair}
use Rattle.sdd_invariants.proofs.InOrder.{in_order}
use Rattle.sdd_invariants.proofs.Made.{local_grows, own_act, permitted_before, place_of_act}
use Rattle.sdd_log.specs.All.{Log}
use Rattle.sdd_log.specs.site_module.SiteLog as site

-- lists
in_first : (f : Msg → Bool) (n : ℕ) (ms : List Msg) (i : ℕ) (m : Msg) → tally f (take n ms) ≡ tally f ms → slice_get ms i ≡ Some m
    → f m ≡ true → slice_get (take n ms) i ≡ Some m
in_first f n [] i m e g h = cc
in_first f zero (x ∷ ms) zero m e g h = let p : x ≡ m = cc in let q : one_if (f x) ≡ 1 = ap one_if (ap f p ∙ h) in absurd (omega (arith, e, q))
in_first f zero (x ∷ ms) (suc i) m e g h = let r = in_first f zero ms i m (omega (arith, e)) g h in cc
in_first f (suc n) (x ∷ ms) zero m e g h = g
in_first f (suc n) (x ∷ ms) (suc i) m e g h = in_first f n ms i m (omega (arith, e)) g h

pub end_at : (xs : List ℕ) (r x : ℕ) → length xs ≡ r → slice_get (xs ++ x ∷ []) r ≡ Some x
end_at (y ∷ xs) (suc r) x e = end_at xs r x (omega (arith, e))
end_at xs r x e = grind arith

times_length : (ms : List Msg) → length (release_times ms) ≡ tally is_a_release ms
times_length [] = refl
times_length (m ∷ ms) = grind (arith, (times_length ms))

pub drawn_grow : (later log : site.Log) → (more : List ℕ) × (drawn_so_far (later ++ log) ≡ drawn_so_far log ++ more)
drawn_grow [] log = ([], sym (append-nil (drawn_so_far log)))
drawn_grow (Did act ∷ later) log =
    let i = drawn_grow later log in
    (i.0 ++ stamp_of act, ap (λ xs. xs ++ stamp_of act) i.1 ∙ append_assoc (drawn_so_far log) i.0 (stamp_of act))
drawn_grow (_ ∷ later) log = drawn_grow later log

-- what was handed has pushed the clock
pub up_le : (a b c : ℕ) → a ≤ b → b ≤ c → a ≤ c
up_le a b c p q = omega arith

abbrev push : Msg → ℕ
push (Ask class time) = time.0
push (Reject ts class by write) = write.0
push (Release ts) = ts.0
push (Held time) = time.0
push _ = 0

push_is : (m : Msg) (k : Ticking) → (k.ticks ≤ (pushed_by m k).ticks) × (push m / 64 ≤ (pushed_by m k).ticks)
push_is m k = grind arith

pushed_if : (b : Bool) (xs : List Msg) (x m : Msg) (i n k : ℕ) → n ≤ k → push x / 64 ≤ k
    → ((j : ℕ) → slice_get xs j ≡ Some m → push m / 64 ≤ n) → slice_get (if b then xs ++ x ∷ [] else xs) i ≡ Some m → push m / 64 ≤ k
pushed_if false xs x m i n k up p f e = up_le _ _ _ (f i e) up
pushed_if true [] x m zero n k up p f e = let q : x ≡ m = cc in subst (λ y. push y / 64 ≤ k) q p
pushed_if true [] x m (suc i) n k up p f e = cc
pushed_if true (y ∷ xs) x m zero n k up p f e = up_le _ _ _ (f 0 e) up
pushed_if true (y ∷ xs) x m (suc i) n k up p f e = pushed_if true xs x m i n k up p (λ j q. f (suc j) q) e

pub has_pushed : (at a : Site) (l : site.Log) (i : ℕ) (m : Msg) → slice_get (hands_from a l) i ≡ Some m → push m / 64 ≤ (clock at l).ticks
has_pushed at a [] i m e = cc
has_pushed at a (Handed from x ∷ l) i m e =
    let p = push_is x (clock at l) in
    pushed_if (same_site a from) (hands_from a l) x m i (clock at l).ticks (clock at (Handed from x ∷ l)).ticks p.0 p.1 (λ j q. has_pushed at a l j m q) e
has_pushed at a (Submits n txn ∷ l) i m e = has_pushed at a l i m e
has_pushed at a (x ∷ l) i m e = up_le _ _ _ (has_pushed at a l i m e) (clock_rises at x l)

pub at_start : (g : Input) (k t : ℕ) (log : Log) (q : Queued) → slice_get (numbers_to g.catalogue.tms) k ≡ Some t
    → IsPermitted g (Does U (start_u g log q) ∷ log) → IsStartU g t log (starts (local_of g U log))
at_start g k t log q i h =
    let lu : site.Log = local_of g U log in
    let s : Setting = setting_of g U in
    let r = start_ready s lu q (u_table g log h.1) (u_due s _ lu (start_u g log q) (allowed_act g log (Does U (start_u g log q)) h.0)) in
    let c = hold_chain g k t log i h.1 in
    let j = r.1 k t i in
    record { started = refl; committed = sym r.0; got = j ∙ ap suc (sym r.0); sent = omega (arith, r.0, j, c.put_held, c.got_hold, c.one_open, c.released, c.committed) }

low : (g : Input) (k t c j : ℕ) (full later log : Log) (q : Queued) (a : Attempt) (cm : IsCommitT g t c full a)
    (x : IsHeldAt (local_of g (T (tm_no t)) log) (starts (local_of g U log))) (front : site.Log)
    → slice_get (numbers_to g.catalogue.tms) k ≡ Some t → slice_get (runs (setting_of g (T (tm_no t)))) j ≡ Some c
    → number_of (T (tm_no t)) ≤ 63 → IsPermitted g (Does U (start_u g log q) ∷ log)
    → local_of g (T (tm_no t)) full ≡ (front ++ x.later) ++ Did (Sends x.to (Held x.time) x.hand) ∷ x.before → (between : site.Log)
    → x.before ≡ between ++ Did (start_at (setting_of g (T (tm_no t))) c cm.start.before cm.start.queued) ∷ cm.start.before
    → IsLow g t c full log a cm (u_stamp g log)
low g k t c j full later log q a cm x front i run small h e between p =
    let at : Site = T (tm_no t) in
    let s : Setting = setting_of g at in
    let lt : site.Log = local_of g at log in
    let lu : site.Log = local_of g U log in
    let st = cm.start in
    let start : site.Entry = Did (start_at s c st.before st.queued) in
    let held : Act = Sends x.to (Held x.time) x.hand in
    let table = each_at (IsFairT s) x.later (Did held) x.before (subst (Each (IsFairT s)) x.is (t_table g (tm_no t) log h.1)) in
    let fair = each_at (IsFair s) x.later (Did held) x.before (subst (Each (IsFair s)) x.is (t_fair g (tm_no t) log h.1)) in
    let idle : active s c x.before ≡ None = held_idle s table.0.0 x.before x.to x.time x.hand table.0.1 j c run in
    let to_u : x.to ≡ U = (hold_rule s table.0.0 x.before held table.0.1).2 in
    let by = committed_by s c (front ++ x.later) cm.later st.later st.before x.before cm.before between a start (Did (commit_act g.catalogue cm.bases c a))
    (Did held) (sym cm.is ∙ e) cm.active_is st.is st.none_since p idle in
    let there : lt ≡ (x.later ++ Did held ∷ by.0) ++ Did (commit_act g.catalogue cm.bases c a) ∷ cm.before = x.is ∙ ap (λ l. x.later ++ Did held ∷ l) by.1
    ∙ sym (append_assoc x.later (Did held ∷ by.0) (Did (commit_act g.catalogue cm.bases c a) ∷ cm.before)) in
    let time : x.time.0 ≡ bound s x.before = held_time s x.before x.to x.time x.hand fair.0 in
    let put0 = is_put U x.later held x.before 0 (Held x.time) (subst (λ y. slice_get (to_site U ((y, Held x.time) ∷ [])) 0 ≡ Some (Held x.time)) (sym to_u) refl) in
    let put : slice_get (puts_to U lt) put0.0 ≡ Some (Held x.time) = subst (λ l. slice_get (puts_to U l) put0.0 ≡ Some (Held x.time)) (sym x.is) put0.1 in
    let su = at_start g k t log q i h in
    let first = in_order g log at U h.1 in
    let all : tally is_a_held (take (handed at U log) (puts_to U lt)) ≡ tally is_a_held (puts_to U lt) = ap (tally is_a_held) (sym first)
    ∙ sym (handed_helds t lu) ∙ su.got ∙ sym su.sent ∙ t_helds s lt (t_table g (tm_no t) log h.1) in
    let got : slice_get (hands_from at lu) put0.0 ≡ Some (Held x.time) = subst (λ ms. slice_get ms put0.0 ≡ Some (Held x.time)) (sym first)
    (in_first is_a_held (handed at U log) (puts_to U lt) put0.0 (Held x.time) all put refl) in
    let clk : x.time.0 / 64 ≤ (clock U lu).ticks = has_pushed U at lu put0.0 (Held x.time) got in
    let grew = clock_grows at between (start ∷ st.before) in
    let lo : (clock at st.before).ticks + 1 ≤ (clock at x.before).ticks = subst (λ l. (clock at st.before).ticks + 1 ≤ (clock at l).ticks) (sym p) grew in
    let stamp : a.ts ≡ ((clock at st.before).ticks + 1) * 64 + number_of at = st.ts_is ∙ stamp_ticks s st.before in
    let is_bound : x.time.0 ≡ (clock at x.before).ticks * 64 + 63 = time in
    record { commit = place_of_act g at log (x.later ++ Did held ∷ by.0) (commit_act g.catalogue cm.bases c a) cm.before there; below = (omega arith) }

high : (g : Input) (k t c : ℕ) (full later log : Log) (q : Queued) (a : Attempt) (cm : IsCommitT g t c full a)
    (x : IsHeldAt (local_of g (T (tm_no t)) log) (starts (local_of g U log)))
    → slice_get (numbers_to g.catalogue.tms) k ≡ Some t → IsPermitted g full → full ≡ later ++ Does U (start_u g log q) ∷ log
    → (between : site.Log) → cm.start.before ≡ between ++ Did (Sends x.to (Held x.time) x.hand) ∷ x.before
    → IsHigh g t c full log a cm (u_stamp g log) (starts (local_of g U log))
high g k t c full later log q a cm x i h e between p =
    let at : Site = T (tm_no t) in
    let s : Setting = setting_of g at in
    let su : Setting = setting_of g U in
    let n : ℕ = starts (local_of g U log) in
    let ts : ℕ = u_stamp g log in
    let st = cm.start in
    let act : Act = start_at s c st.before st.queued in
    let held : Act = Sends x.to (Held x.time) x.hand in
    let whole : local_of g at full ≡ (cm.later ++ Did (commit_act g.catalogue cm.bases c a) ∷ st.later) ++ Did act ∷ st.before = cm.is
    ∙ ap (λ l. cm.later ++ Did (commit_act g.catalogue cm.bases c a) ∷ l) st.is
    ∙ sym (append_assoc cm.later (Did (commit_act g.catalogue cm.bases c a) ∷ st.later) (Did act ∷ st.before)) in
    let lifted = place_of_act g at full (cm.later ++ Did (commit_act g.catalogue cm.bases c a) ∷ st.later) act st.before whole in
    let hs : IsPermitted g lifted.rest = (permitted_before g lifted.later (Does at act ∷ lifted.rest) (subst (IsPermitted g) lifted.is h)).1 in
    let table = each_at (IsFairT s) (cm.later ++ Did (commit_act g.catalogue cm.bases c a) ∷ st.later) (Did act) st.before
    (subst (Each (IsFairT s)) whole (t_table g (tm_no t) full h)) in
    let off = start_off s table.0.0 st.before c st.queued table.0.1 in
    let owed = (still s st.before table.1).owed in
    let grew = helds_grow between (Did held ∷ x.before) in
    let many : suc n ≤ (holds st.before).helds = subst (λ l. suc n ≤ (holds l).helds) (sym p) (let y = x.count in omega (arith, y)) in
    let lt : site.Log = local_of g at lifted.rest in
    let lu : site.Log = local_of g U lifted.rest in
    let same : lt ≡ st.before = lifted.local_is in
    let hh = handed_holds lt (from_u g at lifted.rest hs) in
    let first = in_order g lifted.rest U at hs in
    let hd : List Msg = hands_from U lt in
    let len = times_length hd in
    let rel : (holds lt).releases ≡ (holds st.before).releases = ap (λ l. (holds l).releases) same in
    let got = member_there n (release_times hd) (omega (arith, len, hh.1, rel, many, owed, off)) in
    let m = mapped_in release_time hd n got.0 got.1 in
    let clk0 = has_pushed at U lt m.0 m.1 m.2 in
    let pm : push m.1 ≡ got.0 = (grind arith) in
    let clk : got.0 / 64 ≤ (clock at st.before).ticks = subst (λ l. got.0 / 64 ≤ (clock at l).ticks) same (subst (λ y. y / 64 ≤ (clock at lt).ticks) pm clk0) in
    let stamp : a.ts ≡ ((clock at st.before).ticks + 1) * 64 + number_of at = st.ts_is ∙ stamp_ticks s st.before in
    let ps : List Msg = puts_to at lu in
    let parts : release_times ps ≡ release_times hd ++ release_times (drop (handed U at lifted.rest) ps) = ap release_times
    (sym (take-append-drop (handed U at lifted.rest) ps)) ∙ filter_map-append release_time (take (handed U at lifted.rest) ps)
    (drop (handed U at lifted.rest) ps) ∙ ap (λ l. release_times l ++ release_times (drop (handed U at lifted.rest) ps)) (sym first) in
    let in_puts : slice_get (release_times ps) n ≡ Some got.0 = subst (λ l. slice_get l n ≡ Some got.0) (sym parts)
    (in_left (release_times hd) (release_times (drop (handed U at lifted.rest) ps)) n got.0 got.1) in
    let sv = serving su k t lu i (u_table g lifted.rest hs) in
    let in_drawn = in_taken (drawn_so_far lu) (counts t lu).releases n got.0 (subst (λ l. slice_get l n ≡ Some got.0) sv.released in_puts) in
    let f1 = local_grows g U (lifted.later ++ Does at act ∷ []) lifted.rest in
    let full1 : local_of g U full ≡ f1.0 ++ lu = ap (local_of g U) (lifted.is ∙ sym (append_assoc lifted.later (Does at act ∷ []) lifted.rest)) ∙ f1.1 in
    let d1 = drawn_grow f1.0 lu in
    let here : slice_get (drawn_so_far (local_of g U full)) n ≡ Some got.0 = subst (λ l. slice_get l n ≡ Some got.0) (sym (ap drawn_so_far full1 ∙ d1.1))
    (in_left (drawn_so_far lu) d1.0 n got.0 in_drawn.0) in
    let f2 = local_grows g U later (Does U (start_u g log q) ∷ log) in
    let full2 : local_of g U full ≡ f2.0 ++ Did (start_u g log q) ∷ local_of g U log = ap (local_of g U) e ∙ f2.1
    ∙ ap (λ l. f2.0 ++ l) (own_act g U (start_u g log q) log) in
    let d2 = drawn_grow f2.0 (Did (start_u g log q) ∷ local_of g U log) in
    let hu : IsPermitted g log = (permitted_before g later (Does U (start_u g log q) ∷ log) (subst (IsPermitted g) e h)).1 in
    let cu = serving su k t (local_of g U log) i (u_table g log hu) in
    let own : slice_get (drawn_so_far (Did (start_u g log q) ∷ local_of g U log)) n ≡ Some ts = end_at (drawn_so_far (local_of g U log)) n ts cu.counted in
    let there : slice_get (drawn_so_far (local_of g U full)) n ≡ Some ts = subst (λ l. slice_get l n ≡ Some ts) (sym (ap drawn_so_far full2 ∙ d2.1))
    (in_left (drawn_so_far (Did (start_u g log q) ∷ local_of g U log)) d2.0 n ts own) in
    let is : got.0 ≡ ts = (let z : Some got.0 ≡ Some ts = sym here ∙ there in cc) in
    record {
      start = lifted;
      above = grind (arith, clock, local_of, number_of, stamp_ticks);
      released = in_drawn.1;
      dones = subst (λ y. g.catalogue.dms ≤ dones_of y lu) is (sv.done n got.0 in_drawn.1 in_drawn.0);
    }

pub low_or_high : (g : Input) (k t c j : ℕ) (full later log : Log) (q : Queued) (a : Attempt) (cm : IsCommitT g t c full a)
    → slice_get (numbers_to g.catalogue.tms) k ≡ Some t → slice_get (runs (setting_of g (T (tm_no t)))) j ≡ Some c
    → number_of (T (tm_no t)) ≤ 63 → IsPermitted g full → full ≡ later ++ Does U (start_u g log q) ∷ log
    → IsLow g t c full log a cm (u_stamp g log) ⊎ IsHigh g t c full log a cm (u_stamp g log) (starts (local_of g U log))
low_or_high g k t c j full later log q a cm i run small h e =
    let at : Site = T (tm_no t) in
    let s : Setting = setting_of g at in
    let st = cm.start in
    let hu : IsPermitted g (Does U (start_u g log q) ∷ log) = permitted_before g later (Does U (start_u g log q) ∷ log) (subst (IsPermitted g) e h) in
    let su = at_start g k t log q i hu in
    let x = held_rose (local_of g at log) (starts (local_of g U log)) su.sent in
    let held : Act = Sends x.to (Held x.time) x.hand in
    let start : Act = start_at s c st.before st.queued in
    let f = local_grows g at (later ++ Does U (start_u g log q) ∷ []) log in
    let one : local_of g at full ≡ (f.0 ++ x.later) ++ Did held ∷ x.before = ap (local_of g at)
    (e ∙ sym (append_assoc later (Does U (start_u g log q) ∷ []) log)) ∙ f.1 ∙ ap (λ l. f.0 ++ l) x.is ∙ sym (append_assoc f.0 x.later (Did held ∷ x.before)) in
    let two : local_of g at full ≡ (cm.later ++ Did (commit_act g.catalogue cm.bases c a) ∷ st.later) ++ Did start ∷ st.before = cm.is
    ∙ ap (λ l. cm.later ++ Did (commit_act g.catalogue cm.bases c a) ∷ l) st.is
    ∙ sym (append_assoc cm.later (Did (commit_act g.catalogue cm.bases c a) ∷ st.later) (Did start ∷ st.before)) in
    elim (compare (cm.later ++ Did (commit_act g.catalogue cm.bases c a) ∷ st.later) (f.0 ++ x.later) (Did start) (Did held) st.before x.before (sym two ∙ one)) [
      | inl r ↦ (let z : Did start ≡ Did held = r.1 in let y : start ≡ held = cc in cc)
      | inr r ↦ grind (arith, low, high)
    ]
