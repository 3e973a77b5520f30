-- Each message on a link goes from and to the kinds of sites of its kind.
use Rattle.sdd_obligations.proofs.All.{Act, Ask, Class, D, Did, DmNo, Does, Done, Each, Fetch, GoesTo, Hand, Handed, Hold, Input, IsAnAsk, IsD, IsFairT, IsFairU, IsFetch, IsPermitted, IsPutByD, IsReduce, IsRouted, IsRunner, IsShip, IsStepU, List, Log, Msg, None, NoneHold, Option, Ready, Reduce, Reduced, Reject, Release, Rows, Sends, Setting, Ship, Site, Some, T, TmNo, U, Values, WasAsked, [], ap, append_assoc, arith, commit_puts, dm_no, each_at, false, from_a_d, hand_was_put, handed, home_of, in_none, in_one, inl, inr, is_a_held, is_a_hold, is_a_release, local_of, map, permitted_before, place_of_hand, put_in_by_d, puts_to, refl, sends_of_act, setting_of, slice_get, slice_index_or, source_of, start_puts, start_read, subst, suc, sym, t_none, t_table, the_one, to_site, u_due, u_table, u_way, was_put, zero, ℕ, ◌++◌, ◌∙◌, ◌∷◌, ◌≡◌}
use Rattle.sdd_obligations.proofs.Going.{t_goes, u_goes}
use Rattle.sdd_invariants.specs.site_module.SiteLog as site

-- what was handed was put

pub record WasPut (g : Input) (from at : Site) (m : Msg) : Type 0 where
  pub log : Log
  pub permitted : IsPermitted g log
  pub place : ℕ
  pub there : slice_get (puts_to at (local_of g from log)) place ≡ Some m

pub hand_put : (g : Input) (at : Site) (log : Log) (later : site.Log) (from : Site) (m : Msg) (before : site.Log) → IsPermitted g log
    → local_of g at log ≡ later ++ Handed from m ∷ before → WasPut g from at m
hand_put g at log later from m before h e =
    let l = place_of_hand g at log later from m before e in
    let p = permitted_before g l.later (Hand from at l.number m ∷ l.rest) (subst (IsPermitted g) l.is h) in
    record { log = l.rest; permitted = p.1; place = handed from at l.rest; there = (hand_was_put g l.rest from at l.number m p.0).1 }

-- an ASK comes from a data module, what asks for rows doesn't

ask_from : (g : Input) (at from : Site) (m : Msg) → IsAnAsk m → WasPut g from at m → IsD from
ask_from g at from m a p = grind (arith, from_a_d)

abbrev pub AsksRows : Msg → Type 0
AsksRows (Fetch ts class u col) = Unit {0}
AsksRows (Reduce ts class u col vs) = Unit {0}
AsksRows (Ship ts class) = Unit {0}
AsksRows _ = ⊥

not_put_by_d : (s : Setting) (l : site.Log) (b : Site) (act : Act) (m : Msg) → AsksRows m → IsPutByD s l b act m → ⊥
not_put_by_d s l b act m a h = grind arith

runner_from : (g : Input) (at from : Site) (m : Msg) → AsksRows m → WasPut g from at m → IsRunner from
runner_from g at (D d) m a p =
    let q = put_in_by_d g p.log d at p.place m p.permitted p.there in
    not_put_by_d (setting_of g (D d)) (local_of g (D d) q.before) at q.act m a q.by
runner_from g at _ m a p = tt

-- the site that runs a class is no data module
runner_of : (ks : List Class) (i : ℕ) → IsRunner (slice_index_or (map (λ k. T k.tm) ks) i U)
runner_of (k ∷ ks) (suc i) = runner_of ks i
runner_of _ _ = tt

pub source_runs : (s : Setting) (c : ℕ) → IsRunner (source_of (home_of s) c)
source_runs s c = grind (arith, runner_of)

runs_to : (s : Setting) (c : ℕ) (b : Site) → b ≡ source_of (home_of s) c → IsRunner b
runs_to s c b e = subst IsRunner (sym e) (source_runs s c)

-- of a data module

asked_by : (g : Input) (d : DmNo) (log : Log) (b : Site) (P : Msg → Type 0) → IsPermitted g log
    → ((m : Msg) → P m → AsksRows m) → WasAsked (local_of g (D d) log) b P → IsRunner b
asked_by g d log b P h f w = runner_from g (D d) b w.asked (f w.asked w.fits) (hand_put g (D d) log w.later b w.asked w.before h w.is)

d_routed : (g : Input) (d : DmNo) (log : Log) (b : Site) (act : Act) (m : Msg) → IsPermitted g log
    → IsPutByD (setting_of g (D d)) (local_of g (D d) log) b act m → IsRouted (D d) b m
d_routed g d log b act (Ready ts k counts) h p = (tt, runs_to (setting_of g (D d)) p.class b p.to_is)
d_routed g d log b act (Reject ts k by write) h p = (tt, runs_to (setting_of g (D d)) p.class b p.to_is)
d_routed g d log b act (Done ts) h p = (tt, p.to_is)
d_routed g d log b act (Values ts k u vs) h p = (tt, asked_by g d log b (IsFetch ts k u) h (λ m e. subst AsksRows (sym e.1) tt) p)
d_routed g d log b act (Reduced ts k u n) h p = (tt, asked_by g d log b (IsReduce ts k u) h (λ m e. subst AsksRows (sym e.2) tt) p)
d_routed g d log b act (Rows ts k rows) h p = (tt, asked_by g d log b (IsShip ts k) h (λ m e. subst AsksRows (sym e) tt) p)
d_routed g d log b act (Ask k t) h p = (tt, runs_to (setting_of g (D d)) k.0 b p.to_is)
d_routed g d log b act _ h p = absurd p

-- of a T and of U

asked_on : (l later before : site.Log) (act : Act) (b : Site) → l ≡ later ++ Did act ∷ before → WasAsked before b IsAnAsk → WasAsked l b IsAnAsk
asked_on l later before act b e w = record {
  asked = w.asked;
  later = later ++ Did act ∷ w.later;
  before = w.before;
  is = e ∙ ap (λ x. later ++ Did act ∷ x) w.is ∙ sym (append_assoc later (Did act ∷ w.later) (Handed b w.asked ∷ w.before));
  fits = w.fits;
}

none_member : (ms : List Msg) (k : ℕ) (m : Msg) → NoneHold ms → slice_get ms k ≡ Some m → (is_a_hold m ≡ false) × (is_a_release m ≡ false)
none_member [] k m h e = cc
none_member (x ∷ ms) zero m h e = let p : x ≡ m = cc in subst (λ y. (is_a_hold y ≡ false) × (is_a_release y ≡ false)) p (h.0, h.1)
none_member (x ∷ ms) (suc k) m h e = none_member ms k m h.2 e

t_of : (t : TmNo) (b : Site) (m : Msg) (l : site.Log) → (WasAsked l b IsAnAsk → IsD b) → is_a_hold m ≡ false → is_a_release m ≡ false
    → GoesTo l b m → IsRouted (T t) b m
t_of t b m l f x y h = grind arith

u_of : (b : Site) (m : Msg) (l : site.Log) → (WasAsked l b IsAnAsk → IsD b) → is_a_held m ≡ false → GoesTo l b m → IsRouted U b m
u_of b m l f x h = grind arith

-- U puts no HELD

abbrev NoHeld : Act → Type 0
NoHeld act = (b : Site) (k : ℕ) (m : Msg) → slice_get (to_site b (sends_of_act act)) k ≡ Some m → is_a_held m ≡ false

send_no_held : (to : Site) (x : Msg) (hand : Option ℕ) → is_a_held x ≡ false → NoHeld (Sends to x hand)
send_no_held to x hand g b k m e = subst (λ y. is_a_held y ≡ false) (the_one b to x k m e).1 g

u_no_held : (s : Setting) (log : site.Log) (act : Act) → IsStepU s log act → NoHeld act
u_no_held s log act = u_way s log act NoHeld
    (λ q i z r. λ b k m e. elim (start_puts s 0 b log q) [ inl p ↦ in_none _ k m p e | inr p ↦ (subst (λ y. is_a_held y ≡ false) (in_one _ (start_read s 0 log q p.0) k m p.1 e) refl) ])
    (λ bases a i. λ b k m e. elim (commit_puts s 0 bases b a) [ inl p ↦ in_none _ k m p e | inr p ↦ (subst (λ y. is_a_held y ≡ false) (in_one _ _ k m p.1 e) refl) ])
    (λ d m a e. send_no_held (D (dm_no d)) m None (grind arith)) (λ t ts i p. send_no_held _ (Release ts) None refl)
    (λ t e. send_no_held _ Hold None refl)

pub routed : (g : Input) (log : Log) (a b : Site) (k : ℕ) (m : Msg) → IsPermitted g log → slice_get (puts_to b (local_of g a log)) k ≡ Some m → IsRouted a b m
routed g log (D d) b k m h e =
    let p = put_in_by_d g log d b k m h e in
    d_routed g d p.before b p.act m ((permitted_before g p.later (Does (D d) p.act ∷ p.before) (subst (IsPermitted g) p.is h)).1) p.by
routed g log (T t) b k m h e =
    let l : site.Log = local_of g (T t) log in
    let fair = t_table g t log h in
    let p = was_put b l k m e in
    let q = each_at (IsFairT (setting_of g (T t))) p.later (Did p.act) p.before (subst (Each (IsFairT (setting_of g (T t)))) p.is fair) in
    let n = none_member (puts_to b l) k m (t_none (setting_of g (T t)) b l fair) e in
    t_of t b m p.before (λ w. let v = asked_on l p.later p.before p.act b p.is w in ask_from g
    (T t) b v.asked v.fits (hand_put g (T t) log v.later b v.asked v.before h v.is))
    n.0 n.1 (t_goes (setting_of g (T t)) q.0.0 p.before p.act q.0.1 b p.place m p.there)
routed g log U b k m h e =
    let l : site.Log = local_of g U log in
    let fair = u_table g log h in
    let p = was_put b l k m e in
    let q = each_at (IsFairU (setting_of g U)) p.later (Did p.act) p.before (subst (Each (IsFairU (setting_of g U))) p.is fair) in
    let step = u_due (setting_of g U) q.0.0.0 p.before p.act q.0.0.1 in
    u_of b m p.before (λ w. let v =
    asked_on l p.later p.before p.act b p.is w in ask_from g U b v.asked v.fits (hand_put g U log v.later b v.asked v.before h v.is))
    (u_no_held (setting_of g U) p.before p.act step b p.place m p.there) (u_goes (setting_of g U) p.before p.act step b p.place m p.there)
