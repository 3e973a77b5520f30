-- Between U and one T: the counts of HOLDs, RELEASEs, HELDs, Starts and Commits of class 0 stand in one chain.
use Rattle.sdd_invariants.proofs.All.{Act, AllIdle, Bool, D, Each, Handed, HoldCounts, Input, IsFairT, IsFairU, IsHoldChain, IsPermitted, IsPutByD, List, Msg, NoneHold, Setting, Site, Some, T, TmCounts, TmNo, U, [], ap, arith, counts, counts_handed, counts_tm, each_local, false, flip as turned, handed, hands_from, holds, holds_acted, if◌then◌else◌, is_a_held, is_a_hold, is_a_release, local_of, numbers_to, one_if, or_left, or_right, puts_to, refl, same_site, setting_of, slice_get, subst, suc, take, tally, tm_no, true, zero, ℕ, ◌+◌, ◌<◌, ◌==◌, ◌||◌, ◌∙◌, ◌∷◌, ◌≡◌}
use Rattle.sdd_invariants.proofs.Holding.{still, t_helds, t_none}
use Rattle.sdd_invariants.proofs.Serving.{chain}
use Rattle.sdd_invariants.proofs.Turns.{balance, tally_append, tally_take, turns_take}
use Rattle.sdd_invariants.proofs.Queues.{queue_is}
use Rattle.sdd_invariants.proofs.Answered.{put_in_by_d}
use Rattle.sdd_invariants.proofs.Bools.{if_way, not_both, same_or_not}
use Rattle.sdd_invariants.proofs.Fair.{all_new, u_fair}
use Rattle.sdd_invariants.proofs.InOrder.{hand_was_put, in_order}
use Rattle.sdd_invariants.proofs.Releases.{one_if_le}
use Rattle.sdd_log.specs.All.{Log}
use Rattle.sdd_log.specs.site_module.SiteLog as site

pub t_table : (g : Input) (t : TmNo) (log : Log) → IsPermitted g log → Each (IsFairT (setting_of g (T t))) (local_of g (T t) log)
t_table g t = grind (arith, each_local, handed)

pub u_table : (g : Input) (log : Log) → IsPermitted g log → Each (IsFairU (setting_of g U)) (local_of g U log)
u_table g = grind (arith, each_local, handed, queue_is, u_fair, all_new)

-- HOLDs and RELEASEs are put by U alone
abbrev of_hold : Msg → Bool
of_hold m = is_a_hold m || is_a_release m

d_not : (s : Setting) (l : site.Log) (b : Site) (act : Act) (m : Msg) → IsPutByD s l b act m → of_hold m ≡ false
d_not s l b act m h = grind arith

none_at : (ms : List Msg) (k : ℕ) (m : Msg) → NoneHold ms → slice_get ms k ≡ Some m → of_hold m ≡ false
none_at [] k m h e = cc
none_at (x ∷ ms) zero m h e = let p : x ≡ m = cc in subst (λ y. of_hold y ≡ false) p (rw (h.0, h.1) refl)
none_at (x ∷ ms) (suc k) m h e = none_at ms k m h.2 e

abbrev IsFromU : site.Log → site.Entry → Type 0
IsFromU l (Handed from m) = of_hold m ≡ true → from ≡ U
IsFromU l _ = Unit {0}

put_from : (g : Input) (log : Log) (from at : Site) (k : ℕ) (m : Msg) → IsPermitted g log
    → slice_get (puts_to at (local_of g from log)) k ≡ Some m → of_hold m ≡ true → from ≡ U
put_from g log U at k m h e p = refl
put_from g log (T t) at k m h e p = grind (arith, not_both, of_hold, none_at, t_none, t_table)
put_from g log (D d) at k m h e p =
    let q = put_in_by_d g log d at k m h e in
    absurd (not_both (of_hold m) p (d_not (setting_of g (D d)) (local_of g (D d) q.before) at q.act m q.by))

pub from_u : (g : Input) (at : Site) (log : Log) → IsPermitted g log → Each IsFromU (local_of g at log)
from_u g at = grind (arith, each_local, IsFromU, put_from, hand_was_put)

is_u : (from : Site) → from ≡ U → same_site U from ≡ true
is_u from e = ap (same_site U) e

act_holds : (act : Act) (h : HoldCounts) → ((holds_acted act h).holds ≡ h.holds) × ((holds_acted act h).releases ≡ h.releases)
act_holds act h = grind arith

pub handed_holds : (l : site.Log) → Each IsFromU l
    → ((holds l).holds ≡ tally is_a_hold (hands_from U l)) × ((holds l).releases ≡ tally is_a_release (hands_from U l))
handed_holds [] h = (refl, refl)
handed_holds (e ∷ l) h = grind (arith, tally_append, is_u, or_left, or_right, act_holds, holds, (handed_holds l h.1))

pub same_turned : (n t : ℕ) → (n == t) ≡ (t == n)
same_turned n t = grind (arith, same_or_not, turned)

hand_helds : (t : ℕ) (from : Site) (m : Msg) (k : TmCounts) → k.tm ≡ t
    → (counts_handed from m k).helds ≡ k.helds + (if same_site (T (tm_no t)) from then one_if (is_a_held m) else 0)
hand_helds t from m k e = grind (arith, one_if, same_turned)

pub handed_helds : (t : ℕ) (l : site.Log) → (counts t l).helds ≡ tally is_a_held (hands_from (T (tm_no t)) l)
handed_helds t [] = refl
handed_helds t (e ∷ l) = grind (arith, hand_helds, counts_tm, tally_append, if_way, holds, counts, (handed_helds t l))

pub hold_chain : (g : Input) (k t : ℕ) (log : Log) → slice_get (numbers_to g.catalogue.tms) k ≡ Some t → IsPermitted g log → IsHoldChain g t log
hold_chain g k t log i h =
    let at : Site = T (tm_no t) in
    let lu : site.Log = local_of g U log in
    let lt : site.Log = local_of g at log in
    let c = chain (setting_of g U) k t lu i (u_table g log h) in
    let hh = handed_holds lt (from_u g at log h) in
    let first : hands_from U lt ≡ take (handed U at log) (puts_to at lu) = in_order g log U at h in
    let hold_is : (holds lt).holds ≡ tally is_a_hold (take (handed U at log) (puts_to at lu)) = hh.0 ∙ ap (tally is_a_hold) first in
    let release_is : (holds lt).releases ≡ tally is_a_release (take (handed U at log) (puts_to at lu)) = hh.1 ∙ ap (tally is_a_release) first in
    let part = turns_take (handed U at log) (puts_to at lu) c.state c.turns_are in
    let even = balance false part.0 (take (handed U at log) (puts_to at lu)) part.1 in
    let p1 = one_if_le part.0 in
    let put : (holds lt).helds ≡ tally is_a_held (puts_to U lt) = t_helds (setting_of g at) lt (t_table g (tm_no t) log h) in
    record {
      released = omega (arith, release_is, tally_take is_a_release (handed U at log) (puts_to at lu), c.releases_are);
      committed = c.released;
      started = c.committed;
      got_held = c.started_held;
      put_held = omega (arith, (handed_helds t lu ∙ ap (tally is_a_held) (in_order g log at U h)), put, tally_take is_a_held (handed at U log) (puts_to U lt));
      got_hold = (still (setting_of g at) lt (t_table g (tm_no t) log h)).owed;
      one_open = omega (arith, hold_is, release_is, even, p1);
      in_turn = omega (arith, hold_is, release_is, even, p1);
      put_hold = omega (arith, hold_is, tally_take is_a_hold (handed U at log) (puts_to at lu), c.holds_are);
      one_ahead = omega (arith, balance false c.state (puts_to at lu) c.turns_are, one_if_le c.state, c.holds_are, c.releases_are);
    }

-- between a HELD and its RELEASE every class of the T is idle
pub idle_between : (g : Input) (t : TmNo) (log : Log) → IsPermitted g log → (holds (local_of g (T t) log)).releases < (holds (local_of g (T t) log)).helds
    → AllIdle (setting_of g (T t)) (local_of g (T t) log)
idle_between g t log h = (still (setting_of g (T t)) (local_of g (T t) log) (t_table g t log h)).idle
