-- Within the limits of a run no log is higher than the greatest height.
use Rattle.sdd_obligations.proofs.All.{Act, AllFewTicks, D, Did, Does, Each, Entry, Input, IsFair, IsLawful, IsNumbered, IsPermitted, IsSmall, IsWithin, List, Log, MAX_LINK_MESSAGES, MAX_RUN_EVENTS, MAX_TICKS, Mark, Redeclares, Site, T, U, [], all_new, ap, arith, each_local, greatest_height, handed, hands, height, home_of, lawful_permitted, length, length-append, length-map, length-range_with_len, local_of, local_step, marks, most_classes, most_sites, mul-le-mul, mul-le-mul_right, own_act, range_with_len, refl, setting_of, sites, starts, starts_by, starts_more, submits, subst, suc, suc-mul, sym, t_fair, ticks_of, trans_le, u_fair, view_of, ℕ, ◌*◌, ◌+◌, ◌<◌, ◌^◌, ◌∙◌, ◌∷◌, ◌≡◌, ◌≤◌}
use Rattle.sdd_obligations.proofs.Counting.{site_few}
use Rattle.sdd_obligations.proofs.Limits.{handed_few, hands_few, submits_few}
use Rattle.sdd_needs.proofs.FewMarks.{marks_few}
use Rattle.sdd_obligations.proofs.NoStarts.{d_starts_not}
use Rattle.sdd_obligations.proofs.SitesAndLinks.{t_of_sites}
use Rattle.sdd_needs.proofs.OfNext.{IsThere, of_next}
use Rattle.sdd_obligations.proofs.Sums.{total, total_le, total_le_at, total_raise, total_up}
use Rattle.sdd_invariants.specs.site_module.SiteLog as site

-- the height is the sum of ticks and of all sites' Starts

act_starts : (act : Act) (n : ℕ) → starts_more act n ≡ starts_by act + n
act_starts act n = grind arith

starts_up : (g : Input) (e : Entry) (log : Log) (at : Site) → starts (local_of g at log) ≤ starts (local_of g at (e ∷ log))
starts_up g e log at = subst (λ l. starts (local_of g at log) ≤ starts l) (sym (local_step g at e log)) (grind (arith, act_starts, starts))

abbrev all_sites : Input → List Site
all_sites g = sites g.catalogue.tms g.catalogue.dms

abbrev all_starts : Input → Log → ℕ
all_starts g log = total (λ at. starts (local_of g at log)) (all_sites g)

sum_up : (g : Input) (e : Entry) (log : Log) → all_starts g log ≤ all_starts g (e ∷ log)
sum_up g e log = total_up (λ at. starts (local_of g at log)) (λ at. starts (local_of g at (e ∷ log))) (all_sites g) (starts_up g e log)

sum_act : (g : Input) (at : Site) (act : Act) (log : Log) → IsThere (all_sites g) at → starts_by act + all_starts g log ≤ all_starts g (Does at act ∷ log)
sum_act g at act log k =
    let own : starts (local_of g at (Does at act ∷ log)) ≡ starts_by act + starts (local_of g at log) =
    ap starts (own_act g at act log) ∙ act_starts act (starts (local_of g at log)) in
    total_raise (λ b. starts (local_of g b log)) (λ b. starts (local_of g b (Does at act ∷ log)))
    (starts_by act) (all_sites g) k.0 at k.1 (starts_up g (Does at act) log) (omega (arith, own))

mark_sum : (t m k h s more : ℕ) → t ≤ k → h ≤ m * k + s → s ≤ more → t + h ≤ suc m * k + more
mark_sum t m k h s more a b c = let e = suc-mul m k in omega (arith, a, b, c, e)

later_sum : (m k h s more : ℕ) → h ≤ m * k + s → s ≤ more → h ≤ suc m * k + more
later_sum m k h s more b c = let e = suc-mul m k in omega (arith, b, c, e)

act_sum : (a m k h s more : ℕ) → h ≤ m * k + s → a + s ≤ more → a + h ≤ m * k + more
act_sum a m k h s more b c = omega (arith, b, c)

height_le : (g : Input) (log : Log) → AllFewTicks g.events → IsLawful g log → height log ≤ marks log * MAX_TICKS + all_starts g log
height_le g [] f l = omega arith
height_le g (Mark e ∷ log) f l =
    mark_sum (ticks_of e) (marks log) MAX_TICKS (height log) (all_starts g log)
    (all_starts g (Mark e ∷ log)) (of_next g log (Mark e) f l.1 l.0) (height_le g log f l.1) (sum_up g (Mark e) log)
height_le g (Redeclares t ∷ log) f l = later_sum (marks log) MAX_TICKS (height log) (all_starts g log) _ (height_le g log f l.1) (sum_up g (Redeclares t) log)
height_le g (Does at act ∷ log) f l =
    act_sum (starts_by act) (marks log) MAX_TICKS (height log) (all_starts g log) _ (height_le g log f l.1)
    (sum_act g at act log (of_next g log (Does at act) f l.1 l.0).0)
height_le g (x ∷ log) f l = (omega (arith, (height_le g log f l.1), (sum_up g x log)))

-- how many Starts a site has

sites_count : (tms dms : ℕ) → length (sites tms dms) ≡ suc (tms + dms)
sites_count tms dms = grind (arith, length-append, range_with_len, length-map, length-range_with_len)

few_sites : (g : Input) → IsSmall g → length (all_sites g) ≤ most_sites
few_sites g s = let e = sites_count g.catalogue.tms g.catalogue.dms in let a = s.few_tms in let b = s.few_dms in omega (arith, e, a, b)

abbrev most_starts : ℕ
most_starts = most_classes * (MAX_RUN_EVENTS + most_sites * MAX_LINK_MESSAGES)

came_few : (g : Input) (at : Site) (log : Log) → IsSmall g → IsLawful g log → IsPermitted g log → IsWithin log
    → length (submits (local_of g at log)) + hands (local_of g at log) ≤ MAX_RUN_EVENTS + most_sites * MAX_LINK_MESSAGES
came_few g at log s l p w =
    let a = submits_few g at log p in let b = marks_few log w in
    let d = total_le (λ a. handed a at log) (all_sites g) MAX_LINK_MESSAGES (λ a. handed_few g log p w a at) in
    let e : length (all_sites g) * MAX_LINK_MESSAGES ≤ most_sites * MAX_LINK_MESSAGES = mul-le-mul_right MAX_LINK_MESSAGES (few_sites g s) in
    (omega (arith, a, b, (hands_few g at log s.few_ticks l p), d, e))

of_classes : (g : Input) (at : Site) (log : Log) → IsSmall g → IsLawful g log → IsPermitted g log → IsWithin log → IsNumbered at
    → Each (IsFair (setting_of g at)) (local_of g at log) → starts (local_of g at log) ≤ most_starts
of_classes g at log s l p w n f =
    let a = site_few (setting_of g at) (local_of g at log) n f (all_new g at log p) in
    let few : suc (length g.catalogue.classes) ≤ most_classes = let c = s.few_classes in omega (arith, c) in
    trans_le (starts (local_of g at log)) _ most_starts a (mul-le-mul few (came_few g at log s l p w))

-- a data module has none
abbrev StartsNot : site.Log → site.Entry → Type 0
StartsNot l (Did act) = starts_by act ≡ 0
StartsNot l _ = Unit {0}

none_started : (l : site.Log) → Each StartsNot l → starts l ≡ 0
none_started [] h = refl
none_started (Did act ∷ l) h = let i = none_started l h.1 in let e = act_starts act (starts l) in let z = h.0 in omega (arith, i, e, z)
none_started (_ ∷ l) h = none_started l h.1

site_bound : (g : Input) (at : Site) (log : Log) → IsSmall g → IsLawful g log → IsPermitted g log → IsWithin log
    → IsThere (all_sites g) at → starts (local_of g at log) ≤ most_starts
site_bound g U log s l p w k = of_classes g U log s l p w tt (u_fair g log p)
site_bound g (T t) log s l p w k = of_classes g (T t) log s l p w (t_of_sites g.catalogue.tms g.catalogue.dms t k).0 (t_fair g t log p)
site_bound g (D d) log s l p w k =
    let e = none_started (local_of g (D d) log) (grind (arith, each_local, StartsNot, handed, submits, d_starts_not, home_of, setting_of, view_of, local_of)) in
    omega (arith, e)

pub height_few : (g : Input) (log : Log) → IsSmall g → IsLawful g log → IsWithin log → height log ≤ greatest_height
height_few g log s l w =
    let p = lawful_permitted g log s.once l in
    let c = total_le_at (λ at. starts (local_of g at log)) (all_sites g) most_starts (λ n at e. site_bound g at log s l p w (n, e)) in
    let d : length (all_sites g) * most_starts ≤ most_sites * most_starts = mul-le-mul_right most_starts (few_sites g s) in
    (omega (arith, (height_le g log s.few_ticks l), (mul-le-mul_right MAX_TICKS (marks_few log w)), c, d))

pub greatest_below : greatest_height < 2 ^ 53
greatest_below = omega arith
