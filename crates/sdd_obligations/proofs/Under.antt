-- The height of a lawful log is one: no clock and no message's time is above it.
use Rattle.sdd_obligations.proofs.All.{Act, AllFewTicks, AllLow, D, Did, Does, Entry, Event, Hand, Handed, HandsLow, Input, IsDueAt, IsLawful, IsLow, IsPermitted, IsUnder, List, Log, Mark, Msg, None, Option, Redeclared, Redeclares, Site, Some, Submitted, T, Ticked, U, [], allowed_act, allowed_hand, arith, base_of, clock, fold, greatest_bound, height, if_way, if◌then◌else◌, local_of, local_step, made, made_by_mark, map, max, puts_grow, puts_to, refl, same_site, sends_of_act, sent, sent_is, setting_of, slice_get, starts_by, subst, sym, t_fair, ticks_of, to_site, top, u_due, u_fair, with_made, ℕ, ◌*◌, ◌+◌, ◌-◌, ◌/◌, ◌∷◌, ◌≡◌, ◌≤◌}
use Rattle.sdd_obligations.proofs.AnswersLow.{d_low}
use Rattle.sdd_obligations.proofs.LowLists.{all_low_join, all_low_up, low_at, low_up}
use Rattle.sdd_obligations.proofs.SitesAndLinks.{t_of_sites}
use Rattle.sdd_needs.proofs.OfNext.{OfNext, of_next}
use Rattle.sdd_obligations.proofs.SendsLow.{PutsLow, t_low, u_low}
use Rattle.sdd_invariants.specs.site_module.SiteLog as site

-- what an entry of a site's log, if there is one, may be, where the height grows so
abbrev MayGrow : ℕ → ℕ → Option site.Entry → Type 0
MayGrow h k (Some (Handed from m)) = IsLow h m
MayGrow h k (Some (Ticked n)) = n + h ≤ k
MayGrow h k (Some (Redeclared era t)) = t ≤ top h
MayGrow h k (Some (Did act)) = (starts_by act + h ≤ k) × ((b : Site) → AllLow k (to_site b (sends_of_act act)))
MayGrow h k _ = Unit {0}

-- clocks

pub div_le : (t h : ℕ) → t ≤ h * 64 + 63 → t / 64 ≤ h
div_le t h l = omega arith

pub max_le : (a b h : ℕ) → a ≤ h → b ≤ h → max a b ≤ h
max_le a b h l m = omega arith

-- what is handed, and what is put

hands_up : (h k : ℕ) (l : site.Log) → h ≤ k → HandsLow h l → HandsLow k l
hands_up h k [] u i = tt
hands_up h k (Handed from m ∷ l) u i = (low_up h k m u i.0, hands_up h k l u i.1)
hands_up h k (_ ∷ l) u i = hands_up h k l u i

hands_low : (h k : ℕ) (o : Option site.Entry) (l : site.Log) → h ≤ k → HandsLow h l → MayGrow h k o → HandsLow k (with_made o l)
hands_low h k (Some (Handed from x)) l u i m = (low_up h k x u m, hands_up h k l u i)
hands_low h k _ l u i m = hands_up h k l u i

under_more : (g : Input) (h k : ℕ) (e : Entry) (log : Log) → h ≤ k → IsUnder g h log → ((at : Site) → MayGrow h k (made g at log e)) → IsUnder g k (e ∷ log)
under_more g h k e log u i m = grind (arith, local_step, max_le, div_le, puts_grow, all_low_join, all_low_up, hands_low)

-- each entry

by_mark : (h : ℕ) (at : Site) (e : Event) → MayGrow h (ticks_of e + h) (made_by_mark at e)
by_mark h at e = grind (arith, if_way)

by_hand : (g : Input) (h : ℕ) (log : Log) (from to at : Site) (n : ℕ) (m : Msg) → IsUnder g h log
    → slice_get (sent from to log) (n - 1) ≡ Some m → MayGrow h h (if same_site at to then Some (Handed from m) else None)
by_hand g h log from to at n m i e =
    let low : IsLow h m = low_at h (sent from to log) (n - 1) m (subst (AllLow h) (sym (sent_is g from to log)) (i.puts from to)) e in
    if_way (MayGrow h h) (same_site at to) (Some (Handed from m)) None low tt

fold_max_le : (k : ℕ) (f : ℕ → ℕ) (ns : List ℕ) (a : ℕ) → a ≤ k → ((n : ℕ) → f n ≤ k) → fold max a (map f ns) ≤ k
fold_max_le k f [] a l h = l
fold_max_le k f (n ∷ ns) a l h = fold_max_le k f ns (max a (f n)) (max_le a (f n) k l (h n)) h

pub greatest_le : (g : Input) (h : ℕ) (log : Log) → IsUnder g h log → greatest_bound g log ≤ top h
greatest_le g h log i = grind (arith, fold_max_le)

act_low : (g : Input) (h : ℕ) (log : Log) (at : Site) (act : Act) → g.catalogue.tms ≤ 63 → IsPermitted g log → IsUnder g h log
    → OfNext g log (Does at act) → IsDueAt g log at act → PutsLow h act
act_low g h log U act w p i o d =
    u_low h (setting_of g U) (local_of g U log) act (omega arith) (i.clocks U) (u_fair g log p)
    (u_due (setting_of g U) (base_of g log) (local_of g U log) act d)
act_low g h log (T t) act w p i o d =
    let r = t_of_sites g.catalogue.tms g.catalogue.dms t o.0 in
    t_low h (setting_of g (T t)) t (base_of g log) (local_of g (T t) log) act refl (omega (arith, w, r.1)) (i.clocks (T t)) (t_fair g t log p) d
act_low g h log (D d) act w p i o due = d_low h (setting_of g (D d)) (local_of g (D d) log) act (i.hands (D d)) due

by_act : (g : Input) (h : ℕ) (log : Log) (at by : Site) (act : Act) → PutsLow h act
    → MayGrow h (starts_by act + h) (if same_site at by then Some (Did act) else None)
by_act g h log at by act low = if_way (MayGrow h (starts_by act + h)) (same_site at by) (Some (Did act)) None (omega arith, low) tt

abbrev IsEmptyOf : site.Log → Type 0
IsEmptyOf l = ((at : Site) → (clock at l).ticks ≤ 0) × ((b : Site) → puts_to b l ≡ []) × HandsLow 0 l

pub under : (g : Input) (log : Log) → g.catalogue.tms ≤ 63 → AllFewTicks g.events → IsLawful g log → IsPermitted g log → IsUnder g (height log) log
under g [] w f h p = grind (arith)
under g (Mark e ∷ log) w f h p =
    under_more g (height log) (ticks_of e + height log) (Mark e) log (omega arith) (under g log w f h.1 p.1) (λ at. by_mark (height log) at e)
under g (Redeclares t ∷ log) w f h p =
    let e : t ≡ greatest_bound g log = of_next g log (Redeclares t) f h.1 h.0 in
    grind (arith, under_more, greatest_le, under g log w f h.1 p.1, under g log w f h.1 p.1)
under g (Hand from to n m ∷ log) w f h p = grind (arith, under_more, by_hand, allowed_hand, under g log w f h.1 p.1)
under g (Submitted to n ∷ log) w f h p = grind (arith, under_more, if_way, under g log w f h.1 p.1)
under g (Does by act ∷ log) w f h p =
    let i = under g log w f h.1 p.1 in
    let low = act_low g (height log) log by act w p.1 i (of_next g log (Does by act) f h.1 h.0) (allowed_act g log (Does by act) p.0) in
    under_more g (height log) (starts_by act + height log) (Does by act) log (omega arith) i (λ at. by_act g (height log) log at by act low)
under g (x ∷ log) w f h p = under_more g (height log) (height log) x log (omega arith) (under g log w f h.1 p.1) (λ at. tt)
