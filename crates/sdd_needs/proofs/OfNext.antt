-- What the next entry of a log is, beyond that it is allowed: it concerns sites and links of the network, and an event
-- comes from those that were given or from a round.
use Rattle.sdd_needs.proofs.All.{Act, AllFewTicks, Bool, Call, Deliver, Does, Down, Entry, Event, Hand, Input, IsLawful, List, Log, Lose, MAX_TICKS, Mark, Msg, None, Notes, Option, Redeclare, Redeclares, Repeat, Resend, Round, Settle, Site, Some, Submit, Submitted, Tick, Up, [], after_mark, all_links, arith, calls_of, cond, cons_option, delivered, does_at, false, filter_map, flat_map, found_at, from_event, greatest_bound, hand_due, hand_number, hand_on, handed, if◌then◌else◌, in_flight, left, link, link_of, mark_due, mark_from, mark_of, next, next_at, next_mark_is, next_number, one_of, quiet, refl, replicate, resends_now, round, site_due, sites, slice_get, subst, suc, sym, takes_part, ticks_of, true, zero, ℕ, ◌++◌, ◌+◌, ◌∙◌, ◌∷◌, ◌≡◌, ◌≤◌}

abbrev pub IsThere : {A : Type 0} → List A → A → Type 0
IsThere xs x = (k : ℕ) × (slice_get xs k ≡ Some x)

abbrev pub OfNext : Input → Log → Entry → Type 0
OfNext g log (Mark e) = ticks_of e ≤ MAX_TICKS
OfNext g log (Round es) = es ≡ round (all_links g) (calls_of log)
OfNext g log (Redeclares t) = t ≡ greatest_bound g log
OfNext g log (Hand a b n m) = IsThere (all_links g) (a, b)
OfNext g log (Submitted at n) = mark_due g log ≡ Some (Submitted at n)
OfNext g log (Does at act) = IsThere (sites g.catalogue.tms g.catalogue.dms) at × (next_at g log at ≡ Some act)
OfNext g log Notes = Unit {0}

-- by an event

of_mark : (g : Input) (log : Log) (e : Entry) → mark_due g log ≡ Some e → OfNext g log e
of_mark g log e p = grind (arith)

-- at a site, on a link

of_site : (g : Input) (log : Log) (at : Site) (o : Option Act) (e : Entry) → IsThere (sites g.catalogue.tms g.catalogue.dms) at
    → next_at g log at ≡ o → does_at at o ≡ Some e → OfNext g log e
of_site g log at o e k p q = grind arith

of_link : (g : Input) (log : Log) (a b : Site) (c : Bool) (o : Option ℕ) (e : Entry) → IsThere (all_links g) (a, b)
    → (if c then hand_number log (a, b) o else None) ≡ Some e → OfNext g log e
of_link g log a b c o e k p = grind (arith)

-- the next mark

some_mark : (g : Input) (log : Log) (x : Event) (e : Entry) → ticks_of x ≤ MAX_TICKS → Some (Mark x) ≡ Some e → OfNext g log e
some_mark g log x e l p = let s : Mark x ≡ e = cc in subst (OfNext g log) s l

of_events : (g : Input) (log : Log) (q : Bool) (ws : List Event) (e : Entry) → AllFewTicks ws
    → mark_from g log q (round (all_links g) (calls_of log)) ws ≡ Some e → OfNext g log e
of_events g log q [] e f p = cc
of_events g log true (Settle ∷ ws) e f p = of_events g log true ws e f.1 p
of_events g log true (Redeclare ∷ ws) e f p = let s : Redeclares (greatest_bound g log) ≡ e = cc in subst (OfNext g log) s refl
of_events g log q (Submit n ∷ ws) e f p = some_mark g log (Submit n) e f.0 p
of_events g log q (Deliver a b k ∷ ws) e f p = some_mark g log (Deliver a b k) e f.0 p
of_events g log q (Lose a b k ∷ ws) e f p = some_mark g log (Lose a b k) e f.0 p
of_events g log q (Repeat a b k ∷ ws) e f p = some_mark g log (Repeat a b k) e f.0 p
of_events g log q (Resend a b ∷ ws) e f p = some_mark g log (Resend a b) e f.0 p
of_events g log q (Tick t n ∷ ws) e f p = some_mark g log (Tick t n) e f.0 p
of_events g log q (Down d ∷ ws) e f p = some_mark g log (Down d) e f.0 p
of_events g log q (Up d ∷ ws) e f p = some_mark g log (Up d) e f.0 p
of_events g log false (_ ∷ ws) e f p = let s : Round (round (all_links g) (calls_of log)) ≡ e = cc in subst (OfNext g log) s refl

-- the events that are left tick few times

abbrev pub AreFewLeft : List Event × List Event → Type 0
AreFewLeft s = AllFewTicks s.0 × AllFewTicks s.1

few_from : (es : List Event) → AllFewTicks es → AllFewTicks (from_event es)
few_from [] f = tt
few_from (Settle ∷ es) f = few_from es f.1
few_from (_ ∷ es) f = f

few_after : (s : List Event × List Event) → AreFewLeft s → AreFewLeft (after_mark s)
few_after s f = grind (arith, few_from)

few_join : (xs ys : List Event) → AllFewTicks xs → AllFewTicks ys → AllFewTicks (xs ++ ys)
few_join [] ys f h = h
few_join (x ∷ xs) ys f h = (f.0, few_join xs ys f.1 h)

few_resend : (b : Bool) (x y : Site) (es : List Event) → AllFewTicks es → AllFewTicks (cons_option (cond b (Some (Resend x y)) None) es)
few_resend b x y es f = grind arith

few_resends : (calls : List (Call Msg)) (ls : List (Site × Site))
    → AllFewTicks (filter_map (λ l. cond (resends_now (link l.0 l.1 calls)) (Some (Resend l.0 l.1)) None) ls)
few_resends calls [] = tt
few_resends calls (l ∷ ls) = few_resend (resends_now (link l.0 l.1 calls)) l.0 l.1 _ (few_resends calls ls)

few_replicate : (n : ℕ) (x y : Site) → AllFewTicks (replicate n (Deliver x y 1))
few_replicate zero x y = tt
few_replicate (suc n) x y = (omega arith, few_replicate n x y)

few_delivers : (calls : List (Call Msg)) (ls : List (Site × Site))
    → AllFewTicks (flat_map (λ l. replicate (in_flight (link l.0 l.1 calls)) (Deliver l.0 l.1 1)) ls)
few_delivers calls [] = tt
few_delivers calls (l ∷ ls) = few_join _ _ (few_replicate (in_flight (link l.0 l.1 calls)) l.0 l.1) (few_delivers calls ls)

of_lists : (g : Input) (log : Log) (e : Entry) (s : List Event × List Event) → AreFewLeft s → mark_of g log s ≡ Some e → OfNext g log e
of_lists g log e (ws, []) f q = of_events g log (quiet (all_links g) (calls_of log)) ws e f.0 q
of_lists g log e (ws, x ∷ r) f q = some_mark g log x e f.1.0 q

next_is : (g : Input) (log : Log) (e : Entry) → AreFewLeft (left g.events log) → next g log ≡ Some e → OfNext g log e
next_is g log e f p =
    one_of (OfNext g log e) (mark_due g log) _ e (of_mark g log e)
    (one_of (OfNext g log e) (site_due g log) _ e (λ q. let r =
    found_at (λ at. does_at at (next_at g log at)) (sites g.catalogue.tms g.catalogue.dms) e q in of_site
    g log r.1 (next_at g log r.1) e (r.0, r.2) refl r.3)
    (one_of (OfNext g log e) (hand_due g log) _ e
    (λ q. let r = found_at (hand_on log) (all_links g) e q in of_link g log r.1.0 r.1.1
    (takes_part r.1.1 log) (next_number (handed r.1.0 r.1.1 log) (delivered (link_of r.1.0 r.1.1 log).there)) e (r.0, r.2) r.3)
    (λ q. of_lists g log e (left g.events log) f (sym (next_mark_is g log) ∙ q)))) p

few_left : (g : Input) (log : Log) → AllFewTicks g.events → IsLawful g log → AreFewLeft (left g.events log)
few_left g [] f h = (f, tt)
few_left g (Mark e ∷ log) f h = few_after (left g.events log) (few_left g log f h.1)
few_left g (Redeclares t ∷ log) f h = few_after (left g.events log) (few_left g log f h.1)
few_left g (Round es ∷ log) f h =
    let i = few_left g log f h.1 in
    (i.0, subst AllFewTicks (sym (next_is g log (Round es) i h.0)) (few_join _ _ (few_resends (calls_of log) (all_links g)) (few_delivers (calls_of log) (all_links g))))
few_left g (_ ∷ log) f h = few_left g log f h.1

pub of_next : (g : Input) (log : Log) (e : Entry) → AllFewTicks g.events → IsLawful g log → next g log ≡ Some e → OfNext g log e
of_next g log e f h p = next_is g log e (few_left g log f h) p
