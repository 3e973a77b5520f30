-- How many marks there are within the limits, how many messages on a link, and how many messages and transactions a site
-- was handed and given.
use Rattle.sdd_obligations.proofs.All.{AllFewTicks, Bool, Call, Did, Does, Entry, Era, Event, Hand, Handed, Input, IsAllowed, IsLawful, IsPermitted, IsWithin, Link, List, Log, MAX_LINK_MESSAGES, Mark, Msg, None, Option, Puts, Redeclares, Site, Some, Submits, Submitted, Txn, U, [], allowed_hand, allowed_mark, arith, both, calls_of, delivered_within, false, given_to, handed, handed_le, hands, if_way, if◌then◌else◌, length, length-append, link, local_of, local_step, made, made_by_mark, marks, neither_left, neither_right, not_past, nth_era, puts, puts_past, redeclared_entry, redeclares, refl, same_link, same_site, sends_of_act, sent, sent_grows, site_self, sites, submits, suc, true, turned, txn_at, ℕ, ◌&&◌, ◌++◌, ◌+◌, ◌∷◌, ◌≡◌, ◌≤◌}
use Rattle.sdd_obligations.proofs.SitesAndLinks.{from_there}
use Rattle.sdd_needs.proofs.OfNext.{IsThere, of_next}
use Rattle.sdd_obligations.proofs.Sums.{total, total_raise, total_up}
use Rattle.sdd_invariants.specs.net.Links.{put}
use Rattle.sdd_invariants.specs.site_module.SiteLog as site

-- marks and messages within the limits

abbrev AllWithin : List (Call Msg) → Type 0
AllWithin calls = (a b : Site) → length (link a b calls).there.sent ≤ MAX_LINK_MESSAGES

-- a put on a link is one message more there, and none on another link
put_within : (n : ℕ) (c d : Bool) (m : Msg) (l : Link Msg) → (c ≡ true → suc (length l.there.sent) ≤ n) → length l.there.sent ≤ n
    → length (if c then put m l else if d then turned (put m (turned l)) else l).there.sent ≤ n
put_within n c d m l f h = grind (arith, length-append, sent)

one_within : (at to : Site) (m : Msg) (calls : List (Call Msg)) → AllWithin calls
    → suc (length (link at to calls).there.sent) ≤ MAX_LINK_MESSAGES → AllWithin (Puts at to m ∷ calls)
one_within at to m calls w l a b =
    put_within MAX_LINK_MESSAGES (same_site a at && same_site b to) (same_site a to && same_site b at) m (link a b calls)
    (λ e. same_link (λ x y. suc (length (link x y calls).there.sent) ≤ MAX_LINK_MESSAGES) a b at to e l) (w a b)

puts_within : (at : Site) (sends : List (Site × Msg)) (calls : List (Call Msg)) → AllWithin calls → puts_past calls at sends ≡ false
    → AllWithin (puts at sends calls)
puts_within at [] calls w e = w
puts_within at (s ∷ sends) calls w e =
    let l = not_past MAX_LINK_MESSAGES (suc (length (link at s.0 calls).there.sent)) (neither_left _ _ e) in
    puts_within at sends (Puts at s.0 s.1 ∷ calls) (one_within at s.0 s.1 calls w l) (neither_right _ _ e)

as_before : (n : ℕ) (xs ys zs : List Msg) → zs ≡ xs ++ ys → ys ≡ [] → length xs ≤ n → length zs ≤ n
as_before n xs ys zs e f l = grind (arith, length-append)

pub sent_few : (g : Input) (log : Log) → IsWithin log → (a b : Site) → length (sent a b log) ≤ MAX_LINK_MESSAGES
sent_few g [] h a b = omega arith
sent_few g (Mark e ∷ log) h a b = as_before MAX_LINK_MESSAGES (sent a b log) _ _ (sent_grows g a b (Mark e) log) (grind arith) (sent_few g log h.1 a b)
sent_few g (Does at act ∷ log) h a b = puts_within at (sends_of_act act) (calls_of log) (λ x y. sent_few g log h.1 x y) h.0 a b
sent_few g (_ ∷ log) h a b = sent_few g log h.1 a b

pub handed_few : (g : Input) (log : Log) → IsPermitted g log → IsWithin log → (a b : Site) → handed a b log ≤ MAX_LINK_MESSAGES
handed_few g log p h a b = let i = handed_le g log a b p in let j = delivered_within a b log in let k = sent_few g log h a b in omega (arith, i, j, k)

-- what came to the log of a site

abbrev hands_by : Option site.Entry → ℕ
hands_by (Some (Handed from m)) = 1
hands_by _ = 0

abbrev submits_by : Option site.Entry → ℕ
submits_by (Some (Submits n t)) = 1
submits_by _ = 0

-- an entry counts where it is of its kind
abbrev None2 : Option site.Entry → Type 0
None2 o = (hands_by o ≡ 0) × (submits_by o ≡ 0)

none_marked : (at : Site) (e : Event) → None2 (made_by_mark at e)
none_marked at e = grind (arith, if_way, None2)

none_redeclared : (at : Site) (era : Era) (t : ℕ) → None2 (redeclared_entry at era t)
none_redeclared at era t = grind arith

given_if : (c : Bool) (n : ℕ) (o : Option Txn) → (hands_by (if c then given_to n o else None) ≡ 0) × (submits_by (if c then given_to n o else None) ≤ 1)
given_if c n o = grind (arith)

-- each mark gives at most one transaction to a site

abbrev pending : Log → ℕ
pending (Mark e ∷ log) = 1
pending _ = 0

submits_step : (g : Input) (at : Site) (e : Entry) (log : Log) (k n : ℕ) → submits_by (made g at log e) ≤ k
    → length (submits (local_of g at log)) + k ≤ n → length (submits (local_of g at (e ∷ log))) ≤ n
submits_step g at e log k n l h = grind (arith, submits, made, local_step)

submits_marks : (g : Input) (at : Site) (log : Log) → IsPermitted g log → length (submits (local_of g at log)) + pending log ≤ marks log
submits_marks g U [] p = omega arith
submits_marks g at (Mark e ∷ log) p = grind (arith, none_marked, submits_step, marks, submits_marks g at log p.1)
submits_marks g at (Redeclares t ∷ log) p = grind (arith, none_redeclared, submits_step, marks, submits_marks g at log p.1)
submits_marks g at (Hand from to n m ∷ log) p = grind (arith, if_way, submits_step, marks, submits_marks g at log p.1)
submits_marks g at (Submitted to n ∷ log) p =
    grind (arith, allowed_mark, submits_step, marks, given_if, submits_marks g at log p.1)
submits_marks g at (Does by act ∷ log) p = grind (arith, if_way, submits_step, marks, submits_marks g at log p.1)
submits_marks g _ [] p = omega arith
submits_marks g at (x ∷ log) p =
    let j = submits_step g at x log 0 (marks log) (omega arith) (omega (arith, submits_marks g at log p.1)) in omega (arith, j)

pub submits_few : (g : Input) (at : Site) (log : Log) → IsPermitted g log → length (submits (local_of g at log)) ≤ marks log
submits_few g at log p = let i = submits_marks g at log p in omega (arith, i)

-- each hand is of some link

abbrev hands_sum : Input → Site → Log → ℕ
hands_sum g at log = total (λ a. handed a at log) (sites g.catalogue.tms g.catalogue.dms)

hands_step : (g : Input) (at : Site) (e : Entry) (log : Log) (n : ℕ) → hands_by (made g at log e) ≡ 0
    → hands (local_of g at log) ≤ n → hands (local_of g at (e ∷ log)) ≤ n
hands_step g at e log n z h = grind (arith, local_step)

numbered : (g : Input) (log : Log) (a b from to : Site) (n : ℕ) (m : Msg) → IsAllowed g log (Hand from to n m)
    → (same_site a from && same_site b to) ≡ true → n ≡ suc (handed a b log)
numbered g log a b from to n m h e = same_link (λ x y. n ≡ suc (handed x y log)) a b from to e (allowed_hand g log (Hand from to n m) h).next

hand_sum : (g : Input) (at from to : Site) (n : ℕ) (m : Msg) (log : Log) → IsAllowed g log (Hand from to n m)
    → IsThere (sites g.catalogue.tms g.catalogue.dms) from → same_site at to ≡ true → 1 + hands_sum g at log ≤ hands_sum g at (Hand from to n m ∷ log)
hand_sum g at from to n m log h k e =
    let own : (same_site from from && same_site at to) ≡ true = both (same_site from from) (same_site at to) (site_self from) e in
    let is : n ≡ suc (handed from at log) = numbered g log from at from to n m h own in
    total_raise (λ a. handed a at log) (λ a. handed a at (Hand from to n m ∷ log)) 1 (sites g.catalogue.tms g.catalogue.dms) k.0 from k.1
    (λ a. (grind arith)) (rw own (omega (arith, is)))

hand_step : (g : Input) (at from to : Site) (n : ℕ) (m : Msg) (log : Log) (c : Bool) → IsAllowed g log (Hand from to n m)
    → IsThere (sites g.catalogue.tms g.catalogue.dms) from → same_site at to ≡ c → hands (local_of g at log) ≤ hands_sum g at log
    → hands (local_of g at (Hand from to n m ∷ log)) ≤ hands_sum g at (Hand from to n m ∷ log)
hand_step g at from to n m log c h k e i = grind (arith, hand_sum, total_up, numbered)

pub hands_few : (g : Input) (at : Site) (log : Log) → AllFewTicks g.events → IsLawful g log → IsPermitted g log → hands (local_of g at log) ≤ hands_sum g at log
hands_few g U [] f l p = omega arith
hands_few g at (Mark e ∷ log) f l p = hands_step g at (Mark e) log _ (none_marked at e).0 (hands_few g at log f l.1 p.1)
hands_few g at (Redeclares t ∷ log) f l p =
    hands_step g at (Redeclares t) log _ (none_redeclared at (nth_era g (suc (redeclares log))) t).0 (hands_few g at log f l.1 p.1)
hands_few g at (Hand from to n m ∷ log) f l p =
    hand_step g at from to n m log (same_site at to) p.0 (from_there g from to (of_next g log (Hand from to n m) f l.1 l.0)) refl (hands_few g at log f l.1 p.1)
hands_few g at (Submitted to n ∷ log) f l p =
    hands_step g at (Submitted to n) log _ (given_if (same_site at to) n (txn_at g n)).0 (hands_few g at log f l.1 p.1)
hands_few g at (Does by act ∷ log) f l p =
    hands_step g at (Does by act) log _ (if_way (λ o. hands_by o ≡ 0) (same_site at by) (Some (Did act)) None refl refl) (hands_few g at log f l.1 p.1)
hands_few g _ [] f l p = omega arith
hands_few g at (_ ∷ log) f l p = hands_few g at log f l.1 p.1
