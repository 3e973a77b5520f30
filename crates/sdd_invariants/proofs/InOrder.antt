-- The messages that were handed over on a link are, in order, the first of those that were put on it.
use Rattle.sdd_invariants.proofs.All.{Bool, Call, Deliver, Delivers, Did, Does, Event, Hand, Handed, Input, IsAllowed, IsPermitted, List, Mark, Msg, None, Option, Puts, Redeclares, Site, Some, Submitted, Tick, U, [], ap, append-nil, arith, by_event, by_link, calls_of, delivered, delivered_le, false, given_to, handed, handed_by, hands_from, if◌then◌else◌, length, link, link_of, local_of, made, mark_due, message_at, nth_era, put_by, puts, puts_to, redeclares, refl, rises, same_site, sends_of_act, sent, slice_get, sound, subst, suc, sym, take, take-append-le, takes_part, true, txn_at, with_made, ℕ, ◌&&◌, ◌++◌, ◌-◌, ◌∙◌, ◌∷◌, ◌≡◌, ◌≤◌}
use Rattle.sdd_invariants.proofs.Bools.{and_left, and_right}
use Rattle.sdd_invariants.proofs.Lists.{take_one_more}
use Rattle.sdd_invariants.proofs.Sites.{site_is}
use Rattle.sdd_invariants.proofs.Made.{local_step}
use Rattle.sdd_invariants.proofs.Sent.{sent_grows, sent_is}
use Rattle.sdd_log.specs.All.{Log}
use Rattle.sdd_log.specs.Entries.{Entry}
use Rattle.sdd_log.specs.site_module.SiteLog as site

-- a hand that is allowed is of the next message, which is delivered

abbrev is_hand : Entry → Bool
is_hand (Hand a b n m) = true
is_hand _ = false

abbrev NoHand : Option Entry → Type 0
NoHand None = Unit {0}
NoHand (Some x) = is_hand x ≡ false

no_mark_due : (g : Input) (log : Log) → NoHand (mark_due g log)
no_mark_due g log = grind (arith)

pub record IsNextHand (log : Log) (a b : Site) (n : ℕ) (m : Msg) : Type 0 where
  pub next : n ≡ suc (handed a b log)
  pub delivered_is : n ≤ delivered (link_of a b log).there
  pub takes : takes_part b log ≡ true
  pub there : message_at a b n log ≡ Some m

abbrev pub IsNextIfHand : Log → Entry → Type 0
IsNextIfHand log (Hand a b n m) = IsNextHand log a b n m
IsNextIfHand log _ = Unit {0}

no_hand_next : (log : Log) (e : Entry) → is_hand e ≡ false → IsNextIfHand log e
no_hand_next log e h = grind arith

pub allowed_hand : (g : Input) (log : Log) (e : Entry) → IsAllowed g log e → IsNextIfHand log e
allowed_hand g log e (by_event {e = x} p) = no_hand_next log x (grind arith)
allowed_hand g log e (by_link a b n m p q r f) = record { next = p; delivered_is = q; takes = r; there = f }
allowed_hand g log e h4 = grind arith

-- more was delivered than was handed over, and no more than was put
within_if : (c : Bool) (n k d : ℕ) → (c ≡ true → n ≤ d) → k ≤ d → (if c then n else k) ≤ d
within_if c n k d f l = grind arith

pub at_link : (P : Site → Site → Type 0) (a b from to : Site) → (same_site a from && same_site b to) ≡ true → P from to → P a b
at_link P a b from to e x = subst (λ f. P f b) (sym (site_is a from (and_left _ _ e))) (subst (λ t. P from t) (sym (site_is b to (and_right _ _ e))) x)

delivered_mark : (e : Event) (a b : Site) (log : Log) → delivered (link_of a b log).there ≤ delivered (link_of a b (Mark e ∷ log)).there
delivered_mark (Deliver x y k) a b log = rises a b (Delivers x y k) (calls_of log)
delivered_mark e a b log = grind (arith, rises, calls_of)

delivered_puts : (a b at : Site) (sends : List (Site × Msg)) (calls : List (Call Msg))
    → delivered (link a b calls).there ≤ delivered (link a b (puts at sends calls)).there
delivered_puts a b at [] calls = omega arith
delivered_puts a b at (s ∷ sends) calls =
    let i = rises a b (Puts at s.0 s.1) calls in let j = delivered_puts a b at sends (Puts at s.0 s.1 ∷ calls) in omega arith

pub handed_le : (g : Input) (log : Log) (a b : Site) → IsPermitted g log → handed a b log ≤ delivered (link_of a b log).there
handed_le g [] a b h = omega arith
handed_le g (Mark e ∷ log) a b h = let i = handed_le g log a b h.1 in let j = delivered_mark e a b log in omega arith
handed_le g (Does at act ∷ log) a b h = let i = handed_le g log a b h.1 in let j = delivered_puts a b at (sends_of_act act) (calls_of log) in omega arith
handed_le g (Hand from to n m ∷ log) a b h =
    within_if (same_site a from && same_site b to) n (handed a b log) (delivered (link_of a b log).there)
    (λ e. at_link (λ x y. n ≤ delivered (link_of x y log).there) a b from to e (allowed_hand g log (Hand from to n m) h.0).delivered_is)
    (handed_le g log a b h.1)
handed_le g (_ ∷ log) a b h = handed_le g log a b h.1

pub delivered_within : (a b : Site) (log : Log) → delivered (link_of a b log).there ≤ length (sent a b log)
delivered_within a b log = delivered_le (link_of a b log).there (delivered (link_of a b log).back) (sound a b (calls_of log)).there

pub handed_within : (g : Input) (log : Log) (a b : Site) → IsPermitted g log → handed a b log ≤ length (puts_to b (local_of g a log))
handed_within g log a b h = grind (arith, handed_le, delivered_within, handed, sent_is)

-- the messages handed from a, once an entry came to the log of b

pub if_more : (c : Bool) (xs : List Msg) (m : Msg) → (if c then xs ++ m ∷ [] else xs) ≡ xs ++ (if c then m ∷ [] else [])
if_more c xs m = grind (arith, append-nil)

pub hands_step : (a : Site) (o : Option site.Entry) (l : site.Log) → hands_from a (with_made o l) ≡ hands_from a l ++ handed_by a o
hands_step a o l = grind (arith, if_more, append-nil)

pub hands_grow : (g : Input) (a b : Site) (e : Entry) (log : Log)
    → hands_from a (local_of g b (e ∷ log)) ≡ hands_from a (local_of g b log) ++ handed_by a (made g b log e)
hands_grow g a b e log = ap (hands_from a) (local_step g b e log) ∙ hands_step a (made g b log e) (local_of g b log)

none_if : (a : Site) (c : Bool) (o : Option site.Entry) → handed_by a o ≡ [] → handed_by a (if c then o else None) ≡ []
none_if a c o e = grind arith

abbrev AreFirst : Input → Site → Site → Log → Type 0
AreFirst g a b log = hands_from a (local_of g b log) ≡ take (handed a b log) (sent a b log)

pub handed_of_sent : (g : Input) (log : Log) (a b : Site) → IsPermitted g log → handed a b log ≤ length (sent a b log)
handed_of_sent g log a b h = let i = handed_le g log a b h in let j = delivered_within a b log in omega arith

-- an entry that hands nothing over on the link
none_more : (g : Input) (a b : Site) (e : Entry) (log : Log) → handed a b (e ∷ log) ≡ handed a b log
    → handed_by a (made g b log e) ≡ [] → IsPermitted g log → AreFirst g a b log → AreFirst g a b (e ∷ log)
none_more g a b e log p q h i =
    hands_grow g a b e log ∙ ap (λ xs. hands_from a (local_of g b log) ++ xs) q ∙ append-nil _ ∙ i
    ∙ sym (ap (λ k. take k (sent a b (e ∷ log))) p ∙ ap (take (handed a b log)) (sent_grows g a b e log)
    ∙ take-append-le (handed a b log) (sent a b log) (put_by b (made g a log e)) (handed_of_sent g log a b h))

-- a hand
one_seen : (a from : Site) (c d : Bool) (k n : ℕ) (xs ys : List Msg) (m : Msg) → same_site a from ≡ c
    → ((c && d) ≡ true → (n ≡ suc k) × (slice_get xs k ≡ Some m)) → ys ≡ take k xs
    → ys ++ handed_by a (if d then Some (Handed from m) else None) ≡ take (if c && d then n else k) xs
one_seen a from c d k n xs ys m p f e = grind (arith, take_one_more, append-nil)

there : (log : Log) (a b : Site) (n : ℕ) (m : Msg) → IsNextHand log a b n m → (n ≡ suc (handed a b log)) × (slice_get (sent a b log) (handed a b log) ≡ Some m)
there log a b n m h = let z : n - 1 ≡ handed a b log = omega (arith, h.next) in (h.next, subst (λ k. slice_get (sent a b log) k ≡ Some m) z h.there)

hands_are : (g : Input) (log : Log) (a b : Site) → IsPermitted g log → AreFirst g a b log
hands_are g [] a U h = refl
hands_are g (Mark (Tick t n) ∷ log) a b h = grind (arith, none_more, none_if, (hands_are g log a b h.1))
hands_are g (Redeclares t ∷ log) a b h = grind (arith, none_more, nth_era, redeclares, (hands_are g log a b h.1))
hands_are g (Submitted s n ∷ log) a b h =
    none_more g a b (Submitted s n) log refl (none_if a (same_site b s) (given_to n (txn_at g n)) (grind arith)) h.1 (hands_are g log a b h.1)
hands_are g (Does at act ∷ log) a b h = none_more g a b (Does at act) log refl (none_if a (same_site b at) (Some (Did act)) refl) h.1 (hands_are g log a b h.1)
hands_are g (Hand from to n m ∷ log) a b h =
    hands_grow g a b (Hand from to n m) log
    ∙ one_seen a from (same_site a from) (same_site b to) (handed a b log) n (sent a b log) (hands_from a (local_of g b log)) m refl
    (λ e. there log a b n m (at_link (λ x y. IsNextHand log x y n m) a b from to e (allowed_hand g log (Hand from to n m) h.0))) (hands_are g log a b h.1)
hands_are g [] a _ h = refl
hands_are g (x ∷ log) a b h = none_more g a b x log refl refl h.1 (hands_are g log a b h.1)

-- the messages handed from a at b are the first of those that a put on its link to b
pub in_order : (g : Input) (log : Log) (a b : Site) → IsPermitted g log → hands_from a (local_of g b log) ≡ take (handed a b log) (puts_to b (local_of g a log))
in_order g log a b h = hands_are g log a b h ∙ ap (take (handed a b log)) (sent_is g a b log)

-- the message of a hand stands at its place among those that its site put on the link
pub hand_was_put : (g : Input) (log : Log) (a b : Site) (n : ℕ) (m : Msg) → IsAllowed g log (Hand a b n m)
    → (n ≡ suc (handed a b log)) × (slice_get (puts_to b (local_of g a log)) (handed a b log) ≡ Some m)
hand_was_put g log a b n m h = grind (arith, there, allowed_hand, handed, sent_is)
