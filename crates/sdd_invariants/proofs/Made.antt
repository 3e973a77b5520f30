-- The log of a site after an entry, and the place of each of its entries in the log of everything.
use Rattle.sdd_invariants.proofs.All.{Act, Bool, Did, Does, Era, Hand, Handed, Input, IsActAt, IsAt, IsHandAt, IsPermitted, IsSubmitAt, Msg, None, Option, Redeclared, Site, Some, Submits, Submitted, T, Txn, [], ap, arith, false, if◌then◌else◌, local_of, made, nth_era, redeclares, refl, same_site, subst, sym, true, txn_at, with_made, ℕ, ◌++◌, ◌∙◌, ◌∷◌, ◌≡◌}
use Rattle.sdd_invariants.proofs.Bools.{not_both}
use Rattle.sdd_invariants.proofs.Sites.{site_is, site_self}
use Rattle.sdd_log.specs.All.{Log}
use Rattle.sdd_log.specs.Entries.{Entry}
use Rattle.sdd_log.specs.site_module.SiteLog as site

pub local_step : (g : Input) (at : Site) (e : Entry) (log : Log) → local_of g at (e ∷ log) ≡ with_made (made g at log e) (local_of g at log)
local_step g at e log = grind (arith)

-- what an entry that makes an act, a hand or a submission is

some_if : {A : Type 0} (b : Bool) (x y : A) → (if b then Some x else None) ≡ Some y → (b ≡ true) × (x ≡ y)
some_if b x y e = grind arith

abbrev pub IsMakerOf : Site → site.Entry → Input → Entry → Type 0
IsMakerOf at (Did act) g e = e ≡ Does at act
IsMakerOf at (Handed from m) g e = (n : ℕ) × (e ≡ Hand from at n m)
IsMakerOf at (Submits n t) g e = (e ≡ Submitted at n) × (txn_at g n ≡ Some t)
IsMakerOf at _ g e = Unit {0}

pub maker : (g : Input) (at : Site) (log : Log) (e : Entry) (x : site.Entry) → made g at log e ≡ Some x → IsMakerOf at x g e
maker g at log (Hand from to n m) x h =
    let r = some_if (same_site at to) (Handed from m) x h in
    subst (λ y. IsMakerOf at y g (Hand from to n m)) r.1 (n, ap (λ s. Hand from s n m) (sym (site_is at to r.0)))
maker g at log e x h = grind (arith, some_if, same_site, IsMakerOf, nth_era, redeclares, site_is)

-- the place of an entry; the class list with which a transaction module begins has none

abbrev is_redeclared : site.Entry → Bool
is_redeclared (Redeclared era t) = true
is_redeclared _ = false

no_place : {A : Type 0} (l k : site.Log) (x : site.Entry) → [] ≡ l ++ x ∷ k → A
no_place [] k x e = cc
no_place (y ∷ l) k x e = cc

not_redeclared : {A : Type 0} (x y : site.Entry) → y ≡ x → is_redeclared y ≡ true → is_redeclared x ≡ false → A
not_redeclared x y e f h = absurd (not_both (is_redeclared y) f (ap is_redeclared e ∙ h))

at_beginning : {A : Type 0} (era : Era) (later before : site.Log) (x : site.Entry) → is_redeclared x ≡ false → Redeclared era 0 ∷ [] ≡ later ++ x ∷ before → A
at_beginning era [] before x f e = let p : Redeclared era 0 ≡ x = cc in not_redeclared x (Redeclared era 0) p refl f
at_beginning era (y ∷ later) before x f e = let t : [] ≡ later ++ x ∷ before = cc in no_place later before x t

at_more : (g : Input) (at : Site) (e : Entry) (log : Log) (x : site.Entry) (before : site.Log) → IsAt g at log x before → IsAt g at (e ∷ log) x before
at_more g at e log x before h =
    record { later = e ∷ h.later; entry = h.entry; rest = h.rest; is = ap (λ l. e ∷ l) h.is; local_is = h.local_is; makes = h.makes }

place_in : (g : Input) (at : Site) (e : Entry) (log : Log) (o : Option site.Entry) (later : site.Log) (x : site.Entry) (before : site.Log)
    → made g at log e ≡ o → ((k : site.Log) → local_of g at log ≡ k ++ x ∷ before → IsAt g at log x before)
    → with_made o (local_of g at log) ≡ later ++ x ∷ before → IsAt g at (e ∷ log) x before
place_in g at e log None later x before m i q = at_more g at e log x before (i later q)
place_in g at e log (Some y) [] x before m i q =
    let t : local_of g at log ≡ before = cc in
    record { later = []; entry = e; rest = log; is = refl; local_is = t; makes = m ∙ ap (λ z. Some z) cc }
place_in g at e log (Some y) (z ∷ later) x before m i q = grind (arith, at_more)

place : (g : Input) (at : Site) (log : Log) (later : site.Log) (x : site.Entry) (before : site.Log) → is_redeclared x ≡ false
    → local_of g at log ≡ later ++ x ∷ before → IsAt g at log x before
place g (T t) [] later x before f q = at_beginning (nth_era g 0) later before x f q
place g at (e ∷ log) later x before f q =
    place_in g at e log (made g at log e) later x before refl (λ k p. place g at log k x before f p) (sym (local_step g at e log) ∙ q)
place g _ [] later x before f q = no_place later before x q

pub place_of_act : (g : Input) (at : Site) (log : Log) (later : site.Log) (act : Act) (before : site.Log)
    → local_of g at log ≡ later ++ Did act ∷ before → IsActAt g at log act before
place_of_act g at log later act before e =
    let i = place g at log later (Did act) before refl e in
    record { later = i.later; rest = i.rest; is = i.is ∙ ap (λ x. i.later ++ x ∷ i.rest) (maker g at i.rest i.entry (Did act) i.makes); local_is = i.local_is }

pub place_of_hand : (g : Input) (at : Site) (log : Log) (later : site.Log) (from : Site) (m : Msg) (before : site.Log)
    → local_of g at log ≡ later ++ Handed from m ∷ before → IsHandAt g at log from m before
place_of_hand g at log later from m before e =
    let i = place g at log later (Handed from m) before refl e in
    let d = maker g at i.rest i.entry (Handed from m) i.makes in
    record { later = i.later; rest = i.rest; number = d.0; is = i.is ∙ ap (λ x. i.later ++ x ∷ i.rest) d.1; local_is = i.local_is }

pub place_of_submit : (g : Input) (at : Site) (log : Log) (later : site.Log) (n : ℕ) (text : Txn) (before : site.Log)
    → local_of g at log ≡ later ++ Submits n text ∷ before → IsSubmitAt g at log n text before
place_of_submit g at log later n text before e =
    let i = place g at log later (Submits n text) before refl e in
    let d = maker g at i.rest i.entry (Submits n text) i.makes in
    record { later = i.later; rest = i.rest; is = i.is ∙ ap (λ x. i.later ++ x ∷ i.rest) d.0; local_is = i.local_is; text_is = d.1 }

more_at : (o : Option site.Entry) (more l k all : site.Log) → all ≡ with_made o l → l ≡ more ++ k → (m : site.Log) × (all ≡ m ++ k)
more_at None more l k all e f = (more, e ∙ f)
more_at (Some y) more l k all e f = (y ∷ more, e ∙ ap (λ z. y ∷ z) f)

-- an entry of the log of everything is in its site's log
pub local_at : (g : Input) (at : Site) (later rest : Log) (e : Entry) (x : site.Entry) → made g at rest e ≡ Some x
    → (more : site.Log) × (local_of g at (later ++ e ∷ rest) ≡ more ++ x ∷ local_of g at rest)
local_at g at [] rest e x m = ([], local_step g at e rest ∙ ap (λ o. with_made o (local_of g at rest)) m)
local_at g at (y ∷ later) rest e x m =
    let i = local_at g at later rest e x m in
    more_at (made g at (later ++ e ∷ rest) y) i.0 (local_of g at (later ++ e ∷ rest)) (x ∷ local_of g at rest) (local_of g at (y ∷ (later ++ e ∷ rest)))
    (local_step g at y (later ++ e ∷ rest)) i.1

-- a later log's local log goes on from an earlier one's
pub local_grows : (g : Input) (at : Site) (later log : Log) → (more : site.Log) × (local_of g at (later ++ log) ≡ more ++ local_of g at log)
local_grows g at [] log = ([], refl)
local_grows g at (y ∷ later) log =
    let i = local_grows g at later log in
    more_at (made g at (later ++ log) y) i.0 (local_of g at (later ++ log)) (local_of g at log) (local_of g at (y ∷ (later ++ log)))
    (local_step g at y (later ++ log)) i.1

pub own_act : (g : Input) (at : Site) (act : Act) (log : Log) → local_of g at (Does at act ∷ log) ≡ Did act ∷ local_of g at log
own_act g at act log = rw (site_self at) refl

pub permitted_before : (g : Input) (later log : Log) → IsPermitted g (later ++ log) → IsPermitted g log
permitted_before g [] log h = h
permitted_before g (e ∷ later) log h = permitted_before g later log h.1
