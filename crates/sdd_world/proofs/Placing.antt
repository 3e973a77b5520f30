-- Modules of the network, and the places of sites in the spool and in mailboxes.
use Rattle.sdd_world.proofs.All.{Bool, Boxes, D, HasBoxes, HasSenders, Input, IsBelow, IsModuleOf, IsPlaced, IsSender, IsSiteOf, Log, Mailbox, Msg, None, Site, Some, T, U, and_from, ap, arith, dm_no, false, if◌then◌else◌, is_down, is_site, le-leb, nat_le, not, numbered, place_of, refl, same_here, same_is, same_site, subst, suc, sym, takes_part, tm_no, true, ℕ, ◌&&◌, ◌+◌, ◌∙◌, ◌≡◌, ◌≢◌, ◌≤◌}

-- modules are the sites but U

pub site_of : (g : Input) (at : Site) → IsModuleOf g at → IsSiteOf g at
site_of g U h = absurd h
site_of g (T n) h = h
site_of g (D n) h = h

pub no_u : (g : Input) (at : Site) → IsModuleOf g at → same_site at U ≡ false
no_u g U h = absurd h
no_u g (T n) h = refl
no_u g (D n) h = refl

pub module_of : (g : Input) (at : Site) → at ≢ U → IsSiteOf g at → IsModuleOf g at
module_of g U n h = absurd (n refl)
module_of g (T t) n h = h
module_of g (D d) n h = h

-- one that is down takes no part, and any other does
pub part_is : (g : Input) (at : Site) (log : Log) → IsModuleOf g at → takes_part at log ≡ not (is_down at log)
part_is g U log h = absurd h
part_is g (T n) log h = refl
part_is g (D n) log h = refl

-- a site that takes no part is a module that is down

pub is_module : (g : Input) (at : Site) (log : Log) → IsSiteOf g at → takes_part at log ≡ false → IsModuleOf g at
is_module g U log h e = absurd (let no : true ≡ false = e in cc)
is_module g (T n) log h e = h
is_module g (D n) log h e = h

not_down : (down : Bool) → not down ≡ false → down ≡ true
not_down true e = refl
not_down false e = cc

pub no_part_down : (at : Site) (log : Log) → takes_part at log ≡ false → is_down at log ≡ true
no_part_down U log e = absurd (let no : true ≡ false = e in cc)
no_part_down (T n) log e = not_down (is_down (T n) log) e
no_part_down (D n) log e = not_down (is_down (D n) log) e

pub other_way : (a b : Site) → same_site a b ≡ false → same_site b a ≡ false
other_way a b e = elim (same_site b a) as (λ c. same_site b a ≡ c → c ≡ false) [
  | true ↦ λ p. (let yes : same_site a b ≡ true = subst (λ z. same_site a z ≡ true) (sym (same_is b a p)) (same_here a) in
      let no : true ≡ false = sym yes ∙ e in cc)
  | false ↦ λ p. refl
] refl

-- the place of a site

pub in_range : (n most : ℕ) → 1 ≤ n → n ≤ most → (nat_le 1 n && nat_le n most) ≡ true
in_range n most low high = and_from (nat_le 1 n) (nat_le n most) (le-leb 1 n low) (le-leb n most high)

pub t_place : (tms n : ℕ) → (nat_le 1 n && nat_le n tms) ≡ true → place_of tms (T (tm_no n)) ≡ Some n
t_place tms n e = ap (λ c. if c then Some n else None) e

pub d_place : (tms n : ℕ) → nat_le 1 n ≡ true → place_of tms (D (dm_no n)) ≡ Some (tms + n)
d_place tms n e = ap (λ c. if c then Some (tms + n) else None) e

place_within : (tms dms : ℕ) (x : Site) → is_site tms dms x ≡ true → IsBelow (suc (tms + dms)) (place_of tms x)
place_within tms dms U h = omega arith
place_within tms dms (T n) h =
    let p = numbered n.0 tms h in
    let high : n.0 ≤ tms = p.1 in
    subst (IsBelow (suc (tms + dms))) (sym (t_place tms n.0 h)) (omega arith)
place_within tms dms (D n) h =
    let p = numbered n.0 dms h in
    let high : n.0 ≤ dms = p.1 in
    subst (IsBelow (suc (tms + dms))) (sym (d_place tms n.0 (le-leb 1 n.0 p.0))) (omega arith)

if_below : (c : Bool) (k size : ℕ) → IsBelow size (if c then Some k else None) → (c ≡ true) × (suc k ≤ size)
if_below true k size h = (refl, h)
if_below false k size h = absurd h

site_within : (tms dms : ℕ) (x : Site) → IsBelow (suc (tms + dms)) (place_of tms x) → is_site tms dms x ≡ true
site_within tms dms U h = refl
site_within tms dms (T n) h = (if_below (nat_le 1 n.0 && nat_le n.0 tms) n.0 (suc (tms + dms)) h).0
site_within tms dms (D n) h =
    let p = if_below (nat_le 1 n.0) (tms + n.0) (suc (tms + dms)) h in
    let within : suc (tms + n.0) ≤ suc (tms + dms) = p.1 in
    and_from (nat_le 1 n.0) (nat_le n.0 dms) p.0 (le-leb n.0 dms (omega arith))

-- a site has a mailbox
pub is_placed : (g : Input) (boxes : Boxes Msg) (at : Site) → HasBoxes g boxes → IsSiteOf g at → IsPlaced boxes at
is_placed g boxes at h here =
    subst (λ n. IsBelow n (place_of boxes.tms at)) (sym h.count)
    (subst (λ n. IsBelow (suc (g.catalogue.tms + g.catalogue.dms)) (place_of n at)) (sym h.tms)
    (place_within g.catalogue.tms g.catalogue.dms at here))

-- and a place in each mailbox; what has one is a site

pub is_sender : (g : Input) (at : Site) (b : Mailbox Msg) (x : Site) → HasSenders g at b → IsSiteOf g x → IsSender b x
is_sender g at b x h here =
    subst (λ n. IsBelow n (place_of b.tms x)) (sym h.count)
    (subst (λ n. IsBelow (suc (g.catalogue.tms + g.catalogue.dms)) (place_of n x)) (sym h.tms)
    (place_within g.catalogue.tms g.catalogue.dms x here))

pub sender_is : (g : Input) (at : Site) (b : Mailbox Msg) (x : Site) → HasSenders g at b → IsSender b x → IsSiteOf g x
sender_is g at b x h s =
    site_within g.catalogue.tms g.catalogue.dms x
    (subst (λ n. IsBelow (suc (g.catalogue.tms + g.catalogue.dms)) (place_of n x)) h.tms
    (subst (λ n. IsBelow n (place_of b.tms x)) h.count s))
