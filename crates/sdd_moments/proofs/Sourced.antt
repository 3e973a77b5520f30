-- The site that runs a class is one of the network, with a link to each data module.
use Rattle.sdd_moments.proofs.All.{All, All-head, All-tail, Catalogue, Class, D, Input, IsGood, IsServedClass, IsSiteOf, IsThere, IsWhole, List, Site, T, TmNo, U, [], all_links, ap, are_linked, arith, class_at, dm_no, get_or as slice_index_or, is_link, is_site, le_true, length, link_there, map, refl, sound_whole, source, suc, tm_no, true, zero, ℕ, ◌-◌, ◌<◌, ◌∙◌, ◌∷◌, ◌≡◌, ◌≤◌}

abbrev no_class : Class
no_class = record { name = []; tm = tm_no 0; reads = []; writes = [] }

-- as a data module has it

at_class : (ks : List Class) (n : ℕ) → n < length ks → T (slice_index_or ks n no_class).tm ≡ slice_index_or (map (λ (k : Class). T k.tm) ks) n U
at_class [] n few = absurd (omega (arith, few))
at_class (k ∷ ks) zero few = refl
at_class (k ∷ ks) (suc n) few = at_class ks n (omega (arith, few))

pub source_of_class : (g : Input) (d c : ℕ) → 1 ≤ c → c ≤ length g.catalogue.classes → T (class_at g.catalogue c).tm ≡ source g d c
source_of_class g d zero some few = absurd (omega (arith, some))
source_of_class g d (suc n) some few =
    let z : suc n - 1 ≡ n = omega arith in
    ap (λ k. T (slice_index_or g.catalogue.classes k no_class).tm) z ∙ at_class g.catalogue.classes n (omega (arith, few))

-- there is a link

linked : (tms dms : ℕ) (a b : Site) → is_site tms dms a ≡ true → is_site tms dms b ≡ true → are_linked a b ≡ true → is_link tms dms a b ≡ true
linked tms dms a b i j e = rw (i, j, e) refl

t_here : (tms dms : ℕ) (t : TmNo) → 1 ≤ t.0 → t.0 ≤ tms → is_site tms dms (T t) ≡ true
t_here tms dms t l m = rw (le_true 1 t.0 l, le_true t.0 tms m) refl

class_linked : (cat : Catalogue) (d : ℕ) (ks : List Class) (n : ℕ) → All (IsServedClass cat) ks → is_site cat.tms cat.dms (D (dm_no d)) ≡ true
    → is_link cat.tms cat.dms (slice_index_or (map (λ (k : Class). T k.tm) ks) n U) (D (dm_no d)) ≡ true
class_linked cat d [] n h here = linked cat.tms cat.dms U (D (dm_no d)) refl here refl
class_linked cat d (k ∷ ks) zero h here =
    let s = All-head (IsServedClass cat) k ks h in
    linked cat.tms cat.dms (T k.tm) (D (dm_no d)) (t_here cat.tms cat.dms k.tm s.module_from s.module_to) here refl
class_linked cat d (k ∷ ks) (suc n) h here = class_linked cat d ks n (All-tail (IsServedClass cat) k ks h) here

source_linked : (g : Input) (d c : ℕ) → IsWhole g.catalogue → IsSiteOf g (D (dm_no d))
    → is_link g.catalogue.tms g.catalogue.dms (source g d c) (D (dm_no d)) ≡ true
source_linked g d zero w here = linked g.catalogue.tms g.catalogue.dms U (D (dm_no d)) refl here refl
source_linked g d (suc c) w here = class_linked g.catalogue d g.catalogue.classes c w.classes here

pub source_there : (g : Input) (d c : ℕ) → IsGood g → IsSiteOf g (D (dm_no d)) → IsThere (all_links g) (source g d c, D (dm_no d))
source_there g d c good here =
    link_there g.catalogue.tms g.catalogue.dms (source g d c) (D (dm_no d)) (source_linked g d c (sound_whole g.catalogue good.given.sound) here)
