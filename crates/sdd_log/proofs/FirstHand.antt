-- Which message is handed over first: that of the first link, in their order, with one that is to be handed over.
use Rattle.sdd_log.proofs.All.{AllHanded, AtEach, Bool, D, Entry, Hand, Input, IsLinkOf, List, Log, Msg, None, Option, Site, Some, T, U, [], all_links, and_parts, ap, are_linked, arith, cond, cons_option, delivered, false, filter_map, first_nowhere, first_some, flat_map, hand_due, hand_on, handed, if◌then◌else◌, inl, inr, is_link, is_site, le-ltb, leb-true, link_of, link_parts, links, lt-ltb, map, message_at, nat_le, or_else, range_with_len, refl, same_here, same_is, same_site, sites, suc, takes_part, true, zero, ℕ, ◌&&◌, ◌++◌, ◌+◌, ◌<◌, ◌∙◌, ◌∷◌, ◌≡◌, ◌≤◌, ◌⊎◌}
use Rattle.sdd_log.proofs.Steps.{has_site}
use Rattle.sdd_log.proofs.Ticking.{or_both}

-- the first of a list

first_append : {A B : Type 0} (f : A → Option B) (xs ys : List A) → first_some f (xs ++ ys) ≡ or_else (first_some f xs) (first_some f ys)
first_append f [] ys = refl
first_append f (x ∷ xs) ys = grind (arith, (first_append f xs ys))

first_flat : {A B C : Type 0} (f : B → Option C) (h : A → List B) (xs : List A) → first_some f (flat_map h xs) ≡ first_some (λ x. first_some f (h x)) xs
first_flat f h [] = refl
first_flat f h (x ∷ xs) = first_append f (h x) (flat_map h xs) ∙ ap (λ o. or_else (first_some f (h x)) o) (first_flat f h xs)

abbrev through : {A B : Type 0} → (A → Option B) → Option A → Option B
through f None = None
through f (Some x) = f x

first_filter : {A B C : Type 0} (f : B → Option C) (k : A → Option B) (xs : List A) → first_some f (filter_map k xs) ≡ first_some (λ x. through f (k x)) xs
first_filter f k [] = refl
first_filter f k (x ∷ xs) = grind (arith, cons_option, filter_map, through, (first_filter f k xs))

pub each_weaker : {A : Type 0} (P Q : A → Type 0) (xs : List A) → ((x : A) → P x → Q x) → AtEach P xs → AtEach Q xs
each_weaker P Q [] h a = tt
each_weaker P Q (x ∷ xs) h a = (h x a.0, each_weaker P Q xs h a.1)

first_none_before : {B : Type 0} (f : Site → Option B) (xs : List Site) → AtEach (λ x. f x ≡ None) xs → first_some f xs ≡ None
first_none_before f [] a = refl
first_none_before f (x ∷ xs) a = or_both (f x) (first_some f xs) a.0 (first_none_before f xs a.1)

-- a list is split at the first place of a site
pub record Split (xs : List Site) (at : Site) : Type 0 where
  pub before : List Site
  pub after : List Site
  pub parts : xs ≡ before ++ at ∷ after
  pub others : AtEach (λ x. same_site x at ≡ false) before

pub split : (xs : List Site) (at : Site) → has_site at xs ≡ true → Split xs at
split [] at h = absurd (let e : false ≡ true = h in cc)
split (x ∷ xs) at h =
    elim (same_site x at) as (λ b. same_site x at ≡ b → elim b as (λ _. Bool) [ true ↦ true | false ↦ has_site at xs ] ≡ true → Split (x ∷ xs) at) [
      | true ↦ λ p q. record { before = []; after = xs; parts = ap (λ z. z ∷ xs) (same_is x at p); others = tt }
      | false ↦ λ p q.
          let s : Split xs at = split xs at q in
          record { before = x ∷ s.before; after = s.after; parts = ap (λ zs. x ∷ zs) s.parts; others = (p, s.others) }
    ] refl h

-- each site of the network is one of the list

has_back : (at : Site) (xs ys : List Site) → has_site at ys ≡ true → has_site at (xs ++ ys) ≡ true
has_back at [] ys k = k
has_back at (x ∷ xs) ys k =
    elim (same_site x at) as (λ b. elim b as (λ _. Bool) [ true ↦ true | false ↦ has_site at (xs ++ ys) ] ≡ true) [ true ↦ refl | false ↦ has_back at xs ys k ]

has_front : (at : Site) (xs ys : List Site) → has_site at xs ≡ true → has_site at (xs ++ ys) ≡ true
has_front at [] ys h = cc
has_front at (x ∷ xs) ys h =
    elim (same_site x at) as
    (λ b. elim b as (λ _. Bool) [ true ↦ true | false ↦ has_site at xs ] ≡ true
    → elim b as (λ _. Bool) [ true ↦ true | false ↦ has_site at (xs ++ ys) ] ≡ true) [
      | true ↦ λ p. refl
      | false ↦ λ p. has_front at xs ys p
    ] h

pub here_or_later : (a k : ℕ) → a ≤ k → (a ≡ k) ⊎ (a + 1 ≤ k)
here_or_later (suc a) (suc k) h = grind (arith, (here_or_later a k (omega arith)))
here_or_later a k h = grind arith

in_range : (f : ℕ → Site) (n a k : ℕ) → a ≤ k → k < a + n → has_site (f k) (map f (range_with_len a n)) ≡ true
in_range f zero a k l m = absurd (omega arith)
in_range f (suc n) a k l m =
    elim (here_or_later a k l) as (λ _. has_site (f k) (f a ∷ map f (range_with_len (a + 1) n)) ≡ true) [
      | inl p ↦ (let s : same_site (f a) (f k) ≡ true = ap (λ z. same_site (f z) (f k)) p ∙ same_here (f k) in rw (s, has_site) refl)
      | inr q ↦ has_back (f k) (f a ∷ []) (map f (range_with_len (a + 1) n)) (in_range f n (a + 1) k q (omega arith))
    ]

numbered : (n most : ℕ) → (nat_le 1 n && nat_le n most) ≡ true → (1 ≤ n) × (n < 1 + most)
numbered n most h =
    let p = and_parts (nat_le 1 n) (nat_le n most) h in
    let l = leb-true 1 n p.0 in
    let m = leb-true n most p.1 in
    (l, omega arith)

pub listed : (tms dms : ℕ) (at : Site) → is_site tms dms at ≡ true → has_site at (sites tms dms) ≡ true
listed tms dms U h = refl
listed tms dms (T t) h =
    let p = numbered t.0 tms h in
    has_front (T t) (map (λ n. T (record { 0 = n })) (range_with_len 1 tms)) (map (λ n. D (record { 0 = n })) (range_with_len 1 dms))
    (in_range (λ n. T (record { 0 = n })) tms 1 t.0 p.0 p.1)
listed tms dms (D d) h =
    let p = numbered d.0 dms h in
    has_back (D d) (map (λ n. T (record { 0 = n })) (range_with_len 1 tms)) (map (λ n. D (record { 0 = n })) (range_with_len 1 dms))
    (in_range (λ n. D (record { 0 = n })) dms 1 d.0 p.0 p.1)

-- the first link at which something is

link_other : {B : Type 0} (f : Site × Site → Option B) (x y : Site) (c : Bool) → f (x, y) ≡ None → through f (cond c (Some (x, y)) None) ≡ None
link_other f x y c e = grind arith

link_here : {B : Type 0} (f : Site × Site → Option B) (x y : Site) (c : Bool) (e : B) → c ≡ true → f (x, y) ≡ Some e
    → through f (cond c (Some (x, y)) None) ≡ Some e
link_here f x y c e h p = grind arith

abbrev from_site : List Site → Site → List (Site × Site)
from_site all a = filter_map (λ b. cond (are_linked a b) (Some (a, b)) None) all

none_from : {B : Type 0} (f : Site × Site → Option B) (all : List Site) (x : Site) → ((y : Site) → f (x, y) ≡ None) → first_some f (from_site all x) ≡ None
none_from f all x h = grind (arith, first_filter, first_nowhere, through, link_other)

one_to : {B : Type 0} (f : Site × Site → Option B) (all : List Site) (a b : Site) (e : B) → has_site b all ≡ true → are_linked a b ≡ true → f (a, b) ≡ Some e
    → ((y : Site) → same_site y b ≡ false → f (a, y) ≡ None) → first_some f (from_site all a) ≡ Some e
one_to f all a b e here linked p aside =
    let s : Split all b = split all b here in
    first_filter f (λ y. cond (are_linked a y) (Some (a, y)) None) all
    ∙ ap (λ ys. first_some (λ y. through f (cond (are_linked a y) (Some (a, y)) None)) ys) s.parts
    ∙ (rw (
      first_append (λ y. through f (cond (are_linked a y) (Some (a, y)) None)) s.before (b ∷ s.after),
      first_none_before (λ y. through f (cond (are_linked a y) (Some (a, y)) None)) s.before
          (grind (arith, each_weaker, same_site, through, are_linked, link_other)),
      (link_here f a b (are_linked a b) e linked p),
    ) refl)

-- of the links from a, and from the sites before it, the one to b alone has something
pub first_link : {B : Type 0} (f : Site × Site → Option B) (tms dms : ℕ) (before after : List Site) (a b : Site) (e : B)
    → sites tms dms ≡ before ++ a ∷ after → is_link tms dms a b ≡ true → f (a, b) ≡ Some e
    → AtEach (λ x. (y : Site) → f (x, y) ≡ None) before → ((y : Site) → same_site y b ≡ false → f (a, y) ≡ None) → first_some f (links tms dms) ≡ Some e
first_link f tms dms before after a b e parts l p earlier aside =
    let k = link_parts tms dms a b l in
    first_flat f (from_site (sites tms dms)) (sites tms dms) ∙ ap (λ xs. first_some (λ x. first_some f (from_site (sites tms dms) x)) xs) parts
    ∙ (rw (
      first_append (λ x. first_some f (from_site (sites tms dms) x)) before (a ∷ after),
      first_none_before (λ x. first_some f (from_site (sites tms dms) x)) before
          (each_weaker (λ x. (y : Site) → f (x, y) ≡ None) (λ x. first_some f (from_site (sites tms dms) x) ≡ None) before
          (λ x h. none_from f (sites tms dms) x h) earlier),
      (one_to f (sites tms dms) a b e (listed tms dms b k.to) k.linked p aside),
    ) refl)

-- what is to be handed over on one link

-- nothing, where all is handed over or the site is down
abbrev pub IsDone : Log → Site → Site → Type 0
IsDone log x y = takes_part y log ≡ true → handed x y log ≡ delivered (link_of x y log).there

if_part : (c : Bool) (o : Option Entry) → (c ≡ true → o ≡ None) → (if c then o else None) ≡ None
if_part c o h = grind arith

pub none_on : (log : Log) (x y : Site) → IsDone log x y → hand_on log (x, y) ≡ None
none_on log x y h = grind (arith, if_part, le-ltb)

pub none_to_hand : (g : Input) (log : Log) → AllHanded log → hand_due g log ≡ None
none_to_hand g log h = first_nowhere (hand_on log) (all_links g) (λ l. none_on log l.0 l.1 (h l.0 l.1))

-- the next message, where one is left
pub one_on : (log : Log) (a b : Site) (m : Msg) → takes_part b log ≡ true → handed a b log < delivered (link_of a b log).there
    → message_at a b (suc (handed a b log)) log ≡ Some m → hand_on log (a, b) ≡ Some (Hand a b (suc (handed a b log)) m)
one_on log a b m part less is = rw (part, lt-ltb (handed a b log) (delivered (link_of a b log).there) less, is) refl

-- all is handed over on the links from the sites before a, and on the other links from a: the next message from a to b is
-- handed over first
pub hand_is_due : (g : Input) (log : Log) (before after : List Site) (a b : Site) (m : Msg)
    → sites g.catalogue.tms g.catalogue.dms ≡ before ++ a ∷ after → IsLinkOf g a b → takes_part b log ≡ true
    → handed a b log < delivered (link_of a b log).there → message_at a b (suc (handed a b log)) log ≡ Some m
    → AtEach (λ x. (y : Site) → IsDone log x y) before → ((y : Site) → same_site y b ≡ false → IsDone log a y)
    → hand_due g log ≡ Some (Hand a b (suc (handed a b log)) m)
hand_is_due g log before after a b m parts l part less is earlier aside =
    first_link (hand_on log) g.catalogue.tms g.catalogue.dms before after a b (Hand a b (suc (handed a b log)) m) parts l (one_on log a b m part less is)
    (each_weaker (λ x. (y : Site) → IsDone log x y) (λ x. (y : Site) → hand_on log (x, y) ≡ None) before (λ x h y. none_on log x y (h y)) earlier)
    (λ y q. none_on log a y (aside y q))
