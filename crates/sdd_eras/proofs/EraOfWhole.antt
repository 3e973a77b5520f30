-- Each catalogue in force is that of an era of the catalogue with the classes of all lists.
use Rattle.sdd_eras.proofs.All.{Catalogue, Class, HasSets, IsEraOf, List, Some, [], ap, arith, drop, emptied, eras, extended, inl, inr, length, length-append, length-map, map, refl, retired, slice_get, slice_index_or, subst, suc, take, whole, zero, ℕ, ◌++◌, ◌+◌, ◌-◌, ◌<◌, ◌∷◌, ◌≡◌, ◌≤◌}

-- a class of an era and that of the same number in the whole catalogue
pub record IsUnder (whole class : Class) : Type 0 where
  pub tm : class.tm ≡ whole.tm
  pub sets : HasSets whole class

-- the classes of an era and the first so many of the whole catalogue
abbrev pub AreUnder : List Class → List Class → Type 0
AreUnder ws [] = Unit {0}
AreUnder [] (c ∷ cs) = ⊥
AreUnder (w ∷ ws) (c ∷ cs) = IsUnder w c × AreUnder ws cs

own : (cs : List Class) → AreUnder cs cs
own [] = tt
own (c ∷ cs) = (record { tm = refl; sets = inl (refl, refl) }, own cs)

emptied_under : (ws cs : List Class) → AreUnder ws cs → AreUnder ws (map emptied cs)
emptied_under ws [] h = tt
emptied_under [] (c ∷ cs) h = h
emptied_under (w ∷ ws) (c ∷ cs) h = (record { tm = h.0.tm; sets = inr (refl, refl) }, emptied_under ws cs h.1)

-- after further classes of the whole catalogue
more_under : (ws us cs : List Class) → AreUnder ws cs → AreUnder (ws ++ us) cs
more_under ws us [] h = tt
more_under [] us (c ∷ cs) h = absurd h
more_under (w ∷ ws) us (c ∷ cs) h = (h.0, more_under ws us cs h.1)

-- with the same classes after both
both_under : (ws cs us : List Class) → length ws ≡ length cs → AreUnder ws cs → AreUnder (ws ++ us) (cs ++ us)
both_under [] [] us e h = own us
both_under (w ∷ ws) [] us e h = absurd (omega (arith, e))
both_under [] (c ∷ cs) us e h = absurd h
both_under (w ∷ ws) (c ∷ cs) us e h = (h.0, both_under ws cs us (omega (arith, e)) h.1)

under_few : (ws cs : List Class) → AreUnder ws cs → length cs ≤ length ws
under_few ws [] h = omega arith
under_few [] (c ∷ cs) h = absurd h
under_few (w ∷ ws) (c ∷ cs) h = let few = under_few ws cs h.1 in omega (arith, few)

under_at : (ws cs : List Class) (i : ℕ) (d : Class) → AreUnder ws cs → i < length cs
    → IsUnder (slice_index_or ws i d) (slice_index_or cs i d)
under_at ws [] i d h l = absurd (omega (arith, l))
under_at [] (c ∷ cs) i d h l = absurd h
under_at (w ∷ ws) (c ∷ cs) zero d h l = h.0
under_at (w ∷ ws) (c ∷ cs) (suc i) d h l = under_at ws cs i d h.1 (omega (arith, l))

-- two catalogues that differ in their classes alone
pub record IsLower (cat era : Catalogue) : Type 0 where
  pub tms : era.tms ≡ cat.tms
  pub dms : era.dms ≡ cat.dms
  pub relations : era.relations ≡ cat.relations
  pub fragments : era.fragments ≡ cat.fragments
  pub classes : AreUnder cat.classes era.classes

era_of_lower : (cat era : Catalogue) → IsLower cat era → IsEraOf cat era
era_of_lower cat era h = grind (arith, under_few, under_at)

-- an era stays one where the whole catalogue gets further classes
era_of_more : (cat era : Catalogue) (lists : List (List Class)) → IsLower cat era → IsEraOf (whole cat lists) era
era_of_more cat era [] h = era_of_lower cat era h
era_of_more cat era (classes ∷ lists) h = grind (arith, more_under, (era_of_more (extended classes cat) era lists (record { tms = h.tms; dms = h.dms; relations = h.relations; fragments = h.fragments; classes = more_under cat.classes classes era.classes h.classes })))

-- all classes are emptied
all_emptied : (cs : List Class) → map emptied (take (length cs) cs) ++ drop (length cs) cs ≡ map emptied cs
all_emptied [] = refl
all_emptied (c ∷ cs) = ap (λ rest. emptied c ∷ rest) (all_emptied cs)

era_among : (cat under : Catalogue) (lists : List (List Class)) (k : ℕ) (era : Catalogue)
    → length cat.classes ≡ length under.classes → IsLower cat under → slice_get (eras under lists) k ≡ Some era
    → IsEraOf (whole cat lists) era
era_among cat under [] zero era same h e =
    let is : under ≡ era = cc in subst (IsEraOf cat) is (era_of_lower cat under h)
era_among cat under [] (suc k) era same h e = absurd cc
era_among cat under (classes ∷ lists) zero era same h e =
    let is : under ≡ era = cc in
    subst (IsEraOf (whole cat (classes ∷ lists))) is (era_of_more cat under (classes ∷ lists) h)
era_among cat under (classes ∷ lists) (suc k) era same h e = grind (arith, length-append, AreUnder, all_emptied, both_under, length-map, emptied_under, (era_among (extended classes cat) (extended classes (retired (length under.classes) under)) lists k era (grind (arith, length-append, length-map, all_emptied)) (grind (arith, AreUnder, all_emptied, both_under, length-map, emptied_under)) e))

-- each catalogue in force is that of an era of the whole one
pub era_of_whole : (cat : Catalogue) (lists : List (List Class)) (k : ℕ) (era : Catalogue)
    → slice_get (eras cat lists) k ≡ Some era → IsEraOf (whole cat lists) era
era_of_whole cat lists k era e =
    era_among cat cat lists k era refl
    (record { tms = refl; dms = refl; relations = refl; fragments = refl; classes = own cat.classes }) e
