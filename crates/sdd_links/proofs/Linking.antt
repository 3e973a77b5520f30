-- The links of one reader, as they are found.
use Rattle.sdd_links.proofs.All.{Catalogue, Committed, DmNo, FragNo, Groups, List, Marks, Option, Use, [], ap, changes, dm_no, end_of, false, flat_map, flat_map-append, fragment_links, fragments_in, get_or as slice_index_or, has_seen, length, links_at, map, module_of, option_map, refl, rules, true, unwrap_or, ℕ, ◌++◌, ◌∷◌, ◌≡◌}

-- a module that may not be there
pub number_or : (o : Option DmNo) → (unwrap_or o (dm_no 0)).0 ≡ unwrap_or (option_map (λ d. d.0) o) 0
number_or o = search rules

-- a reader that doesn't change the fragment
pub fragment_links_are : (cat : Catalogue) (marks : Marks) (txns : List Committed) (writers : Groups) (reader : ℕ) (t : Committed) (f d k : ℕ)
    (of_f : List ℕ) → changes t f ≡ false → d ≡ module_of cat t.start.class f → of_f ≡ slice_index_or writers f []
    → k ≡ end_of (has_seen marks txns d t of_f) (length of_f) 0 (length of_f)
    → links_at of_f reader k ≡ fragment_links cat marks txns writers (reader, t) f
fragment_links_are cat marks txns writers reader t f d k of_f unchanged at there is = cc

pub no_fragment_links : (cat : Catalogue) (marks : Marks) (txns : List Committed) (writers : Groups) (reader : ℕ) (t : Committed) (f : ℕ)
    → changes t f ≡ true → [] ≡ fragment_links cat marks txns writers (reader, t) f
no_fragment_links cat marks txns writers reader t f changed = cc

-- fragment by fragment, and use by use
over_frags : {A : Type 0} (g : ℕ → List A) (frags : List FragNo) → flat_map g (map (λ f. f.0) frags) ≡ flat_map (λ f. g f.0) frags
over_frags g [] = refl
over_frags g (f ∷ frags) = ap (λ l. g f.0 ++ l) (over_frags g frags)

pub over_uses : {A : Type 0} (g : ℕ → List A) (uses : List Use) → flat_map (λ u. flat_map (λ f. g f.0) u.frags) uses ≡ flat_map g (fragments_in uses)
over_uses g [] = refl
over_uses g (u ∷ uses) = search (rules, over_frags, flat_map-append, over_uses g uses)
