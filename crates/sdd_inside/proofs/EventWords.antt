-- Events are put as they are spelled: keywords, sites and numbers have no byte that a string escapes.
use Rattle.std.proofs.Common.{◌≡◌, ℕ, List, [], ◌∷◌, ◌++◌, refl, sym, ap, ◌∙◌, append_assoc, append-nil}
use Rattle.std.specs.Prelude.{codes, true}
use Rattle.std.specs.List.{list_all}
use Rattle.sdd_script.specs.All.{Plain, Site, Word}
use Rattle.sdd_script.specs.base.declared.site.Site.TheVariants.{D, T, U}
use Rattle.sdd_script.specs.Spelling.{count_word, site_word}
use Rattle.sdd_script.specs.words.Words.{line_bytes, more_bytes, spaced, word_bytes}
use Rattle.sdd_script.proofs.Pieces.{key_one, key_two}
use Rattle.sdd_inside.specs.Json.{escaped, is_verbatim, quoted}
use Rattle.sdd_inside.proofs.Strings.{key_three}
use Rattle.sdd_inside.proofs.Verbatim.{AreVerbatim, both_verbatim, decimal_verbatim, verbatim}

site_verbatim : (s : Site) → AreVerbatim (word_bytes (site_word s))
site_verbatim U = refl
site_verbatim (T tm) = decimal_verbatim tm.0
site_verbatim (D dm) = decimal_verbatim dm.0

-- words that are, after one that is

last_verbatim : (w : Word) → AreVerbatim (word_bytes w) → AreVerbatim (more_bytes (w ∷ []))
last_verbatim w h = both_verbatim (word_bytes w) [] h refl

next_verbatim : (w : Word) (ws : List Word) → AreVerbatim (word_bytes w) → AreVerbatim (more_bytes ws) → AreVerbatim (more_bytes (w ∷ ws))
next_verbatim w ws h k = both_verbatim (word_bytes w) (more_bytes ws) h k

as_it_is : (out key : List ℕ) (ws : List Word) → AreVerbatim key → AreVerbatim (more_bytes ws)
    → out ++ line_bytes (Plain key ∷ ws) ≡ out ++ escaped (line_bytes (Plain key ∷ ws))
as_it_is out key ws h k = ap (λ (l : List ℕ). out ++ l) (sym (verbatim (key ++ more_bytes ws) (both_verbatim key (more_bytes ws) h k)))

-- a keyword and a site, two sites, and a place on their link

pub put_of_site : (out key : List ℕ) (a : Site) → list_all is_verbatim key ≡ true
    → (out ++ key) ++ spaced (site_word a) ≡ out ++ escaped (line_bytes (Plain key ∷ site_word a ∷ []))
put_of_site out key a h = key_one out key (site_word a) ∙ as_it_is out key (site_word a ∷ []) h (last_verbatim (site_word a) (site_verbatim a))

pub put_of_link : (out key : List ℕ) (a b : Site) → list_all is_verbatim key ≡ true
    → ((out ++ key) ++ spaced (site_word a)) ++ spaced (site_word b) ≡ out ++ escaped (line_bytes (Plain key ∷ site_word a ∷ site_word b ∷ []))
put_of_link out key a b h =
    key_two out key (site_word a) (site_word b)
    ∙ as_it_is out key (site_word a ∷ site_word b ∷ []) h
    (next_verbatim (site_word a) (site_word b ∷ []) (site_verbatim a) (last_verbatim (site_word b) (site_verbatim b)))

pub put_of_place : (out key : List ℕ) (a b : Site) (n : ℕ) → list_all is_verbatim key ≡ true
    → (((out ++ key) ++ spaced (site_word a)) ++ spaced (site_word b)) ++ spaced (count_word n)
    ≡ out ++ escaped (line_bytes (Plain key ∷ site_word a ∷ site_word b ∷ count_word n ∷ []))
put_of_place out key a b n h =
    key_three out key (site_word a) (site_word b) (count_word n)
    ∙ as_it_is out key (site_word a ∷ site_word b ∷ count_word n ∷ []) h
    (next_verbatim (site_word a) (site_word b ∷ count_word n ∷ []) (site_verbatim a)
    (next_verbatim (site_word b) (count_word n ∷ []) (site_verbatim b) (last_verbatim (count_word n) (decimal_verbatim n))))

-- a site and a number
pub put_of_tick : (out key : List ℕ) (a : Site) (n : ℕ) → list_all is_verbatim key ≡ true
    → ((out ++ key) ++ spaced (site_word a)) ++ spaced (count_word n)
    ≡ out ++ escaped (line_bytes (Plain key ∷ site_word a ∷ count_word n ∷ []))
put_of_tick out key a n h =
    key_two out key (site_word a) (count_word n)
    ∙ as_it_is out key (site_word a ∷ count_word n ∷ []) h
    (next_verbatim (site_word a) (count_word n ∷ []) (site_verbatim a) (last_verbatim (count_word n) (decimal_verbatim n)))

-- a submission, of a transaction of any name
pub put_of_name : (out name : List ℕ)
    → (out ++ codes "submit ") ++ escaped name ≡ out ++ escaped (line_bytes (Plain (codes "submit") ∷ Plain name ∷ []))
put_of_name out name =
    append_assoc out (codes "submit ") (escaped name)
    ∙ ap (λ (l : List ℕ). out ++ (codes "submit " ++ escaped l)) (sym (append-nil name))

-- what stands between quotes
pub between_quotes : (out text : List ℕ) → ((out ++ 34 ∷ []) ++ escaped text) ++ 34 ∷ [] ≡ out ++ quoted text
between_quotes out text = append_assoc (out ++ 34 ∷ []) (escaped text) (34 ∷ []) ∙ append_assoc out (34 ∷ []) (escaped text ++ 34 ∷ [])
