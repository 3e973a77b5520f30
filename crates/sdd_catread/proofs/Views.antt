-- The lists of the code beside those of the definitions.
use Rattle.std.proofs.Common.{◌≡◌, ℕ, Bool, List, [], ◌∷◌, map, string_bytes, Bor, refl, ap, Some, None, IsUtf8, inl, inr}
use Rattle.std.proofs.lemmas.Bool.{cases_Bool}
use Rattle.std.proofs.lemmas.Str.{IsUtf8-from_is_utf8, is_utf8-from_IsUtf8}
use Rattle.std.specs.List.{list_any, list_all}
use Rattle.std.specs.Map.{keys_of}
use Rattle.std.specs.Str.{bytes_eq, is_utf8}
use Rattle.std.proofs.lemmas.List.Folds.{list_all-map}
use Rattle.toml.specs.Data.{Data, Members}
use Rattle.toml.specs.View.{items_of, members_view}
use Rattle.toml.specs.Parse.{parse_document}
use Rattle.toml.proofs.Views.{Entry}
use Rattle.sdd_catread.specs.Reading.{document_in}
use Rattle.sdd_catread.specs.Values.{is_listed, has_only, listed}

-- items are a list, written otherwise
pub listed_items : (ds : List Data) → listed (items_of ds) ≡ ds
listed_items [] = refl
listed_items (d ∷ ds) = ap (λ rest. d ∷ rest) (listed_items ds)

-- a key is one of the names
listed-map : (key : List ℕ) (names : List (Bor (List ℕ))) → list_any (λ n. bytes_eq key n.now) names ≡ is_listed (map (λ n. n.now) names) key
listed-map key [] = refl
listed-map key (n ∷ names) = rw (listed-map key names) refl

-- the keys of a table are all listed
pub has_only_keys : (names : List (Bor (List ℕ))) (es : List Entry)
    → list_all (λ k. list_any (λ n. bytes_eq (string_bytes k) n.now) names) (keys_of es) ≡ has_only (map (λ n. n.now) names) (members_view es)
has_only_keys names [] = refl
has_only_keys names (e ∷ es) = rw (listed-map (string_bytes e.0) names, has_only_keys names es) refl

-- a test of each of the data of some values is one of the values
pub list_all_map : {X Y : Type 0} (p : X → Bool) (h : Y → X) (ys : List Y) → list_all p (map h ys) ≡ list_all (λ y. p (h y)) ys
list_all_map p h ys = list_all-map p h ys

-- UTF-8 that the grammar reads
pub document_of_slice : (bytes : List ℕ) (ms : Members) → IsUtf8 bytes → parse_document bytes ≡ Some ms → document_in bytes ≡ Some ms
document_of_slice bytes ms u e = rw (is_utf8-from_IsUtf8 bytes u) e

-- bytes that aren't UTF-8, or that the grammar refuses
pub no_document : (bytes : List ℕ) → (IsUtf8 bytes → parse_document bytes ≡ None) → document_in bytes ≡ None
no_document bytes h =
    elim (cases_Bool (is_utf8 bytes)) [
      | inl valid ↦ rw valid (h (IsUtf8-from_is_utf8 bytes valid))
      | inr other ↦ rw other refl
    ]
