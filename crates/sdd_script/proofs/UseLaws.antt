-- Relations and columns of uses: what is read is spelled and is there, and what is spelled and is there is read.
use Rattle.sdd_script.proofs.All.{Bool, Catalogue, Column, Found, IsColumn, IsRelation, List, None, Ok, Option, Parts, Plain, Quoted, Ref, Some, Word, [], ap, arith, before_point, behind_point, both_hold, bytes_eq, bytes_eq-Decides, column_in, column_named, column_of_use, columns_of, cond, decimal, find, get_or, is_name, is_whole, kind_at, kind_of_place, length, looks_like_column, name_of_column, name_of_relation, number_again, number_of, number_takes, ok_is, option_map_or, pos, position-Some, range_with_len, refl, rel_no, relation_named, relation_of, relation_word, signed_decimal, slice_get, slice_get-get_or, subst, suc, sym, true, use_at, use_numbered, zero, ℕ, ℤ, ◌++◌, ◌+◌, ◌-◌, ◌<◌, ◌^◌, ◌∙◌, ◌∷◌, ◌≡◌, ◌≤◌}
use Rattle.sdd_script.proofs.StepLaws.{must_then, known_then, some_is}
use Rattle.sdd_script.proofs.ValueLaws.{columns_are}
use Rattle.sdd_script.proofs.WordCuts.{point_cut}
use Rattle.sdd_script.proofs.WordLooks.{before_is, behind_is, decimal_is_whole}

-- a catalogue in which each number is found by its name, and each name is one
pub record IsKnown (cat : Catalogue) : Type 0 where
  pub relation : (rel : ℕ) → IsRelation cat rel → relation_named cat (name_of_relation cat rel) ≡ Some rel
  pub column : (rel column : ℕ) → IsRelation cat rel → IsColumn cat rel column
      → column_named (columns_of cat rel) (name_of_column (columns_of cat rel) column) ≡ Some (column - 1)
  pub relation_name : (rel : ℕ) → IsRelation cat rel → is_name (name_of_relation cat rel) ≡ true
  pub column_name : (rel column : ℕ) → IsRelation cat rel → IsColumn cat rel column → is_name (name_of_column (columns_of cat rel) column) ≡ true
  pub some_column : (rel : ℕ) → IsRelation cat rel → 1 ≤ length (columns_of cat rel)
  pub few_tms : cat.tms ≤ 16
  pub few_dms : cat.dms ≤ 16

-- ---- relations

pub record IsFound (p : ℕ → Bool) (a n found : ℕ) : Type 0 where
  pub passes : p found ≡ true
  pub from : a ≤ found
  pub to : found < a + n

found_step : (p : ℕ → Bool) (a n found : ℕ) (b : Bool) → p a ≡ b
    → (find p (range_with_len (a + 1) n) ≡ Some found → IsFound p (a + 1) n found)
    → cond b (Some a) (find p (range_with_len (a + 1) n)) ≡ Some found → IsFound p a (suc n) found
found_step p a n found b e ih h = grind (arith, some_is)

found_in_range : (p : ℕ → Bool) (a n found : ℕ) → find p (range_with_len a n) ≡ Some found → IsFound p a n found
found_in_range p a zero found e = absurd cc
found_in_range p a (suc n) found e = found_step p a n found (p a) refl (λ h. found_in_range p (a + 1) n found h) e

pub record IsSomeRelation (cat : Catalogue) (w : Word) (rel : ℕ) : Type 0 where
  pub spelled : w ≡ relation_word cat (rel_no rel)
  pub there : IsRelation cat rel

pub relation_takes : (cat : Catalogue) (w : Word) (rel : ℕ) → relation_of cat w ≡ Some rel → IsSomeRelation cat w rel
relation_takes cat w rel e = grind (arith, found_in_range, bytes_eq, bytes_eq-Decides)

pub relation_again : (cat : Catalogue) → IsKnown cat → (rel : ℕ) → IsRelation cat rel → relation_of cat (relation_word cat (rel_no rel)) ≡ Some rel
relation_again cat h rel r = h.relation rel r

-- ---- columns

pub record IsColumnAt (columns : List Column) (part : ℕ) (name : List ℕ) (f : Found) : Type 0 where
  pub place : ℕ
  pub within : place < length columns
  pub at : f.at ≡ record { part = part; column = place + 1 }
  pub named : name_of_column columns (place + 1) ≡ name
  pub kind : kind_of_place columns place ≡ Some f.kind

name_at : (columns : List Column) (i : ℕ) (d : Column) → i < length columns
    → option_map_or (λ (c : Column). c.name) (slice_get columns i) [] ≡ (get_or columns i d).name
name_at columns i d lt = let e = slice_get-get_or columns i d lt in rw e refl

pub column_takes : (columns : List Column) (part : ℕ) (name : List ℕ) (f : Found) → column_in columns part name ≡ Ok f
    → IsColumnAt columns part name f
column_takes columns part name f e =
    let a = known_then _ (column_named columns name) _ f e in
    let b = known_then _ (kind_of_place columns a.0) _ f a.2 in
    let d : Column = record { name = []; kind = b.0 } in
    let p = position-Some (λ (c : Column). bytes_eq c.name name) columns a.0 d a.1 in
    let n = name_at columns a.0 d p.0 in
    let s = (bytes_eq-Decides (get_or columns a.0 d).name name).0 p.1 in
    grind (arith, ok_is)

-- ---- columns of uses

-- what a column's word was read as
pub record IsUse (cat : Catalogue) (parts : Parts) (w : Word) (f : Found) : Type 0 where
  pub rel : ℕ
  pub some : 1 ≤ f.at.part
  pub small : f.at.part < 2 ^ 32
  pub there : slice_get parts (f.at.part - 1) ≡ Some (Some rel)
  pub column_from : 1 ≤ f.at.column
  pub column_to : f.at.column ≤ length (columns_of cat rel)
  pub kind : kind_of_place (columns_of cat rel) (f.at.column - 1) ≡ Some f.kind
  pub spelled : w ≡ Plain (decimal f.at.part ++ 46 ∷ name_of_column (columns_of cat rel) f.at.column)

pub record IsUseAt (parts : Parts) (z : ℤ) (u : ℕ × ℕ) : Type 0 where
  pub is : z ≡ pos u.0
  pub some : 1 ≤ u.0
  pub small : u.0 < 2 ^ 32
  pub there : slice_get parts (u.0 - 1) ≡ Some (Some u.1)

pub use_takes : (parts : Parts) (z : ℤ) (u : ℕ × ℕ) → use_at parts z ≡ Some u → IsUseAt parts z u
use_takes parts z u e = grind arith

use_of_number : (cat : Catalogue) (parts : Parts) (bytes : List ℕ) (f : Found) (u : ℕ × ℕ) (o : Option ℤ)
    → number_of (before_point bytes) ≡ o → bytes ≡ before_point bytes ++ 46 ∷ behind_point bytes
    → use_numbered parts o ≡ Some u → column_in (columns_of cat u.1) u.0 (behind_point bytes) ≡ Ok f → IsUse cat parts (Plain bytes) f
use_of_number cat parts bytes f u None n cut e c = absurd cc
use_of_number cat parts bytes f u (Some z) n cut e c =
    let at = use_takes parts z u e in
    let col = column_takes (columns_of cat u.1) u.0 (behind_point bytes) f c in
    let number : before_point bytes ≡ signed_decimal z = (number_takes (before_point bytes) z n).0 in
    let digits : before_point bytes ≡ decimal u.0 = number ∙ ap signed_decimal at.is in
    let part : f.at.part ≡ u.0 = ap (λ (r : Ref). r.part) col.at in
    let column : f.at.column ≡ col.place + 1 = ap (λ (r : Ref). r.column) col.at in
    let back : f.at.column - 1 ≡ col.place = omega (arith, column) in
    record {
      rel = u.1;
      some = omega (arith, at.some, part);
      small = omega (arith, at.small, part);
      there = subst (λ (k : ℕ). slice_get parts (k - 1) ≡ Some (Some u.1)) (sym part) at.there;
      column_from = omega (arith, column);
      column_to = omega (arith, column, col.within);
      kind = subst (λ (k : ℕ). kind_of_place (columns_of cat u.1) k ≡ Some f.kind) (sym back) col.kind;
      spelled = ap (λ (l : List ℕ). Plain l) (cut ∙ ap (λ (l : List ℕ). l ++ 46 ∷ behind_point bytes)
          (digits ∙ ap decimal (sym part)) ∙ ap (λ (l : List ℕ). decimal f.at.part ++ 46 ∷ l) (sym col.named
          ∙ ap (name_of_column (columns_of cat u.1)) (sym column)));
    }

pub use_of_takes : (cat : Catalogue) (parts : Parts) (w : Word) (f : Found) → looks_like_column w ≡ true
    → column_of_use cat parts w ≡ Ok f → IsUse cat parts w f
use_of_takes cat parts (Quoted text) f look e = absurd cc
use_of_takes cat parts (Plain bytes) f look e =
    let a = must_then _ (is_whole (before_point bytes)) _ f e in
    let b = known_then _ (use_numbered parts (number_of (before_point bytes))) _ f a.1 in
    grind (arith, use_of_number, point_cut, both_hold)

-- what is spelled is read

pub record HasUse (cat : Catalogue) (parts : Parts) (rel : ℕ) (r : Ref) : Type 0 where
  pub some : 1 ≤ r.part
  pub small : r.part < 2 ^ 32
  pub there : slice_get parts (r.part - 1) ≡ Some (Some rel)
  pub relation : IsRelation cat rel
  pub column : IsColumn cat rel r.column

use_at_again : (parts : Parts) (part rel : ℕ) → 1 ≤ part → part < 2 ^ 32 → slice_get parts (part - 1) ≡ Some
    (Some rel) → use_at parts (pos part) ≡ Some (part, rel)
use_at_again parts part rel some small there = grind arith

pub kind_is : (cat : Catalogue) (rel column : ℕ) → IsColumn cat rel column
    → kind_of_place (columns_of cat rel) (column - 1) ≡ Some (kind_at cat rel column)
kind_is cat rel column h = grind (arith, columns_are, slice_get-get_or, get_or)

pub use_again : (cat : Catalogue) → IsKnown cat → (parts : Parts) (rel : ℕ) (r : Ref) → HasUse cat parts rel r
    → column_of_use cat parts (Plain (decimal r.part ++ 46 ∷ name_of_column
    (columns_of cat rel) r.column)) ≡ Ok (record { at = r; kind = kind_at cat rel r.column })
use_again cat k parts rel r h =
    let name : List ℕ = name_of_column (columns_of cat rel) r.column in
    let lt : r.part < 2 ^ 63 = omega (arith, h.small) in
    let again : r.column - 1 + 1 ≡ r.column = omega (arith, h.column.0) in
    rw (
      before_is r.part name lt,
      decimal_is_whole r.part lt,
      number_again (pos r.part) lt,
      use_at_again parts r.part rel h.some h.small h.there,
      behind_is r.part name lt,
      k.column rel r.column h.relation h.column,
      kind_is cat rel r.column h.column,
      again,
    ) refl
