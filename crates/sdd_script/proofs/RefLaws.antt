-- Columns of a statement's relations: what is read is spelled and is there, and what is spelled and is there is read.
use Rattle.sdd_script.proofs.All.{All, All-get_or, Catalogue, FitsRef, Found, IsFrom1To, IsRelation, List, Ok, Op, Parts, Ref, RelNo, Some, Word, arith, both_hold, column_of_use, column_word, columns_of, is_free, is_name, kind_of_ref, length, length-map, looks_like_column, map, name_of_column, names_column, none_after, option_map, rel_of, slice_get, slice_get-get_or, slice_get-map, slice_get_within, true, ℕ, ◌-◌, ◌<◌, ◌^◌, ◌≡◌, ◌≤◌}
use Rattle.sdd_script.proofs.StepLaws.{some_is}
use Rattle.sdd_script.proofs.ValueLaws.{columns_are}
use Rattle.sdd_script.proofs.WordCuts.{no_point}
use Rattle.sdd_script.proofs.WordLooks.{IsFine, no_points, column_fine, column_free, column_looks, column_spelled}
use Rattle.sdd_script.proofs.UseLaws.{IsKnown, use_of_takes, use_again, kind_is}
use Rattle.sdd_lang.specs.base.declared.restriction.Op.TheVariants as ops

-- the relations of a statement, all of which are there
abbrev pub parts_for : List RelNo → Parts
parts_for rels = map (λ (r : RelNo). Some r.0) rels

abbrev pub AreRelations : Catalogue → List RelNo → Type 0
AreRelations cat rels = All (λ (r : RelNo). IsRelation cat r.0) rels

pub there_part : (rels : List RelNo) (part : ℕ) → part - 1 < length rels → slice_get (parts_for rels) (part - 1) ≡ Some (Some (rel_of rels part))
there_part rels part lt = grind (arith, slice_get-map, option_map, slice_get-get_or)

pub part_there : (rels : List RelNo) (part rel : ℕ) → slice_get (parts_for rels) (part - 1) ≡ Some (Some rel)
    → (part - 1 < length rels) × (rel ≡ rel_of rels part)
part_there rels part rel e = grind (arith, slice_get_within, parts_for, length-map, there_part)

pub record IsRef (cat : Catalogue) (rels : List RelNo) (w : Word) (f : Found) : Type 0 where
  pub fits : FitsRef cat rels f.at
  pub kind : kind_of_ref cat rels f.at ≡ f.kind
  pub spelled : w ≡ column_word cat rels f.at

pub ref_takes : (cat : Catalogue) (rels : List RelNo) (w : Word) (f : Found) → looks_like_column w ≡ true
    → column_of_use cat (parts_for rels) w ≡ Ok f → IsRef cat rels w f
ref_takes cat rels w f look e =
    let u = use_of_takes cat (parts_for rels) w f look e in
    let p = part_there rels f.at.part u.rel u.there in
    grind (arith, columns_are, kind_is, some_is)

-- a statement has few relations, each of which is there
pub record AreParts (cat : Catalogue) (rels : List RelNo) : Type 0 where
  pub there : AreRelations cat rels
  pub few : length rels ≤ 6

pub part_is_there : (cat : Catalogue) (rels : List RelNo) (part : ℕ) → AreParts cat rels → IsFrom1To (length rels) part
    → IsRelation cat (rel_of rels part)
part_is_there cat rels part h from = All-get_or (λ (r : RelNo). IsRelation cat r.0) rels (part - 1) (record { 0 = 0 }) (omega (arith, from.0, from.1)) h.there

pub ref_again : (cat : Catalogue) → IsKnown cat → (rels : List RelNo) (r : Ref) → AreParts cat rels
    → FitsRef cat rels r → column_of_use cat (parts_for rels) (column_word cat rels r) ≡ Ok (record {
      at = r;
      kind = kind_of_ref cat rels r;
    })
ref_again cat k rels r h fits = grind (arith, use_again, parts_for, there_part, part_is_there)

pub record IsColumnWord (w : Word) : Type 0 where
  pub fine : IsFine w
  pub free : is_free w ≡ true
  pub looks : looks_like_column w ≡ true
  pub names : names_column ops.Eq w ≡ true

pub column_word_is : (cat : Catalogue) → IsKnown cat → (rels : List RelNo) (r : Ref) → AreParts cat rels
    → FitsRef cat rels r → IsColumnWord (column_word cat rels r)
column_word_is cat k rels r h fits =
    let name : List ℕ = name_of_column (columns_of cat (rel_of rels r.part)) r.column in
    let e : is_name name ≡ true = k.column_name (rel_of rels r.part) r.column (part_is_there cat rels r.part h fits.0) fits.1 in
    let lt : r.part < 2 ^ 63 = omega (arith, fits.0.1, h.few) in
    record {
      fine = column_fine r.part name lt e;
      free = column_free r.part name lt;
      looks = column_looks r.part name lt e;
      names = column_spelled r.part name lt e;
    }

-- a word that names a column after `=` looks like one

pub record IsNaming (op : Op) (w : Word) : Type 0 where
  pub equals : op ≡ ops.Eq
  pub looks : looks_like_column w ≡ true

pub naming : (op : Op) (w : Word) → names_column op w ≡ true → IsNaming op w
naming op w e = grind (arith, both_hold, none_after, no_point, no_points)
