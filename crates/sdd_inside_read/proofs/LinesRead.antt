-- A text is cut into its lines, and each line of an event gives back what it tells.
use Rattle.std.proofs.Common.{ap, append_assoc, ◌∙◌}
use Rattle.std.specs.Fmt.{decimal}
use Rattle.std.specs.List.{AllByRecursion, flat_map}
use Rattle.std.specs.Prelude.{ℕ, ◌≡◌, List, [], ◌∷◌, ◌++◌, codes, drop, filter, map, refl}
use Rattle.sdd_inside.specs.Json.{also, array, member, object}
use Rattle.sdd_inside.specs.Lines.{beginning, copy_json, line, module_counts}
use Rattle.sdd_inside.specs.Words.{dm_json, fragment_json, row_json}
use Rattle.sdd_inside.specs.declared.delta.Delta.{Delta}
use Rattle.sdd_inside_read.proofs.Ends.{before_cut}
use Rattle.sdd_inside_read.proofs.JsonPass.{inner_also, inner_number, whole_array, whole_member, whole_object}
use Rattle.sdd_inside_read.proofs.LineRead.{line_whole, shown, shown_again}
use Rattle.sdd_inside_read.proofs.NamesPass.{whole_fragment, whole_module, whole_row}
use Rattle.sdd_inside_read.proofs.Passing.{IsWhole, inner_join}
use Rattle.sdd_inside_read.proofs.DigitsPass.{whole_number}
use Rattle.sdd_inside_read.specs.LineReader.{event_lines, has_byte, lines_of, read_line}
use Rattle.sdd_inside_read.specs.Pieces.{Newline}
use Rattle.sdd_inside_read.specs.Small.{HasSmallNumbers}
use Rattle.sdd_inside_read.specs.Told.{told}
use Rattle.sdd_report.specs.declared.copies.CopyTable.{CopyTable}
use Rattle.sdd_script.specs.All.{Catalogue, Txn}

module _ (cat : Catalogue) (txns : List Txn) where
  -- the first line

  whole_copy : (c : CopyTable) → IsWhole (copy_json cat txns c)
  whole_copy c =
      whole_object (member (codes "at") (dm_json cat txns c.dm))
      (also (codes "fragment") (fragment_json cat txns c.frag) ++ also (codes "rows") (array (row_json cat txns) c.rows))
      (whole_member (codes "at") (dm_json cat txns c.dm) refl (whole_module cat txns c.dm))
      (inner_join (also (codes "fragment") (fragment_json cat txns c.frag)) (also (codes "rows") (array (row_json cat txns) c.rows))
      (inner_also (codes "fragment") (fragment_json cat txns c.frag) refl (whole_fragment cat txns c.frag))
      (inner_also (codes "rows") (array (row_json cat txns) c.rows) refl (whole_array (row_json cat txns) c.rows (whole_row cat txns))))

  abbrev first_shown : List CopyTable → List ℕ
  first_shown copies =
      object (member (codes "inside") (decimal 1)) (module_counts cat ++ also (codes "copies") (array (copy_json cat txns) copies))

  first_whole : (copies : List CopyTable) → IsWhole (first_shown copies)
  first_whole copies =
      whole_object (member (codes "inside") (decimal 1)) (module_counts cat ++ also (codes "copies") (array (copy_json cat txns) copies))
      (whole_member (codes "inside") (decimal 1) refl (whole_number 1))
      (inner_join (module_counts cat) (also (codes "copies") (array (copy_json cat txns) copies))
      (inner_join (also (codes "tms") (decimal cat.tms)) (also (codes "dms") (decimal cat.dms)) (inner_number (codes "tms") cat.tms refl)
      (inner_number (codes "dms") cat.dms refl))
      (inner_also (codes "copies") (array (copy_json cat txns) copies) refl (whole_array (copy_json cat txns) copies whole_copy)))

  -- a line and those behind it
  one_line : (text rest : List ℕ) → IsWhole text → lines_of ((text ++ 10 ∷ []) ++ rest) ≡ text ∷ lines_of rest
  one_line text rest h = ap lines_of (append_assoc text (10 ∷ []) rest) ∙ before_cut Newline text rest h

  events_shown : (ds : List Delta) → filter has_byte (lines_of (flat_map (line cat txns) ds)) ≡ map (shown cat txns) ds
  events_shown [] = refl
  events_shown (d ∷ ds) =
      ap (filter has_byte) (one_line (shown cat txns d) (flat_map (line cat txns) ds) (line_whole cat txns d))
      ∙ ap (λ ls. shown cat txns d ∷ ls) (events_shown ds)

  all_again : (ds : List Delta) → AllByRecursion HasSmallNumbers ds → map read_line (map (shown cat txns) ds) ≡ map (told cat txns) ds
  all_again [] small = refl
  all_again (d ∷ ds) small = (λ i. shown_again cat txns d small.0 i ∷ all_again ds small.1 i)

  pub lines_again : (copies : List CopyTable) (ds : List Delta) → AllByRecursion HasSmallNumbers ds
      → map read_line (event_lines (beginning cat txns copies ++ flat_map (line cat txns) ds)) ≡ map (told cat txns) ds
  lines_again copies ds small =
      ap (λ ls. map read_line (filter has_byte (drop 1 ls))) (one_line (first_shown copies) (flat_map (line cat txns) ds) (first_whole copies))
      ∙ ap (map read_line) (events_shown ds) ∙ all_again ds small
