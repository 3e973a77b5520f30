-- Rows, and rows with keys, that are added one by one: how a new one stands to the last.
use Rattle.std.specs.Prelude.{ℤ, ◌-◌, List, [], length, map, fold, slice_get}
use Rattle.std.specs.declared.cmp.Ordering.{Ordering}
use Rattle.std.specs.declared.cmp.Ordering.TheVariants.{Greater}
use Rattle.std.specs.Ordering.{int_cmp}
use Rattle.std.specs.BTreeMap.{insert_entry}
use Rattle.std.specs.Option.{option_map_or}
use Rattle.sdd_lang.specs.All.{Row, row_cmp}
use Rattle.sdd_lang.specs.declared.source.Entry.{Entry}

-- how a row stands to the last of some rows; above it where there is none
abbrev pub to_last : List Row → Row → Ordering
to_last rows row = option_map_or (λ last. row_cmp row last) (slice_get rows (length rows - 1)) Greater

-- entries as rows with their keys
abbrev pub keyed_rows : List Entry → List (ℤ × Row)
keyed_rows entries = map (λ e. (e.key, e.row)) entries

-- rows put one by one by their keys, ascending; of two with one key the later stands
abbrev pub by_keys : List (ℤ × Row) → List (ℤ × Row)
by_keys rows = fold (λ kept r. insert_entry int_cmp kept r.0 r.1) [] rows

-- how a key stands to that of the last entry; above it where there is none
abbrev pub to_last_key : List Entry → ℤ → Ordering
to_last_key entries key =
    option_map_or (λ last. int_cmp key last.key) (slice_get entries (length entries - 1)) Greater
