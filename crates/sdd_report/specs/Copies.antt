-- The rows of copies of fragments at data modules.
use Rattle.std.specs.Prelude.{ℕ, List, ◌∷◌, ◌++◌, length, codes, flat_map}
use Rattle.std.specs.Fmt.{decimal}
use Rattle.sdd_lang.specs.All.{Catalogue}
use Rattle.sdd_report.specs.Names.{spaced, fragment_name, module_word}
use Rattle.sdd_report.specs.Replies.{row_line}
use Rattle.sdd_report.specs.declared.copies.CopyTable.{CopyTable}

-- a copy, by its module and its fragment
abbrev pub place_words : Catalogue → ℕ → ℕ → List ℕ
place_words cat d f = codes "copy" ++ (spaced (module_word d) ++ spaced (fragment_name cat f))

-- the copy and how many rows there are, and the rows
abbrev pub copy_lines : Catalogue → CopyTable → List ℕ
copy_lines cat table =
    place_words cat table.dm.0 table.frag.0 ++ (spaced (decimal (length table.rows)) ++ 10 ∷ flat_map row_line table.rows)

-- the lines of all copies, in their order
abbrev pub copies_lines : Catalogue → List CopyTable → List ℕ
copies_lines cat tables = flat_map (copy_lines cat) tables
