-- Worked examples.
use Rattle.std.specs.Prelude.{◌≡◌, codes, refl}
use Rattle.sdd_snapshots.specs.Examples.{crossed, crossed_table, reader_table, writer_and_reader}
use Rattle.sdd_ask.specs.Robust.{first_p3, isolation_text}

-- a reader with P2 alone
pub reader_text : isolation_text writer_and_reader (first_p3 reader_table) ≡ codes "snapshot isolation: enough\n"
reader_text = refl

-- write skew; the names are empty
pub crossed_text : isolation_text crossed (first_p3 crossed_table) ≡ codes "snapshot isolation: not shown\n reads , which  writes\n"
crossed_text = refl
