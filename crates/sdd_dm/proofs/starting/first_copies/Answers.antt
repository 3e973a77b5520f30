use Rattle.sdd_dm.proofs.All.{None, [], ap, database_of, first_row, fold, here_applied, is_some, map, own_rows, represent_applied, slice_index_or, with_change, ◌∙◌}
use Rattle.sdd_dm.proofs.OwnRows.{own_are_enough, own_entries}
use Rattle.sdd_dm.proofs.starting.first_copies.Goals as goal

pub returns-clause-represent : goal.returns-clause-represent
returns-clause-represent c =
    represent_applied c.write_rows.new.copies.value c.in_ok-copies.copies.value (map (first_row c.args.catalogue.now) (database_of c.args.catalogue.now c.args.rows.now))
    (c.in_ok-write_rows.ensures.value
    ∙ ap (λ es. fold with_change c.in_ok-copies.copies.value (map (first_row c.args.catalogue.now) es)) c.in_ok-own.ensures
    ∙ own_are_enough c.args.catalogue.now c.in_ok-copies.copies.value c.args.rows.now)
    [] c.in_ok-copies.ensures.represent

pub write_rows-requires-clause-entries : goal.write_rows-requires-clause-entries
write_rows-requires-clause-entries c =
    own_entries c.args.catalogue.now c.in_ok-copies.copies.value c.args.rows.now c.in_ok-own.own.entries c.in_ok-own.ensures c.law_rows_make_database.ensures.entries

pub returns-clause-here : goal.returns-clause-here
returns-clause-here c = λ f h.
    here_applied c.write_rows.new.copies.value c.in_ok-copies.copies.value
    (map (first_row c.args.catalogue.now) (own_rows c.args.catalogue.now c.in_ok-copies.copies.value c.args.rows.now))
    (c.in_ok-write_rows.ensures.value ∙ ap (λ es. fold with_change c.in_ok-copies.copies.value (map (first_row c.args.catalogue.now) es)) c.in_ok-own.ensures) f
    ∙ c.in_ok-copies.ensures.here f ∙ ap (λ keys. is_some (slice_index_or keys f None)) c.as_slice.ensures.value ∙ c.in_ok-keys.ensures f h
