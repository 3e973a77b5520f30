use Rattle.sdd_script.proofs.All.{MAX_OUTPUT_COLUMNS, along, ap, arith, few, listed_column, refl, sym, ◌∙◌}
use Rattle.sdd_script.proofs.FewRead.{ends_few, goes_few, kept_and_left}
use Rattle.sdd_script.proofs.queries.read_listed.Goals as goal

pub words-preserved : goal.words-preserved
words-preserved c =
    let went = goes_few MAX_OUTPUT_COLUMNS (λ i w. listed_column c.args.catalogue.now c.args.parts.now w) (λ i x le. refl) c.words.out.items
    c.keep_few.new.kept.items c.in-Some.word c.in_ok-column.column c.next.new.self
    (few MAX_OUTPUT_COLUMNS (along (λ i w. listed_column c.args.catalogue.now c.args.parts.now w) 0 c.args.words.now)) c.words.invariant.within
    c.in_ok-keep_few.ensures c.in_ok-column.ensures
    (ap (kept_and_left MAX_OUTPUT_COLUMNS (λ i w. listed_column c.args.catalogue.now c.args.parts.now w) c.words.out.items) (sym c.in-Some.ensures)
    ∙ c.words.invariant.same) in
    record { within = went.0; same = went.1 }

pub returns-in_err-column : goal.returns-in_err-column
returns-in_err-column c =
    let found =
    ends_few MAX_OUTPUT_COLUMNS (λ i w. listed_column c.args.catalogue.now c.args.parts.now w) c.words.out.items c.in-Some.word c.next.new.self
    c.in_err-column.field-0.0
    (few MAX_OUTPUT_COLUMNS (along (λ i w. listed_column c.args.catalogue.now c.args.parts.now w) 0 c.args.words.now)) c.in_err-column.ensures
    (ap (kept_and_left MAX_OUTPUT_COLUMNS (λ i w. listed_column c.args.catalogue.now c.args.parts.now w) c.words.out.items) (sym c.in-Some.ensures)
    ∙ c.words.invariant.same) in
    grind (arith, found)
