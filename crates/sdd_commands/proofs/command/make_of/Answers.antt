use Rattle.sdd_commands.proofs.All.{arith, decimal_injective, sym, ◌∙◌, ◌≡◌}
use Rattle.sdd_commands.proofs.command.make_of.Goals as goal

pub returns-then-seed-clause-none : goal.returns-then-seed-clause-none
returns-then-seed-clause-none c = λ s n small few seed count.
    let same : s ≡ c.in-Some.seed = decimal_injective s c.in-Some.seed (omega arith) (omega arith) (sym seed ∙ c.in-Some.ensures.found) in
    absurd (omega arith)

pub returns-then-count-gt2048-clause-none : goal.returns-then-count-gt2048-clause-none
returns-then-count-gt2048-clause-none c = λ s n small few seed count.
    let same : n ≡ c.in-Some-read_count.count = decimal_injective n c.in-Some-read_count.count (omega arith)
    (omega arith) (sym count ∙ c.in-Some-read_count.ensures.found) in
    absurd (omega arith)
