use Rattle.sdd_words.proofs.All.{Ok, Result, arith, decimal, parse-decimal, ℕ, ◌≡◌}
use Rattle.sdd_words.proofs.number.read_count.Goals as goal

same_count : {E : Type 0} (r : Result ℕ E) (m n : ℕ) → r ≡ Ok m → r ≡ Ok n → m ≡ n
same_count r m n p q = cc

pub returns-in_default-clause-none : goal.returns-in_default-clause-none
returns-in_default-clause-none c = λ n below e.
    let p = parse-decimal 32 n c.args.word.now c.parse.result below (omega arith) e c.parse.ensures.value.0 in
    let same = same_count c.parse.result n c.in-Ok.count p c.in-Ok.is in
    let spelled : c.args.word.now ≡ decimal c.in-Ok.count = rw (← same) e in
    let yes = c.is_count_spelling.ensures.1 spelled in
    let not = c.if-is_count_spelling.false in
    absurd cc

pub returns-in_default-2-clause-none : goal.returns-in_default-2-clause-none
returns-in_default-2-clause-none c = λ n below e.
    let p = parse-decimal 32 n c.args.word.now c.parse.result below (omega arith) e c.parse.ensures.value.0 in
    let q = c.in_default.is in absurd cc
