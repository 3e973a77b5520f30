use Rattle.sdd_words.proofs.All.{FitsSigned, rules, signed_decimal, subst, sym, to_z-of_z, w64, ◌≡◌}
use Rattle.sdd_words.proofs.Numbers.{parses, same_number, parsed_fits, parsed_value, number_of-spelled, number_of-other, number_of-unparsed}
use Rattle.sdd_words.proofs.number.read_int.Goals as goal

pub returns-in_default-clause-none : goal.returns-in_default-clause-none
returns-in_default-clause-none c = λ z fits e.
    let p = parses z c.args.word.now c.parse.result fits e c.parse.ensures.value.0 in
    let q = same_number c.parse.result z c.in-Ok.number p c.in-Ok.is in
    let spelled : c.args.word.now ≡ signed_decimal c.in-Ok.number = rw (← q) e in
    let fits2 : FitsSigned w64 c.in-Ok.number = subst (FitsSigned w64) q fits in
    let yes = (simp to_z-of_z at c.is_spelling.ensures).1 spelled in
    let not = c.if-is_spelling.false in
    absurd cc

pub returns-in_default-2-clause-none : goal.returns-in_default-2-clause-none
returns-in_default-2-clause-none c = λ z fits e.
    let p = parses z c.args.word.now c.parse.result fits e c.parse.ensures.value.0 in
    let q = c.in_default.is in absurd cc

pub returns-in-Ok-clause-exact : goal.returns-in-Ok-clause-exact
returns-in-Ok-clause-exact c =
    let p = c.parse.ensures.value.0 in
    let fits : FitsSigned w64 c.in-Ok.number = parsed_fits c.parse.result c.args.word.now c.in-Ok.number p c.in-Ok.is in
    let spelled = (simp to_z-of_z at c.is_spelling.ensures).0 (search rules) in
    simp to_z-of_z (sym (number_of-spelled c.args.word.now c.in-Ok.number (parsed_value c.parse.result c.args.word.now c.in-Ok.number p c.in-Ok.is) spelled fits))

pub returns-in_default-clause-exact : goal.returns-in_default-clause-exact
returns-in_default-clause-exact c =
    let p = c.parse.ensures.value.0 in
    let fits : FitsSigned w64 c.in-Ok.number = parsed_fits c.parse.result c.args.word.now c.in-Ok.number p c.in-Ok.is in
    sym (number_of-other c.args.word.now c.in-Ok.number (parsed_value c.parse.result c.args.word.now c.in-Ok.number p c.in-Ok.is)
    (λ e. let yes = (simp to_z-of_z at c.is_spelling.ensures).1 e in let not = c.if-is_spelling.false in absurd cc))

pub returns-in_default-2-clause-exact : goal.returns-in_default-2-clause-exact
returns-in_default-2-clause-exact c = sym (number_of-unparsed c.parse.result c.in_default.field-0 c.args.word.now c.parse.ensures.value.0 c.in_default.is)
