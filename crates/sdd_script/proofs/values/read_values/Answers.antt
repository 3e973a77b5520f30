use Rattle.sdd_script.proofs.All.{Fails, Ok, along, ap, arith, few, kind_of_place, length, rule_in, sym, value_of, ◌∙◌, ◌≡◌}
use Rattle.sdd_script.proofs.FewRead.{ends_few, goes_few, kept_and_left, steady_kind}
use Rattle.sdd_script.proofs.values.read_values.Goals as goal

pub words-preserved : goal.words-preserved
words-preserved c =
    let long : c.len.result ≡ length c.words.values.items = omega arith in
    let read : value_of (kind_of_place c.args.columns.now (length c.words.values.items)) c.in-Some.word ≡ Ok c.in_ok-value.value =
    rw (← long) c.in_ok-value.ensures in
    let went = goes_few (length c.args.columns.now) (λ i w. value_of (kind_of_place c.args.columns.now i) w) (steady_kind c.args.columns.now)
    c.words.values.items c.keep_few.new.kept.items c.in-Some.word c.in_ok-value.value c.next.new.self
    (few (length c.args.columns.now) (along (λ i w. value_of (kind_of_place c.args.columns.now i) w) 0 c.args.words.now)) c.words.invariant.within
    c.in_ok-keep_few.ensures read
    (ap (kept_and_left (length c.args.columns.now) (λ i w. value_of (kind_of_place c.args.columns.now i) w) c.words.values.items) (sym
    c.in-Some.ensures) ∙ c.words.invariant.same) in
    record { within = went.0; same = went.1 }

pub returns-in_err-value : goal.returns-in_err-value
returns-in_err-value c =
    let long : c.len.result ≡ length c.words.values.items = omega arith in
    let fails : Fails rule_in c.in_err-value.field-0.0 (value_of (kind_of_place c.args.columns.now (length c.words.values.items)) c.in-Some.word) =
    rw (← long) c.in_err-value.ensures in
    let found =
    ends_few (length c.args.columns.now) (λ i w. value_of (kind_of_place c.args.columns.now i) w) c.words.values.items c.in-Some.word c.next.new.self
    c.in_err-value.field-0.0
    (few (length c.args.columns.now) (along (λ i w. value_of (kind_of_place c.args.columns.now i) w) 0 c.args.words.now)) fails
    (ap (kept_and_left (length c.args.columns.now) (λ i w. value_of (kind_of_place c.args.columns.now i) w) c.words.values.items) (sym
    c.in-Some.ensures) ∙ c.words.invariant.same) in
    grind (arith, found)
