use Rattle.sdd_watch.proofs.All.{handed_on}
use Rattle.sdd_watch.proofs.BeginsReport.{text_at_end}
use Rattle.sdd_watch.proofs.whole_text.schedule_text.Goals as goal

pub begin-requires : goal.begin-requires
begin-requires c = let r = c.requires in (r.0, r.1, r.2)

pub carry_out_before-requires : goal.carry_out_before-requires
carry_out_before-requires c =
    let r = c.requires in
    (r.0, r.1, c.in_ok-teller.ensures r.0 r.1 r.2, r.3, r.4, r.5)

pub returns-clause-text : goal.returns-clause-text
returns-clause-text c = λ g represents is empty allowed.
    let all = c.in_ok-carry_out_before.ensures.log g represents (c.in_ok-teller.ensures g represents is) empty allowed in
    text_at_end _ all.0 _ _ c.text_told.ensures all.1 all.2

pub returns-in_err-carry_out_before-clause-limit : goal.returns-in_err-carry_out_before-clause-limit
returns-in_err-carry_out_before-clause-limit c = λ err g represents is empty allowed.
    c.in_err-carry_out_before.ensures.limit
    (handed_on c.from_residual-in_err-carry_out_before.result c.in_err-carry_out_before.field-0.0 c.from_residual-in_err-carry_out_before.ensures.1 err)
    g represents (c.in_ok-teller.ensures g represents is) empty allowed
