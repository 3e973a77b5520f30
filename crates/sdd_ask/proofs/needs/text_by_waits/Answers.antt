use Rattle.sdd_ask.proofs.All.{ap, awaits, begins, flag_at, flags_of, moves, needed_by, needs_text, refl, ◌∙◌}
use Rattle.sdd_ask.proofs.Telling.{is_needs_text}
use Rattle.sdd_ask.proofs.needs.text_by_waits.Goals as goal
use Rattle.std.proofs.lemmas.Result.{IfOk-weaker}

pub returns : goal.returns
returns c =
    let cat = c.args.catalogue.now in
    let w = c.args.waits.now in
    let p = c.in_ok-passing.passing.items in
    let a = flags_of (awaits cat (flag_at w)) in
    let b = c.in_ok-begun.begun.items in
    IfOk-weaker c.text_by_flags.result _ _
    (λ text spelled.
    is_needs_text cat c.requires.0 w (flags_of (moves (flag_at w))) p a b text.items c.requires.1 c.law_is_sound.ensures.whole c.requires.2
    refl c.in_ok-passing.ensures refl (c.in_ok-begun.ensures ∙ ap (λ z. flags_of (begins (flag_at a) (flag_at z))) c.as_slice.ensures.value)
    (spelled
    ∙ ap (λ z. needs_text cat (needed_by cat (flag_at z) (flag_at c.as_slice-3.result.now))) c.as_slice-2.ensures.value
    ∙ ap (λ z. needs_text cat (needed_by cat (flag_at b) (flag_at z))) c.as_slice-3.ensures.value))
    c.text_by_flags.ensures
