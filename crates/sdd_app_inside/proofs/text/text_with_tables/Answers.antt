use Rattle.sdd_app_inside.proofs.All.{IsSoundCatalogue, all_allowed, ap, ended, eras_with_tables, few_events, first_input, if_ok, length, refl, subst, sym, tables_are, tail_of, ◌∙◌}
use Rattle.sdd_app_inside.proofs.TextOfRun.{text_of_run}
use Rattle.sdd_app_inside.proofs.text.text_with_tables.Goals as goal

pub further-requires : goal.further-requires
further-requires c =
    tables_are c.args.catalogue.now c.args.tables.now c.args.work c.requires.tabled ∙ ap length (sym (c.eras.ensures ∙ c.requires.eras))

pub schedule_text-requires : goal.schedule_text-requires
schedule_text-requires c =
    let cat = c.args.catalogue.now in
    let work = c.args.work in
    let tables = c.args.tables.now in
    let is = c.whole-whole.ensures ∙ c.requires.whole in
    let sound = subst IsSoundCatalogue is c.law_is_sound.ensures.sound in
    let lent = c.in_ok-further.ensures ∙ ap (λ cats. tail_of (eras_with_tables cats tables)) (c.eras.ensures ∙ c.requires.eras) in
    let events = c.in_ok-first.first.events.items in
    let same = c.in_ok-first.ensures.events in
    let allowed = all_allowed cat tables work sound c.requires.valid c.requires.tabled events c.in_ok-further.further.items same lent in
    (first_input cat tables work, c.in_ok-first.ensures.world, is, refl, allowed, few_events cat work c.requires.valid events same)

pub returns-clause-text : goal.returns-clause-text
returns-clause-text c =
    let cat = c.args.catalogue.now in
    let work = c.args.work in
    let tables = c.args.tables.now in
    let is = c.whole-whole.ensures ∙ c.requires.whole in
    let sound = subst IsSoundCatalogue is c.law_is_sound.ensures.sound in
    let lent = c.in_ok-further.ensures ∙ ap (λ cats. tail_of (eras_with_tables cats tables)) (c.eras.ensures ∙ c.requires.eras) in
    let events = c.in_ok-first.first.events.items in
    let same = c.in_ok-first.ensures.events in
    let allowed = all_allowed cat tables work sound c.requires.valid c.requires.tabled events c.in_ok-further.further.items same lent in
    if_ok c.schedule_text.result _ _
    (λ text told. text_of_run cat tables work c.requires.tabled events same text.items
    (told (first_input cat tables work) c.in_ok-first.ensures.world is refl allowed))
    c.schedule_text.ensures.text

pub returns-clause-limit : goal.returns-clause-limit
returns-clause-limit c = λ is_limit.
    let cat = c.args.catalogue.now in
    let work = c.args.work in
    let tables = c.args.tables.now in
    let is = c.whole-whole.ensures ∙ c.requires.whole in
    let sound = subst IsSoundCatalogue is c.law_is_sound.ensures.sound in
    let lent = c.in_ok-further.ensures ∙ ap (λ cats. tail_of (eras_with_tables cats tables)) (c.eras.ensures ∙ c.requires.eras) in
    let events = c.in_ok-first.first.events.items in
    let same = c.in_ok-first.ensures.events in
    let allowed = all_allowed cat tables work sound c.requires.valid c.requires.tabled events c.in_ok-further.further.items same lent in
    ended cat tables work c.requires.tabled events same
    (c.schedule_text.ensures.limit is_limit (first_input cat tables work) c.in_ok-first.ensures.world is refl allowed)
