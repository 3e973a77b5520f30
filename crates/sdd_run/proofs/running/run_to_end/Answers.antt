use Rattle.sdd_run.proofs.All.{All, AllBegin, BeginsD, Catalogue, FitsStart, Input, IsBegun, IsEraOf, IsGood, IsSoundCatalogue, MAX_DMS, MAX_TMS, Represents, [], ap, arith, eras_with_tables, first_input, length, refl, subst, sym, tail_of, whole_in, ◌∙◌, ◌≤◌}
use Rattle.sdd_run.proofs.ErasWithTables.{first_era, some_table, tables_are}
use Rattle.sdd_run.proofs.Reported.{ended, if_ok, run_of}
use Rattle.sdd_run.proofs.Starting.{all_allowed, few_events, starts}
use Rattle.sdd_run.proofs.Whole.{rows_start}
use Rattle.sdd_schedule.specs.world.Represents as standing
use Rattle.sdd_run.proofs.running.run_to_end.Goals as goal

pub further-requires : goal.further-requires
further-requires c = tables_are c.args.catalogue.now c.args.tables.now c.args.work c.requires.tabled ∙ ap length (sym (c.eras.ensures ∙ c.requires.eras))

pub data_modules-requires : goal.data_modules-requires
data_modules-requires c =
    let cat = c.args.catalogue.now in
    let is = c.whole-whole.ensures ∙ c.requires.whole in
    subst (λ (k : Catalogue). All (FitsStart k) c.as_slice.result.now) (sym is)
    (subst (λ rows. All (FitsStart (whole_in cat c.args.work)) rows) (sym c.as_slice.ensures) (rows_start cat c.args.work c.requires.valid))

pub first_table-requires : goal.first_table-requires
first_table-requires c = let some = some_table c.args.catalogue.now c.args.tables.now c.args.work c.requires.tabled in omega (arith, some)

pub new-requires : goal.new-requires
new-requires c =
    let is = c.whole-whole.ensures ∙ c.requires.whole in
    subst (λ (k : Catalogue). IsEraOf k c.args.catalogue.now) (sym is) (first_era c.args.catalogue.now c.args.work)

pub carry_out-requires : goal.carry_out-requires
carry_out-requires c =
    let cat = c.args.catalogue.now in
    let work = c.args.work in
    let tables = c.args.tables.now in
    let tabled = c.requires.tabled in
    let is = c.whole-whole.ensures ∙ c.requires.whole in
    let sound = subst IsSoundCatalogue is c.law_is_sound.ensures.sound in
    let few_tms = subst (λ (k : Catalogue). k.tms ≤ MAX_TMS) is (let few = c.law_is_sound.ensures.whole.few_tms in omega (arith, few)) in
    let few_dms = subst (λ (k : Catalogue). k.dms ≤ MAX_DMS) is (let few = c.law_is_sound.ensures.whole.few_dms in omega (arith, few)) in
    let dms = c.in_ok-modules.modules.items in
    let table = c.first_table.result.now in
    let made = subst (λ (k : Catalogue). AllBegin (BeginsD k c.as_slice.result.now) k.dms dms) is c.in_ok-modules.ensures in
    let new = subst (λ k. (g : Input) → IsGood g → standing.IsSoundNetwork g → IsBegun g k cat table work.txns dms → Represents c.in_ok-world.world g [])
    is c.in_ok-world.ensures in
    let begins = starts cat tables work sound c.requires.valid tabled c.as_slice.result.now work.txns table dms c.in_ok-world.world
    few_tms few_dms c.first_table.ensures c.as_slice.ensures refl made new in
    let lent = c.in_ok-further.ensures ∙ ap (λ cats. tail_of (eras_with_tables cats tables)) (c.eras.ensures ∙ c.requires.eras) in
    let allowed = all_allowed cat tables work sound c.requires.valid tabled c.into_vec.result.items c.in_ok-further.further.items c.into_vec.ensures lent in
    (first_input cat tables work, [], begins, tt, refl, allowed, few_events cat work c.requires.valid c.into_vec.result.items c.into_vec.ensures)

pub returns-clause-run : goal.returns-clause-run
returns-clause-run c =
    let cat = c.args.catalogue.now in
    let work = c.args.work in
    let tables = c.args.tables.now in
    let tabled = c.requires.tabled in
    let is = c.whole-whole.ensures ∙ c.requires.whole in
    let sound = subst IsSoundCatalogue is c.law_is_sound.ensures.sound in
    let few_tms = subst (λ (k : Catalogue). k.tms ≤ MAX_TMS) is (let few = c.law_is_sound.ensures.whole.few_tms in omega (arith, few)) in
    let few_dms = subst (λ (k : Catalogue). k.dms ≤ MAX_DMS) is (let few = c.law_is_sound.ensures.whole.few_dms in omega (arith, few)) in
    let dms = c.in_ok-modules.modules.items in
    let table = c.first_table.result.now in
    let made = subst (λ (k : Catalogue). AllBegin (BeginsD k c.as_slice.result.now) k.dms dms) is c.in_ok-modules.ensures in
    let new = subst (λ k. (g : Input) → IsGood g → standing.IsSoundNetwork g → IsBegun g k cat table work.txns dms → Represents c.in_ok-world.world g [])
    is c.in_ok-world.ensures in
    let begins = starts cat tables work sound c.requires.valid tabled c.as_slice.result.now work.txns table dms c.in_ok-world.world
    few_tms few_dms c.first_table.ensures c.as_slice.ensures refl made new in
    let lent = c.in_ok-further.ensures ∙ ap (λ cats. tail_of (eras_with_tables cats tables)) (c.eras.ensures ∙ c.requires.eras) in
    let allowed = all_allowed cat tables work sound c.requires.valid tabled c.into_vec.result.items c.in_ok-further.further.items c.into_vec.ensures lent in
    if_ok c.carry_out.result _ _
    (λ world carried.
    let all = carried (first_input cat tables work) [] begins tt refl allowed in
    run_of cat tables work c.into_vec.result.items c.into_vec.ensures world all.0 all.1)
    c.carry_out.ensures.log

pub returns-clause-limit : goal.returns-clause-limit
returns-clause-limit c = λ is_limit.
    let cat = c.args.catalogue.now in
    let work = c.args.work in
    let tables = c.args.tables.now in
    let tabled = c.requires.tabled in
    let is = c.whole-whole.ensures ∙ c.requires.whole in
    let sound = subst IsSoundCatalogue is c.law_is_sound.ensures.sound in
    let few_tms = subst (λ (k : Catalogue). k.tms ≤ MAX_TMS) is (let few = c.law_is_sound.ensures.whole.few_tms in omega (arith, few)) in
    let few_dms = subst (λ (k : Catalogue). k.dms ≤ MAX_DMS) is (let few = c.law_is_sound.ensures.whole.few_dms in omega (arith, few)) in
    let dms = c.in_ok-modules.modules.items in
    let table = c.first_table.result.now in
    let made = subst (λ (k : Catalogue). AllBegin (BeginsD k c.as_slice.result.now) k.dms dms) is c.in_ok-modules.ensures in
    let new = subst (λ k. (g : Input) → IsGood g → standing.IsSoundNetwork g → IsBegun g k cat table work.txns dms → Represents c.in_ok-world.world g [])
    is c.in_ok-world.ensures in
    let begins = starts cat tables work sound c.requires.valid tabled c.as_slice.result.now work.txns table dms c.in_ok-world.world
    few_tms few_dms c.first_table.ensures c.as_slice.ensures refl made new in
    let lent = c.in_ok-further.ensures ∙ ap (λ cats. tail_of (eras_with_tables cats tables)) (c.eras.ensures ∙ c.requires.eras) in
    let allowed = all_allowed cat tables work sound c.requires.valid tabled c.into_vec.result.items c.in_ok-further.further.items c.into_vec.ensures lent in
    ended cat tables work tabled c.into_vec.result.items c.into_vec.ensures (c.carry_out.ensures.limit is_limit (first_input cat tables work) [] begins tt refl allowed)
