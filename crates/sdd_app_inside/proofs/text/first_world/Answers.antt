use Rattle.sdd_app_inside.proofs.All.{All, AllBegin, BeginsD, Catalogue, FitsStart, Input, IsBegun, IsEraOf, IsGood, IsSoundCatalogue, MAX_DMS, MAX_TMS, Represents, [], arith, first_era, refl, rows_start, some_table, starts, subst, sym, whole_in, ◌∙◌, ◌≤◌}
use Rattle.sdd_run.specs.world.Represents as standing
use Rattle.sdd_app_inside.proofs.text.first_world.Goals as goal

pub data_modules-requires : goal.data_modules-requires
data_modules-requires c =
    let cat = c.args.catalogue.now in
    let is = c.whole-whole.ensures ∙ c.requires.whole in
    subst (λ (k : Catalogue). All (FitsStart k) c.as_slice.result.now) (sym is)
    (subst (λ rows. All (FitsStart (whole_in cat c.args.work)) rows) (sym c.as_slice.ensures) (rows_start cat c.args.work c.requires.valid))

pub first_table-requires : goal.first_table-requires
first_table-requires c = let some = some_table c.args.catalogue.now c.args.tables.now c.args.work c.requires.tabled in omega (arith, some)

pub new-requires : goal.new-requires
new-requires c =
    let is = c.whole-whole.ensures ∙ c.requires.whole in
    subst (λ (k : Catalogue). IsEraOf k c.args.catalogue.now) (sym is) (first_era c.args.catalogue.now c.args.work)

pub returns-clause-world : goal.returns-clause-world
returns-clause-world c =
    let cat = c.args.catalogue.now in
    let work = c.args.work in
    let is = c.whole-whole.ensures ∙ c.requires.whole in
    let sound = subst IsSoundCatalogue is c.law_is_sound.ensures.sound in
    let few_tms = subst (λ (k : Catalogue). k.tms ≤ MAX_TMS) is (let few = c.law_is_sound.ensures.whole.few_tms in omega (arith, few)) in
    let few_dms = subst (λ (k : Catalogue). k.dms ≤ MAX_DMS) is (let few = c.law_is_sound.ensures.whole.few_dms in omega (arith, few)) in
    let dms = c.in_ok-modules.modules.items in
    let table = c.first_table.result.now in
    let made = subst (λ (k : Catalogue). AllBegin (BeginsD k c.as_slice.result.now) k.dms dms) is c.in_ok-modules.ensures in
    let new = subst (λ k. (g : Input) → IsGood g → standing.IsSoundNetwork g → IsBegun g k cat table work.txns dms → Represents c.in_ok-world.world g [])
    is c.in_ok-world.ensures in
    starts cat c.args.tables.now work sound c.requires.valid c.requires.tabled c.as_slice.result.now work.txns table dms c.in_ok-world.world
    few_tms few_dms c.first_table.ensures c.as_slice.ensures refl made new
