-- A new world of a workload represents the empty log of what is given before its first event.
use Rattle.sdd_run.proofs.All.{AllBegin, AreAllowed, AreTables, BeginsD, Catalogue, Class, ClassList, D, Entry, Era, Event, Input, IsBegun, IsGood, IsSoundCatalogue, IsValid, Kept, List, MAX_DMS, MAX_TMS, RelNo, Represents, Row, Some, State, There, Txn, Workload, World, [], ap, arith, classes_in, dm_no, era_of_list, eras, eras_in, eras_with_tables, first_input, get_or, length, map, refl, rows_of, slice_get, subst, sym, tail_of, whole_in, ◌-◌, ◌<◌, ◌^◌, ◌∙◌, ◌∷◌, ◌≡◌, ◌≤◌}
use Rattle.sdd_run.proofs.Allowed.{HasLists, allowed}
use Rattle.sdd_run.proofs.Beginning.{begins_sound, rows_given}
use Rattle.sdd_run.proofs.Goods.{good_along, good_begun}
use Rattle.sdd_run.proofs.Timely.{timely}
use Rattle.sdd_run.proofs.Whole.{events_valid}
use Rattle.sdd_schedule.specs.world.Represents as standing

abbrev with_table : Catalogue → List Entry → Era
with_table cat table = record { catalogue = cat; table = table }

-- the first list is that of the catalogue
first_of_eras : (cat : Catalogue) (lists : List (List Class)) (tables : List (List Entry)) (table : List Entry) (none : Era) → slice_get tables 0 ≡ Some table
    → get_or (eras_with_tables (eras cat lists) tables) 0 none ≡ record { catalogue = cat; table = table }
first_of_eras cat lists [] table none e = absurd (cc)
first_of_eras cat [] (t ∷ tables) table none e = let p : t ≡ table = cc in ap (with_table cat) p
first_of_eras cat (l ∷ lists) (t ∷ tables) table none e = let p : t ≡ table = cc in ap (with_table cat) p

-- a valid workload has few events
pub few_events : (cat : Catalogue) (work : Workload) → IsValid cat work → (events : List Event) → events ≡ work.events → length events < 2 ^ 32
few_events cat work valid events same = let few = valid.few_events in omega (arith, few, ap length same)

module _ (cat : Catalogue) (tables : List (List Entry)) (work : Workload) (sound : IsSoundCatalogue (whole_in cat work)) (valid : IsValid cat work)
    (tabled : AreTables cat work tables) where
  -- a list is left for each redeclare
  has_lists : HasLists (first_input cat tables work) work.events
  has_lists front rest is = (timely cat tables work valid tabled front rest is).left

  -- the events of a valid workload are allowed
  pub all_allowed : (events : List Event) (lists : List ClassList) → events ≡ work.events
      → map era_of_list lists ≡ tail_of (eras_with_tables (eras_in cat work) tables) → AreAllowed (first_input cat tables work) events lists
  all_allowed events lists e left =
      subst (λ es. AreAllowed (first_input cat tables work) es lists) (sym e)
      (allowed work.events work.events (first_input cat tables work) lists refl (events_valid cat work valid)
      (left ∙ (grind arith)) has_lists (good_along cat tables work sound valid tabled))

  -- the data modules, each of the rows that are given for it
  each_made : (rows : List (RelNo × Row)) (dms : List (Kept State)) → rows ≡ work.rows → AllBegin (BeginsD (whole_in cat work) rows) (whole_in cat work).dms dms
      → AllBegin (λ n. BeginsD (whole_in cat work) (rows_of (first_input cat tables work) (D (dm_no n))) n) (whole_in cat work).dms dms
  each_made rows dms e all = record {
    count_is = all.count_is;
    each = λ n low high.
        subst (λ r. There (BeginsD (whole_in cat work) r n) (slice_get dms (n - 1)))
        (e ∙ sym (rows_given cat tables work n low high)) (all.each n low high);
  }

  pub starts : (rows : List (RelNo × Row)) (txns : List Txn) (table : List Entry) (dms : List (Kept State)) (w : World)
      → (whole_in cat work).tms ≤ MAX_TMS → (whole_in cat work).dms ≤ MAX_DMS → slice_get tables 0 ≡ Some table → rows ≡ work.rows → txns ≡ work.txns
      → AllBegin (BeginsD (whole_in cat work) rows) (whole_in cat work).dms dms
      → ((g : Input) → IsGood g → standing.IsSoundNetwork g → IsBegun g (whole_in cat work) cat table txns dms → Represents w g [])
      → Represents w (first_input cat tables work) []
  starts rows txns table dms w few_tms few_dms first r t all made =
      made (first_input cat tables work) (good_begun cat tables work sound valid tabled) (begins_sound cat tables work few_tms few_dms valid)
      (grind (arith, first_of_eras, classes_in, whole_in, each_made))
