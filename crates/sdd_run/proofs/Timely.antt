-- In a valid workload each redeclare stands where it may: a list is left, and no module is down.
use Rattle.sdd_run.proofs.All.{AreTables, AreTimely, Bool, Catalogue, Entry, Event, IsValid, List, Redeclare, Site, Some, Workload, [], ap, arith, at_seam, classes_in, cond, count_by, down_from, false, fold, input_of, length, length-map, redeclares_in, refl, slice_get, subst, sum_by-cons, sym, take, take-append_seam, turned_by, ℕ, ◌+◌, ◌∙◌, ◌∷◌, ◌≡◌, ◌≤◌}
use Rattle.sdd_run.proofs.ErasWithTables.{how_many}
use Rattle.sdd_run.proofs.Modules.{is_module, module_in}
use Rattle.sdd_script.specs.Redeclaring as script

-- what a workload's events tell, and what the log's definitions count of them

pub counted : (es : List Event) → redeclares_in es ≡ count_by script.is_redeclare es
counted [] = refl
counted (e ∷ es) =
    (grind arith) ∙ ap (λ n. cond (script.is_redeclare e) 1 0 + n) (counted es) ∙ sym (sum_by-cons (λ x. cond (script.is_redeclare x) 1 0) e es)

down_alike : (at : Site) (b : Bool) (es : List Event) → down_from at b es ≡ fold (λ down e. script.turned_by at e down) b es
down_alike at b [] = refl
down_alike at b (e ∷ es) = ap (λ c. down_from at c es) (grind arith) ∙ down_alike at (script.turned_by at e b) es

pub timely : (cat : Catalogue) (tables : List (List Entry)) (work : Workload) → IsValid cat work → AreTables cat work tables
    → AreTimely (input_of cat tables work)
timely cat tables work valid tabled front rest is =
    let there : slice_get work.events (length front) ≡ Some Redeclare = ap (λ es. slice_get es (length front)) is ∙ at_seam front rest Redeclare in
    let may = valid.timely (length front) there in
    let before : take (length front) work.events ≡ front = ap (take (length front)) is ∙ take-append_seam front (Redeclare ∷ rest) in
    let few = may.left in
    let all = how_many cat tables work tabled in
    let lists : length (classes_in cat work) ≡ length work.lists = length-map work.lists _ in
    let done = counted front in
    record {
      left = omega (arith, few, (ap (λ es. count_by script.is_redeclare es) before), all, lists, done);
      up = λ at here. down_alike at false front ∙ ap (λ es. script.is_down at es) (sym before)
          ∙ may.up at (module_in cat work at (is_module (input_of cat tables work) at here));
    }
