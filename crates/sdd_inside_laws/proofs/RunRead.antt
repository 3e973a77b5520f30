-- Who reads the lines of a run one after the other, and begins with nothing, has after each line what there is then.
use Rattle.std.proofs.Common.{ap, append-nil, arith, sym, ◌∙◌}
use Rattle.std.proofs.lemmas.List.{map-append}
use Rattle.std.proofs.lemmas.List.Folds.{flat_map-map}
use Rattle.std.proofs.lemmas.List.Sums.{fold-append}
use Rattle.std.specs.Prelude.{ℕ, zero, suc, ◌+◌, ◌-◌, ◌≡◌, ◌≤◌, List, [], ◌∷◌, ◌++◌, map}
use Rattle.std.specs.List.{flat_map}
use Rattle.sdd_inside.specs.Lines.{beginning, line}
use Rattle.sdd_inside.specs.declared.delta.Delta.{Delta}
use Rattle.sdd_inside_laws.proofs.EachMoment.{between_at}
use Rattle.sdd_inside_laws.proofs.BeforeFirst.{known_before}
use Rattle.sdd_inside_laws.proofs.WholeRead.{whole_read}
use Rattle.sdd_inside_laws.specs.Reader.{Known, known, read}
use Rattle.sdd_inside_laws.specs.WholeRun.{IsReadBack, change_at, changes_to, nothing_yet, read_all}
use Rattle.sdd_app_inside.proofs.watch.obligations.graph.Lists.{range_more}
use Rattle.sdd_app_inside.specs.watch.obligations.All.{Catalogue, Input, IsGood, IsSoundCatalogue, IsTheLog, Log, marks, numbers_to}
use Rattle.sdd_app_inside.proofs.watch.EachEvent.{at_self}
use Rattle.sdd_app_inside.proofs.run.Goods.{good_along}
use Rattle.sdd_app_inside.proofs.run.class_lists.WholeSound.{whole_sound}
use Rattle.sdd_app_inside.specs.watch.moments.Moments.{at_event}
use Rattle.sdd_app_inside.specs.Text.{IsInsideOf}
use Rattle.sdd_app_inside.specs.watch.Text.{change, inside_text}
use Rattle.sdd_app_inside.specs.watch.obligations.protocol.declared.entry.Entry.{Entry}
use Rattle.sdd_app_inside.specs.run.Runs.{AreTables, input, input_of}
use Rattle.sdd_app_inside.specs.run.script.Valid.{IsValid}
use Rattle.sdd_app_inside.specs.run.script.declared.workload.Workload.{Workload}
use Rattle.sdd_app_inside.specs.run.schedule.Copies.{tables_of}

-- one line more
pub one_change : (g : Input) (log : Log) (n : ℕ) → changes_to g log (suc n) ≡ changes_to g log n ++ change g (at_event n log) (at_event (suc n) log) ∷ []
one_change g log n =
    let number : 1 + n ≡ suc n = omega arith in
    let place : suc n - 1 ≡ n = omega arith in
    ap (map (change_at g log)) (range_more 1 n ∙ ap (λ k. numbers_to n ++ k ∷ []) number)
    ∙ map-append (change_at g log) (numbers_to n) (suc n ∷ [])
    ∙ ap (λ k. changes_to g log n ++ change g (at_event k log) (at_event (suc n) log) ∷ []) place

one_read : (before : Known) (lines : List Delta) (d : Delta) → read_all (lines ++ d ∷ []) before ≡ read d (read_all lines before)
one_read before lines d = fold-append (λ known line. read line known) before lines (d ∷ [])

pub read_to : (g : Input) (log : Log) (n : ℕ) → IsGood g → IsTheLog g log → n ≤ marks log
    → read_all (changes_to g log n) (nothing_yet g) ≡ known g (at_event n log)
read_to g log zero good h l = sym (known_before g log h.lawful)
read_to g log (suc n) good h l =
    let d : Delta = change g (at_event n log) (at_event (suc n) log) in
    ap (λ lines. read_all lines (nothing_yet g)) (one_change g log n)
    ∙ one_read (nothing_yet g) (changes_to g log n) d
    ∙ ap (read d) (read_to g log n good h (omega (arith, l)))
    ∙ whole_read g (at_event n log) (at_event (suc n) log) good (between_at g n log good h (omega (arith, l)))

-- the lines are those of the text
lines_are : (g : Input) (log : Log) → inside_text g log
    ≡ beginning g.catalogue g.txns (tables_of g []) ++ flat_map (line g.catalogue g.txns) (changes_to g log (marks log))
lines_are g log =
    ap (λ lines. beginning g.catalogue g.txns (tables_of g []) ++ lines)
    (sym (flat_map-map (line g.catalogue g.txns) (change_at g log) (numbers_to (marks log))))

pub log_read : (g : Input) (log : Log) (text : List ℕ) → IsGood g → IsTheLog g log → text ≡ inside_text g log → IsReadBack g log text
log_read g log text good h is = record {
  text_is = is ∙ lines_are g log;
  after_each = λ count few. read_to g log count good h few;
  at_end = read_to g log (marks log) good h (omega arith) ∙ ap (known g) (at_self (marks log) log (omega arith));
}

-- what is given to a run is good
pub good_run : (cat : Catalogue) (work : Workload) (tables : List (List Entry)) → IsSoundCatalogue cat → IsValid cat work → AreTables cat work tables
    → IsGood (input_of cat tables work)
good_run cat work tables sound valid tabled =
    good_along cat tables work (whole_sound cat work sound valid) valid tabled work.events [] (append-nil work.events)

pub of_inside : (cat : Catalogue) (work : Workload) (text : List ℕ) → IsSoundCatalogue cat → IsValid cat work → (i : IsInsideOf cat work text)
    → IsReadBack (input i.of_run) i.of_run.log text
of_inside cat work text sound valid i =
    log_read (input i.of_run) i.of_run.log text (good_run cat work i.of_run.tables sound valid i.of_run.tables_are) i.of_run.log_is i.text_is
