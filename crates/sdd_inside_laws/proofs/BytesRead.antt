-- Who reads the bytes of the text of a run line by line, and begins with nothing, has after each line by names what there is then.
use Rattle.std.proofs.Common.{ap, arith, subst, sym, ◌∙◌}
use Rattle.std.proofs.lemmas.List.{map-append}
use Rattle.std.proofs.lemmas.List.Sums.{fold-append}
use Rattle.std.specs.Prelude.{ℕ, zero, suc, ◌+◌, ◌-◌, ◌≡◌, ◌<◌, ◌≤◌, List, [], ◌∷◌, ◌++◌, map, take, refl}
use Rattle.std.specs.List.{AllByRecursion, flat_map, range_with_len}
use Rattle.sdd_inside.specs.Lines.{beginning, line}
use Rattle.sdd_inside.specs.declared.delta.Delta.{Delta}
use Rattle.sdd_inside_laws.proofs.OfCatalogue.{of_catalogue}
use Rattle.sdd_inside_laws.proofs.RunRead.{one_change, read_to}
use Rattle.sdd_inside_laws.proofs.TextRead.{told_read}
use Rattle.sdd_inside_laws.specs.Reader.{Known, known, read}
use Rattle.sdd_inside_laws.specs.TextReader.{HaveOwnNames, TextKnown, by_names, read_all_told, read_told}
use Rattle.sdd_inside_laws.specs.WholeRun.{IsReadFromBytes, change_at, changes_to, nothing_yet, read_all}
use Rattle.sdd_inside_read.proofs.LinesRead.{lines_again}
use Rattle.sdd_inside_read.specs.LineReader.{event_lines, read_line}
use Rattle.sdd_inside_read.specs.Small.{HasSmallNumbers}
use Rattle.sdd_inside_read.specs.Told.{Told, told}
use Rattle.sdd_app_inside.specs.watch.obligations.All.{Input, IsGood, IsTheLog, Log, marks, numbers_to}
use Rattle.sdd_app_inside.proofs.watch.EachEvent.{at_self}
use Rattle.sdd_app_inside.specs.watch.moments.Moments.{at_event}
use Rattle.sdd_app_inside.specs.watch.Text.{change}
use Rattle.sdd_app_inside.specs.run.schedule.Copies.{tables_of}

-- the numbers in the lines of a run have 64 bits at most
abbrev pub HasSmallLines : Input → Log → Type 0
HasSmallLines g log = (k : ℕ) → k < marks log → HasSmallNumbers (change g (at_event k log) (at_event (suc k) log))

module _ (g : Input) (log : Log) (good : IsGood g) (the_log : IsTheLog g log) (own : HaveOwnNames g.catalogue) where
  abbrev tells : Delta → Told
  tells = told g.catalogue g.txns

  abbrev named : Known → TextKnown
  named = by_names g.catalogue g.txns

  -- the lines as they are told

  one_told : (before : TextKnown) (ts : List Told) (t : Told) → read_all_told (ts ++ t ∷ []) before ≡ read_told t (read_all_told ts before)
  one_told before ts t = fold-append (λ known line. read_told line known) before ts (t ∷ [])

  pub told_to : (n : ℕ) → n ≤ marks log → read_all_told (map tells (changes_to g log n)) (named (nothing_yet g)) ≡ named (known g (at_event n log))
  told_to n l = told_fold n l ∙ ap named (read_to g log n good the_log l)
    where
      told_fold : (n : ℕ) → n ≤ marks log → read_all_told (map tells (changes_to g log n)) (named (nothing_yet g))
          ≡ named (read_all (changes_to g log n) (nothing_yet g))
      told_fold zero l = refl
      told_fold (suc n) l =
          let old : Log = at_event n log in
          let d : Delta = change g old (at_event (suc n) log) in
          let fewer : n ≤ marks log = omega (arith, l) in
          let lines = one_change g log n in
          let before = read_to g log n good the_log fewer in
          ap (λ ds. read_all_told (map tells ds) (named (nothing_yet g))) lines
          ∙ ap (λ ts. read_all_told ts (named (nothing_yet g))) (map-append tells (changes_to g log n) (d ∷ []))
          ∙ one_told (named (nothing_yet g)) (map tells (changes_to g log n)) (tells d)
          ∙ ap (read_told (tells d)) (told_fold n fewer ∙ ap named before)
          ∙ told_read g.catalogue g.txns own d (known g old) (of_catalogue g old (at_event (suc n) log))
          ∙ ap (λ k. named (read d k)) (sym before)
          ∙ ap named (sym (fold-append (λ known line. read line known) (nothing_yet g) (changes_to g log n) (d ∷ [])))
          ∙ ap (λ ds. named (read_all ds (nothing_yet g))) (sym lines)

  -- the text's lines are these

  small_to : HasSmallLines g log → (n : ℕ) → n ≤ marks log → AllByRecursion HasSmallNumbers (changes_to g log n)
  small_to small zero l = tt
  small_to small (suc n) l =
      let d : Delta = change g (at_event n log) (at_event (suc n) log) in
      let all = each_behind (changes_to g log n) d (small_to small n (omega (arith, l))) (small n (omega (arith, l))) in
      subst (AllByRecursion HasSmallNumbers) (sym (one_change g log n)) all
    where
      each_behind : (ds : List Delta) (d : Delta) → AllByRecursion HasSmallNumbers ds → HasSmallNumbers d → AllByRecursion HasSmallNumbers (ds ++ d ∷ [])
      each_behind [] d h k = (k, tt)
      each_behind (x ∷ ds) d h k = (h.0, each_behind ds d h.1 k)

  lines_told : (text : List ℕ) → HasSmallLines g log
      → text ≡ beginning g.catalogue g.txns (tables_of g []) ++ flat_map (line g.catalogue g.txns) (changes_to g log (marks log))
      → map read_line (event_lines text) ≡ map tells (changes_to g log (marks log))
  lines_told text small is =
      ap (λ t. map read_line (event_lines t)) is
      ∙ lines_again g.catalogue g.txns (tables_of g []) (changes_to g log (marks log)) (small_to small (marks log) (omega arith))

  -- the first so many of them

  map_take : {A B : Type 0} (f : A → B) (n : ℕ) (xs : List A) → map f (take n xs) ≡ take n (map f xs)
  map_take f zero xs = refl
  map_take f (suc n) [] = refl
  map_take f (suc n) (x ∷ xs) = ap (λ ys. f x ∷ ys) (map_take f n xs)

  take_numbers : (a n k : ℕ) → take n (range_with_len a (n + k)) ≡ range_with_len a n
  take_numbers a zero k = refl
  take_numbers a (suc n) k =
      let size : suc n + k ≡ suc (n + k) = omega arith in
      ap (λ m. take (suc n) (range_with_len a m)) size ∙ ap (λ ys. a ∷ ys) (take_numbers (a + 1) n k)

  first_told : (n : ℕ) → n ≤ marks log → take n (map tells (changes_to g log (marks log))) ≡ map tells (changes_to g log n)
  first_told n l =
      let size : n + (marks log - n) ≡ marks log = omega (arith, l) in
      sym (map_take tells n (changes_to g log (marks log)))
      ∙ ap (map tells) (sym (map_take (change_at g log) n (numbers_to (marks log)))
      ∙ ap (map (change_at g log)) (ap (λ m. take n (range_with_len 1 m)) (sym size) ∙ take_numbers 1 n (marks log - n)))

  pub bytes_read : (text : List ℕ) → HasSmallLines g log
      → text ≡ beginning g.catalogue g.txns (tables_of g []) ++ flat_map (line g.catalogue g.txns) (changes_to g log (marks log))
      → IsReadFromBytes g log text
  bytes_read text small is =
      let all = lines_told text small is in
      record {
        after_each = λ count few.
            ap (λ ts. read_all_told ts (named (nothing_yet g)))
            (map_take read_line count (event_lines text) ∙ ap (take count) all ∙ first_told count few) ∙ told_to count few;
        at_end =
            ap (λ ts. read_all_told ts (named (nothing_yet g))) all ∙ told_to (marks log) (omega arith)
            ∙ ap (λ l. named (known g l)) (at_self (marks log) log (omega arith));
      }
