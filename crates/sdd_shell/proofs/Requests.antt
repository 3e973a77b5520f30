-- What is answered to a request, from what its files gave.
use Rattle.sdd_shell.proofs.All.{AcceptsCatalogue, AcceptsWorkload, AnswersRequest, BlamesCatalogue, BlamesWorkload, Catalogue, Err, HasFiles, HasReport, IfErr, Limit, List, MakesNoRun, MakesText, NoMemory, Ok, OverCatalogue, OverWorkload, ReadFault, ReadsOne, Result, Rose, ShelfFile, ShelfState, Some, Status, TellsOfFile, TellsOfRead, Workload, about_catalogue, about_report, about_workload, arith, catalogue_named, subst, workload_named, ℕ, ◌+◌, ◌∙◌, ◌≡◌, ◌≤◌}
use Rattle.sdd_shell.proofs.AtFault.{at_more, silent_at}
use Rattle.sdd_shell.proofs.Ended.{one_ended, three_ended, two_ended}
use Rattle.sdd_shell.proofs.Verdicts.{blamed, blamed_first, blamed_second, explains_more}
use Rattle.sdd_shell.specs.OverCatalogue as of_catalogue
use Rattle.sdd_shell.specs.OverWorkload as of_workload

two : (free : ℕ) → free + 2 ≡ free + 1 + 1
two free = omega arith

three : (free : ℕ) → free + 3 ≡ free + 1 + 1 + 1
three free = omega arith

-- where a count rose since a later moment, it rose since an earlier one
rose_since : (a b c : ℕ) → a ≤ b → Rose b c → Rose a c
rose_since a b c le rose = first_of (omega (arith, le, rose), grind (arith, le, rose))

fault_after : (a b c : ℕ) (s : Status) → a ≤ b → (s ≡ ReadFault → Rose b c) → s ≡ ReadFault → Rose a c
fault_after a b c s le rose is = rose_since a b c le (rose is)

-- a text about a catalogue

module _ (name : List ℕ) (T : Catalogue → List ℕ → Type 0) (before after : ShelfState) where
  pub catalogue_refused : (s : Status) → AcceptsCatalogue name before after (Err s) → AnswersRequest (about_catalogue name T) before after (Err s)
  catalogue_refused s a = record {
    answered = λ fs known. explains_more s (BlamesCatalogue (catalogue_named fs name)) (OverCatalogue fs name T) (λ v e. blamed fs name T v e) (a.answered fs known);
    ended = tt;
    at_fault = at_more s a.at_fault (λ h. one_ended before after _ h.0 h.1) (λ no. absurd no);
    fault = a.leaves.fault;
    errors = a.leaves.errors;
    surely = λ free fs room known there. let k = a.leaves.surely free fs room known there in (k.0, k.2);
  }

  pub catalogue_told : (cat : Catalogue) (text : List ℕ) → AcceptsCatalogue name before after (Ok cat) → T cat text
      → AnswersRequest (about_catalogue name T) before after (Ok text)
  catalogue_told cat text a told = record {
    answered = λ fs known. of_catalogue.printed cat text (a.answered fs known) told;
    ended = one_ended before after _ a.ended.0 a.ended.1;
    at_fault = tt;
    fault = tt;
    errors = tt;
    surely = λ free fs room known there. let k = a.leaves.surely free fs room known there in (tt, k.2);
  }

  -- memory ran out before it was told
  pub catalogue_untold : (cat : Catalogue) → AcceptsCatalogue name before after (Ok cat) → AnswersRequest (about_catalogue name T) before after (Err NoMemory)
  catalogue_untold cat a = record {
    answered = λ fs known. tt;
    ended = tt;
    at_fault = tt;
    fault = λ is. absurd cc;
    errors = tt;
    surely = λ free fs room known there. let k = a.leaves.surely free fs room known there in (λ is. absurd cc, k.2);
  }

-- and about a workload

module _ (c w : List ℕ) (T : Catalogue → Workload → List ℕ → Type 0) (L : Catalogue → Workload → Type 0) (before after : ShelfState) where
  pub workload_first_refused : (s : Status) → AcceptsCatalogue c before after (Err s) → AnswersRequest (about_workload c w T L) before after (Err s)
  workload_first_refused s a = record {
    answered = λ fs known. explains_more s (BlamesCatalogue (catalogue_named fs c)) (OverWorkload fs c w T L) (λ v e. blamed_first fs c w T L v e) (a.answered fs known);
    ended = tt;
    at_fault = at_more s a.at_fault (λ h. one_ended before after _ h.0 h.1) (λ no. absurd no);
    fault = a.leaves.fault;
    errors = a.leaves.errors;
    surely = λ free fs room known there. let k = a.leaves.surely (free + 1) fs (subst before.sure (two free) room) known there.0 in (k.0, k.2);
  }

-- over a sound catalogue

module _ (c w : List ℕ) (T : Catalogue → Workload → List ℕ → Type 0) (L : Catalogue → Workload → Type 0) (before mid after : ShelfState) where
  pub workload_second_refused : (cat : Catalogue) (s : Status) → AcceptsCatalogue c before mid (Ok cat) → AcceptsWorkload cat w mid after (Err s)
      → AnswersRequest (about_workload c w T L) before after (Err s)
  workload_second_refused cat s a b = record {
    answered = λ fs known.
        explains_more s (BlamesWorkload (workload_named fs cat w)) (OverWorkload fs c w T L)
        (λ v e. blamed_second fs c w T L cat v (a.answered fs known) e) (b.answered fs (a.leaves.files ∙ known));
    ended = tt;
    at_fault = at_more s b.at_fault (λ no. absurd no)
        (λ h. two_ended before mid after c _ a.ended.0 h.0 a.leaves.files a.ended.1 a.leaves.others h.1 b.leaves.others);
    fault = fault_after before.faults mid.faults after.faults s a.leaves.later b.leaves.fault;
    errors = b.leaves.errors;
    surely = λ free fs room known there.
        let first = a.leaves.surely (free + 1) fs (subst before.sure (two free) room) known there.0 in
        let k = b.leaves.surely free fs first.1 (a.leaves.files ∙ known) (there.1 cat (a.answered fs known)) in
        (k.0, k.2 ∙ first.2);
  }

  -- how far both were read, and that no fault comes where the shelf is sure
  surely_both : (cat : Catalogue) (work : Workload) → AcceptsCatalogue c before mid (Ok cat) → AcceptsWorkload cat w mid after (Ok work)
      → (free : ℕ) (fs : List ShelfFile) → before.sure (free + 2) → before.files ≡ Some fs → HasFiles fs c w → after.faults ≡ before.faults
  surely_both cat work a b free fs room known there =
      let first = a.leaves.surely (free + 1) fs (subst before.sure (two free) room) known there.0 in
      let k = b.leaves.surely free fs first.1 (a.leaves.files ∙ known) (there.1 cat (a.answered fs known)) in
      k.2 ∙ first.2

  pub workload_answers : (cat : Catalogue) (work : Workload) (answer : Result (List ℕ) Status) → AcceptsCatalogue c before mid (Ok cat)
      → AcceptsWorkload cat w mid after (Ok work) → MakesText (T cat work) (L cat work) answer → AnswersRequest (about_workload c w T L) before after answer
  workload_answers cat work (Ok text) a b made = record {
    answered = λ fs known. of_workload.printed cat work text (a.answered fs known) (b.answered fs (a.leaves.files ∙ known)) made;
    ended = two_ended before mid after c _ a.ended.0 b.ended.0 a.leaves.files a.ended.1 a.leaves.others b.ended.1 b.leaves.others;
    at_fault = tt;
    fault = tt;
    errors = tt;
    surely = λ free fs room known there. (tt, surely_both cat work a b free fs room known there);
  }
  workload_answers cat work (Err Limit) a b made = record {
    answered = λ fs known. of_workload.past_limit cat work (a.answered fs known) (b.answered fs (a.leaves.files ∙ known)) made;
    ended = tt;
    at_fault = tt;
    fault = λ is. absurd cc;
    errors = tt;
    surely = λ free fs room known there. (λ is. absurd cc, surely_both cat work a b free fs room known there);
  }
  workload_answers cat work (Err NoMemory) a b made = record {
    answered = λ fs known. tt;
    ended = tt;
    at_fault = tt;
    fault = λ is. absurd cc;
    errors = tt;
    surely = λ free fs room known there. (λ is. absurd cc, surely_both cat work a b free fs room known there);
  }
  workload_answers cat work (Err _) a b made = absurd made

-- and about a report

module _ (limit : ℕ) (c w r : List ℕ) (said_of : Catalogue → Workload → List ℕ → List ℕ) (before after : ShelfState) where
  abbrev Told : List ShelfFile → Catalogue → Workload → List ℕ → Type 0
  Told fs cat work = TellsOfFile fs r (said_of cat work)

  pub report_first_refused : (s : Status) → AcceptsCatalogue c before after (Err s) → AnswersRequest (about_report limit c w r said_of) before after (Err s)
  report_first_refused s a = record {
    answered = λ fs known.
        explains_more s (BlamesCatalogue (catalogue_named fs c)) (OverWorkload fs c w (Told fs) MakesNoRun)
        (λ v e. blamed_first fs c w (Told fs) MakesNoRun v e) (a.answered fs known);
    ended = tt;
    at_fault = at_more s a.at_fault (λ h. one_ended before after _ h.0 h.1) (λ no. absurd no);
    fault = a.leaves.fault;
    errors = a.leaves.errors;
    surely = λ free fs room known there. let k = a.leaves.surely (free + 1 + 1) fs (subst before.sure (three free) room) known there.0.0 in (k.0, k.2);
  }

module _ (limit : ℕ) (c w r : List ℕ) (said_of : Catalogue → Workload → List ℕ → List ℕ) (before second after : ShelfState) where
  pub report_second_refused : (cat : Catalogue) (s : Status) → AcceptsCatalogue c before second (Ok cat) → AcceptsWorkload cat w second after (Err s)
      → AnswersRequest (about_report limit c w r said_of) before after (Err s)
  report_second_refused cat s a b = record {
    answered = λ fs known.
        explains_more s (BlamesWorkload (workload_named fs cat w)) (OverWorkload fs c w (Told limit c w r said_of before after fs) MakesNoRun)
        (λ v e. blamed_second fs c w (Told limit c w r said_of before after fs) MakesNoRun cat v (a.answered fs known) e) (b.answered fs (a.leaves.files ∙ known));
    ended = tt;
    at_fault = at_more s b.at_fault (λ no. absurd no)
        (λ h. two_ended before second after c _ a.ended.0 h.0 a.leaves.files a.ended.1 a.leaves.others h.1 b.leaves.others);
    fault = fault_after before.faults second.faults after.faults s a.leaves.later b.leaves.fault;
    errors = b.leaves.errors;
    surely = λ free fs room known there.
        let first = a.leaves.surely (free + 1 + 1) fs (subst before.sure (three free) room) known there.0.0 in
        let k = b.leaves.surely (free + 1) fs first.1 (a.leaves.files ∙ known) (there.0.1 cat (a.answered fs known)) in
        (k.0, k.2 ∙ first.2);
  }

module _ (limit : ℕ) (c w r : List ℕ) (said_of : Catalogue → Workload → List ℕ → List ℕ) (before second third after : ShelfState) where
  module _ (cat : Catalogue) (work : Workload) (a : AcceptsCatalogue c before second (Ok cat)) (b : AcceptsWorkload cat w second third (Ok work)) where
    surely_third : {A : Type 0} (answer : Result A Status) → ReadsOne r third after answer → (free : ℕ) (fs : List ShelfFile) → before.sure (free + 3)
        → before.files ≡ Some fs → HasFiles fs c w × HasReport fs c w r → IfErr answer (λ s. s ≡ ReadFault → ⊥) × (after.faults ≡ before.faults)
    surely_third answer k free fs room known there =
        let sound = a.answered fs known in
        let then_files = a.leaves.files ∙ known in
        let reads = b.answered fs then_files in
        let first = a.leaves.surely (free + 1 + 1) fs (subst before.sure (three free) room) known there.0.0 in
        let then_work = b.leaves.surely (free + 1) fs first.1 then_files (there.0.1 cat sound) in
        let last = k.surely free fs then_work.1 (b.leaves.files ∙ then_files) (there.1 cat work sound reads) in
        (last.0, last.2 ∙ then_work.2 ∙ first.2)

    pub report_answers : (answer : Result (List ℕ) Status) → TellsOfRead limit r (said_of cat work) third after answer
        → AnswersRequest (about_report limit c w r said_of) before after answer
    report_answers (Ok text) k = record {
      answered = λ fs known.
          of_workload.printed cat work text (a.answered fs known) (b.answered fs (a.leaves.files ∙ known))
          (k.answered fs (b.leaves.files ∙ a.leaves.files ∙ known));
      ended = three_ended before second third after limit c w r a.ended.0 b.ended.0 k.ended.0 (b.leaves.files ∙ a.leaves.files)
          a.ended.1 a.leaves.others b.ended.1 b.leaves.others k.ended.1 k.leaves.others;
      at_fault = tt;
      fault = tt;
      errors = tt;
      surely = λ free fs room known there. surely_third (Ok text) k.leaves free fs room known there;
    }
    report_answers (Err s) k = record {
      answered = λ fs known. explains_more s (λ _. ⊥) (OverWorkload fs c w (Told limit c w r said_of before after fs) MakesNoRun) (λ v no. absurd no) k.silent;
      ended = tt;
      at_fault = silent_at _ _ s k.silent;
      fault = fault_after before.faults third.faults after.faults s (omega (arith, a.leaves.later, b.leaves.later)) k.leaves.fault;
      errors = k.leaves.errors;
      surely = λ free fs room known there. surely_third (Err s) k.leaves free fs room known there;
    }
