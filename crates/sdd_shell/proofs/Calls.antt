-- How a call ends, from what it answers.
use Rattle.sdd_shell.proofs.All.{Answers, AnswersAs, AnswersRequest, Call, ComesOfFiles, ComesTo, Done, EndsAs, EndsWith, Err, Explains, FilesAreThere, IsRefusal, List, None, Ok, Prints, ReadFault, Result, ShelfFile, ShelfState, SinkState, Some, Status, TakesOrFaults, Usage, Verdict, WriteFault, NoMemory, ap, by_form, inl, line_of, no_form, refl, status_of, subst, sym, ℕ, ◌≡◌, ◌⊎◌}
use Rattle.sdd_shell.proofs.AtFault.{of_catalogue, of_workload}
use Rattle.sdd_shell.proofs.FileReads.{if_err_more, not_usage, one_error}
use Rattle.sdd_shell.proofs.Verdicts.{IsDecided, by_status, done_refuses, explains_more}

module _ {Form : Type 0} (call : Call Form) where
  answers_by : (answer : Result (List ℕ) Status) (fs : List ShelfFile) (words : List (List ℕ)) (form : Form) → call.form_in words ≡ Some form
      → Answers answer (λ text. text) ((call.request form).comes_to fs) → Answers answer (λ text. text) (ComesTo call fs words)
  answers_by (Ok text) fs words form is p = by_form form (Prints text) is p
  answers_by (Err s) fs words form is p = explains_more s ((call.request form).comes_to fs) (ComesTo call fs words) (λ v q. by_form form v is q) p

  -- what is answered to words of a form, and to words of none

  pub form_answers : (words : List (List ℕ)) (form : Form) (before after : ShelfState) (answer : Result (List ℕ) Status)
      → call.form_in words ≡ Some form → (call.is_no_form words → ⊥) → AnswersRequest (call.request form) before after answer
      → AnswersAs call words before after answer
  form_answers words form before after answer is found f = record {
    answered = λ fs over. answers_by answer fs words form is (f.answered fs (rw is at over));
    ended = rw is f.ended;
    at_fault = rw is f.at_fault;
    usage = (λ e. absurd (not_usage answer f.errors e), λ none. absurd (found none));
    fault = f.fault;
    errors = if_err_more answer ComesOfFiles _ f.errors (λ s files. (λ e. subst ComesOfFiles e files, λ e. subst ComesOfFiles e files));
    surely = λ free fs room over there. f.surely free fs (rw is at room) (rw is at over) (rw is at there);
  }

  pub no_form_answers : (words : List (List ℕ)) (shelf : ShelfState) → call.form_in words ≡ None → call.is_no_form words
      → AnswersAs call words shelf shelf (Err Usage)
  no_form_answers words shelf is none = record {
    answered = λ fs over. no_form is;
    ended = tt;
    at_fault = tt;
    usage = (λ e. none, λ _. refl);
    fault = λ e. absurd cc;
    errors = (λ e. absurd cc, λ e. absurd cc);
    surely = λ free fs room over there. (λ e. absurd cc, refl);
  }

  module _ (decided : (form : Form) → IsDecided (call.request form)) where
    same_form : (words : List (List ℕ)) (form other : Form) → call.form_in words ≡ Some form → call.form_in words ≡ Some other → other ≡ form
    same_form words form other e h = cc

    one_status : (fs : List ShelfFile) (words : List (List ℕ)) (v w : Verdict) → ComesTo call fs words v → ComesTo call fs words w
        → status_of v ≡ status_of w
    one_status fs words _ _ (no_form e) (no_form h) = refl
    one_status fs words _ _ (no_form e) (by_form form w is p) = absurd cc
    one_status fs words _ _ (by_form form v is p) (no_form e) = absurd cc
    one_status fs words _ _ (by_form form v is p) (by_form other w known q) =
        (decided form).one fs v w p (subst (λ f. (call.request f).comes_to fs w) (same_form words form other is known) q)

    answered_status : (s : Status) (fs : List ShelfFile) (words : List (List ℕ)) (v : Verdict) → ComesTo call fs words v
        → Explains s (ComesTo call fs words) → (s ≡ ReadFault → ⊥) → (s ≡ status_of v) ⊎ (s ≡ NoMemory)
    answered_status s fs words v comes e read = by_status s (ComesTo call fs words) v (λ w p. one_status fs words w v p comes) e read

    -- a call that prints isn't refused
    prints_or_refuses : (fs : List ShelfFile) (words : List (List ℕ)) (text : List ℕ) (v : Verdict)
        → ComesTo call fs words (Prints text) → ComesTo call fs words v → IsRefusal v → ⊥
    prints_or_refuses fs words text v p q r = done_refuses v r (one_status fs words (Prints text) v p q)

    files_there : (fs : List ShelfFile) (words : List (List ℕ)) (v : Verdict) → ComesTo call fs words v → FilesAreThere call fs words
    files_there fs words _ (no_form e) = rw e tt
    files_there fs words _ (by_form form v is p) = rw is ((decided form).there fs v p)

    -- a text was written whole
    ends_done : (words : List (List ℕ)) (before after : ShelfState) (text : List ℕ) (out out2 err err2 : SinkState)
        → AnswersAs call words before after (Ok text) → EndsWith (Ok text) out out2 Done
        → TakesOrFaults err.sure err.taken err2.taken err.faults err2.faults (line_of call.usage Done)
        → EndsAs call words before after out out2 err err2 Done
    ends_done words before after text out out2 err err2 a e line = record {
      done = λ is fs over. (text, a.answered fs over, e.0);
      ended = λ is. a.ended;
      usage = (λ is. absurd cc, λ none. let no = a.usage.1 none in absurd cc);
      bad_catalogue = λ f is fs over. absurd cc;
      bad_workload = λ f is fs over. absurd cc;
      limit = λ is fs over. absurd cc;
      catalogue_read = λ f is. absurd cc;
      workload_read = λ f is. absurd cc;
      read = λ is. absurd cc;
      write = λ is. absurd cc;
      silent = λ other _. absurd (other refl);
      line = line;
      complete = λ fs t over comes shelf sink. inl refl;
      refused = λ fs v over comes refusal shelf. absurd (prints_or_refuses fs words text v (a.answered fs over) comes refusal);
      surely = λ free room fs t has sure over fits comes. inl refl;
      surely_refused = λ free fs v has over comes refusal. absurd (prints_or_refuses fs words text v (a.answered fs over) comes refusal);
      shelf_still = λ free fs has over there. (a.surely free fs has over there).1;
      out_still = λ room fs sure over fits. (e.1 room sure (fits text (a.answered fs over))).1;
    }

    -- the sink failed
    ends_failed : (words : List (List ℕ)) (before after : ShelfState) (text : List ℕ) (out out2 err err2 : SinkState)
        → AnswersAs call words before after (Ok text) → EndsWith (Ok text) out out2 WriteFault
        → TakesOrFaults err.sure err.taken err2.taken err.faults err2.faults (line_of call.usage WriteFault)
        → EndsAs call words before after out out2 err err2 WriteFault
    ends_failed words before after text out out2 err err2 a e line = record {
      done = λ is fs over. absurd cc;
      ended = λ is. absurd cc;
      usage = (λ is. absurd cc, λ none. let no = a.usage.1 none in absurd cc);
      bad_catalogue = λ f is fs over. absurd cc;
      bad_workload = λ f is fs over. absurd cc;
      limit = λ is fs over. absurd cc;
      catalogue_read = λ f is. absurd cc;
      workload_read = λ f is. absurd cc;
      read = λ is. absurd cc;
      write = λ is. (e.0.0, λ fs over. (text, e.0.1, a.answered fs over, e.0.2));
      silent = λ _ other. absurd (other refl);
      line = line;
      complete = λ fs t over comes shelf sink. absurd (sink e.0.0);
      refused = λ fs v over comes refusal shelf. absurd (prints_or_refuses fs words text v (a.answered fs over) comes refusal);
      surely = λ free room fs t has sure over fits comes. let no = (e.1 room sure (fits text (a.answered fs over))).0 in absurd cc;
      surely_refused = λ free fs v has over comes refusal. absurd (prints_or_refuses fs words text v (a.answered fs over) comes refusal);
      shelf_still = λ free fs has over there. (a.surely free fs has over there).1;
      out_still = λ room fs sure over fits. (e.1 room sure (fits text (a.answered fs over))).1;
    }

    -- there is no text
    ends_told : (words : List (List ℕ)) (before after : ShelfState) (s : Status) (out out2 err err2 : SinkState)
        → AnswersAs call words before after (Err s) → out2.taken ≡ out.taken → out2.faults ≡ out.faults
        → TakesOrFaults err.sure err.taken err2.taken err.faults err2.faults (line_of call.usage s)
        → EndsAs call words before after out out2 err err2 s
    ends_told words before after s out out2 err err2 a silent still line = record {
      done = λ is fs over. absurd (a.errors.0 is);
      ended = λ is. absurd (a.errors.0 is);
      usage = (λ is. a.usage.0 (ap (λ x. Err x) is), λ none. one_error {T = List ℕ} s Usage (a.usage.1 none));
      bad_catalogue = λ f is fs over. subst (λ x. Explains x (ComesTo call fs words)) is (a.answered fs over);
      bad_workload = λ f is fs over. subst (λ x. Explains x (ComesTo call fs words)) is (a.answered fs over);
      limit = λ is fs over. subst (λ x. Explains x (ComesTo call fs words)) is (a.answered fs over);
      catalogue_read = λ f is. of_catalogue _ _ s f a.at_fault is;
      workload_read = λ f is. of_workload _ _ s f a.at_fault is;
      read = a.fault;
      write = λ is. absurd (a.errors.1 is);
      silent = λ _ _. silent;
      line = line;
      complete = λ fs text over comes shelf sink. answered_status s fs words (Prints text) comes (a.answered fs over) (λ is. shelf (a.fault is));
      refused = λ fs v over comes refusal shelf. answered_status s fs words v comes (a.answered fs over) (λ is. shelf (a.fault is));
      surely = λ free room fs text has sure over fits comes.
          answered_status s fs words (Prints text) comes (a.answered fs over)
          (a.surely free fs has over (files_there fs words (Prints text) comes)).0;
      surely_refused = λ free fs v has over comes refusal.
          answered_status s fs words v comes (a.answered fs over) (a.surely free fs has over (files_there fs words v comes)).0;
      shelf_still = λ free fs has over there. (a.surely free fs has over there).1;
      out_still = λ room fs sure over fits. still;
    }

    ends_printed : (words : List (List ℕ)) (before after : ShelfState) (text : List ℕ) (out out2 err err2 : SinkState) (result : Status)
        → AnswersAs call words before after (Ok text) → EndsWith (Ok text) out out2 result
        → TakesOrFaults err.sure err.taken err2.taken err.faults err2.faults (line_of call.usage result)
        → EndsAs call words before after out out2 err err2 result
    ends_printed words before after text out out2 err err2 Done a e line = ends_done words before after text out out2 err err2 a e line
    ends_printed words before after text out out2 err err2 WriteFault a e line = ends_failed words before after text out out2 err err2 a e line
    ends_printed words before after text out out2 err err2 _ a e line = absurd e.0

    pub ends_as : (words : List (List ℕ)) (before after : ShelfState) (answer : Result (List ℕ) Status) (out out2 err err2 : SinkState)
        (result : Status) → AnswersAs call words before after answer → EndsWith answer out out2 result
        → TakesOrFaults err.sure err.taken err2.taken err.faults err2.faults (line_of call.usage result)
        → EndsAs call words before after out out2 err err2 result
    ends_as words before after (Ok text) out out2 err err2 result a e line = ends_printed words before after text out out2 err err2 result a e line
    ends_as words before after (Err s) out out2 err err2 result a e line =
        subst (λ r. EndsAs call words before after out out2 err err2 r) (sym e.0)
        (ends_told words before after s out out2 err err2 a e.1.0 e.1.1
        (subst (λ r. TakesOrFaults err.sure err.taken err2.taken err.faults err2.faults (line_of call.usage r)) e.0 line))
