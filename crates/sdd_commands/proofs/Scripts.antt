-- What a script of transaction control comes to: one status; and what is answered to it.
use Rattle.sdd_commands.proofs.All.{AcceptsScript, AnswersRequest, BadWorkload, BlamesScript, ControlScript, Err, FaultyWorkload, IsDecided, IsSome, List, NoMemory, None, Ok, Option, OverScript, Prints, Result, ShelfFile, ShelfState, Some, Status, Verdict, WorkFault, about_script, ap, at_more, control_script, explains_more, find_file, one_ended, option_map, refl, report, script_named, status_of, subst, sym, ℕ, ◌≡◌}
use Rattle.sdd_commands.specs.OverScript as of_script

blamed_script : (fs : List ShelfFile) (name : List ℕ) (v : Verdict) → BlamesScript (script_named fs name) v → OverScript fs name v
blamed_script fs name (FaultyWorkload f) e = of_script.faulty_script f e
blamed_script fs name _ e = absurd e

one_fault : (r : Option (Result ControlScript WorkFault)) (f g : WorkFault) → r ≡ Some (Err f) → r ≡ Some (Err g) → f ≡ g
one_fault r f g p q = cc

not_both : (r : Option (Result ControlScript WorkFault)) (a : ControlScript) (f : WorkFault) → r ≡ Some (Ok a) → r ≡ Some (Err f) → ⊥
not_both r a f p q = absurd cc

is_there : (file : Option (List ℕ)) (r : Result ControlScript WorkFault) → option_map control_script file ≡ Some r → IsSome file
is_there None r e = absurd cc
is_there (Some bytes) r e = refl

one_of_script : (fs : List ShelfFile) (name : List ℕ) (v w : Verdict) → OverScript fs name v → OverScript fs name w → status_of v ≡ status_of w
one_of_script fs name _ _ (of_script.faulty_script f e) (of_script.faulty_script g h) = ap (λ x. BadWorkload x) (one_fault (script_named fs name) f g e h)
one_of_script fs name _ _ (of_script.faulty_script f e) (of_script.printed s h) = absurd (not_both (script_named fs name) s f h e)
one_of_script fs name _ _ (of_script.printed s e) (of_script.faulty_script f h) = absurd (not_both (script_named fs name) s f e h)
one_of_script fs name _ _ (of_script.printed s e) (of_script.printed t h) = refl

script_there : (fs : List ShelfFile) (name : List ℕ) (v : Verdict) → OverScript fs name v → IsSome (find_file fs name)
script_there fs name _ (of_script.faulty_script f e) = is_there (find_file fs name) (Err f) e
script_there fs name _ (of_script.printed s e) = is_there (find_file fs name) (Ok s) e

pub script_decided : (name : List ℕ) → IsDecided (about_script name)
script_decided name = record { one = λ fs v w p q. one_of_script fs name v w p q; there = λ fs v p. script_there fs name v p }

module _ (name : List ℕ) (before after : ShelfState) where
  pub script_refused : (s : Status) → AcceptsScript name before after (Err s) → AnswersRequest (about_script name) before after (Err s)
  script_refused s a = record {
    answered = λ fs known. explains_more s (BlamesScript (script_named fs name)) (OverScript fs name) (λ v e. blamed_script fs name v e) (a.answered fs known);
    ended = tt;
    at_fault = at_more s a.at_fault (λ no. absurd no) (λ h. one_ended before after _ h.0 h.1);
    fault = a.leaves.fault;
    errors = a.leaves.errors;
    surely = λ free fs room known there. let k = a.leaves.surely free fs room known there in (k.0, k.2);
  }

  pub script_told : (script : ControlScript) (text : List ℕ) → AcceptsScript name before after (Ok script) → text ≡ report script
      → AnswersRequest (about_script name) before after (Ok text)
  script_told script text a told = record {
    answered = λ fs known. subst (λ t. OverScript fs name (Prints t)) (sym told) (of_script.printed script (a.answered fs known));
    ended = one_ended before after _ a.ended.0 a.ended.1;
    at_fault = tt;
    fault = tt;
    errors = tt;
    surely = λ free fs room known there. let k = a.leaves.surely free fs room known there in (tt, k.2);
  }

  -- memory ran out before it was told
  pub script_untold : (script : ControlScript) → AcceptsScript name before after (Ok script) → AnswersRequest (about_script name) before after (Err NoMemory)
  script_untold script a = record {
    answered = λ fs known. tt;
    ended = tt;
    at_fault = tt;
    fault = λ is. absurd cc;
    errors = tt;
    surely = λ free fs room known there. let k = a.leaves.surely free fs room known there in (λ is. absurd cc, k.2);
  }
