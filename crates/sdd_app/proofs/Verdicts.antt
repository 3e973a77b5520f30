-- What each command asks for comes to one status; what is answered to made input.
use Rattle.sdd_app.proofs.All.{Advise, AnswersRequest, Check, Control, EndsAtLimit, Err, Form, Graph, IsDecided, IsMadeSummary, IsReportOn, IsSerialText, Limit, List, MAX_REPORT_BYTES, Make, MakesNoRun, MakesText, NoMemory, Ok, OverMade, Plain, Result, Run, ShelfState, Status, Table, Tells, Verdict, Verify, [], about_made, bank, catalogue_decided, judged_as, refl, report_decided, report_or_limit, request_of, script_decided, status_of, summary_or_limit, workload_decided, workload_of, ℕ, ◌≡◌}
use Rattle.sdd_app.specs.Made as of_made
use Rattle.sdd_commands.specs.declared.listing.Listing.TheVariants as listings

-- made input, for which no file is opened

one_of_made : (seed count : ℕ) (v w : Verdict) → OverMade seed count v → OverMade seed count w → status_of v ≡ status_of w
one_of_made seed count _ _ (of_made.printed text p) (of_made.printed other q) = refl
one_of_made seed count _ _ (of_made.printed text p) (of_made.past_limit q) = absurd (summary_or_limit bank (workload_of seed count) text p.summary q)
one_of_made seed count _ _ (of_made.past_limit p) (of_made.printed text q) = absurd (summary_or_limit bank (workload_of seed count) text q.summary p)
one_of_made seed count _ _ (of_made.past_limit p) (of_made.past_limit q) = refl

made_decided : (seed count : ℕ) → IsDecided (about_made seed count)
made_decided seed count = record { one = λ fs v w p q. one_of_made seed count v w p q; there = λ fs v p. tt }

pub made_answers : (seed count : ℕ) (shelf : ShelfState) (answer : Result (List ℕ) Status)
    → MakesText (IsMadeSummary seed count) (EndsAtLimit bank (workload_of seed count)) answer → AnswersRequest (about_made seed count) shelf shelf answer
made_answers seed count shelf (Ok text) made = record {
  answered = λ fs _. of_made.printed text made;
  ended = record { files = []; read = tt };
  at_fault = tt;
  fault = tt;
  errors = tt;
  surely = λ free fs room over there. (tt, refl);
}
made_answers seed count shelf (Err Limit) made = record {
  answered = λ fs _. of_made.past_limit made;
  ended = tt;
  at_fault = tt;
  fault = λ is. absurd cc;
  errors = tt;
  surely = λ free fs room over there. (λ is. absurd cc, refl);
}
made_answers seed count shelf (Err NoMemory) made = record {
  answered = λ fs _. tt;
  ended = tt;
  at_fault = tt;
  fault = λ is. absurd cc;
  errors = tt;
  surely = λ free fs room over there. (λ is. absurd cc, refl);
}
made_answers seed count shelf (Err _) made = absurd made

-- each command's request comes to one status
pub sdd1_decided : (form : Form) → IsDecided (request_of form)
sdd1_decided (Check cat) = catalogue_decided cat (Tells listings.Counts)
sdd1_decided (Graph cat) = catalogue_decided cat (Tells listings.Graph)
sdd1_decided (Table cat) = catalogue_decided cat (Tells listings.Table)
sdd1_decided (Advise cat) = catalogue_decided cat (Tells listings.Advice)
sdd1_decided (Plain cat work) = workload_decided cat work IsSerialText MakesNoRun (λ c k text told no. no)
sdd1_decided (Run cat work) = workload_decided cat work IsReportOn EndsAtLimit (λ c k text told past. report_or_limit c k text told past)
sdd1_decided (Verify cat work report) = report_decided MAX_REPORT_BYTES cat work report judged_as
sdd1_decided (Control file) = script_decided file
sdd1_decided (Make seed count) = made_decided seed count
