-- What each form of the words asks for.
use Rattle.std.specs.Prelude.{ℕ, List, []}
use Rattle.sdd_commands.specs.declared.listing.Listing.TheVariants as listings
use Rattle.sdd_commands.specs.Command.{Form, Check, Graph, Table, Run, Plain, Control, Make, Verify, Advise}
use Rattle.sdd_commands.specs.Listing.{Tells}
use Rattle.sdd_commands.specs.Requests.{IsSerialText, about_script, judged_as}
use Rattle.sdd_verified.specs.verifying.declared.limits.TheConstants.{MAX_REPORT_BYTES}
use Rattle.sdd_verified.specs.run.Runs.{EndsAtLimit, IsReportOn}
use Rattle.sdd_app.specs.Made.{OverMade}
use Rattle.sdd_shell.specs.OverWorkload.{MakesNoRun}
use Rattle.sdd_shell.specs.Requests.{Request, about_catalogue, about_report, about_workload}

-- the summary of the run of a made workload, which opens no file
abbrev pub about_made : ℕ → ℕ → Request
about_made seed count = record {
  comes_to = λ files verdict. OverMade seed count verdict;
  names = [];
  has_files = λ files. Unit {0};
  endings = [];
  endings_at_catalogue = [];
  endings_at_workload = [];
}

-- what a command of this form asks for
abbrev pub request_of : Form → Request
request_of (Check cat) = about_catalogue cat (Tells listings.Counts)
request_of (Graph cat) = about_catalogue cat (Tells listings.Graph)
request_of (Table cat) = about_catalogue cat (Tells listings.Table)
request_of (Advise cat) = about_catalogue cat (Tells listings.Advice)
request_of (Plain cat work) = about_workload cat work IsSerialText MakesNoRun
request_of (Run cat work) = about_workload cat work IsReportOn EndsAtLimit
request_of (Verify cat work report) = about_report MAX_REPORT_BYTES cat work report judged_as
request_of (Control file) = about_script file
request_of (Make seed count) = about_made seed count
