-- What each form of the words of the program for questions asks for.
use Rattle.std.specs.Prelude.{ℕ, List}
use Rattle.sdd_ask.specs.Needs.{IsNeedsText}
use Rattle.sdd_ask.specs.Robust.{IsRobustText}
use Rattle.sdd_certify.specs.Certificate.{certificate}
use Rattle.sdd_certify.specs.verifying.declared.limits.TheConstants.{MAX_REPORT_BYTES}
use Rattle.sdd_robust_answer.specs.Answers.{IsRobustAnswer}
use Rattle.sdd_lang.specs.All.{Catalogue}
use Rattle.sdd_shell.specs.OverWorkload.{MakesNoRun}
use Rattle.sdd_shell.specs.Requests.{Request, about_catalogue, about_report, about_workload}
use Rattle.sdd_app_ask.specs.Forms.{Form, OfCatalogue, RobustWorkload, Certify}
use Rattle.sdd_app_ask.specs.declared.asked.Question.{Question}
use Rattle.sdd_app_ask.specs.declared.asked.Question.TheVariants.{Robust, Needs}

-- the text is the answer for the catalogue
abbrev pub AnswersQuestion : Question → Catalogue → List ℕ → Type 0
AnswersQuestion Robust cat text = IsRobustText cat text
AnswersQuestion Needs cat text = IsNeedsText cat text

-- what words of this form ask for: an answer for a catalogue, for the transactions of a workload, or the certificate of a report
abbrev pub request_of : Form → Request
request_of (OfCatalogue question cat) = about_catalogue cat (AnswersQuestion question)
request_of (RobustWorkload cat work) = about_workload cat work IsRobustAnswer MakesNoRun
request_of (Certify cat work report) = about_report MAX_REPORT_BYTES cat work report certificate
