-- What each question asks for comes to one status.
use Rattle.sdd_certify.specs.Certificate.{certificate}
use Rattle.sdd_certify.specs.verifying.declared.limits.TheConstants.{MAX_REPORT_BYTES}
use Rattle.sdd_robust_answer.specs.Answers.{IsRobustAnswer}
use Rattle.sdd_shell.specs.OverWorkload.{MakesNoRun}
use Rattle.sdd_shell.proofs.Verdicts.{IsDecided, catalogue_decided, report_decided, workload_decided}
use Rattle.sdd_app_ask.specs.Answer.{AnswersQuestion, request_of}
use Rattle.sdd_app_ask.specs.Forms.{Certify, Form, OfCatalogue, RobustWorkload}

pub ask_decided : (form : Form) → IsDecided (request_of form)
ask_decided (OfCatalogue question cat) = catalogue_decided cat (AnswersQuestion question)
ask_decided (RobustWorkload cat work) = workload_decided cat work IsRobustAnswer MakesNoRun (λ c k text told no. no)
ask_decided (Certify cat work report) = report_decided MAX_REPORT_BYTES cat work report certificate
