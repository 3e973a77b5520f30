-- The calls of the program for questions.
use Rattle.sdd_shell.specs.Calls.{Call}
use Rattle.sdd_app_ask.specs.Answer.{request_of}
use Rattle.sdd_app_ask.specs.Forms.{Form, IsNoForm, form_in, usage_line}

abbrev pub ask_call : Call Form
ask_call = record { form_in = form_in; is_no_form = IsNoForm; request = request_of; usage = usage_line }
