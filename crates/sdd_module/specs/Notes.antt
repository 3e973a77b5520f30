-- What a call records and sends, each in its order.
use Rattle.std.specs.Prelude.{List, [], ◌∷◌, ◌++◌, Option, Some, None}
use Rattle.sdd_lang.specs.All.{Site}
use Rattle.sdd_history.specs.declared.record.Rec.{Rec}
use Rattle.sdd_wire.specs.declared.msg.Msg.{Msg}
use Rattle.sdd_module.specs.SiteLog.{Act, Records, Sends}

pub record Notes : Type 0 where
  pub recs : List Rec
  pub out : List (Site × Msg)

abbrev pub nothing_noted : Notes
nothing_noted = record { recs = []; out = [] }

-- messages are added one by one, so that the notes of an act compute
abbrev pub with_sends : List (Site × Msg) → List (Site × Msg) → List (Site × Msg)
with_sends [] out = out
with_sends (x ∷ sends) out = with_sends sends (out ++ x ∷ [])

-- the notes with what an act records and sends
abbrev pub with_act : Act → Notes → Notes
with_act (Records c r sends) n = record { recs = n.recs ++ r ∷ []; out = with_sends sends n.out }
with_act (Sends to m hand) n = record { recs = n.recs; out = n.out ++ (to, m) ∷ [] }

abbrev pub with_acts : List Act → Notes → Notes
with_acts [] n = n
with_acts (a ∷ acts) n = with_acts acts (with_act a n)

-- the notes once what is due, if anything, is done
abbrev pub with_due_act : Option Act → Notes → Notes
with_due_act None n = n
with_due_act (Some a) n = with_act a n
