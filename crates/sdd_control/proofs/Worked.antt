-- Two runs: a commit that a backup carries to its end, and one that it gives up.
use Rattle.sdd_control.proofs.All.{Act, All, Deliver, Finish, Gone, Halt, List, Log, NoMessages, NoSends, Note, Nought, Ok, Send, Stop, Tell, Value, Write, [], arith, false, finished, log_of, log_with_event, note_of, refl, run_of, stopped, suc, true, value, written, zero, ℕ, ◌∷◌, ◌≡◌}

-- the notes that events get, the first to happen first
abbrev notes_after : ℕ → ℕ → Log → List Act → List Note
notes_after backups writes log [] = []
notes_after backups writes log (act ∷ acts) = note_of backups writes log act ∷ notes_after backups writes (log_with_event backups writes log act) acts

-- the committer tells site 1 and stops; site 1 carries the commit on
abbrev carried : List Act
carried = Send 0 ∷ Deliver 0 1 ∷ Halt 0 ∷ Deliver 0 1 ∷ Send 1 ∷ Deliver 0 2 ∷ Deliver 1 2 ∷ Deliver 2 1 ∷ Send 1 ∷ Send 1 ∷ Send 1 ∷ []

carried_notes : notes_after 2 2 [] carried
    ≡ Tell 0 1 All ∷ Value 1 0 All ∷ Stop 0 ∷ Gone 1 0 ∷ Tell 1 2 All ∷ Gone 2 0 ∷ Value 2 1 All
    ∷ Ok 1 2 ∷ Write 1 1 ∷ Write 1 2 ∷ Finish 1 All ∷ []
carried_notes = refl

carried_values : value (log_of 2 2 carried) 1 ∷ value (log_of 2 2 carried) 2 ∷ [] ≡ All ∷ All ∷ []
carried_values = refl

carried_ends : stopped (log_of 2 2 carried) 0 ∷ finished (log_of 2 2 carried) 1 ∷ finished (log_of 2 2 carried) 2 ∷ [] ≡ true ∷ true ∷ false ∷ []
carried_ends = refl

carried_writes : written (run_of 2 2 carried) ≡ 2
carried_writes = refl

-- the committer stops before it told anyone; site 1 gives the commit up
abbrev given_up : List Act
given_up = Halt 0 ∷ Deliver 0 1 ∷ Send 1 ∷ []

given_up_notes : notes_after 1 3 [] given_up ≡ Stop 0 ∷ Gone 1 0 ∷ Finish 1 Nought ∷ []
given_up_notes = refl

given_up_writes : written (run_of 1 3 given_up) ≡ 0
given_up_writes = refl

-- nothing is left to do then, so the third law speaks of such a run
abbrev log_given_up : Log
log_given_up = log_of 1 3 given_up

no_messages : NoMessages 1 log_given_up
no_messages zero (suc zero) p q n e = refl
no_messages (suc zero) zero p q n e = absurd (cc)
no_messages (suc (suc i)) j p q n e = absurd (omega arith)
no_messages i (suc (suc j)) p q n e = absurd (omega arith)
no_messages _ _ p q n e = absurd (n refl)

no_sends : NoSends 1 3 log_given_up
no_sends zero p e = absurd (cc)
no_sends (suc zero) p e = refl
no_sends (suc (suc i)) p e = absurd (omega arith)
