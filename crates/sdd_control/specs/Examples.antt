-- Worked reports of control files: what a site tells, writes and answers where another one has stopped.
use Rattle.std.specs.Prelude.{ℕ, ◌≡◌, [], ◌∷◌, ◌++◌, List, codes, refl}
use Rattle.std.specs.Fmt.{digits}
use Rattle.sdd_backups.specs.declared.act.Act.{Act}
use Rattle.sdd_backups.specs.declared.act.Act.TheVariants.{Step, Deliver, Stop}
use Rattle.sdd_control.specs.Report.{report}
use Rattle.sdd_control.specs.declared.script.ControlScript.{ControlScript}

abbrev script : ℕ → ℕ → List Act → ControlScript
script backups writes acts = record { backups = backups; writes = writes; acts = acts }

-- a leader tells nobody of whom it knows that it has stopped: site 1 tells site 3, not site 2
pub the_gone_are_not_told
    : report (script 3 1 (Stop 0 ∷ Stop 2 ∷ Deliver 0 1 ∷ Deliver 2 1 ∷ Step 1 ∷ []))
    ≡ codes "1 stop 0\n2 stop 2\n3 gone 1 0\n4 gone 1 2\n5 tell 1 3 none\n"
    ++ codes "site 0 stopped\nsite 1 none\nsite 2 stopped\nsite 3 unknown\nwrites 0\nend\n"
unfolding digits
the_gone_are_not_told = refl

-- nor does it wait for an answer of one
pub the_gone_owe_no_answer
    : report (script 2 1 (Stop 2 ∷ Deliver 2 0 ∷ Step 0 ∷ Deliver 0 1 ∷ Deliver 1 0 ∷ Step 0 ∷ Step 0 ∷ []))
    ≡ codes "1 stop 2\n2 gone 0 2\n3 tell 0 1 all\n4 value 1 all\n5 ok 0 1\n6 write 0 1\n7 finish 0 all\n"
    ++ codes "site 0 all finished\nsite 1 all\nsite 2 stopped\nwrites 1\nend\n"
unfolding digits
the_gone_owe_no_answer = refl

-- an heir makes each write itself, those too that the site before it made; what both made counts once
pub an_heir_writes_again
    : report (script 1 2 (Step 0 ∷ Deliver 0 1 ∷ Deliver 1 0 ∷ Step 0 ∷ Stop 0 ∷ Deliver 0 1 ∷ Step 1 ∷ Step 1 ∷ Step 1 ∷ []))
    ≡ codes "1 tell 0 1 all\n2 value 1 all\n3 ok 0 1\n4 write 0 1\n5 stop 0\n6 gone 1 0\n7 write 1 1\n8 write 1 2\n9 finish 1 all\n"
    ++ codes "site 0 stopped\nsite 1 all finished\nwrites 2\nend\n"
unfolding digits
an_heir_writes_again = refl

-- a value of a site below the one whose value was taken is ignored, and not answered: nothing arrives at site 0
pub an_ignored_value_has_no_answer
    : report (script 2 1 (Step 0 ∷ Step 0 ∷ Deliver 0 1 ∷ Stop 0 ∷ Deliver 0 1 ∷ Step 1 ∷ Deliver 1 2 ∷ Deliver 0 2 ∷ Deliver 2 0 ∷ []))
    ≡ codes "1 tell 0 1 all\n2 tell 0 2 all\n3 value 1 all\n4 stop 0\n5 gone 1 0\n6 tell 1 2 all\n7 value 2 all\n8 ignored 2\n9 nothing\n"
    ++ codes "site 0 stopped\nsite 1 all\nsite 2 all\nwrites 0\nend\n"
unfolding digits
an_ignored_value_has_no_answer = refl
