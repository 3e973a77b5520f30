-- The tables follow the log of all events.
use Rattle.sdd_control.proofs.All.{Act, Adds, Bool, FitAll, FitsAct, Follows, List, Live, Log, Note, Run, State, TakesAct, [], ap, arith, count_from, is_number, log_after, log_of, log_with_event, nat_tests, note_in, note_of, noted, refl, run_of, subst, sym, true, value, value_in, with_event, ℕ, ◌++◌, ◌∙◌, ◌∷◌, ◌≡◌, ◌≤◌}
use Rattle.sdd_control.proofs.Numbers.{count_written, numbered}
use Rattle.sdd_control.proofs.Promises.{kept}
use Rattle.sdd_control.proofs.Tracking.{note_same, tracks_on, value_same}

log_after-append : (backups writes : ℕ) (log : Log) (acts : List Act) (act : Act)
    → log_after backups writes log (acts ++ act ∷ [])
    ≡ log_with_event backups writes (log_after backups writes log acts) act
log_after-append backups writes log [] act = refl
log_after-append backups writes log (x ∷ acts) act = log_after-append backups writes (log_with_event backups writes log x) acts act

pub FitAll-append : (backups : ℕ) (acts : List Act) (act : Act) → FitAll backups acts → FitsAct backups act → FitAll backups (acts ++ act ∷ [])
FitAll-append backups [] act f g = (g, tt)
FitAll-append backups (x ∷ acts) act f g = (f.0, FitAll-append backups acts act f.1 g)

-- the note by the tables is the note by the log
pub followed_note : (st : State) (acts : List Act) (act : Act) → Follows st acts → FitsAct st.backups act
    → note_in st act ≡ note_of st.backups st.writes (log_of st.backups st.writes acts) act
followed_note st acts act f fits = grind (arith, nat_tests, note_same, log_of, kept, numbered)

module _ (old mid new : State) (acts : List Act) (act : Act) (note : Note) (f : Follows old acts) (fits : FitsAct old.backups act) (is : note ≡ note_in old act)
    (taking : TakesAct old mid act) (adding : Adds mid new note) where
  same_backups : new.backups ≡ old.backups
  same_backups = adding.backups ∙ ap (λ (z : State). z.backups) taking.others

  same_writes : new.writes ≡ old.writes
  same_writes = adding.writes ∙ ap (λ (z : State). z.writes) taking.others

  log_on : log_of new.backups new.writes (acts ++ act ∷ []) ≡ record { act = act; note = note } ∷ log_of old.backups old.writes acts
  log_on = grind (arith, nat_tests, log_of, same_backups, same_writes, log_after-append, followed_note)

  pub follows_on : Follows new (acts ++ act ∷ [])
  follows_on = grind (arith, nat_tests, same_backups, FitAll-append, log_on, tracks_on, log_of)

  pub run_on : run_of new.backups new.writes (acts ++ act ∷ []) ≡ with_event (run_of old.backups old.writes acts) act
  run_on = grind (arith, nat_tests, run_of, same_backups, same_writes, log_after-append)

pub followed_count : (st : State) (acts : List Act) → Follows st acts
    → st.most ≡ count_from (λ k. noted (is_number k) (log_of st.backups st.writes acts)) 1 st.writes
followed_count st acts f = f.tracks.most ∙ sym (count_written st.writes (log_of st.backups st.writes acts) (numbered st.backups st.writes acts f.fit))

-- what contracts see of a control that is live
module _ (st : State) (acts : List Act) (live : Bool) (seen : Live Run) (view : record { live = live; value = run_of st.backups st.writes acts } ≡ seen)
    (keeps : live ≡ true → Follows st acts) (is_live : seen.live ≡ true) where
  pub follows_now : Follows st acts
  follows_now = keeps (ap (λ (z : Live Run). z.live) view ∙ is_live)

  pub run_now : run_of st.backups st.writes acts ≡ seen.value
  run_now = ap (λ (z : Live Run). z.value) view

  pub backups_now : st.backups ≡ seen.value.backups
  backups_now = ap (λ (z : Run). z.backups) run_now

  pub fits_now : (act : Act) → FitsAct seen.value.backups act → FitsAct st.backups act
  fits_now act f = subst (λ z. FitsAct z act) (sym backups_now) f

  pub note_now : (act : Act) → FitsAct seen.value.backups act → note_in st act ≡ note_of seen.value.backups seen.value.writes seen.value.log act
  note_now act f = followed_note st acts act follows_now (fits_now act f) ∙ ap (λ (z : Run). note_of z.backups z.writes z.log act) run_now

  pub value_now : (i : ℕ) → i ≤ seen.value.backups → value_in st i ≡ value seen.value.log i
  value_now i l = grind (arith, nat_tests, value_same, log_of, follows_now, backups_now, value, run_now)

  pub count_now : st.most ≡ count_from (λ k. noted (is_number k) seen.value.log) 1 seen.value.writes
  count_now = followed_count st acts follows_now ∙ ap (λ (z : Run). count_from (λ k. noted (is_number k) z.log) 1 z.writes) run_now
