-- A call that took a message did what the log has next, and represents the log after it.
use Rattle.sdd_dm.proofs.All.{Bases, Bool, Does, Handed, Kept, List, Log, Msg, None, Notes, Rec, Represents, Setting, Shows, Site, State, Worked, all_noted, ap, does_reached, first_step, fits, home_of, next, nothing_noted, refl, subst, true, ◌∙◌, ◌∷◌, ◌≡◌}
use Rattle.sdd_dm.proofs.FirstDue.{act_of, due_is}

-- where no head may do something, nothing is due
pub nothing_due : (s : Setting) (bases : Bases) (st : State) (log : Log) → first_step st.pipes st.waits ≡ None → Shows s st log
    → next s bases log ≡ None
nothing_due s bases st log quiet shows = due_is (home_of s) s st log shows ∙ ap (act_of (home_of s) s log) quiet

abbrev kept : Bool → State → Kept State
kept live st = record { live = live; value = st }

pub take_does : (s : Setting) (bases : Bases) (log : Log) (from : Site) (m : Msg) (old : Kept State) (st new : State) (notes : Notes) (recs : List Rec)
    (out : List (Site × Msg))
    → old.value ≡ st → Worked from m st new notes → first_step new.pipes new.waits ≡ None → recs ≡ notes.recs → out ≡ notes.out
    → Represents old s log → fits s bases log from m → Does (next s bases) (Handed from m ∷ log) recs out (Represents (kept true new) s)
take_does s bases log from m old st new notes recs out is work quiet e f represents fit =
    let start : Log = Handed from m ∷ log in
    let more = does_reached (λ l. l) (next s bases) ◌∷◌ (λ entry l. refl) (Shows s) start new nothing_noted notes
    (work s bases log (subst (λ x. Shows s x log) is represents.shows) fit) (λ l shows. nothing_due s bases new l quiet shows)
    (Represents (kept true new) s) (λ l shows. record { live = refl; shows = shows; quiet = quiet }) in
    all_noted (next s bases) start notes recs out (Represents (kept true new) s) more e f
