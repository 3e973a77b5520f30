-- A call makes the acts that are due by its log, for every kind of module: where its view follows the log, the acts that
-- go from view to view are those that are due next, one after the other.
use Rattle.std.proofs.Common.{List, [], ◌∷◌, ◌++◌, ◌≡◌, refl, ap, ◌∙◌, sym, subst, Option, Some, None}
use Rattle.sdd_lang.specs.All.{Site}
use Rattle.sdd_history.specs.declared.record.Rec.{Rec}
use Rattle.sdd_wire.specs.declared.msg.Msg.{Msg}
use Rattle.sdd_module.specs.SiteLog.{Log, Entry, Did, Act, AreDue, Does, log_after, records_of, sends_of}
use Rattle.sdd_module.specs.Notes.{Notes, nothing_noted, with_act}
use Rattle.sdd_module.specs.Making.{Goes, Made, Reached, Worked}
use Rattle.sdd_module.proofs.Making.{recs_of_acts, out_of_acts, made_more}

-- the view after each entry is `after` of the view before it
abbrev pub Follows : {V : Type 0} → (Log → V) → (Entry → V → V) → Type 0
Follows view after = (e : Entry) (log : Log) → view (e ∷ log) ≡ after e (view log)

-- acts that were due from `start` on, after which none is and the view is w
pub record AllDone {V : Type 0} (view : Log → V) (due : V → Option Act) (start : Log) (acts : List Act) (w : V) : Type 0 where
  pub are_due : AreDue (λ log. due (view log)) start acts
  pub view_is : view (log_after acts start) ≡ w

pub goes_due : {V : Type 0} (view : Log → V) (due : V → Option Act) (after : Entry → V → V) → Follows view after
    → (acts : List Act) (start : Log) (v w : V) → view start ≡ v → Goes due after v acts w → due w ≡ None → AllDone view due start acts w
goes_due view due after law [] start v w e g none = record { are_due = ap due (e ∙ g) ∙ none; view_is = e ∙ g }
goes_due view due after law (a ∷ acts) start v w e g none =
    let r = goes_due view due after law acts (Did a ∷ start) (after (Did a) v) w (law (Did a) start ∙ ap (after (Did a)) e) g.1 none in
    record { are_due = (ap due e ∙ g.0, r.are_due); view_is = r.view_is }

-- what a call did from the log `start` on: acts that the log has next, and their notes after those of before
pub record DoesMore (next : Log → Option Act) (start : Log) (old new : Notes) (After : Log → Type 0) : Type 0 where
  pub acts : List Act
  pub recs_are : new.recs ≡ old.recs ++ records_of acts
  pub out_is : new.out ≡ old.out ++ sends_of acts
  pub does : Does next start (records_of acts) (sends_of acts) After

-- From the log `start`, whose view is v, acts were made by which the view became w, and by w nothing is due. So they are
-- the acts that the log has next, and what holds of each log whose view is w holds of the log after them.
pub does_from : {V : Type 0} (view : Log → V) (due : V → Option Act) (after : Entry → V → V) → Follows view after
    → (start : Log) (v w : V) (old new : Notes) → view start ≡ v → Made due after v w old new → due w ≡ None
    → (After : Log → Type 0) → ((log : Log) → view log ≡ w → After log) → DoesMore (λ log. due (view log)) start old new After
does_from view due after law start v w old new e made none After holds =
    let all = goes_due view due after law made.acts start v w e made.goes none in
    record {
      acts = made.acts;
      recs_are = ap (λ n. n.recs) made.notes_are ∙ recs_of_acts made.acts old;
      out_is = ap (λ n. n.out) made.notes_are ∙ out_of_acts made.acts old;
      does = record {
        acts = made.acts;
        due = all.are_due;
        records_are = refl;
        sends_are = refl;
        after = holds (log_after made.acts start) all.view_is;
      };
    }

-- where nothing was noted before, what is noted is what the acts record and send
pub all_noted : (next : Log → Option Act) (start : Log) (new : Notes) (records : List Rec) (sends : List (Site × Msg)) (After : Log → Type 0)
    → DoesMore next start nothing_noted new After → records ≡ new.recs → sends ≡ new.out → Does next start records sends After
all_noted next start new records sends After d f g = rw (f ∙ d.recs_are, g ∙ d.out_is) d.does

-- The law of a call that takes in the entry e: from a state that shows the view of a log, work was done, and by each view
-- that the new state shows nothing is due.
pub does_by : {S V : Type 0} (view : Log → V) (due : V → Option Act) (after : Entry → V → V) → Follows view after
    → (Shows : S → V → Type 0) (e : Entry) (log : Log) (before now : S) (old new : Notes)
    → Shows before (view log) → Worked Shows due after e before now old new → ((w : V) → Shows now w → due w ≡ None)
    → (After : Log → Type 0) → ((l : Log) → Shows now (view l) → After l) → DoesMore (λ l. due (view l)) (e ∷ log) old new After
does_by view due after law Shows e log before now old new s work quiet After holds =
    let r = work (view log) s in
    does_from view due after law (e ∷ log) (after e (view log)) r.view old new (law e log) r.made (quiet r.view r.shown) After
    (λ l f. holds l (subst (Shows now) (sym f) r.shown))

-- one act more: by each view that the state shows the same act is due, and the next state shows the view after it
pub reached_more : {S V : Type 0} (Shows : S → V → Type 0) (due : V → Option Act) (after : Entry → V → V) (v : V) (state next : S) (a : Act)
    (old notes new : Notes)
    → Reached Shows due after v state old notes → ((w : V) → Shows state w → (due w ≡ Some a) × Shows next (after (Did a) w))
    → new ≡ with_act a notes
    → Reached Shows due after v next old new
reached_more Shows due after v state next a old notes new r step f =
    let s = step r.view r.shown in
    record {
      view = after (Did a) r.view;
      shown = s.1;
      made = made_more due after v r.view (after (Did a) r.view) a old notes new r.made s.0 refl f;
    }

-- the same of a state that was reached: by each view that it shows nothing is due
pub does_reached : {S V : Type 0} (view : Log → V) (due : V → Option Act) (after : Entry → V → V) → Follows view after
    → (Shows : S → V → Type 0) (start : Log) (now : S) (old new : Notes)
    → Reached Shows due after (view start) now old new → ((w : V) → Shows now w → due w ≡ None)
    → (After : Log → Type 0) → ((log : Log) → Shows now (view log) → After log) → DoesMore (λ log. due (view log)) start old new After
does_reached view due after law Shows start now old new r quiet After holds =
    does_from view due after law start (view start) r.view old new refl r.made (quiet r.view r.shown) After
    (λ log f. holds log (subst (Shows now) (sym f) r.shown))
