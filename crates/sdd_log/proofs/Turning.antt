-- A module goes down, and comes up again: it does what is due, and what was kept for it is then handed over.
use Rattle.sdd_log.proofs.All.{Act, AreDue, Bool, Down, Input, IsLawful, IsMarked, IsWithin, List, Log, Mark, Msg, None, Notes, Remain, Rests, Site, U, Up, Waits, [], ap, arith, base_of, calls_of, delivered, false, if◌then◌else◌, is_down, local_of, next_at, next_in, not, note_if, puts_past, refl, same_here, same_is, same_site, sends_of, sites, sym, takes_part, true, ◌||◌, ◌∙◌, ◌∷◌, ◌≡◌}
use Rattle.sdd_log.proofs.Marking.{BringsUpNone, mark_within, none_by_mark, rests_marked, rests_noted}
use Rattle.sdd_log.proofs.Acts.{handed_acts, takes_part_acts, within_acts}
use Rattle.sdd_log.proofs.Handing.{delivered_acts, no_mark_acts, remain_acts}
use Rattle.sdd_log.proofs.Steps.{AllNone, Settled, after_acts, all_none, has_site, none_same, nothing_due, steps}

-- a module that takes part after a `down` took part before it
part_down : (at : Site) (log : Log) → BringsUpNone (Down at) log
part_down at log x e = part_if (same_site x U) (same_site at x) (is_down x log) e
  where
    part_if : (u same down : Bool) → (u || not (if same then true else down)) ≡ true → (u || not down) ≡ true
    part_if true same down e = refl
    part_if false true down e = cc
    part_if false false down e = e

pub goes_down : (g : Input) (at : Site) (log : Log) → IsMarked g log (Down at) → is_down at log ≡ false → Rests g (Mark (Down at) ∷ log)
goes_down g at log m e =
    rests_marked g log (Down at) m (none_by_mark g log (Down at) tt (part_down at log) m.rests.no_site) (ap note_if e)
    (λ a b p. m.rests.handed_all a b (part_down at log b p))

pub is_down_already : (g : Input) (at : Site) (log : Log) → IsMarked g log (Down at) → is_down at log ≡ true → Rests g (Notes ∷ Mark (Down at) ∷ log)
is_down_already g at log m e =
    rests_noted g log (Down at) m tt (part_down at log) (ap note_if e) (λ a b p. m.rests.handed_all a b (part_down at log b p))

-- after an `up` of a module that isn't down those take part that did before
part_up_again : (at : Site) (log : Log) → is_down at log ≡ false → BringsUpNone (Up at) log
part_up_again at log up x e = by (same_site at x) refl e
  where
    or_true : (b : Bool) → (b || true) ≡ true
    or_true true = refl
    or_true false = refl

    by : (same : Bool) → same_site at x ≡ same → (same_site x U || not (if same then false else is_down x log)) ≡ true → takes_part x log ≡ true
    by true p e = ap (λ z. same_site z U || not (is_down z log)) (sym (same_is at x p)) ∙ ap (λ down. same_site at U || not down) up ∙ or_true (same_site at U)
    by false p e = e

pub isnt_down : (g : Input) (at : Site) (log : Log) → IsMarked g log (Up at) → is_down at log ≡ false → Rests g (Notes ∷ Mark (Up at) ∷ log)
isnt_down g at log m e =
    rests_noted g log (Up at) m tt (part_up_again at log e) (ap (λ c. note_if (not c)) e) (λ a b p. m.rests.handed_all a b (part_up_again at log e b p))

other_way : (x at : Site) → same_site x at ≡ false → same_site at x ≡ false
other_way x at n = by (same_site at x) refl
  where
    by : (same : Bool) → same_site at x ≡ same → same ≡ false
    by true p = absurd (let no : true ≡ false = sym (ap (λ z. same_site z at) (sym (same_is at x p)) ∙ same_here at) ∙ n in cc)
    by false p = refl

-- another module that takes part after an `up` took part before it
pub part_up : (x at : Site) (log : Log) → same_site x at ≡ false → takes_part x (Mark (Up at) ∷ log) ≡ true → takes_part x log ≡ true
part_up x at log n e = ap (λ same. same_site x U || not (if same then false else is_down x log)) (sym (other_way x at n)) ∙ e

-- and the module itself takes part
pub part_here : (at : Site) (log : Log) → takes_part at (Mark (Up at) ∷ log) ≡ true
part_here at log = ap (λ same. same_site at U || not (if same then false else is_down at log)) (same_here at) ∙ or_true (same_site at U)
  where
    or_true : (b : Bool) → (b || true) ≡ true
    or_true true = refl
    or_true false = refl

-- a module comes up: these acts are due at it, and then what was kept for it is to be handed over
module _ (g : Input) (at : Site) (log : Log) (m : IsMarked g log (Up at)) (down : is_down at log ≡ true)
    (here : has_site at (sites g.catalogue.tms g.catalogue.dms) ≡ true)
    (acts : List Act) (due : AreDue (next_in g at (base_of g (Mark (Up at) ∷ log))) (local_of g at log) acts) where
  up_lawful : IsLawful g (Mark (Up at) ∷ log)
  up_lawful = (m.next_is, m.rests.lawful)

  others_settled : (xs : List Site) → AllNone (next_at g log) xs → Settled (next_at g (Mark (Up at) ∷ log)) at xs
  others_settled [] k = tt
  others_settled (x ∷ xs) k = ((λ e. none_same g log (Mark (Up at) ∷ log) x (part_up x at log e) refl k.0), others_settled xs k.1)

  resumed : IsLawful g (after_acts at acts (Mark (Up at) ∷ log))
      × Settled (next_at g (after_acts at acts (Mark (Up at) ∷ log))) at (sites g.catalogue.tms g.catalogue.dms)
      × (next_at g (after_acts at acts (Mark (Up at) ∷ log)) at ≡ None)
  resumed =
      steps g at acts (Mark (Up at) ∷ log) here (ap (λ c. note_if (not c)) down) (part_here at log)
      (others_settled (sites g.catalogue.tms g.catalogue.dms) (all_none (next_at g log) (sites g.catalogue.tms g.catalogue.dms) m.rests.no_site)) due up_lawful

  pub resumes_lawful : IsLawful g (after_acts at acts (Mark (Up at) ∷ log))
  resumes_lawful = resumed.0

  pub up_within : IsWithin (Mark (Up at) ∷ log)
  up_within = (mark_within log (Up at) m.few, m.rests.within)

  pub comes_up : (kept : Site → List Msg) → puts_past (calls_of log) at (sends_of acts) ≡ false → ((a : Site) → Remain log a at (kept a))
      → Waits g (after_acts at acts (Mark (Up at) ∷ log)) at kept
  comes_up kept few r = record {
    lawful = resumed.0;
    within = within_acts at acts (Mark (Up at) ∷ log) few up_within;
    no_mark = no_mark_acts g at acts (Mark (Up at) ∷ log) (ap (λ c. note_if (not c)) down);
    no_site = nothing_due (next_at g (after_acts at acts (Mark (Up at) ∷ log))) at (sites g.catalogue.tms g.catalogue.dms) resumed.1 resumed.2;
    part = takes_part_acts at at acts (Mark (Up at) ∷ log) ∙ part_here at log;
    remain = λ a. remain_acts at acts (Mark (Up at) ∷ log) a at (kept a) (record { count = (r a).count; messages = (r a).messages });
    others = λ x y p q.
        handed_acts x y at acts (Mark (Up at) ∷ log)
        ∙ m.rests.handed_all x y (part_up y at log p (sym (takes_part_acts y at acts (Mark (Up at) ∷ log)) ∙ q))
        ∙ sym (delivered_acts x y at acts (Mark (Up at) ∷ log));
  }
