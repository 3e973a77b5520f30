use Rattle.sdd_control.proofs.All.{FitsAct, Follows, NoteFits, Run, State, [], ap, run_of, subst, sym, true, with_event, ◌++◌, ◌∙◌, ◌∷◌, ◌≡◌}
use Rattle.sdd_control.proofs.Following.{fits_now, follows_now, follows_on, note_now, run_now, run_on}
use Rattle.sdd_control.proofs.Tracking.{note_fits}
use Rattle.sdd_control.proofs.control.Control.step.Goals as goal

pub add-requires-clause-fits : goal.add-requires-clause-fits
add-requires-clause-fits c =
    let st = c.self.inside.state in
    let fits : FitsAct st.backups c.args.act.now =
    fits_now st c.self.inside.acts.items c.self.inside.live c.args.self.now
    c.self.view_is c.self.invariant c.requires.live c.args.act.now c.requires.fits in
    let same : c.take.new.self.backups ≡ st.backups = ap (λ (z : State). z.backups) c.take.ensures.others in
    subst (λ z. NoteFits z c.note-note.result) (sym same) (subst (NoteFits st.backups) (sym c.note-note.ensures) (note_fits st c.args.act.now fits))

pub invariant_of-self-2 : goal.invariant_of-self-2
invariant_of-self-2 c live =
    let st = c.self.inside.state in
    let acts = c.self.inside.acts.items in
    let fits : FitsAct st.backups c.args.act.now =
    fits_now st acts c.self.inside.live c.args.self.now
    c.self.view_is c.self.invariant c.requires.live c.args.act.now c.requires.fits in
    let follows : Follows st acts =
    follows_now st acts c.self.inside.live c.args.self.now
    c.self.view_is c.self.invariant c.requires.live in
    subst (Follows c.add.new.self) (sym c.in_ok-push.ensures.items)
    (follows_on st c.take.new.self c.add.new.self acts c.args.act.now c.note-note.result
    follows fits c.note-note.ensures c.take.ensures c.in_ok-add.ensures)

pub returns-clause-note : goal.returns-clause-note
returns-clause-note c =
    c.note-note.ensures ∙ note_now c.self.inside.state c.self.inside.acts.items c.self.inside.live c.args.self.now
    c.self.view_is c.self.invariant c.requires.live c.args.act.now c.requires.fits

pub returns-clause-after : goal.returns-clause-after
returns-clause-after c =
    let st = c.self.inside.state in
    let acts = c.self.inside.acts.items in
    let fits : FitsAct st.backups c.args.act.now =
    fits_now st acts c.self.inside.live c.args.self.now
    c.self.view_is c.self.invariant c.requires.live c.args.act.now c.requires.fits in
    let follows : Follows st acts =
    follows_now st acts c.self.inside.live c.args.self.now
    c.self.view_is c.self.invariant c.requires.live in
    let pushed : run_of c.add.new.self.backups c.add.new.self.writes c.push.new.self.items
    ≡ run_of c.add.new.self.backups c.add.new.self.writes (acts ++ c.args.act.now ∷ []) =
    ap (run_of c.add.new.self.backups c.add.new.self.writes) c.in_ok-push.ensures.items in
    ap (λ (z : Run). record { live = true; value = z })
    (pushed
    ∙ run_on st c.take.new.self c.add.new.self acts c.args.act.now c.note-note.result
    follows fits c.note-note.ensures c.take.ensures c.in_ok-add.ensures ∙ ap (λ (z : Run). with_event z c.args.act.now)
    (run_now st acts c.self.inside.live c.args.self.now
    c.self.view_is c.self.invariant c.requires.live))
