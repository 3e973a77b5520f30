-- Acts one after the other: what is made of a view, and of what that becomes.
use Rattle.std.proofs.Common.{List, [], ◌∷◌, ◌++◌, ◌≡◌, refl, ap, ◌∙◌, sym, append_assoc, append-nil, Option, Some}
use Rattle.sdd_lang.specs.All.{Site}
use Rattle.sdd_wire.specs.declared.msg.Msg.{Msg}
use Rattle.sdd_module.specs.SiteLog.{Entry, Did, Act, Records, Sends, records_of, sends_of, records_of_act, sends_of_act}
use Rattle.sdd_module.specs.Notes.{Notes, with_sends, with_act, with_acts}
use Rattle.sdd_module.specs.Making.{Goes, Made}

-- acts that go on from where others ended

pub Goes-append : {V : Type 0} (due : V → Option Act) (after : Entry → V → V) (v w x : V) (acts more : List Act) → Goes due after v acts w
    → Goes due after w more x → Goes due after v (acts ++ more) x
Goes-append due after v w x [] more g h = rw g h
Goes-append due after v w x (a ∷ acts) more g h = (g.0, Goes-append due after (after (Did a) v) w x acts more g.1 h)

with_acts-append : (acts more : List Act) (n : Notes) → with_acts (acts ++ more) n ≡ with_acts more (with_acts acts n)
with_acts-append [] more n = refl
with_acts-append (a ∷ acts) more n = with_acts-append acts more (with_act a n)

-- no act
pub made_nothing : {V : Type 0} (due : V → Option Act) (after : Entry → V → V) (v w : V) (old new : Notes) → v ≡ w → new ≡ old
    → Made due after v w old new
made_nothing due after v w old new e f = record { acts = []; goes = e; notes_are = f }

-- one act
pub made_one : {V : Type 0} (due : V → Option Act) (after : Entry → V → V) (v w : V) (a : Act) (old new : Notes) → due v ≡ Some a
    → after (Did a) v ≡ w
    → new ≡ with_act a old → Made due after v w old new
made_one due after v w a old new e f g = record { acts = a ∷ []; goes = (e, f); notes_are = g }

-- acts, and then others
pub made_both : {V : Type 0} (due : V → Option Act) (after : Entry → V → V) (v w x : V) (old mid new : Notes) → Made due after v w old mid
    → Made due after w x mid new → Made due after v x old new
made_both due after v w x old mid new p q = record {
  acts = p.acts ++ q.acts;
  goes = Goes-append due after v w x p.acts q.acts p.goes q.goes;
  notes_are = q.notes_are ∙ ap (with_acts q.acts) p.notes_are ∙ sym (with_acts-append p.acts q.acts old);
}

-- acts, and then one more
pub made_more : {V : Type 0} (due : V → Option Act) (after : Entry → V → V) (v w x : V) (a : Act) (old notes new : Notes) → Made due after v w old notes
    → due w ≡ Some a → after (Did a) w ≡ x → new ≡ with_act a notes → Made due after v x old new
made_more due after v w x a old notes new p e f g = made_both due after v w x old notes new p (made_one due after w x a notes new e f g)

-- what acts add to notes is what they record and send

pub with_sends-append : (sends out : List (Site × Msg)) → with_sends sends out ≡ out ++ sends
with_sends-append [] out = sym (append-nil out)
with_sends-append (x ∷ sends) out = with_sends-append sends (out ++ x ∷ []) ∙ append_assoc out (x ∷ []) sends

recs_noted : (a : Act) (n : Notes) → (with_act a n).recs ≡ n.recs ++ records_of_act a
recs_noted (Records c r sends) n = refl
recs_noted (Sends to m hand) n = sym (append-nil n.recs)

out_noted : (a : Act) (n : Notes) → (with_act a n).out ≡ n.out ++ sends_of_act a
out_noted (Records c r sends) n = with_sends-append sends n.out
out_noted (Sends to m hand) n = refl

pub recs_of_acts : (acts : List Act) (n : Notes) → (with_acts acts n).recs ≡ n.recs ++ records_of acts
recs_of_acts [] n = sym (append-nil n.recs)
recs_of_acts (a ∷ acts) n =
    recs_of_acts acts (with_act a n) ∙ ap (λ xs. xs ++ records_of acts) (recs_noted a n) ∙ append_assoc n.recs (records_of_act a) (records_of acts)

pub out_of_acts : (acts : List Act) (n : Notes) → (with_acts acts n).out ≡ n.out ++ sends_of acts
out_of_acts [] n = sym (append-nil n.out)
out_of_acts (a ∷ acts) n =
    out_of_acts acts (with_act a n) ∙ ap (λ xs. xs ++ sends_of acts) (out_noted a n) ∙ append_assoc n.out (sends_of_act a) (sends_of acts)
