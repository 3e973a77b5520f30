-- What a transaction module keeps tells how it stands.
use Rattle.sdd_watch.proofs.All.{Active, All, All-from_recursion, AllByRecursion, Bool, ClassState, IsLineInOrder, IsLineOf, Kept, List, Question, Queues, Setting, Some, TmNo, [], active_of, actives, ap, arith, asked, asks, bound_of, class_of, clock, filter, filter_map, flat_map, holds, map, map-map, nat_lt, question_by, questions_in, questions_to, refl, reported_tm, runs, slice_get, subst, suc, sym, ℕ, ◌*◌, ◌++◌, ◌+◌, ◌/◌, ◌==◌, ◌∙◌, ◌∷◌, ◌≡◌}
use Rattle.sdd_watch.proofs.MadeLists.{picked_map}
use Rattle.sdd_moments.specs.obligations.All.{state_of}
use Rattle.sdd_moments.specs.obligations.site_module.SiteLog.{Log}
use Rattle.sdd_moments.specs.obligations.tm.State.{State}

ticks_of : (t n bound : ℕ) → n ≡ bound / 64 → bound ≡ t * 64 + 63 → n ≡ t
ticks_of t n bound e f = omega arith

-- each line is in order

lines_of : (s : Setting) (log : Log) (cs : List ℕ) → ((place c : ℕ) → slice_get cs place ≡ Some c → IsLineOf s c log)
    → AllByRecursion (λ (k : ClassState). IsLineInOrder k.line) (map (class_of s log) cs)
lines_of s log [] h = tt
lines_of s log (c ∷ cs) h = ((h 0 c refl).of_head, lines_of s log cs (λ place d e. h (suc place) d e))

pub lines_in_order : (k : Kept State) (s : Setting) (log : Log) → Queues k s log → All (λ (r : ClassState). IsLineInOrder r.line) k.value.classes
lines_in_order k s log keeps =
    subst (λ (st : State). All (λ (r : ClassState). IsLineInOrder r.line) st.classes) keeps.state_is
    (All-from_recursion (λ (r : ClassState). IsLineInOrder r.line) (map (class_of s log) (runs s)) (lines_of s log (runs s) keeps.sound.lines))

-- the open ASKs and the attempts

asks_of : (s : Setting) (log : Log) (cs : List ℕ) → flat_map questions_in (map (class_of s log) cs) ≡ flat_map (questions_to (asks log)) cs
asks_of s log [] = refl
asks_of s log (c ∷ cs) =
    let here : questions_in (class_of s log c) ≡ questions_to (asks log) c = map-map (question_by c) asked (filter (λ q. q.class == c) (asks log)) in
    ap (λ l. l ++ flat_map questions_in (map (class_of s log) cs)) here ∙ ap (λ l. questions_to (asks log) c ++ l) (asks_of s log cs)

pub state_is_reported : (k : Kept State) (s : Setting) (log : Log) (t : TmNo) (down : Bool) (ticks bound : ℕ) (on owes : Bool)
    (qs : List Question) (acts : List Active) → Queues k s log → ticks ≡ bound / 64 → bound ≡ bound_of (clock s.site log) → on ≡ k.value.on_hold
    → owes ≡ k.value.owes_held → qs ≡ flat_map questions_in k.value.classes → acts ≡ filter_map active_of k.value.classes
    → reported_tm s log t.0 down ≡ record { tm = t; is_down = down; clock = ticks; on_hold = on; owes_held = owes; asks = qs; active = acts }
state_is_reported k s log t down ticks bound on owes qs acts keeps e f g h i j =
    let is : state_of s log ≡ k.value = keeps.state_is in
    let clk : ticks ≡ (clock s.site log).ticks = ticks_of (clock s.site log).ticks ticks bound e f in
    let hold : on ≡ nat_lt (holds log).releases (holds log).holds = g ∙ ap (λ (v : State). v.on_hold) (sym is) in
    let owed : owes ≡ nat_lt (holds log).helds (holds log).holds = h ∙ ap (λ (v : State). v.owes_held) (sym is) in
    let questions : qs ≡ flat_map (questions_to (asks log)) (runs s) =
    i ∙ ap (λ (v : State). flat_map questions_in v.classes) (sym is) ∙ asks_of s log (runs s) in
    let active : acts ≡ actives s log (runs s) =
    j ∙ ap (λ (v : State). filter_map active_of v.classes) (sym is) ∙ picked_map active_of (class_of s log) (runs s) in
    rw (clk, hold, owed, questions, active) refl
