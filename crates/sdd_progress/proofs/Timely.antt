-- Where each `redeclare` is given when it may be, a lawful log has no module down where it puts a class list in
-- force, and puts none in force beyond those that are given.
use Rattle.sdd_progress.proofs.All.{AllFewTicks, AreDone, AreTimely, Event, Input, IsLawful, IsModuleOf, IsUpAtRedeclares, List, Log, Redeclare, Redeclares, Site, Some, [], all_links, ap, append-nil, append_assoc, arith, calls_of, count_join, done, down_join, false, is_down, is_down_after, lawful_end, left, length, listed_first, mark_of, next_is_of_events, quiet, redeclares, redeclares_in, refl, round, settles_turn, subst, sym, ℕ, ◌++◌, ◌+◌, ◌<◌, ◌∙◌, ◌∷◌, ◌≡◌, ◌≤◌}

-- no module is down

up_there : (g : Input) (log : Log) (t : ℕ) (s : List Event × List Event) → mark_of g log s ≡ Some (Redeclares t)
    → AreDone g (λ at. is_down at log) (redeclares log) s → AreTimely g → (at : Site) → IsModuleOf g at → is_down at log ≡ false
up_there g log t (ws, []) m i timely at here =
    let f = listed_first g log (quiet (all_links g) (calls_of log)) (round (all_links g) (calls_of log)) ws t m in
    i.1.downs at ∙ sym (settles_turn at (is_down_after at i.1.front) f.skip f.settles) ∙ sym (down_join at false i.1.front f.skip)
    ∙ (timely (i.1.front ++ f.skip) f.rest (i.1.is ∙ ap (λ z. i.1.front ++ z) f.is ∙ sym (append_assoc i.1.front f.skip (Redeclare ∷ f.rest)))).up at here
up_there g log t (ws, x ∷ r) m i timely at here = absurd (cc)

pub up_at_redeclares : (g : Input) (log : Log) → AllFewTicks g.events → IsLawful g log → AreTimely g → IsUpAtRedeclares g log
up_at_redeclares g log few h timely later before t is at here =
    let k = lawful_end g later (Redeclares t ∷ before) (subst (IsLawful g) is h) in
    up_there g before t (left g.events before) (next_is_of_events g before (Redeclares t) refl k.0) (done g before few k.1) timely at here

-- and a list is left

one_event : (g : Input) → AreTimely g → (e : Event) (before rest : List Event) → g.events ≡ before ++ e ∷ rest → redeclares_in before < length g.eras
    → redeclares_in before + redeclares_in (e ∷ []) < length g.eras
one_event g timely e before rest is l = grind arith

each_event : (g : Input) → AreTimely g → (before events rest : List Event) → g.events ≡ (before ++ events) ++ rest → redeclares_in before < length g.eras
    → redeclares_in (before ++ events) < length g.eras
each_event g timely before [] rest is l = subst (λ es. redeclares_in es < length g.eras) (sym (append-nil before)) l
each_event g timely before (e ∷ events) rest is l =
    let few = one_event g timely e before (events ++ rest) (is ∙ append_assoc before (e ∷ events) rest) l in
    let sum = count_join before (e ∷ []) in
    let parts : (before ++ e ∷ []) ++ events ≡ before ++ e ∷ events = append_assoc before (e ∷ []) events in
    subst (λ es. redeclares_in es < length g.eras) parts
    (each_event g timely (before ++ e ∷ []) events rest (is ∙ ap (λ es. es ++ rest) (sym parts)) (omega (arith, few, sum)))

pub few_redeclares : (g : Input) (log : Log) → AllFewTicks g.events → IsLawful g log → AreTimely g → 1 ≤ length g.eras → redeclares log < length g.eras
few_redeclares g log few h timely some =
    let d = (done g log few h).1 in
    let same = d.lists_are in omega (arith, (each_event g timely [] d.front (left g.events log).0 d.is (omega (arith, some))), same)
