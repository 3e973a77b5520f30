-- What a site's acts, one after the other, do to the log's recursions.
use Rattle.sdd_log.proofs.All.{Act, AllLinked, Call, Does, EndsByLimit, Event, Input, IsLawful, IsWithin, List, Log, MAX_LINK_MESSAGES, Msg, Puts, Site, Some, U, [], ap, append-nil, append_assoc, arith, calls_of, false, handed, history, is_down, left, length, link, local_of, log_after, map, map-append, marks, nat_lt, next, not, or_assoc, or_false, puts, puts_past, records_of, records_of_act, refl, same_here, same_site, sends_of, sends_of_act, suc, sym, takes_part, true, ℕ, ◌++◌, ◌||◌, ◌∙◌, ◌∷◌, ◌≡◌}
use Rattle.sdd_log.proofs.Steps.{after_acts}

pub puts-append : (at : Site) (xs ys : List (Site × Msg)) (calls : List (Call Msg)) → puts at (xs ++ ys) calls ≡ puts at ys (puts at xs calls)
puts-append at [] ys calls = refl
puts-append at (x ∷ xs) ys calls = puts-append at xs ys (Puts at x.0 x.1 ∷ calls)

pub puts_past-append : (at : Site) (xs ys : List (Site × Msg)) (calls : List (Call Msg))
    → puts_past calls at (xs ++ ys) ≡ (puts_past calls at xs || puts_past (puts at xs calls) at ys)
puts_past-append at [] ys calls = refl
puts_past-append at (x ∷ xs) ys calls =
    ap (λ b. nat_lt MAX_LINK_MESSAGES (suc (length (link at x.0 calls).there.sent)) || b) (puts_past-append at xs ys (Puts at x.0 x.1 ∷ calls))
    ∙ sym (grind (arith, or_assoc, nat_lt, link, puts_past, puts))

pub calls_acts : (at : Site) (acts : List Act) (log : Log) → calls_of (after_acts at acts log) ≡ puts at (sends_of acts) (calls_of log)
calls_acts at [] log = refl
calls_acts at (a ∷ acts) log = calls_acts at acts (Does at a ∷ log) ∙ sym (puts-append at (sends_of_act a) (sends_of acts) (calls_of log))

pub marks_acts : (at : Site) (acts : List Act) (log : Log) → marks (after_acts at acts log) ≡ marks log
marks_acts at [] log = refl
marks_acts at (a ∷ acts) log = marks_acts at acts (Does at a ∷ log)

pub left_acts : (events : List Event) (at : Site) (acts : List Act) (log : Log) → left events (after_acts at acts log) ≡ left events log
left_acts events at [] log = refl
left_acts events at (a ∷ acts) log = left_acts events at acts (Does at a ∷ log)

pub handed_acts : (a b at : Site) (acts : List Act) (log : Log) → handed a b (after_acts at acts log) ≡ handed a b log
handed_acts a b at [] log = refl
handed_acts a b at (x ∷ acts) log = handed_acts a b at acts (Does at x ∷ log)

pub history_acts : (at : Site) (acts : List Act) (log : Log) → history (after_acts at acts log) ≡ history log ++ map (λ r. (marks log, r)) (records_of acts)
history_acts at [] log = sym (append-nil (history log))
history_acts at (a ∷ acts) log =
    history_acts at acts (Does at a ∷ log)
    ∙ append_assoc (history log) (map (λ r. (marks log, r)) (records_of_act a)) (map (λ r. (marks log, r)) (records_of acts))
    ∙ ap (λ xs. history log ++ xs) (sym (map-append (λ r. (marks log, r)) (records_of_act a) (records_of acts)))

pub own_acts : (g : Input) (at : Site) (acts : List Act) (log : Log) → local_of g at (after_acts at acts log) ≡ log_after acts (local_of g at log)
own_acts g at [] log = refl
own_acts g at (a ∷ acts) log = own_acts g at acts (Does at a ∷ log) ∙ ap (λ l. log_after acts l) (rw (same_here at) refl)

pub other_acts : (g : Input) (b at : Site) (acts : List Act) (log : Log) → same_site b at ≡ false → local_of g b (after_acts at acts log) ≡ local_of g b log
other_acts g b at [] log e = refl
other_acts g b at (a ∷ acts) log e = other_acts g b at acts (Does at a ∷ log) e ∙ (rw e refl)

-- a lawful log's earlier logs are lawful
pub lawful_before : (g : Input) (at : Site) (acts : List Act) (log : Log) → IsLawful g (after_acts at acts log) → IsLawful g log
lawful_before g at [] log h = h
lawful_before g at (a ∷ acts) log h = (lawful_before g at acts (Does at a ∷ log) h).1

-- no put is past: the log stays within
pub within_acts : (at : Site) (acts : List Act) (log : Log) → puts_past (calls_of log) at (sends_of acts) ≡ false → IsWithin log
    → IsWithin (after_acts at acts log)
within_acts at [] log e w = w
within_acts at (a ∷ acts) log e w =
    let p = or_false (puts_past (calls_of log) at (sends_of_act a)) (puts_past (puts at (sends_of_act a) (calls_of log)) at (sends_of acts))
    (sym (puts_past-append at (sends_of_act a) (sends_of acts) (calls_of log)) ∙ e) in
    within_acts at acts (Does at a ∷ log) p.1 (p.0, w)

-- a put is past: the log ends there
pub ends_in_acts : (g : Input) (at : Site) (acts : List Act) (log : Log) → puts_past (calls_of log) at (sends_of acts) ≡ true → IsWithin log
    → IsLawful g (after_acts at acts log) → (more : Log) × EndsByLimit g more
ends_in_acts g at [] log e w l = cc
ends_in_acts g at (a ∷ acts) log e w l =
    let k : IsLawful g (Does at a ∷ log) = lawful_before g at acts (Does at a ∷ log) l in
    elim (puts_past (calls_of log) at (sends_of_act a)) as
    (λ b. puts_past (calls_of log) at (sends_of_act a) ≡ b → (b || puts_past (calls_of (Does at a ∷ log)) at (sends_of acts)) ≡ true
    → (more : Log) × EndsByLimit g more) [
      | true ↦ λ p r. (log, record { lawful = k.1; within = w; entry = Does at a; next_is = k.0; past = p })
      | false ↦ λ p r. ends_in_acts g at acts (Does at a ∷ log) r (p, w) l
    ] refl (sym (puts_past-append at (sends_of_act a) (sends_of acts) (calls_of log)) ∙ e)

-- what is sent goes along links
AllLinked-append : (g : Input) (at : Site) (xs ys : List (Site × Msg)) → AllLinked g at xs → AllLinked g at ys → AllLinked g at (xs ++ ys)
AllLinked-append g at [] ys h k = k
AllLinked-append g at (x ∷ xs) ys h k = (h.0, AllLinked-append g at xs ys h.1 k)

pub linked_acts : (g : Input) (at : Site) (acts : List Act) (log : Log)
    → ((log : Log) (act : Act) → IsLawful g log → next g log ≡ Some (Does at act) → AllLinked g at (sends_of_act act))
    → IsLawful g (after_acts at acts log) → AllLinked g at (sends_of acts)
linked_acts g at [] log law l = tt
linked_acts g at (a ∷ acts) log law l =
    let k : IsLawful g (Does at a ∷ log) = lawful_before g at acts (Does at a ∷ log) l in
    AllLinked-append g at (sends_of_act a) (sends_of acts) (law log a k.1 k.0) (linked_acts g at acts (Does at a ∷ log) law l)

-- an act is no mark
pub is_down_acts : (b at : Site) (acts : List Act) (log : Log) → is_down b (after_acts at acts log) ≡ is_down b log
is_down_acts b at [] log = refl
is_down_acts b at (a ∷ acts) log = is_down_acts b at acts (Does at a ∷ log)

pub takes_part_acts : (b at : Site) (acts : List Act) (log : Log) → takes_part b (after_acts at acts log) ≡ takes_part b log
takes_part_acts b at acts log = ap (λ down. same_site b U || not down) (is_down_acts b at acts log)
