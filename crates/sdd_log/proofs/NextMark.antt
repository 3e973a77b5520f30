-- A mark, a round or a class list that is next is the next mark: nothing else that is due is one.
use Rattle.sdd_log.proofs.All.{Act, Bool, Entry, Event, Input, List, Log, Mark, Msg, None, Option, Redeclares, Round, Site, Some, [], all_links, arith, delivered, does_at, due_by, false, first_some, hand_due, hand_number, hand_on, hand_with, handed, if◌then◌else◌, left, link_of, mark_due, mark_of, next, next_at, next_mark, next_number, note_if, or_else, site_due, sites, sym, takes_part, true, ℕ, ◌∙◌, ◌∷◌, ◌≡◌}
use Rattle.sdd_log.proofs.AsLists.{next_mark_is}

abbrev is_mark : Entry → Bool
is_mark (Mark e) = true
is_mark (Round es) = true
is_mark (Redeclares t) = true
is_mark _ = false

abbrev NoMark : Option Entry → Type 0
NoMark None = Unit {0}
NoMark (Some x) = is_mark x ≡ false

no_note : (b : Bool) → NoMark (note_if b)
no_note b = grind arith

no_due_by : (g : Input) (e : Event) (log : Log) → NoMark (due_by g e log)
no_due_by g e log = grind (arith, no_note)

no_mark_due : (g : Input) (log : Log) → NoMark (mark_due g log)
no_mark_due g log = grind (arith, no_due_by)

no_first : {A : Type 0} (f : A → Option Entry) (xs : List A) → ((a : A) → NoMark (f a)) → NoMark (first_some f xs)
no_first f [] h = tt
no_first f (x ∷ xs) h = elim (f x) as (λ o. NoMark o → NoMark (or_else o (first_some f xs))) [ None ↦ λ p. no_first f xs h | Some y ↦ λ p. p ] (h x)

no_does : (at : Site) (o : Option Act) → NoMark (does_at at o)
no_does at o = grind arith

no_hand_with : (l : Site × Site) (n : ℕ) (o : Option Msg) → NoMark (hand_with l n o)
no_hand_with l n o = grind arith

no_hand_number : (log : Log) (l : Site × Site) (o : Option ℕ) → NoMark (hand_number log l o)
no_hand_number log l o = grind (arith, no_hand_with)

no_hand : (log : Log) (l : Site × Site) (b : Bool) (o : Option ℕ) → NoMark (if b then hand_number log l o else None)
no_hand log l true o = no_hand_number log l o
no_hand log l false o = tt

past : (x y : Option Entry) (e : Entry) → NoMark x → is_mark e ≡ true → or_else x y ≡ Some e → y ≡ Some e
past x y e h m p = grind (arith, is_mark)

pub mark_is_next : (g : Input) (log : Log) (e : Entry) → is_mark e ≡ true → next g log ≡ Some e
    → mark_of g log (left g.events log) ≡ Some e
mark_is_next g log e m p =
    sym (next_mark_is g log) ∙ past (hand_due g log) (next_mark g log) e
    (no_first (hand_on log) (all_links g)
    (λ l. no_hand log l (takes_part l.1 log) (next_number (handed l.0 l.1 log) (delivered (link_of l.0 l.1 log).there)))) m
    (past (site_due g log) _ e (no_first (λ at. does_at at (next_at g log at)) (sites g.catalogue.tms g.catalogue.dms) (λ at. no_does at (next_at g log at))) m
    (past (mark_due g log) _ e (no_mark_due g log) m p))
