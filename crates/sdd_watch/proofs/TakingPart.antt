-- Which sites take part in an event.
use Rattle.sdd_watch.proofs.All.{Arrived, Bool, Down, Event, Found, Input, List, Log, Redeclare, Site, Submit, Tick, TmNo, TxnNo, Up, [], ap, append-nil, arrived, concerns, Deliver, false, filter, found_by, given_to, home_in, if◌then◌else◌, is_reached, last_event, list_any, reach_of, refl, same_site, sym, takes_part, true, ℕ, ◌++◌, ◌||◌, ◌∙◌, ◌∷◌, ◌≡◌}
use Rattle.sdd_inside.specs.declared.delta.Found.TheVariants as founds
use Rattle.sdd_moments.proofs.SitesReached.{is_to, reached_is}

pub takes_reached : (g : Input) (old new : Log) (at : Site) (known : List Arrived) (b : Bool)
    → b ≡ list_any (λ (one : Arrived). same_site one.to at) known → known ≡ arrived g old new → b ≡ true → true ≡ takes_part g old new at
takes_reached g old new at known b is same e =
    ap (λ c. c || concerns g new (last_event new) (found_by (last_event new) old new) at) (sym e ∙ reached_is g old new at known b is same)

pub takes_otherwise : (g : Input) (old new : Log) (at : Site) (known : List Arrived) (b own : Bool) (e : Event) (found : Found)
    → b ≡ list_any (λ (one : Arrived). same_site one.to at) known → known ≡ arrived g old new → b ≡ false → e ≡ last_event new
    → found ≡ found_by e old new → own ≡ concerns g new e found at → own ≡ takes_part g old new at
takes_otherwise g old new at known b own e found is same not_reached event found_is concerned =
    concerned ∙ ap (λ f. concerns g new e f at) found_is ∙ ap (λ x. concerns g new x (found_by x old new) at) event
    ∙ ap (λ c. c || concerns g new (last_event new) (found_by (last_event new) old new) at) (sym not_reached ∙ reached_is g old new at known b is same)

-- no other event is of a site by itself
pub of_none : (g : Input) (log : Log) (e : Event) (found : Found) (at : Site) → ((n : TxnNo) → e ≡ Submit n → ⊥)
    → ((t : TmNo) (n : ℕ) → e ≡ Tick t n → ⊥) → ((here : Site) → e ≡ Down here → ⊥) → ((here : Site) → e ≡ Up here → ⊥) → (e ≡ Redeclare → ⊥)
    → false ≡ concerns g log e found at
of_none g log (Submit n) found at a b c d r = absurd (a n refl)
of_none g log (Tick t n) found at a b c d r = absurd (b t n refl)
of_none g log (Down here) found at a b c k r = absurd (c here refl)
of_none g log (Up here) found at a b c k r = absurd (k here refl)
of_none g log Redeclare found at a b c d r = absurd (r refl)
of_none g log _ found at a b c d r = refl

-- what is reached tells to which site the event gives a transaction
pub given_is : (g : Input) (log : Log) (e : Event) (found : Found) → home_in (reach_of g log e found) ≡ given_to g log e
given_is g log (Deliver a b k) (founds.Acknowledged upto acked) = refl
given_is g log (Deliver a b k) _ = refl
given_is g log _ found = refl

-- a site more

pub one_taken : (p : Site → Bool) (at : Site) (old more : List Site) → p at ≡ true → more ≡ old ++ at ∷ [] → more ≡ old ++ filter p (at ∷ [])
one_taken p at old more e add = add ∙ ap (λ b. old ++ (if b then at ∷ [] else [])) (sym e)

pub none_taken : (p : Site → Bool) (at : Site) (old : List Site) → p at ≡ false → old ≡ old ++ filter p (at ∷ [])
none_taken p at old e = sym (append-nil old) ∙ ap (λ b. old ++ (if b then at ∷ [] else [])) (sym e)

-- at an event of a link at which nothing is handed over no site takes part
pub none_takes : (g : Input) (old new : Log) (known : List Arrived) (e : Event) (sites : List Site) → known ≡ arrived g old new → known ≡ []
    → e ≡ last_event new → ((found : Found) (at : Site) → concerns g new e found at ≡ false) → filter (takes_part g old new) sites ≡ []
none_takes g old new known e [] same empty is none = refl
none_takes g old new known e (at ∷ sites) same empty is none =
    let unreached : is_reached g old new at ≡ false =
    sym (reached_is g old new at known (list_any (is_to at) known) refl same) ∙ ap (list_any (is_to at)) empty in
    let aside : takes_part g old new at ≡ false =
    (λ i. unreached i || concerns g new (last_event new) (found_by (last_event new) old new) at)
    ∙ ap (λ x. concerns g new x (found_by x old new) at) (sym is) ∙ none (found_by e old new) at in
    ap (λ b. if b then at ∷ filter (takes_part g old new) sites else filter (takes_part g old new) sites) aside
    ∙ none_takes g old new known e sites same empty is none
