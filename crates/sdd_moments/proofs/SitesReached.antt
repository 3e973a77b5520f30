-- Messages were handed to a site where some were handed over on a link to it.
use Rattle.sdd_moments.proofs.All.{Arrived, Bool, Input, List, Log, Site, [], all_links, ap, arrived, arrived_on, cons_option, false, filter_map, handed, is_reached, list_any, not, refl, same_site, true, ◌&&◌, ◌==◌, ◌||◌, ◌∙◌, ◌∷◌, ◌≡◌}
use Rattle.sdd_moments.proofs.Came.{arrived_if, still}

abbrev pub is_to : Site → Arrived → Bool
is_to at one = same_site one.to at

-- messages came to a site where some were handed over on a link to it
arrived_at : (old new : Log) (at : Site) (ls : List (Site × Site)) → list_any (is_to at) (filter_map (arrived_on old new) ls)
    ≡ list_any (λ (l : Site × Site). not (handed l.0 l.1 old == handed l.0 l.1 new) && same_site l.1 at) ls
arrived_at old new at [] = refl
arrived_at old new at (l ∷ ls) =
    let rest : List Arrived = filter_map (arrived_on old new) ls in
    let more : Bool = list_any (λ (l : Site × Site). not (handed l.0 l.1 old == handed l.0 l.1 new) && same_site l.1 at) ls in
    let i = arrived_at old new at ls in
    elim (still old new l) as (λ b. list_any (is_to at) (cons_option (arrived_if old new l b) rest) ≡ ((not b && same_site l.1 at) || more)) [
      | true ↦ i
      | false ↦ ap (λ r. same_site l.1 at || r) i
    ]

pub reached_is : (g : Input) (old new : Log) (at : Site) (known : List Arrived) (b : Bool) → b ≡ list_any (λ (one : Arrived). same_site one.to at) known
    → known ≡ arrived g old new → b ≡ is_reached g old new at
reached_is g old new at known b is same = is ∙ ap (list_any (is_to at)) same ∙ arrived_at old new at (all_links g)
