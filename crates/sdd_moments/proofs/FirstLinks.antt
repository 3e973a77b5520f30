-- The links before the first event.
use Rattle.sdd_moments.proofs.All.{Bool, Input, List, None, Option, Site, Some, WatchedLink, [], all_sites, ap, are_linked, cond, cons_option, filter_map, filter_map-append, get_or, length, map, map-append, refl, sym, take, take_all, take_more, true, false, watched_link, watched_links, ℕ, ◌++◌, ◌+◌, ◌<◌, ◌∙◌, ◌∷◌, ◌≡◌, ◌≤◌}

abbrev to_site : Site → Site → Option (Site × Site)
to_site from to = cond (are_linked from to) (Some (from, to)) None

one_begun : (from to : Site) (b : Bool)
    → map (watched_link []) (cons_option (cond b (Some (from, to)) None) []) ≡ cond b (watched_link [] (from, to) ∷ []) []
one_begun from to true = refl
one_begun from to false = refl

pub link_begun : (from : Site) (sites : List Site) (i : ℕ) (d : Site) (old new : List WatchedLink) → i < length sites
    → new ≡ old ++ cond (are_linked from (get_or sites i d)) (watched_link [] (from, get_or sites i d) ∷ []) []
    → old ≡ map (watched_link []) (filter_map (λ to. cond (are_linked from to) (Some (from, to)) None) (take i sites))
    → new ≡ map (watched_link []) (filter_map (λ to. cond (are_linked from to) (Some (from, to)) None) (take (i + 1) sites))
link_begun from sites i d old new few push e =
    let to : Site = get_or sites i d in
    let f : Site → Option (Site × Site) = to_site from in
    push ∙ (λ j. e j ++ sym (one_begun from to (are_linked from to)) j)
    ∙ sym (map-append (watched_link []) (filter_map f (take i sites)) (filter_map f (to ∷ [])))
    ∙ ap (map (watched_link [])) (sym (filter_map-append f (take i sites) (to ∷ [])))
    ∙ ap (λ xs. map (watched_link []) (filter_map f xs)) (sym (take_more sites i d few))

abbrev with_links : Site → List WatchedLink → Site × List WatchedLink
with_links a ws = (a, ws)

pub all_links_begun : (g : Input) (from : Site) (sites : List Site) (i : ℕ) (now : List WatchedLink) → length sites ≤ i → sites ≡ all_sites g
    → now ≡ map (watched_link []) (filter_map (λ to. cond (are_linked from to) (Some (from, to)) None) (take i sites))
    → with_links from now ≡ watched_links g [] from
all_links_begun g from sites i now past all e =
    let whole = take_all i sites past ∙ all in
    ap (with_links from) (e ∙ ap (λ xs. map (watched_link []) (filter_map (to_site from) xs)) whole)
