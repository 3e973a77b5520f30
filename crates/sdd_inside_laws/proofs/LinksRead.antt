-- What a reader has of a link after an event is what there is: its flight, its messages, and how many are handed over.
use Rattle.std.proofs.Common.{ap, eqb-true, sym, ◌∙◌}
use Rattle.std.proofs.lemmas.List.{drop-map, map-append, take-map}
use Rattle.std.proofs.Math.Seq.{drop-append_seam}
use Rattle.std.specs.Prelude.{ℕ, ◌+◌, ◌-◌, ◌==◌, ◌&&◌, ◌≡◌, Bool, true, false, if◌then◌else◌, List, [], ◌∷◌, ◌++◌, drop, filter, filter_map, find, length, map, option_map, slice_get, take, unwrap_or, None, Some, refl}
use Rattle.sdd_app_inside.proofs.watch.obligations.invariants.Sites.{site_self}
use Rattle.sdd_app_inside.specs.watch.obligations.All.{Input, Log, Msg, Packet, Site, all_links, handed, link_of, same_site, sent}
use Rattle.sdd_inside.specs.Differences.{handed_between, in_flight, on_link, put_between}
use Rattle.sdd_inside.specs.declared.delta.Handed.{Handed}
use Rattle.sdd_inside.specs.declared.delta.InFlight.{InFlight}
use Rattle.sdd_inside.specs.declared.delta.Put.{Put}
use Rattle.sdd_inside_laws.proofs.FlightsLeft.{kept_if}
use Rattle.sdd_inside_laws.proofs.FlightsRead.{as_many_left, kept_between, link_begins}
use Rattle.sdd_inside_laws.proofs.FoundIn.{found_in}
use Rattle.sdd_inside_laws.proofs.PacketsRead.{all_fly, each_change, new_messages}
use Rattle.sdd_inside_laws.specs.Reader.{flight_left, flying, handed_on, is_handed_on, is_put_on, known_link, place_in, put_on, read_link, told}
use Rattle.sdd_app_inside.proofs.watch.moments.Between.{link_grows}
use Rattle.sdd_app_inside.proofs.watch.moments.Came.{here, that_one}
use Rattle.sdd_app_inside.proofs.watch.moments.Flights.{is_above}
use Rattle.sdd_app_inside.specs.watch.moments.AtEvent.{found_by, last_event, taken}
use Rattle.sdd_app_inside.specs.watch.Happens.{happened_at}
use Rattle.sdd_app_inside.specs.watch.moments.Moments.{link_moment}
use Rattle.sdd_app_inside.specs.watch.Text.{change}
use Rattle.sdd_app_inside.specs.watch.moments.Changes.{IsBetween, is_taken, left_between}

self_is : (a b : Site) → (same_site a a && same_site b b) ≡ true
self_is a b = rw (site_self a, site_self b) refl

-- the packets that are put on a link

put_packets : (a b : Site) (ps : List InFlight) → unwrap_or (option_map (λ (p : Put). p.packets) (find (is_put_on a b) (on_link a b ps))) [] ≡ ps
put_packets a b [] = refl
put_packets a b (p ∷ ps) = rw (self_is a b) refl

not_put : (a b c d : Site) (ps : List InFlight) → (same_site c a && same_site d b) ≡ false → find (is_put_on a b) (on_link c d ps) ≡ None
not_put a b c d [] e = refl
not_put a b c d (p ∷ ps) e = rw e refl

abbrev packets_put : Log → Log → Site × Site → List (Packet Msg)
packets_put old new l = drop (left_between old new l) (link_of l.0 l.1 new).there.flight

abbrev tells_put : Input → Log → Log → Site × Site → List Put
tells_put g old new l = put_between (happened_at g old new) (link_moment old l) (link_moment new l)

pub put_is : (g : Input) (old new : Log) (a b : Site) (j : ℕ) → slice_get (all_links g) j ≡ Some (a, b)
    → put_on a b (change g old new).put ≡ map (in_flight (length (sent a b old))) (packets_put old new (a, b))
put_is g old new a b j there =
    ap (λ ps. put_on a b ps) (each_change (put_between (happened_at g old new)) (link_moment old) (link_moment new) (all_links g))
    ∙ ap (λ o. unwrap_or (option_map (λ (p : Put). p.packets) o) []) (found_in (is_put_on a b) (here a b) (tells_put g old new) (a, b)
    (that_one a b) (λ l e. not_put a b l.0 l.1 _ e) (self_is a b) (all_links g) j there)
    ∙ put_packets a b (map (in_flight (length (sent a b old))) (packets_put old new (a, b)))

-- how many messages are handed over

abbrev tells_handed : Input → Log → Log → Site × Site → List Handed
tells_handed g old new l = handed_between (happened_at g old new) (link_moment old l) (link_moment new l)

not_handed : (a b : Site) (h : Handed) (t : Bool) → is_handed_on a b h ≡ false → find (is_handed_on a b) (if t then [] else h ∷ []) ≡ None
not_handed a b h true e = refl
not_handed a b h false e = rw e refl

handed_is : (g : Input) (old new : Log) (a b : Site) (j : ℕ) → slice_get (all_links g) j ≡ Some (a, b)
    → handed_on a b (change g old new).handed (handed a b old) ≡ handed a b new
handed_is g old new a b j there =
    let upto : Handed = record { from = a; to = b; upto = handed a b new } in
    ap (λ hs. handed_on a b hs (handed a b old)) (each_change (handed_between (happened_at g old new)) (link_moment old) (link_moment new) (all_links g))
    ∙ ap (λ o. unwrap_or (option_map (λ (h : Handed). h.upto) o) (handed a b old)) (found_in (is_handed_on a b) (here a b) (tells_handed g old new) (a, b)
    (that_one a b) (λ l e. not_handed a b _ _ e) (self_is a b) (all_links g) j there)
    ∙ elim (handed a b old == handed a b new) as (λ t. (handed a b old == handed a b new) ≡ t
    → unwrap_or (option_map (λ (h : Handed). h.upto) (find (is_handed_on a b) (if t then [] else upto ∷ []))) (handed a b old) ≡ handed a b new) [
      | true ↦ λ e. eqb-true (handed a b old) (handed a b new) e
      | false ↦ λ e. rw (self_is a b) refl
    ] refl

-- the flight

kept_mapped : {A B : Type 0} (f : A → B) (t : Bool) (k : ℕ) (xs : List A) → kept_if t k (map f xs) ≡ map f (kept_if t k xs)
kept_mapped f false k xs = refl
kept_mapped f true k xs = (λ i. take-map f k xs i ++ drop-map f (k + 1) xs i) ∙ sym (map-append f (take k xs) (drop (k + 1) xs))

abbrev flight_of : Site → Site → Log → List (Packet Msg)
flight_of a b log = (link_of a b log).there.flight

put_behind : (g : Input) (old new : Log) (a b : Site) → IsBetween g old new
    → flight_of a b new ≡ kept_between old new (a, b) ++ packets_put old new (a, b)
put_behind g old new a b i =
    let k = link_begins g old new (a, b) i in
    let rest : packets_put old new (a, b) ≡ k.0 =
    ap (λ n. drop n (flight_of a b new)) (sym (as_many_left old new (a, b))) ∙ ap (drop (length (kept_between old new (a, b)))) k.1
    ∙ drop-append_seam (kept_between old new (a, b)) k.0 in
    k.1 ∙ ap (λ ps. kept_between old new (a, b) ++ ps) (sym rest)

flight_is : (g : Input) (old new : Log) (a b : Site) (j : ℕ) → IsBetween g old new → slice_get (all_links g) j ≡ Some (a, b)
    → flight_left (change g old new) (known_link old (a, b)) ++ map flying (put_on a b (change g old new).put) ≡ map taken (flight_of a b new)
flight_is g old new a b j i there =
    let n : ℕ = length (sent a b old) in
    let left : flight_left (change g old new) (known_link old (a, b)) ≡ map taken (kept_between old new (a, b)) =
    kept_mapped taken (is_taken (last_event new) (found_by (last_event new) old new) (a, b)) (place_in (last_event new) - 1) (flight_of a b old) in
    let added : map flying (put_on a b (change g old new).put) ≡ map taken (packets_put old new (a, b)) =
    ap (map flying) (put_is g old new a b j there) ∙ all_fly n (packets_put old new (a, b)) in
    (λ x. left x ++ added x) ∙ sym (map-append taken (kept_between old new (a, b)) (packets_put old new (a, b)))
    ∙ ap (map taken) (sym (put_behind g old new a b i))

-- the messages

messages_are : (g : Input) (old new : Log) (a b : Site) (j : ℕ) → IsBetween g old new → slice_get (all_links g) j ≡ Some (a, b)
    → sent a b old ++ filter_map told (put_on a b (change g old new).put) ≡ sent a b new
messages_are g old new a b j i there =
    let n : ℕ = length (sent a b old) in
    let grows = link_grows g old new (a, b) i in
    let rest : packets_put old new (a, b) ≡ grows.added =
    ap (λ k. drop k (flight_of a b new)) (sym grows.left_is) ∙ ap (drop (length grows.kept)) grows.flight_is ∙ drop-append_seam grows.kept grows.added in
    let news = ap (filter (is_above n)) rest ∙ grows.news in
    ap (λ ps. sent a b old ++ filter_map told ps) (put_is g old new a b j there)
    ∙ ap (λ ms. sent a b old ++ ms) (new_messages n (packets_put old new (a, b)) grows.more news) ∙ sym grows.sent_is

pub link_read : (g : Input) (old new : Log) (a b : Site) (j : ℕ) → IsBetween g old new → slice_get (all_links g) j ≡ Some (a, b)
    → read_link (change g old new) (known_link old (a, b)) ≡ known_link new (a, b)
link_read g old new a b j i there =
    let flight = flight_is g old new a b j i there in
    let messages = messages_are g old new a b j i there in
    let over = handed_is g old new a b j there in
    λ x. record { from = a; to = b; flight = flight x; messages = messages x; handed = over x }
