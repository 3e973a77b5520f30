-- What the network tells of all its links is what the definitions say of them.
use Rattle.sdd_net.proofs.All.{All, All-append, All-cons, All-head, All-map, All-nil, All-same, All-tail, All-weaker, Bool, Call, Channel, ChannelsRepresent, D, Deliver, Directions, Event, FitsWay, IsLiveAt, IsNet, IsTrue, Kept, List, None, Option, PlacedLink, Represents, Resend, Site, Some, T, U, Way, [], are_linked, arith, channel_on, cond, cons_option, deliveries_on, false, filter_map, filter_map-append, flat_map, flat_map-append, get_or, in_flight, in_flight_at, index_of, is_empty, is_link, is_quiet_link, is_site, le-leb, length, link, links, list_all, list_all_at, map, nat_lt, nat_tests, placed, quiet, quiet_on, range_with_len, refl, replicate, resend_on, resends_at, resends_now, round, sites, slice_get, subst, suc, take, take_all, take_more, true, zero, ℕ, ◌&&◌, ◌++◌, ◌+◌, ◌-◌, ◌<◌, ◌∙◌, ◌∷◌, ◌≡◌, ◌≤◌}
use Rattle.sdd_net.proofs.Matching.{flight_is, unacked_count, not_empty}
use Rattle.sdd_net.proofs.Directions.{link_back, back_is}
use Rattle.sdd_net.proofs.Deliveries.{fits_live}
use Rattle.sdd_net.proofs.Calls.{net_of, live_is}

range_within : (P : ℕ → Type 0) (a n : ℕ) → ((k : ℕ) → a ≤ k → k < a + n → P k) → All P (range_with_len a n)
range_within P a zero f = All-nil P
range_within P a (suc n) f = grind (arith, nat_tests, (range_within P (a + 1) n (λ k l m. f k (omega arith) (omega arith))))

-- the sites exist
sites_exist : (tms dms : ℕ) → All (λ s. is_site tms dms s ≡ true) (sites tms dms)
sites_exist tms dms =
    let exists : Site → Type 0 = λ s. is_site tms dms s ≡ true in
    let t : ℕ → Site = λ n. T (record { 0 = n }) in
    let d : ℕ → Site = λ n. D (record { 0 = n }) in
    let all_tms : List ℕ = range_with_len 1 tms in
    let all_dms : List ℕ = range_with_len 1 dms in
    All-cons exists U (map t all_tms ++ map d all_dms) refl
    (All-append exists (map t all_tms) (map d all_dms)
    (All-map exists t all_tms (range_within (λ n. exists (t n)) 1 tms (λ k l m. (rw (le-leb 1 k l, le-leb k tms (omega arith)) refl))))
    (All-map exists d all_dms (range_within (λ n. exists (d n)) 1 dms (λ k l m. (rw (le-leb 1 k l, le-leb k dms (omega arith)) refl)))))

abbrev Exists : ℕ → ℕ → Site × Site → Type 0
Exists tms dms l = IsTrue (is_link tms dms l.0 l.1)

abbrev AllExist : ℕ → ℕ → List (Site × Site) → Type 0
AllExist tms dms ls = All (Exists tms dms) ls

links_from : (tms dms : ℕ) (a : Site) (ss : List Site) → is_site tms dms a ≡ true
    → All (λ s. is_site tms dms s ≡ true) ss
    → AllExist tms dms (filter_map (λ b. cond (are_linked a b) (Some (a, b)) None) ss)
links_from tms dms a [] h all = All-nil (Exists tms dms)
links_from tms dms a (b ∷ ss) h all =
    elim (are_linked a b) as
    (λ c. are_linked a b ≡ c → AllExist tms dms
    (cons_option (cond c (Some (a, b)) None) (filter_map (λ b. cond (are_linked a b) (Some (a, b)) None) ss))) [
      | true ↦ λ e.
          All-cons (Exists tms dms) (a, b) (filter_map (λ b. cond (are_linked a b) (Some (a, b)) None) ss)
          (rw (h, (All-head (λ s. is_site tms dms s ≡ true) b ss all), e) refl) (links_from tms dms a ss h (All-tail (λ s. is_site tms dms s ≡ true) b ss all))
      | false ↦ λ e. links_from tms dms a ss h (All-tail (λ s. is_site tms dms s ≡ true) b ss all)
    ] refl

links_of : (tms dms : ℕ) (froms ss : List Site) → All (λ s. is_site tms dms s ≡ true) froms
    → All (λ s. is_site tms dms s ≡ true) ss
    → AllExist tms dms (flat_map (λ a. filter_map (λ b. cond (are_linked a b) (Some (a, b)) None) ss) froms)
links_of tms dms [] ss h all = All-nil (Exists tms dms)
links_of tms dms (a ∷ froms) ss h all =
    All-append (Exists tms dms) (filter_map (λ b. cond (are_linked a b) (Some (a, b)) None) ss)
    (flat_map (λ a. filter_map (λ b. cond (are_linked a b) (Some (a, b)) None) ss) froms)
    (links_from tms dms a ss (All-head (λ s. is_site tms dms s ≡ true) a froms h) all)
    (links_of tms dms froms ss (All-tail (λ s. is_site tms dms s ≡ true) a froms h) all)

-- each of the links exists
pub links_exist : (tms dms : ℕ) → AllExist tms dms (links tms dms)
links_exist tms dms = links_of tms dms (sites tms dms) (sites tms dms) (sites_exist tms dms) (sites_exist tms dms)

-- what is proved of each link that exists
on_links : (tms dms : ℕ) (P : Site × Site → Type 0) → ((l : Site × Site) → Exists tms dms l → P l)
    → All P (links tms dms)
on_links tms dms P f = All-weaker (Exists tms dms) P f (links tms dms) (links_exist tms dms)

-- what is known link by link, of the links and of what is kept of each
list_all_mapped : {A B : Type 0} (p : B → Bool) (q : A → Bool) (g : A → B) (xs : List A)
    → All (λ x. p (g x) ≡ q x) xs → list_all p (map g xs) ≡ list_all q xs
list_all_mapped p q g [] h = refl
list_all_mapped p q g (x ∷ xs) h = rw (All-head (λ x. p (g x) ≡ q x) x xs h, (list_all_mapped p q g xs (All-tail (λ x. p (g x) ≡ q x) x xs h))) refl

filter_map_mapped : {A B C : Type 0} (f : B → Option C) (h : A → Option C) (g : A → B) (xs : List A)
    → All (λ x. f (g x) ≡ h x) xs → filter_map f (map g xs) ≡ filter_map h xs
filter_map_mapped f h g [] e = refl
filter_map_mapped f h g (x ∷ xs) e =
    rw (All-head (λ x. f (g x) ≡ h x) x xs e, (filter_map_mapped f h g xs (All-tail (λ x. f (g x) ≡ h x) x xs e))) refl

flat_map_mapped : {A B C : Type 0} (f : B → List C) (h : A → List C) (g : A → B) (xs : List A)
    → All (λ x. f (g x) ≡ h x) xs → flat_map f (map g xs) ≡ flat_map h xs
flat_map_mapped f h g [] e = refl
flat_map_mapped f h g (x ∷ xs) e = rw (All-head (λ x. f (g x) ≡ h x) x xs e, (flat_map_mapped f h g xs (All-tail (λ x. f (g x) ≡ h x) x xs e))) refl

-- what represents a link at a place past the end
abbrev pub no_link : PlacedLink
no_link = record { from = U; to = U; there = 0; back = 0 }

module _ {M : Type 0} where
  resends_fits : (o p : Option (Channel M)) (w v : Way M) → FitsWay o w → FitsWay p v
      → resends_at o p ≡ (nat_lt w.acked (length w.sent) && (is_empty w.flight && is_empty v.flight))
  resends_fits o p w v h k = grind (arith, flight_is, not_empty, unacked_count)

  in_flight_fits : (o p : Option (Channel M)) (w v : Way M) → FitsWay o w → FitsWay p v
      → in_flight_at o p ≡ length w.flight + cond (nat_lt w.acked (length w.sent) && (is_empty w.flight && is_empty v.flight)) (length w.sent - w.acked) 0
  in_flight_fits o p w v h k = grind (arith, resends_fits, flight_is, unacked_count)

  -- the links of a network, with their places
  abbrev pub all_placed : Directions M → List PlacedLink
  all_placed d = map (placed d.tms d.dms) (links d.tms d.dms)

  abbrev resend_due : List (Call M) → Site × Site → Option Event
  resend_due calls l = cond (resends_now (link l.0 l.1 calls)) (Some (Resend l.0 l.1)) None

  abbrev deliveries_due : List (Call M) → Site × Site → List Event
  deliveries_due calls l = replicate (in_flight (link l.0 l.1 calls)) (Deliver l.0 l.1 1)

  module _ (d : Directions M) (calls : List (Call M)) (s : ChannelsRepresent d.tms d.dms d.channels calls) where
    quiet_is : list_all (quiet_on d.channels) (all_placed d) ≡ quiet (links d.tms d.dms) calls
    quiet_is =
        list_all_mapped (quiet_on d.channels) (λ l. is_quiet_link (link l.0 l.1 calls)) (placed d.tms d.dms)
        (links d.tms d.dms)
        (on_links d.tms d.dms
        (λ l. quiet_on d.channels (placed d.tms d.dms l) ≡ is_quiet_link (link l.0 l.1 calls))
        (λ l h. (grind (arith, flight_is, nat_tests, unacked_count))))

    back_fits : (a b : Site) → IsTrue (is_link d.tms d.dms a b) → FitsWay (channel_on d b a) (link a b calls).back
    back_fits a b h = (subst (λ w. FitsWay (slice_get d.channels (index_of d.tms d.dms b a)) w) (back_is d.tms d.dms a b calls h) (s b a (link_back d.tms d.dms a b h)))

    resends_are : filter_map (resend_on d.channels) (all_placed d) ≡ filter_map (resend_due calls) (links d.tms d.dms)
    resends_are =
        filter_map_mapped (resend_on d.channels) (resend_due calls) (placed d.tms d.dms) (links d.tms d.dms)
        (on_links d.tms d.dms (λ l. resend_on d.channels (placed d.tms d.dms l) ≡ resend_due calls l)
        (grind (arith, resends_fits, channel_on, link, back_fits)))

    deliveries_are : flat_map (deliveries_on d.channels) (all_placed d)
        ≡ flat_map (deliveries_due calls) (links d.tms d.dms)
    deliveries_are =
        flat_map_mapped (deliveries_on d.channels) (deliveries_due calls) (placed d.tms d.dms)
        (links d.tms d.dms)
        (on_links d.tms d.dms (λ l. deliveries_on d.channels (placed d.tms d.dms l) ≡ deliveries_due calls l)
        (grind (arith, in_flight_fits, channel_on, link, back_fits)))

  -- a link whose two channels are there
  abbrev pub IsLiveLink : List (Channel M) → PlacedLink → Type 0
  IsLiveLink channels l = IsLiveAt (slice_get channels l.there) × IsLiveAt (slice_get channels l.back)

  links_live : (d : Directions M) (calls : List (Call M)) → ChannelsRepresent d.tms d.dms d.channels calls
      → All (IsLiveLink d.channels) (all_placed d)
  links_live d calls s =
      All-map (IsLiveLink d.channels) (placed d.tms d.dms) (links d.tms d.dms)
      (on_links d.tms d.dms (λ l. IsLiveLink d.channels (placed d.tms d.dms l)) (grind (arith, fits_live, channel_on, link, back_fits)))

  -- the list of links that the network keeps
  pub all_is : (net : Kept (Directions M)) (live : Bool) (tms dms : ℕ) (channels : List (Channel M))
      (items all : List PlacedLink)
      → net_of live tms dms channels ≡ net → items ≡ all → all ≡ map (placed tms dms) (links tms dms)
      → items ≡ all_placed net.value
  all_is net live tms dms channels items all e f g = subst (λ n. items ≡ all_placed n.value) e (f ∙ g)

  pub live_at : (net : Kept (Directions M)) (live : Bool) (tms dms : ℕ) (channels : List (Channel M))
      (items all : List PlacedLink) (k : ℕ) (l : PlacedLink)
      → net_of live tms dms channels ≡ net → IsNet tms dms all live channels → IsTrue net.live
      → items ≡ all → k < length items → IsLiveLink net.value.channels (get_or items k l)
  live_at net live tms dms channels items all k l e n h f within =
      let before = n.represents (live_is net live tms dms channels e h) in
      let d = (net_of live tms dms channels).value in
      subst (λ n. IsLiveLink n.value.channels (get_or items k l)) e
      (All-same (IsLiveLink channels) items (all_placed d) (f ∙ n.all_links)
      (links_live d before.0 before.1) k l within)

  pub quiet_all : (net : Kept (Directions M)) (items : List PlacedLink) (k : ℕ) (calls : List (Call M))
      → items ≡ all_placed net.value → length items ≤ k
      → list_all (quiet_on net.value.channels) (take k items) ≡ true → Represents net calls
      → true ≡ quiet (links net.value.tms net.value.dms) calls
  quiet_all net items k calls e l h s = grind (arith, take_all, list_all, quiet_is)

  pub quiet_not : (net : Kept (Directions M)) (items : List PlacedLink) (k : ℕ) (d : PlacedLink)
      (calls : List (Call M))
      → items ≡ all_placed net.value → k < length items
      → quiet_on net.value.channels (get_or items k d) ≡ false → Represents net calls
      → false ≡ quiet (links net.value.tms net.value.dms) calls
  quiet_not net items k d calls e l h s = grind (arith, list_all_at, list_all, quiet_is)

  pub round_all : (net : Kept (Directions M)) (items : List PlacedLink) (k : ℕ)
      (resends deliveries events : List Event) (calls : List (Call M))
      → items ≡ all_placed net.value → length items ≤ k
      → resends ≡ filter_map (resend_on net.value.channels) (take k items)
      → deliveries ≡ flat_map (deliveries_on net.value.channels) (take k items)
      → events ≡ resends ++ deliveries → Represents net calls → events ≡ round (links net.value.tms net.value.dms) calls
  round_all net items k resends deliveries events calls e l f g h s = grind (arith, take_all, resends_are, deliveries_are)

-- what one link more adds
pub resends_more : {A B : Type 0} (f : A → Option B) (xs : List A) (k : ℕ) (d : A) (old new : List B)
    → k < length xs → old ≡ filter_map f (take k xs) → new ≡ old ++ filter_map f (get_or xs k d ∷ [])
    → new ≡ filter_map f (take (k + 1) xs)
resends_more f xs k d old new l e more = rw (more, e, take_more xs k d l, filter_map-append) refl

pub deliveries_more : {A B : Type 0} (f : A → List B) (xs : List A) (k : ℕ) (d : A) (old new : List B)
    → k < length xs → old ≡ flat_map f (take k xs) → new ≡ old ++ flat_map f (get_or xs k d ∷ [])
    → new ≡ flat_map f (take (k + 1) xs)
deliveries_more f xs k d old new l e more = rw (more, e, take_more xs k d l, flat_map-append) refl
