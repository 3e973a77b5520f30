-- What each call of the network does to what it represents.
use Rattle.sdd_net.proofs.All.{ArePair, Bool, Call, Changes, ChangesPair, Channel, ChannelsRepresent, Delivers, Directions, Does, FitsWay, HasLink, IsNet, IsSoundLink, IsTrue, Kept, Link, List, Loses, None, Ok, Option, Packet, PlacedLink, Repeats, Represents, Result, Site, Some, Way, [], after_call, ap, arith, deliver, false, index_of, is_link, is_some, length, link, lose, mul-add-lt, nat_tests, on_link, packet_at, refl, repeat, replicate, site_count, slice_get, slice_get_within, subst, suc, sym, true, unused, unused_channel, with_flight, with_packet, without_at, ℕ, ◌*◌, ◌++◌, ◌-◌, ◌<◌, ◌∙◌, ◌∷◌, ◌≡◌, ◌≤◌}
use Rattle.sdd_net.proofs.Lists.{without-past}
use Rattle.sdd_net.proofs.Directions.{link_parts, link_back, place_below, index_apart, back_is, step, one_way}
use Rattle.sdd_net.proofs.Sound.{sound}

past : {A : Type 0} (xs : List A) (k : ℕ) → k < length xs → slice_get xs k ≡ None → ⊥
past (x ∷ xs) (suc k) l e = past xs k (omega arith) e
past _ _ l e = grind (arith, nat_tests)

get-replicate : {A : Type 0} (n k : ℕ) (x : A) → k < n → slice_get (replicate n x) k ≡ Some x
get-replicate (suc n) (suc k) x l = get-replicate n k x (omega arith)
get-replicate _ _ x l = grind (arith, nat_tests)

module _ {M : Type 0} where
  -- the value of a network with these fields
  abbrev pub net_of : Bool → ℕ → ℕ → List (Channel M) → Kept (Directions M)
  net_of live tms dms channels = record { live = live; value = record { tms = tms; dms = dms; channels = channels } }

  pub live_is : (net : Kept (Directions M)) (live : Bool) (tms dms : ℕ) (channels : List (Channel M))
      → net_of live tms dms channels ≡ net → IsTrue net.live → live ≡ true
  live_is net live tms dms channels e h = ap (λ n. n.live) e ∙ h

  pub represents_of : (net : Kept (Directions M)) (live : Bool) (tms dms : ℕ) (channels : List (Channel M)) (calls : List (Call M))
      → net_of live tms dms channels ≡ net → Represents net calls → ChannelsRepresent tms dms channels calls
  represents_of net live tms dms channels calls e h = subst (λ n. Represents n calls) (sym e) h

  pub exists_of : (net : Kept (Directions M)) (live : Bool) (tms dms : ℕ) (channels : List (Channel M)) (a b : Site)
      → net_of live tms dms channels ≡ net → HasLink net a b → IsTrue (is_link tms dms a b)
  exists_of net live tms dms channels a b e h = subst (λ n. HasLink n a b) (sym e) h

  pub does : (net : Kept (Directions M)) (live after : Bool) (tms dms : ℕ) (old new : List (Channel M)) (call : Call M)
      → net_of live tms dms old ≡ net → after ≡ true
      → ((calls : List (Call M)) → ChannelsRepresent tms dms old calls → ChannelsRepresent tms dms new (call ∷ calls)) → Does net (net_of after tms dms new) call
  does net live after tms dms old new call e l h = grind (arith, nat_tests)

  -- the fields still make a network
  pub still : (tms dms : ℕ) (all : List PlacedLink) (live after : Bool) (old new : List (Channel M)) (call : Call M)
      → IsNet tms dms all live old → live ≡ true
      → ((calls : List (Call M)) → ChannelsRepresent tms dms old calls → ChannelsRepresent tms dms new (call ∷ calls)) → IsNet tms dms all after new
  still tms dms all live after old new call n l h = record {
    few_tms = n.few_tms;
    few_dms = n.few_dms;
    all_links = n.all_links;
    represents = λ _. (let before = n.represents l in (call ∷ before.0, h before.0 before.1));
  }

  -- a call that changes one direction
  pub way_does : (tms dms : ℕ) (old new : List (Channel M)) (at : ℕ) (from to : Site) (call : Call M) (f : Link M → Link M)
      → ((a b : Site) (l : Link M) → after_call a b call l ≡ on_link a b from to f l) → ((l : Link M) → (f l).back ≡ l.back)
      → at ≡ index_of tms dms from to → IsTrue (is_link tms dms from to)
      → ((l : Link M) → IsSoundLink l → FitsWay (slice_get old at) l.there → Changes old new at (f l).there)
      → (calls : List (Call M)) → ChannelsRepresent tms dms old calls → ChannelsRepresent tms dms new (call ∷ calls)
  way_does tms dms old new at from to call f is same e exists change calls represents =
      let l : Link M = link from to calls in
      let c : Changes old new at (f l).there = change l (sound from to calls) (subst (λ k. FitsWay (slice_get old k) l.there) (sym e) (represents from to exists)) in
      one_way tms dms old new calls call from to f is same exists represents
      (subst (λ k. FitsWay (slice_get new k) (f l).there) e c.fits)
      (λ k ne. c.others k (λ x. ne (x ∙ e)))

  pub lose_does : (tms dms : ℕ) (old new : List (Channel M)) (at place : ℕ) (from to : Site)
      → at ≡ index_of tms dms from to → IsTrue (is_link tms dms from to)
      → ((w : Way M) → FitsWay (slice_get old at) w → Changes old new at (with_flight (without_at w.flight (place - 1)) w))
      → (calls : List (Call M)) → ChannelsRepresent tms dms old calls → ChannelsRepresent tms dms new (Loses from to place ∷ calls)
  lose_does tms dms old new at place from to e exists change =
      way_does tms dms old new at from to (Loses from to place) (lose place) (λ a b l. refl)
      (λ l. (grind (arith, nat_tests))) e exists
      (λ l s h. subst (Changes old new at) (sym (grind (arith, without-past))) (change l.there h))

  -- a packet is there where its place is not past the end
  pub repeated_way : {E : Type 0} (old new : List (Channel M)) (at place : ℕ) (there : Bool) (l : Link M) (o : Option (Packet M))
      → 1 ≤ place → packet_at place l ≡ o
      → (◌≡◌ {A = Result Bool E} (Ok there) (Ok true) → (w : Way M) (p : Packet M) → FitsWay (slice_get old at) w → slice_get w.flight
      (place - 1) ≡ Some p → Changes old new at (with_flight (w.flight ++ p ∷ []) w))
      → (◌≡◌ {A = Result Bool E} (Ok there) (Ok true) → (w : Way M) → FitsWay (slice_get old at) w → place ≤ length w.flight)
      → (◌≡◌ {A = Result Bool E} (Ok there) (Ok false) → (w : Way M) → FitsWay (slice_get old at) w → Changes old new at w × (length w.flight < place))
      → FitsWay (slice_get old at) l.there
      → Changes old new at (with_packet o (λ p. record l { there = with_flight (l.there.flight ++ p ∷ []) l.there }) l).there × (there ≡ is_some o)
  repeated_way old new at place true l (Some p) one e some inside none fits = (some refl l.there p fits e, refl)
  repeated_way old new at place there l o one e some inside none fits = grind (arith, slice_get_within, past)

  pub repeat_does : (tms dms : ℕ) (old new : List (Channel M)) (at place : ℕ) (from to : Site)
      → at ≡ index_of tms dms from to → IsTrue (is_link tms dms from to)
      → ((l : Link M) → FitsWay (slice_get old at) l.there → Changes old new at (repeat place l).there)
      → (calls : List (Call M)) → ChannelsRepresent tms dms old calls → ChannelsRepresent tms dms new (Repeats from to place ∷ calls)
  repeat_does tms dms old new at place from to e exists change =
      way_does tms dms old new at from to (Repeats from to place) (repeat place) (λ a b l. refl)
      (λ l. (grind (arith, nat_tests))) e exists (λ l s h. change l h)

  -- the two directions of a link
  pub pair_of : (tms dms : ℕ) (channels : List (Channel M)) (there back : ℕ) (from to : Site) (calls : List (Call M))
      → there ≡ index_of tms dms from to → back ≡ index_of tms dms to from → IsTrue (is_link tms dms from to)
      → ChannelsRepresent tms dms channels calls → ArePair channels there back (link from to calls)
  pair_of tms dms channels there back from to calls e f exists represents = grind (arith, index_apart, back_is, link_back)

  pub deliver_does : (tms dms : ℕ) (old new : List (Channel M)) (there back place : ℕ) (from to : Site)
      → there ≡ index_of tms dms from to → back ≡ index_of tms dms to from → IsTrue (is_link tms dms from to)
      → ((l : Link M) → ArePair old there back l → IsSoundLink l → ChangesPair old new there back (deliver place l))
      → (calls : List (Call M)) → ChannelsRepresent tms dms old calls → ChannelsRepresent tms dms new (Delivers from to place ∷ calls)
  deliver_does tms dms old new there back place from to e f exists change calls represents =
      let l : Link M = link from to calls in
      let c : ChangesPair old new there back (deliver place l) = change l (pair_of tms dms old there back from to calls e f exists represents)
      (sound from to calls) in
      step tms dms old new calls (Delivers from to place) from to (deliver place) (λ a b l. refl) exists represents
      (subst (λ k. FitsWay (slice_get new k) (deliver place l).there) e c.fits_there)
      (subst (λ k. FitsWay (slice_get new k) (deliver place l).back) f c.fits_back)
      (λ k x y. c.others k (λ z. x (z ∙ e)) (λ z. y (z ∙ f)))

pub unused_represent : (M : Type 0) (tms dms : ℕ) (channels : List (Channel M))
    → channels ≡ replicate (site_count tms dms * site_count tms dms) unused_channel → ChannelsRepresent tms dms channels []
unused_represent M tms dms channels e a b exists =
    let p = link_parts tms dms a b exists in
    let below : index_of tms dms a b < site_count tms dms * site_count tms dms = mul-add-lt _ _ _ _ (place_below tms dms a p.from)
    (place_below tms dms b p.to) in
    let at : slice_get channels (index_of tms dms a b) ≡ Some unused_channel =
    ap (λ cs. slice_get cs (index_of tms dms a b)) e ∙ get-replicate (site_count tms dms * site_count tms dms) (index_of tms dms a b) unused_channel below in
    subst (λ o. FitsWay {M = M} o unused) (sym at) (grind (arith, nat_tests))
