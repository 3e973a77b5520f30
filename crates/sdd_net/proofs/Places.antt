-- One channel among all.
use Rattle.sdd_net.proofs.All.{Changes, Channel, FitsWay, IsLive, IsLiveAt, IsTrue, List, Matches, Some, Way, arith, get_or, length, nat_tests, refl, slice_get, slice_get_read, slice_set, subst, suc, ℕ, ◌<◌, ◌∷◌, ◌≡◌}
use Rattle.sdd_net.proofs.Lists.{get-set_same, get-set_other}

module _ {M : Type 0} where
  pub live_within : (channels : List (Channel M)) (at : ℕ) → IsLiveAt (slice_get channels at) → at < length channels
  live_within (c ∷ cs) (suc at) h = let i = live_within cs at h in omega arith
  live_within _ _ h = omega arith

  -- the channel that is read at a place
  pub is_there : (channels : List (Channel M)) (at : ℕ) (c : Channel M)
      → IsLiveAt (slice_get channels at) → c ≡ get_or channels at c → slice_get channels at ≡ Some c
  is_there channels at c h e = slice_get_read channels (length channels) at c refl (live_within channels at h) e

  live_there : (channels : List (Channel M)) (at : ℕ) (c : Channel M)
      → IsLiveAt (slice_get channels at) → c ≡ get_or channels at c → IsLive c
  live_there channels at c h e = subst IsLiveAt (is_there channels at c h e) h

  pub live_sender : (channels : List (Channel M)) (at : ℕ) (c : Channel M)
      → IsLiveAt (slice_get channels at) → c ≡ get_or channels at c → IsTrue c.sender.live
  live_sender channels at c h e = (live_there channels at c h e).sender

  pub live_flight : (channels : List (Channel M)) (at : ℕ) (c : Channel M)
      → IsLiveAt (slice_get channels at) → c ≡ get_or channels at c → IsTrue c.flight.live
  live_flight channels at c h e = (live_there channels at c h e).flight

  pub live_receiver : (channels : List (Channel M)) (at : ℕ) (c : Channel M)
      → IsLiveAt (slice_get channels at) → c ≡ get_or channels at c → IsTrue c.receiver.live
  live_receiver channels at c h e = (live_there channels at c h e).receiver

  pub fits_there : (channels : List (Channel M)) (at : ℕ) (c : Channel M) (w : Way M)
      → IsLiveAt (slice_get channels at) → c ≡ get_or channels at c → FitsWay (slice_get channels at) w → Matches c w
  fits_there channels at c w h e f = subst (λ o. FitsWay o w) (is_there channels at c h e) f

  -- the channel is changed in its place
  pub changes : (channels : List (Channel M)) (at : ℕ) (c d : Channel M) (w : Way M)
      → IsLiveAt (slice_get channels at) → c ≡ get_or channels at c → Matches d w
      → Changes channels (slice_set channels at d) at w
  changes channels at c d w h e m = grind (arith, nat_tests, get-set_same, is_there, get-set_other)

pub ruleset live_places = (live_within, live_sender, live_flight, live_receiver)
