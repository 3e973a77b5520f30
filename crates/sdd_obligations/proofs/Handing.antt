-- What is next to be handed over: it was put, it goes along a link of the network, and no time in it is late.
use Rattle.sdd_obligations.proofs.All.{AllLt, D, Hand, Input, IsLawful, IsNumbered, IsPermitted, IsRouted, IsRunner, IsSmall, IsWithin, Log, Msg, Site, Some, T, U, arith, hand_was_put, handed, is_link, lawful_permitted, link_parts, local_of, next, number_of, puts_to, sites, slice_get, times_of, true, ℕ, ◌^◌, ◌∷◌, ◌≡◌, ◌≤◌}
use Rattle.sdd_obligations.proofs.Early.{times_below}
use Rattle.sdd_obligations.proofs.SitesAndLinks.{from_there, link_of_links, site_there, t_of_sites}
use Rattle.sdd_needs.proofs.OfNext.{IsThere, of_next}
use Rattle.sdd_obligations.proofs.Routed.{routed}

-- with it the log is permitted, and it is the next of those that were put on its link
pub record IsHanded (g : Input) (log : Log) (a b : Site) (n : ℕ) (m : Msg) : Type 0 where
  pub permitted : IsPermitted g (Hand a b n m ∷ log)
  pub place : slice_get (puts_to b (local_of g a log)) (handed a b log) ≡ Some m
  pub route : IsRouted a b m
  pub linked : is_link g.catalogue.tms g.catalogue.dms a b ≡ true
  pub from_there : IsThere (sites g.catalogue.tms g.catalogue.dms) a
  pub to_there : IsThere (sites g.catalogue.tms g.catalogue.dms) b
  pub from_number : IsNumbered a
  pub from_small : IsRunner a → number_of a ≤ 63
  pub times : AllLt (2 ^ 60) (times_of m)

numbered_there : (tms dms : ℕ) (a : Site) → IsThere (sites tms dms) a → IsNumbered a
numbered_there tms dms (T t) k = (t_of_sites tms dms t k).0
numbered_there tms dms _ k = tt

small_there : (tms dms : ℕ) (a : Site) → tms ≤ 63 → IsThere (sites tms dms) a → IsRunner a → number_of a ≤ 63
small_there tms dms U l k r = omega arith
small_there tms dms (T t) l k r = let i = t_of_sites tms dms t k in omega (arith, l, i.1)
small_there tms dms (D d) l k r = absurd r

pub is_handed : (g : Input) (log : Log) (a b : Site) (n : ℕ) (m : Msg) → IsSmall g → IsLawful g log → IsWithin log
    → next g log ≡ Some (Hand a b n m) → IsHanded g log a b n m
is_handed g log a b n m s l w e =
    let p = lawful_permitted g (Hand a b n m ∷ log) s.once (e, l) in
    let put = (hand_was_put g log a b n m p.0).1 in
    let k = of_next g log (Hand a b n m) s.few_ticks l e in
    record {
      permitted = p;
      place = put;
      route = routed g log a b (handed a b log) m p.1 put;
      linked = link_of_links g.catalogue.tms g.catalogue.dms a b k;
      from_there = from_there g a b k;
      to_there = site_there g.catalogue.tms g.catalogue.dms b
          (link_parts g.catalogue.tms g.catalogue.dms a b (link_of_links g.catalogue.tms g.catalogue.dms a b k)).to;
      from_number = numbered_there g.catalogue.tms g.catalogue.dms a (from_there g a b k);
      from_small = small_there g.catalogue.tms g.catalogue.dms a (let t = s.few_tms in omega (arith, t)) (from_there g a b k);
      times = times_below g log a b (handed a b log) m s l w put;
    }
