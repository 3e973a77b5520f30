-- What all sites have left to do, and how many messages are left to be handed over.
use Rattle.sdd_progress.proofs.AllEnds.{Act, D, Did, Does, Entry, Hand, Input, IsPermitted, Log, Msg, Setting, Site, Some, T, U, all_links, all_new, and_left, and_right, arith, base_of, delivered, delivered_puts, hand_on, handed, inl, inr, link_of, local_of, next_at, number_is, same_Some, same_here, same_is, same_site, setting_of, sites, slice_get, some_in, subst, suc, sym, t_fair, true, true_or_false, u_fair, ℕ, ◌&&◌, ◌-◌, ◌<◌, ◌∷◌, ◌≡◌, ◌≤◌}
use Rattle.sdd_progress.proofs.AtD.{d_falls, d_work}
use Rattle.sdd_progress.proofs.AtT.{t_falls, t_work}
use Rattle.sdd_progress.proofs.AtU.{u_falls, u_work}
use Rattle.sdd_progress.proofs.Sums.{total, total_less, total_up}
use Rattle.sdd_obligations.specs.site_module.SiteLog as site
use Rattle.sdd_obligations.specs.dm.Views as dm_views
use Rattle.sdd_obligations.specs.tm.Views as tm_views
use Rattle.sdd_obligations.specs.umod.Views as um_views
use Rattle.sdd_obligations.proofs.dm.ViewSteps as dm
use Rattle.sdd_obligations.proofs.tm.ViewSteps as tm
use Rattle.sdd_obligations.proofs.umod.ViewSteps as um

abbrev pub site_work : Setting → Site → site.Log → ℕ
site_work s U l = u_work s l
site_work s (T t) l = t_work s l
site_work s (D d) l = d_work s l

act_falls : (g : Input) (log : Log) (at : Site) (act : Act) → IsPermitted g log → next_at g log at ≡ Some act
    → site_work (setting_of g at) at (Did act ∷ local_of g at log) < site_work (setting_of g at) at (local_of g at log)
act_falls g log U act h e =
    u_falls (setting_of g U) (base_of g log) (local_of g U log) (u_fair g log h) (all_new g U log h) act
    (um.next_is_due g.catalogue (base_of g log) (um_views.view_of (setting_of g U) (local_of g U log)) act (some_in g log U act e))
act_falls g log (T t) act h e =
    t_falls (setting_of g (T t)) (base_of g log) (local_of g (T t) log) (t_fair g t log h) (all_new g (T t) log h) act
    (tm.next_is_due g.catalogue (base_of g log) (tm_views.view_of (setting_of g (T t)) (local_of g (T t) log)) act (some_in g log (T t) act e))
act_falls g log (D d) act h e =
    d_falls (setting_of g (D d)) (local_of g (D d) log) act
    (dm.next_is_due (dm_views.home_of (setting_of g (D d))) (dm_views.view_of (setting_of g (D d)) (local_of g (D d) log)) act (some_in g log (D d) act e))

-- of all sites

abbrev pub work_at : Input → Log → Site → ℕ
work_at g log at = site_work (setting_of g at) at (local_of g at log)

abbrev pub acts_left : Input → Log → ℕ
acts_left g log = total (work_at g log) (sites g.catalogue.tms g.catalogue.dms)

module _ (g : Input) (log : Log) (at : Site) (act : Act) (h : IsPermitted g log) (due : next_at g log at ≡ Some act) where
  none_rises : (x : Site) → work_at g (Does at act ∷ log) x ≤ work_at g log x
  none_rises x = elim (true_or_false (same_site x at)) [
    | inl e ↦ let l : work_at g (Does at act ∷ log) x < work_at g log x =
        subst (λ y. work_at g (Does at act ∷ log) y < work_at g log y) (sym (same_is x at e)) (rw (same_here at) (act_falls g log at act h due)) in omega (arith, l)
    | inr e ↦ rw e (omega arith)
  ]

  pub does_falls : (k : ℕ) → slice_get (sites g.catalogue.tms g.catalogue.dms) k ≡ Some at → acts_left g (Does at act ∷ log) < acts_left g log
  does_falls k there = total_less (work_at g (Does at act ∷ log)) (work_at g log)
      (sites g.catalogue.tms g.catalogue.dms) k at there none_rises (rw (same_here at) (act_falls g log at act h due))

-- messages that are delivered and not handed over

abbrev pub hands_on : Log → Site × Site → ℕ
hands_on log l = delivered (link_of l.0 l.1 log).there - handed l.0 l.1 log

abbrev pub hands_left : Input → Log → ℕ
hands_left g log = total (hands_on log) (all_links g)

pub act_hands : (g : Input) (log : Log) (at : Site) (act : Act) → hands_left g (Does at act ∷ log) ≤ hands_left g log
act_hands g log at act = grind (arith, total_up, hands_on, delivered_puts)

module _ (log : Log) (a b : Site) (n : ℕ) (m : Msg) (next : n ≡ suc (handed a b log)) (there : n ≤ delivered (link_of a b log).there) where
  abbrev ends : Site → Site → Site × Site
  ends x y = (x, y)

  same_link : (x y : Site) → (same_site x a && same_site y b) ≡ true → ends a b ≡ ends x y
  same_link x y e = grind (arith, ends, same_is, and_left, and_right)

  none_more : (l : Site × Site) → hands_on (Hand a b n m ∷ log) l ≤ hands_on log l
  none_more l = grind (arith, true_or_false, hands_on, same_link, same_here)

  pub hand_falls : (g : Input) (k : ℕ) → slice_get (all_links g) k ≡ Some (a, b) → hands_left g (Hand a b n m ∷ log) < hands_left g log
  hand_falls g k at =
      total_less (hands_on (Hand a b n m ∷ log)) (hands_on log) (all_links g) k (a, b) at none_more (rw (same_here a, same_here b) (omega arith))

-- what is handed over on a link is the message after those that are handed

pub record IsHandOn (log : Log) (a b : Site) (e : Entry) : Type 0 where
  pub number : ℕ
  pub msg : Msg
  pub is : e ≡ Hand a b number msg
  pub next : number ≡ suc (handed a b log)
  pub there : number ≤ delivered (link_of a b log).there

pub is_hand_on : (log : Log) (a b : Site) (e : Entry) → hand_on log (a, b) ≡ Some e → IsHandOn log a b e
is_hand_on log a b e h = (grind (arith, number_is, same_Some))
