-- Messages have come to a site: they are handed over, or kept.
use Rattle.sdd_world.proofs.All.{AllRepresent, Arrives, Deliver, HandedOn, Handing, Happened, Input, IsSiteOf, Keeping, List, Log, Mark, Msg, Site, Spooled, U, World, [], position_of, ap, delivers_messages, false, from_one, link_parts, refl, subst, sym, takes_part, true, ℕ, ◌∙◌, ◌∷◌, ◌≡◌}
use Rattle.sdd_world.proofs.Keeping.{keeping_begins, kept_happened}
use Rattle.sdd_world.proofs.Delivering.{beside, but_for, handed_calm}
use Rattle.sdd_world.proofs.Marking.{sites_marked}
use Rattle.sdd_world.proofs.Placing.{is_module, no_part_down}

module _ (w now : World) (g : Input) (log : Log) (a b : Site) (k : ℕ) (messages : List Msg) (h : Arrives w now g log a b k messages) where
  site_is : IsSiteOf g b
  site_is = (link_parts g.catalogue.tms g.catalogue.dms a b h.marked.possible.0).to

  spool_is : now.spool ≡ w.spool
  spool_is = ap (λ v. v.spool) h.same

  pub comes_to : (g2 : Input) × (log2 : Log) × IsSiteOf g2 b × Spooled g2 log2 now.spool U
  comes_to = (g, log, site_is, subst (λ z. Spooled g log z U) (sym spool_is) h.marked.spooled)

  pub site_and_spool : IsSiteOf g b × Spooled g log now.spool U
  site_and_spool = (site_is, subst (λ z. Spooled g log z U) (sym spool_is) h.marked.spooled)

  -- to a site that takes part
  pub to_hand : takes_part b log ≡ true → Handing now g (Mark (Deliver a b k) ∷ log) b (from_one a messages)
  to_hand part = record {
    parts = record {
      good = h.marked.parts.good;
      sound = h.marked.parts.sound;
      whole_is = ap (λ v. v.whole.now) h.same ∙ h.marked.parts.whole_is;
      catalogue_is = ap (λ v. v.catalogue.now) h.same ∙ h.marked.parts.catalogue_is;
      txns_are = ap (λ v. v.txns) h.same ∙ h.marked.parts.txns_are;
      given_is = ap (λ v. v.given.items) h.same ∙ h.marked.parts.given_is;
      history_is = ap (λ v. v.history) h.same ∙ h.marked.parts.history_is;
      sites = subst (λ z. AllRepresent z g (Mark (Deliver a b k) ∷ log)) (sym (ap (λ v. v.sites) h.same))
          (sites_marked w g log (Deliver a b k) h.marked tt (λ x. refl));
      net = h.net;
    };
    waits = delivers_messages g a b k log messages h.marked.marked part h.delivered_are;
    marks_are = ap (λ v. v.marks) h.same ∙ h.marked.marks_are;
    spooled = subst (λ z. Spooled g (Mark (Deliver a b k) ∷ log) z b) (sym spool_is) (beside g a b k log w.spool (but_for g log w.spool b h.marked.spooled));
  }

  pub is_over : (w2 : World) → takes_part b log ≡ true → HandedOn w2 g b (from_one a []) (position_of g (Mark (Deliver a b k) ∷ log)) now.spool → Happened w2 g log
  is_over w2 part d = handed_calm w now w2 g log a b k h.marked part h.same d

  -- to a module that is down
  pub is_keeping : takes_part b log ≡ false → Keeping g (Mark (Deliver a b k) ∷ log) now.spool a b messages
  is_keeping part =
      subst (λ z. Keeping g (Mark (Deliver a b k) ∷ log) z a b messages) (sym spool_is)
      (keeping_begins w g log a b k messages h.marked (is_module g b log site_is part) (no_part_down b log part) h.delivered_are)

  pub is_kept : (w2 : World) → takes_part b log ≡ false → w2 ≡ record now { spool = w2.spool } → Keeping g (Mark (Deliver a b k) ∷ log) w2.spool a b []
      → Happened w2 g log
  is_kept w2 part same kept =
      kept_happened w w2 now.net g log a b k messages h.marked part h.delivered_are h.net (same ∙ ap (λ (v : World). record v { spool = w2.spool }) h.same) kept
