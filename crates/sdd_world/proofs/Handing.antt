-- A message is handed over, and its module does what is due, over plain worlds.
use Rattle.sdd_world.proofs.All.{Act, All, AllLinked, AllRepresent, AreDue, AreLinked, Bases, Carries, EndsBy, Followed, Hand, HandedOn, Handing, Input, IsFirst, IsLawful, IsPast, IsSiteOf, List, Log, MaySend, Msg, Outcome, Rec, Represent, Setting, Site, Sites, Some, Spooled, StayAtOthers, TakesAway, U, World, [], after_acts, position_of, good_input, and_right, ap, base_of, calls_acts, calls_of, ends_in_acts, first_lawful, first_next, fits, handed, hands_first, history_acts, link_parts, linked_acts, local_of, log_after, map, marks, marks_acts, next, next_in, next_of, nth_era, other_hand, puts, puts_past, records_of, refl, remain_other, same_here, same_site, sends_of, setting_of, subst, suc, sym, true, ℕ, ◌++◌, ◌∙◌, ◌∷◌, ◌≡◌, ◌≤◌}
use Rattle.sdd_world.proofs.Parting.{all_after, events_before, position_acts, redeclares_acts, spooled_acts, spooled_on}
use Rattle.sdd_sites.specs.needs.site_module.SiteLog as site

pub due_same : (g : Input) (b : Site) (bases : Bases) (l : site.Log) (acts : List Act)
    → AreDue (next_of b (setting_of g b) bases) l acts → AreDue (next_in g b bases) l acts
due_same g U bases l acts h = h
due_same g _ bases l acts h = h

pub are_linked : (g : Input) (at : Site) (sends : List (Site × Msg)) → AllLinked g at sends → AreLinked g.catalogue.tms g.catalogue.dms at sends
are_linked g at [] h = tt
are_linked g at (s ∷ sends) h = (h.0, are_linked g at sends h.1)

own_hand : (g : Input) (a b : Site) (n : ℕ) (m : Msg) (log : Log) → local_of g b (Hand a b n m ∷ log) ≡ site.Handed a m ∷ local_of g b log
own_hand g a b n m log = rw (same_here b) refl

module _ (w : World) (g : Input) (log : Log) (a b : Site) (m : Msg) (kept : Site → List Msg) (rest : List Msg)
    (h : Handing w g log b kept) (f : IsFirst g kept a b m rest) where
  abbrev handed_log : Log
  handed_log = Hand a b (suc (handed a b log)) m ∷ log

  hand_next : next g log ≡ Some (Hand a b (suc (handed a b log)) m)
  hand_next = first_next g log b kept h.waits a m rest f

  site_here : IsSiteOf g b
  site_here = (link_parts g.catalogue.tms g.catalogue.dms a b f.linked).to

  pub hand_fits : fits b (setting_of g b) (base_of g handed_log) (local_of g b log) a m
  hand_fits = h.parts.good.needs.hand g (good_input g h.parts.good) log a b (suc (handed a b log)) m h.waits.lawful h.waits.within hand_next

  pub hand_represents : Represent w.sites true b (setting_of g b) (local_of g b log)
  hand_represents = subst (λ z. Represent w.sites z b (setting_of g b) (local_of g b log)) h.waits.part (h.parts.sites b site_here)

  pub hand_asks : (setting : Setting) × (bases : Bases) × (l : site.Log) × Represent w.sites true b setting l × fits b setting bases l a m
  hand_asks = (setting_of g b, base_of g handed_log, local_of g b log, hand_represents, hand_fits)

  pub events_order : All {X = ℕ × Rec} (λ e. e.0 ≤ w.marks) w.history
  events_order = rw (h.marks_are, h.parts.history_is) (events_before log)

  -- what the module of the site did
  pub record Taken (s : Sites) (outcome : Outcome) : Type 0 where
    pub acts : List Act
    pub due : AreDue (next_in g b (base_of g handed_log)) (site.Handed a m ∷ local_of g b log) acts
    pub records_are : outcome.recs ≡ records_of acts
    pub sends_are : outcome.out ≡ sends_of acts
    pub after : Represent s true b (setting_of g b) (log_after acts (site.Handed a m ∷ local_of g b log))

  pub taken : (s : Sites) (outcome : Outcome)
      → ((setting : Setting) (bases : Bases) (l : site.Log) → Represent w.sites true b setting l → fits b setting bases l a m
      → site.Does (next_of b setting bases) (site.Handed a m ∷ l) outcome.recs outcome.out (Represent s true b setting))
      → Taken s outcome
  taken s outcome law =
      let d = law (setting_of g b) (base_of g handed_log) (local_of g b log) hand_represents hand_fits in
      record {
        acts = d.acts;
        due = due_same g b (base_of g handed_log) (site.Handed a m ∷ local_of g b log) d.acts d.due;
        records_are = d.records_are;
        sends_are = d.sends_are;
        after = d.after;
      }

  -- it may be sent
  pub may_send : (s : Sites) (outcome : Outcome) → Taken s outcome → MaySend (record w { sites = s }) b outcome
  may_send s outcome t =
      let lawful : IsLawful g (after_acts b t.acts handed_log) = first_lawful g log b kept h.waits a m rest f t.acts t.due in (
        g.catalogue.tms,
        g.catalogue.dms,
        calls_of log,
        h.parts.net,
        rw t.sends_are (are_linked g b (sends_of t.acts) (linked_acts g b t.acts handed_log (λ l act k e. h.parts.good.needs.sends g (good_input g h.parts.good) l b act k e) lawful)),
      )

  linked_out : (s : Sites) (outcome : Outcome) → Taken s outcome → AreLinked g.catalogue.tms g.catalogue.dms b outcome.out
  linked_out s outcome t =
      let lawful : IsLawful g (after_acts b t.acts handed_log) = first_lawful g log b kept h.waits a m rest f t.acts t.due in
      rw t.sends_are (are_linked g b (sends_of t.acts) (linked_acts g b t.acts handed_log (λ l act k e. h.parts.good.needs.sends g (good_input g h.parts.good) l b act k e) lawful))

  -- where there is no number for one of its messages, the limit ends the log
  pub hand_ends : (s : Sites) (outcome : Outcome) → Taken s outcome → IsPast (record w { sites = s }) b outcome → EndsBy g
  hand_ends s outcome t past =
      let lawful : IsLawful g (after_acts b t.acts handed_log) = first_lawful g log b kept h.waits a m rest f t.acts t.due in
      ends_in_acts g b t.acts handed_log
      (ap (λ o. puts_past (calls_of log) b o) (sym t.sends_are) ∙ past g.catalogue.tms g.catalogue.dms (calls_of log) h.parts.net (linked_out s outcome t))
      (refl, h.waits.within) lawful

  done_sites : (s : Sites) (outcome : Outcome) → (t : Taken s outcome) → StayAtOthers w.sites s b → AllRepresent s g (after_acts b t.acts handed_log)
  done_sites s outcome t others =
      all_after w.sites s g log handed_log b t.acts (site.Handed a m ∷ local_of g b log) (λ x p. refl)
      (λ x p. other_hand g x a b (suc (handed a b log)) m log p) (own_hand g a b (suc (handed a b log)) m log)
      (subst (λ z. Represent s z b (setting_of g b) (log_after t.acts (site.Handed a m ∷ local_of g b log))) (sym h.waits.part) t.after) others h.parts.sites

  -- it is recorded and sent
  pub hand_done : (s : Sites) (outcome : Outcome) (w2 : World) (less : Site → List Msg) → Taken s outcome → TakesAway kept less a rest
      → StayAtOthers w.sites s b → Followed (record w { sites = s }) w2 b outcome → HandedOn w2 g b less (position_of g log) w.spool
  hand_done s outcome w2 less t k others d =
      let sent_all = d.net g.catalogue.tms g.catalogue.dms (calls_of log) h.parts.net (linked_out s outcome t) in
      let calls : calls_of (after_acts b t.acts handed_log) ≡ puts b outcome.out (calls_of log) =
      calls_acts b t.acts handed_log ∙ ap (λ o. puts b o (calls_of log)) (sym t.sends_are) in
      record {
        more = after_acts b t.acts handed_log;
        handing = record {
          parts = record {
            good = h.parts.good;
            sound = h.parts.sound;
            whole_is = d.whole ∙ h.parts.whole_is;
            catalogue_is = d.catalogue ∙ h.parts.catalogue_is ∙ ap (λ k. (nth_era g k).catalogue) (sym (redeclares_acts b t.acts handed_log));
            txns_are = d.txns ∙ h.parts.txns_are;
            given_is = ap (λ v. v.items) d.given ∙ h.parts.given_is;
            history_is = d.history ∙ ap (λ r. w.history ++ map (λ x. (w.marks, x)) r) t.records_are
                ∙ ap (λ k. w.history ++ map (λ x. (k, x)) (records_of t.acts)) h.marks_are
                ∙ ap (λ xs. xs ++ map (λ x. (marks log, x)) (records_of t.acts)) h.parts.history_is ∙ sym (history_acts b t.acts handed_log);
            sites = subst (λ z. AllRepresent z g (after_acts b t.acts handed_log)) (sym d.sites) (done_sites s outcome t others);
            net = subst (λ c. Carries w2.net g.catalogue.tms g.catalogue.dms c) (sym calls) sent_all.1;
          };
          waits = hands_first g log b kept h.waits a m rest f t.acts less k t.due (ap (λ o. puts_past (calls_of log) b o) (sym t.sends_are) ∙ sent_all.0);
          marks_are = d.marks ∙ h.marks_are ∙ sym (marks_acts b t.acts handed_log);
          spooled = subst (λ boxes. Spooled g (after_acts b t.acts handed_log) boxes b) (sym d.spool)
              (spooled_acts g b t.acts handed_log w.spool b (spooled_on g log handed_log w.spool b (λ e. refl)
              (λ e apart x r k. remain_other log a b x e (suc (handed a b log)) m r (and_right (same_site x a) (same_site e b) apart) k) h.spooled));
        };
        position_is = position_acts g b t.acts handed_log;
        spool_is = d.spool;
      }
