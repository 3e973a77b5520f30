-- Messages that are to be handed over, one after the other, each with all that it makes due at its site.
use Rattle.sdd_log.proofs.All.{Act, AllHanded, AreDue, Call, Hand, Handed, Input, IsFirst, IsLawful, List, Log, Msg, None, Puts, Remain, Site, Some, TakesAway, Waits, [], and_left, and_right, ap, arith, base_of, calls_of, delivered, false, hand_due, handed, link, link_of, link_parts, local_of, mark_due, message_at, next, next_in, puts, puts_past, refl, same_here, same_is, same_site, sends_of, sent, slice_get, subst, suc, sym, takes_part, true, ℕ, ◌&&◌, ◌+◌, ◌-◌, ◌∙◌, ◌∷◌, ◌≡◌}
use Rattle.sdd_log.proofs.Steps.{after_acts, hand_and_acts}
use Rattle.sdd_log.proofs.Acts.{calls_acts, handed_acts, takes_part_acts, within_acts}
use Rattle.sdd_log.proofs.FirstHand.{IsDone, each_weaker, hand_is_due, listed}
use Rattle.sdd_log.proofs.Links.{delivered_put, sent_stays}

-- what a site puts

pub delivered_puts : (x y at : Site) (sends : List (Site × Msg)) (calls : List (Call Msg))
    → delivered (link x y (puts at sends calls)).there ≡ delivered (link x y calls).there
delivered_puts x y at [] calls = refl
delivered_puts x y at (s ∷ sends) calls = delivered_puts x y at sends (Puts at s.0 s.1 ∷ calls) ∙ delivered_put x y at s.0 s.1 calls

sent_puts : (x y at : Site) (sends : List (Site × Msg)) (calls : List (Call Msg)) (i : ℕ) (m : Msg) → slice_get (link x y calls).there.sent i ≡ Some m
    → slice_get (link x y (puts at sends calls)).there.sent i ≡ Some m
sent_puts x y at [] calls i m e = e
sent_puts x y at (s ∷ sends) calls i m e = sent_puts x y at sends (Puts at s.0 s.1 ∷ calls) i m (sent_stays x y (Puts at s.0 s.1) calls i m e)

pub delivered_acts : (x y at : Site) (acts : List Act) (log : Log) → delivered (link_of x y (after_acts at acts log)).there ≡ delivered (link_of x y log).there
delivered_acts x y at acts log = ap (λ c. delivered (link x y c).there) (calls_acts at acts log) ∙ delivered_puts x y at (sends_of acts) (calls_of log)

pub no_mark_acts : (g : Input) (at : Site) (acts : List Act) (log : Log) → mark_due g log ≡ None → mark_due g (after_acts at acts log) ≡ None
no_mark_acts g at [] log e = e
no_mark_acts g at (a ∷ acts) log e = no_mark_acts g at acts _ refl

pub remain_acts : (at : Site) (acts : List Act) (log : Log) (a b : Site) (rest : List Msg) → Remain log a b rest → Remain (after_acts at acts log) a b rest
remain_acts at acts log a b rest r = grind (arith, after_acts, handed_acts, delivered_acts, slice_get, link, calls_acts, sent_puts, sends_of, calls_of)

-- a hand

remain_handed : (log : Log) (a b : Site) (m : Msg) (rest : List Msg) → Remain log a b (m ∷ rest) → Remain (Hand a b (suc (handed a b log)) m ∷ log) a b rest
remain_handed log a b m rest r =
    let h : handed a b (Hand a b (suc (handed a b log)) m ∷ log) ≡ suc (handed a b log) = (rw (same_here a, same_here b) refl) in
    record {
      count = omega (arith, h, r.count);
      messages = λ i x e.
          let f : handed a b (Hand a b (suc (handed a b log)) m ∷ log) + i ≡ handed a b log + suc i = omega (arith, h) in rw f (r.messages (suc i) x e);
    }

pub remain_other : (log : Log) (a b x y : Site) (n : ℕ) (m : Msg) (rest : List Msg) → (same_site x a && same_site y b) ≡ false → Remain log x y rest
    → Remain (Hand a b n m ∷ log) x y rest
remain_other log a b x y n m rest e r = grind (arith)

-- the first of the messages

done_at : (log : Log) (x y b : Site) → same_site y b ≡ true → IsDone log x b → IsDone log x y
done_at log x y b e d = subst (λ z. IsDone log x z) (sym (same_is y b e)) d

none_earlier : (g : Input) (log : Log) (b : Site) (kept : Site → List Msg) → Waits g log b kept → (x : Site) → kept x ≡ [] → (y : Site) → IsDone log x y
none_earlier g log b kept w x e y = grind (arith, IsDone, done_at)

part_handed : (y a b : Site) (n : ℕ) (m : Msg) (log : Log) → takes_part y (Hand a b n m ∷ log) ≡ takes_part y log
part_handed y a b n m log = grind arith

module _ (g : Input) (log : Log) (b : Site) (kept : Site → List Msg) (w : Waits g log b kept) (a : Site) (m : Msg) (rest : List Msg)
    (f : IsFirst g kept a b m rest) where
  first_remains : Remain log a b (m ∷ rest)
  first_remains = subst (λ l. Remain log a b l) f.here (w.remain a)

  pub first_message : message_at a b (suc (handed a b log)) log ≡ Some m
  first_message =
      let e : suc (handed a b log) - 1 ≡ handed a b log + 0 = omega arith in ap (λ n. slice_get (sent a b log) n) e ∙ first_remains.messages 0 m refl

  first_due : hand_due g log ≡ Some (Hand a b (suc (handed a b log)) m)
  first_due =
      hand_is_due g log f.before f.after a b m f.parts f.linked w.part (omega (arith, first_remains.count)) first_message
      (each_weaker (λ x. kept x ≡ []) (λ x. (y : Site) → IsDone log x y) f.before (λ x e. none_earlier g log b kept w x e) f.earlier)
      (λ y e. w.others a y e)

  pub first_next : next g log ≡ Some (Hand a b (suc (handed a b log)) m)
  first_next = rw (w.no_mark, w.no_site, first_due) refl

  left_of : (less : Site → List Msg) → TakesAway kept less a rest → (x : Site) → Remain (Hand a b (suc (handed a b log)) m ∷ log) x b (less x)
  left_of less t x =
      elim (same_site x a) as (λ c. same_site x a ≡ c → Remain (Hand a b (suc (handed a b log)) m ∷ log) x b (less x)) [
        | true ↦ λ p. subst (λ z. Remain (Hand a b (suc (handed a b log)) m ∷ log) z b (less z)) (sym (same_is x a p))
            (subst (λ l. Remain (Hand a b (suc (handed a b log)) m ∷ log) a b l) (sym t.here) (remain_handed log a b m rest first_remains))
        | false ↦ λ p. subst (λ l. Remain (Hand a b (suc (handed a b log)) m ∷ log) x b l) (sym (t.others x p))
            (remain_other log a b x b (suc (handed a b log)) m (kept x) (and_left (same_site x a) (same_site b b) p) (w.remain x))
      ] refl

  -- what its site does then are the next entries
  pub first_lawful : (acts : List Act) → AreDue (next_in g b (base_of g (Hand a b (suc (handed a b log)) m ∷ log))) (Handed a m ∷ local_of g b log) acts
      → IsLawful g (after_acts b acts (Hand a b (suc (handed a b log)) m ∷ log))
  first_lawful acts due =
      let k = link_parts g.catalogue.tms g.catalogue.dms a b f.linked in
      (hand_and_acts g a b (suc (handed a b log)) m acts log (listed g.catalogue.tms g.catalogue.dms b k.to) w.part w.no_mark w.no_site first_due due
      w.lawful).0

  -- it is handed over, and its site does what is due
  pub hands_first : (acts : List Act) (less : Site → List Msg) → TakesAway kept less a rest
      → AreDue (next_in g b (base_of g (Hand a b (suc (handed a b log)) m ∷ log))) (Handed a m ∷ local_of g b log) acts
      → puts_past (calls_of log) b (sends_of acts) ≡ false → Waits g (after_acts b acts (Hand a b (suc (handed a b log)) m ∷ log)) b less
  hands_first acts less t due few =
      let n : ℕ = suc (handed a b log) in
      let k = link_parts g.catalogue.tms g.catalogue.dms a b f.linked in
      let done = hand_and_acts g a b n m acts log (listed g.catalogue.tms g.catalogue.dms b k.to) w.part w.no_mark w.no_site first_due due w.lawful in
      record {
        lawful = done.0;
        within = within_acts b acts (Hand a b n m ∷ log) few (refl, w.within);
        no_mark = no_mark_acts g b acts (Hand a b n m ∷ log) refl;
        no_site = done.1;
        part = takes_part_acts b b acts (Hand a b n m ∷ log) ∙ part_handed b a b n m log ∙ w.part;
        remain = λ x. remain_acts b acts (Hand a b n m ∷ log) x b (less x) (left_of less t x);
        others = grind (arith, handed_acts, and_right, same_site, takes_part_acts, part_handed, delivered_acts);
      }

-- once none is left, all is handed over
pub all_handed : (g : Input) (log : Log) (b : Site) (kept : Site → List Msg) → Waits g log b kept → ((x : Site) → kept x ≡ []) → AllHanded log
all_handed g log b kept w none x y part = none_earlier g log b kept w x (none x) y part
