-- A delivery: nothing, an acknowledgement, or messages that are to be handed over, or kept where their module is down.
use Rattle.sdd_log.proofs.All.{Acked, Deliver, Delivers, Input, IsMarked, List, Log, Mark, Messages, Msg, Notes, Nothing, Remain, Rests, Site, Some, Waits, [], and_left, and_parts, and_right, ap, arith, calls_of, deliver, delivered, delivered_le, delivery, false, from_one, handed, if◌then◌else◌, length, length-append, link_of, newly_delivered, note_if, packet_at, refl, rises, same_here, same_is, same_site, sent, slice_get, sound, subst, suc, sym, takes_part, true, zero, ℕ, ◌&&◌, ◌++◌, ◌+◌, ◌∙◌, ◌∷◌, ◌≡◌, ◌≤◌}
use Rattle.sdd_log.proofs.Links.{by_nothing, by_acked, by_messages, delivered_deliver, newly_get, newly_length, sent_stays}
use Rattle.sdd_log.proofs.Marking.{handed_still, mark_within, none_by_mark, part_marked, rests_marked, rests_noted}

own_link : (a b : Site) (k : ℕ) (log : Log) → link_of a b (Mark (Deliver a b k) ∷ log) ≡ deliver k (link_of a b log)
own_link a b k log = (rw (same_here a, same_here b) refl)

-- what holds of the link itself and of every other holds of all
pub on_every : (P : Site → Site → Type 0) (a b : Site) → P a b → ((x y : Site) → (same_site x a && same_site y b) ≡ false → P x y) → (x y : Site) → P x y
on_every P a b here others x y = grind (arith, and_parts, same_is)

-- where the link delivers no more, none does
same_delivered : (a b : Site) (k : ℕ) (log : Log) → delivered (deliver k (link_of a b log)).there ≡ delivered (link_of a b log).there
    → (x y : Site) → delivered (link_of x y (Mark (Deliver a b k) ∷ log)).there ≡ delivered (link_of x y log).there
same_delivered a b k log e =
    on_every (λ x y. delivered (link_of x y (Mark (Deliver a b k) ∷ log)).there ≡ delivered (link_of x y log).there) a b
    (ap (λ l. delivered l.there) (own_link a b k log) ∙ e) (λ x y p. delivered_deliver x y a b k (calls_of log) p)

module _ (g : Input) (a b : Site) (k : ℕ) (log : Log) (m : IsMarked g log (Deliver a b k)) where
  pub delivers_nothing : delivery k (link_of a b log) ≡ Nothing → Rests g (Notes ∷ Mark (Deliver a b k) ∷ log)
  delivers_nothing e =
      let t = by_nothing (packet_at k (link_of a b log)) k (link_of a b log) (newly_delivered (link_of a b log).there (deliver k (link_of a b log)).there) e in
      rests_noted g log (Deliver a b k) m tt (λ x part. part) (ap note_if t.1)
      (handed_still log (Deliver a b k) tt (same_delivered a b k log t.0) m.rests.handed_all)

  pub delivers_ack : delivery k (link_of a b log) ≡ Acked → Rests g (Mark (Deliver a b k) ∷ log)
  delivers_ack e =
      let t = by_acked (packet_at k (link_of a b log)) k (link_of a b log) (newly_delivered (link_of a b log).there (deliver k (link_of a b log)).there) e in
      rests_marked g log (Deliver a b k) m (none_by_mark g log (Deliver a b k) tt (λ x part. part) m.rests.no_site) (ap note_if t.1)
      (handed_still log (Deliver a b k) tt (same_delivered a b k log t.0) m.rests.handed_all)

-- what holds of the members of two lists, by their places, holds of the two together
in_both : {A : Type 0} (P : ℕ → A → Type 0) (xs ys : List A) → ((j : ℕ) (y : A) → slice_get xs j ≡ Some y → P j y)
    → ((j : ℕ) (y : A) → slice_get ys j ≡ Some y → P (length xs + j) y) → (i : ℕ) (x : A) → slice_get (xs ++ ys) i ≡ Some x → P i x
in_both P [] ys f h i x e = let z : 0 + i ≡ i = omega arith in subst (λ n. P n x) z (h i x e)
in_both P (z ∷ xs) ys f h zero x e = f 0 x e
in_both P (z ∷ xs) ys f h (suc i) x e =
    let rest = in_both (λ j y. P (suc j) y) xs ys (λ j y p. f (suc j) y p)
    (λ j y p. let s : suc (length xs) + j ≡ suc (length xs + j) = omega arith in subst (λ n. P n y) s (h j y p)) i x e in
    grind (arith, rest)

-- an event that brings nothing leaves what is delivered
pub nothing_same : (a b : Site) (k : ℕ) (log : Log) → delivery k (link_of a b log) ≡ Nothing → (x y : Site)
    → delivered (link_of x y (Mark (Deliver a b k) ∷ log)).there ≡ delivered (link_of x y log).there
nothing_same a b k log e = grind (arith, same_delivered, by_nothing)

pub ack_same : (a b : Site) (k : ℕ) (log : Log) → delivery k (link_of a b log) ≡ Acked → (x y : Site)
    → delivered (link_of x y (Mark (Deliver a b k) ∷ log)).there ≡ delivered (link_of x y log).there
ack_same a b k log e = grind (arith, same_delivered, by_acked)

-- messages that come to a link's end stand after those that are there
pub remain_more : (a b : Site) (k : ℕ) (log : Log) (rest messages : List Msg) → delivery k (link_of a b log) ≡ Messages messages → Remain log a b rest
    → Remain (Mark (Deliver a b k) ∷ log) a b (rest ++ messages)
remain_more a b k log rest messages e r =
    let more : Log = Mark (Deliver a b k) ∷ log in
    let t = by_messages (packet_at k (link_of a b log)) (newly_delivered (link_of a b log).there (deliver k (link_of a b log)).there) messages e in
    let same : messages ≡ newly_delivered (link_of a b log).there (link_of a b more).there = t.0
    ∙ ap (λ l. newly_delivered (link_of a b log).there l.there) (sym (own_link a b k log)) in
    let up : delivered (link_of a b log).there ≤ delivered (link_of a b more).there = rises a b (Delivers a b k) (calls_of log) in
    let within : delivered (link_of a b more).there ≤ length (link_of a b more).there.sent = delivered_le (link_of a b more).there
    (delivered (link_of a b more).back) (sound a b (calls_of more)).there in
    let l = newly_length (link_of a b log).there (link_of a b more).there messages same up within in
    let c : handed a b log + length rest ≡ delivered (link_of a b log).there = r.count in
    let s : length (rest ++ messages) ≡ length rest + length messages = length-append rest messages in
    record {
      count = omega (arith, l, c, s);
      messages = in_both (λ i x. slice_get (link_of a b more).there.sent (handed a b log + i) ≡ Some x) rest messages
          (λ j y p. sent_stays a b (Delivers a b k) (calls_of log) (handed a b log + j) y (r.messages j y p))
          (λ j y p. let f : handed a b log + (length rest + j) ≡ delivered (link_of a b log).there + j = omega (arith, c) in
          rw f (newly_get (link_of a b log).there (link_of a b more).there messages j y same p));
    }

-- what remains on other links stays
pub remain_beside : (a b : Site) (k : ℕ) (log : Log) (x y : Site) (rest : List Msg) → (same_site x a && same_site y b) ≡ false → Remain log x y rest
    → Remain (Mark (Deliver a b k) ∷ log) x y rest
remain_beside a b k log x y rest e r = record {
  count = r.count ∙ sym (delivered_deliver x y a b k (calls_of log) e);
  messages = λ i m p. sent_stays x y (Delivers a b k) (calls_of log) (handed x y log + i) m (r.messages i m p);
}

-- where all was handed over, nothing remains
pub none_remains : (log : Log) (a b : Site) → handed a b log ≡ delivered (link_of a b log).there → Remain log a b []
none_remains log a b e = record { count = omega (arith, e); messages = λ i m p. cc }

-- messages for a module that isn't down are to be handed over
pub delivers_messages : (g : Input) (a b : Site) (k : ℕ) (log : Log) (messages : List Msg) → IsMarked g log (Deliver a b k) → takes_part b log ≡ true
    → delivery k (link_of a b log) ≡ Messages messages → Waits g (Mark (Deliver a b k) ∷ log) b (from_one a messages)
delivers_messages g a b k log messages m part e =
    let more : Log = Mark (Deliver a b k) ∷ log in
    let t = by_messages (packet_at k (link_of a b log)) (newly_delivered (link_of a b log).there (deliver k (link_of a b log)).there) messages e in
    record {
      lawful = (m.next_is, m.rests.lawful);
      within = (mark_within log (Deliver a b k) m.few, m.rests.within);
      no_mark = ap note_if t.1;
      no_site = none_by_mark g log (Deliver a b k) tt (λ x part. part) m.rests.no_site;
      part = part_marked b (Deliver a b k) log tt ∙ part;
      remain = λ x.
          elim (same_site x a) as (λ c. same_site x a ≡ c → Remain more x b (if c then messages else [])) [
            | true ↦ λ p. subst (λ z. Remain more z b messages) (sym (same_is x a p))
                (remain_more a b k log [] messages e (none_remains log a b (m.rests.handed_all a b part)))
            | false ↦ λ p. remain_beside a b k log x b [] (and_left (same_site x a) (same_site b b) p) (none_remains log x b (m.rests.handed_all x b part))
          ] refl;
      others = grind (arith, part_marked, delivered_deliver, calls_of, and_right, same_site);
    }

-- messages for a module that is down are kept, and the event is over
pub delivers_kept : (g : Input) (a b : Site) (k : ℕ) (log : Log) (messages : List Msg) → IsMarked g log (Deliver a b k) → takes_part b log ≡ false
    → delivery k (link_of a b log) ≡ Messages messages → Rests g (Mark (Deliver a b k) ∷ log)
delivers_kept g a b k log messages m part e =
    let t = by_messages (packet_at k (link_of a b log)) (newly_delivered (link_of a b log).there (deliver k (link_of a b log)).there) messages e in
    rests_marked g log (Deliver a b k) m (none_by_mark g log (Deliver a b k) tt (λ x part. part) m.rests.no_site) (ap note_if t.1)
    (λ x y p.
    elim (same_site y b) as (λ c. same_site y b ≡ c → handed x y log ≡ delivered (link_of x y (Mark (Deliver a b k) ∷ log)).there) [
      | true ↦ λ q. let down : takes_part y log ≡ false = subst (λ z. takes_part z log ≡ false) (sym (same_is y b q)) part in let no : true ≡ false = sym p
          ∙ part_marked y (Deliver a b k) log tt ∙ down in cc
      | false ↦ grind (arith, part_marked, delivered_deliver, calls_of, and_right, same_site)
    ] refl)
