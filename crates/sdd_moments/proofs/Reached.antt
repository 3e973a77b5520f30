-- What an event leaves as it was: the links that it doesn't touch, and what is handed to the sites that don't act.
use Rattle.sdd_moments.proofs.All.{Ack, Bool, Deliver, Does, Down, Entry, Event, Found, Hand, Input, IsBetween, IsGood, IsMark, IsPermitted, IsSiteOf, Link, Log, Lose, Mark, Message, Msg, None, Notes, Option, Packet, Reach, Redeclares, Repeat, Resend, Site, Some, Submit, Submitted, U, Up, [], ack_same, allowed_hand, ap, arith, arrived_by, calls_of, deliver, delivered, delivered_deliver, delivered_lose, delivered_puts, delivered_repeat, delivered_resend, false, found_by, given_by, handed, if◌then◌else◌, is_between, is_down, is_touched, last_event, lawful_permitted, link_of, local_of, lose, mark_due, marks, may_act, newly_delivered, not, note_if, nth_era, packet_at, part_up, reach_of, reach_of_delivery, redeclares, refl, repeat, resend, same_site, sends_of_act, site_of, site_self, subst, sym, takes_at, true, turned, txn_at, ℕ, ◌&&◌, ◌++◌, ◌||◌, ◌∙◌, ◌∷◌, ◌≡◌}
use Rattle.sdd_moments.proofs.Between.{last_is, same_link}
use Rattle.sdd_moments.proofs.LeftAlone.{due_after_mark, left_alone, takes_more, unhanded}

-- truth values

pub neither : (b c : Bool) → (b || c) ≡ false → (b ≡ false) × (c ≡ false)
neither false c e = (refl, e)
neither true c e = absurd (let no : true ≡ false = e in cc)

and_no : (b c : Bool) → c ≡ false → (b && c) ≡ false
and_no true c e = e
and_no false c e = refl

-- links

beside : (x y a b : Site) (f : Link Msg → Link Msg) (l : Link Msg) → is_between a b x y ≡ false
    → (if same_site x a && same_site y b then f l else if same_site x b && same_site y a then turned (f (turned l)) else l) ≡ l
beside x y a b f l e = let p = neither (same_site x a && same_site y b) (same_site x b && same_site y a) e in rw (p.0, p.1) refl

pub touched_by_delivery : (a b : Site) (found : Found) (x y : Site) → is_touched (reach_of_delivery a b found) x y ≡ is_between a b x y
touched_by_delivery a b found x y = grind arith

-- an event leaves the links that it doesn't touch
untouched : (g : Input) (new : Log) (e : Event) (found : Found) (old : Log) (x y : Site) → is_touched (reach_of g new e found) x y ≡ false
    → link_of x y (Mark e ∷ old) ≡ link_of x y old
untouched g new (Deliver a b k) found old x y h =
    beside x y a b (deliver k) (link_of x y old) (sym (touched_by_delivery a b found x y) ∙ h)
untouched g new (Lose a b k) found old x y h = beside x y a b (lose k) (link_of x y old) h
untouched g new (Repeat a b k) found old x y h = beside x y a b (repeat k) (link_of x y old) h
untouched g new (Resend a b) found old x y h = beside x y a b resend (link_of x y old) h
untouched g new _ found old x y h = refl

-- it delivers nothing to the sites that don't act

delivered_if : (a b : Site) (k : ℕ) (old new : Log) (o : Option (Packet Msg)) (c x : Site) → packet_at k (link_of a b old) ≡ o
    → may_act (reach_of_delivery a b (arrived_by a b o new)) x ≡ false
    → delivered (link_of c x (Mark (Deliver a b k) ∷ old)).there ≡ delivered (link_of c x old).there
delivered_if a b k old new (Some (Ack upto)) c x is h =
    ack_same a b k old (ap (λ p. given_by p (newly_delivered (link_of a b old).there (deliver k (link_of a b old)).there)) is) c x
delivered_if a b k old new (Some (Message n m)) c x is h = delivered_deliver c x a b k (calls_of old) (and_no (same_site c a) (same_site x b) h)
delivered_if a b k old new None c x is h = delivered_deliver c x a b k (calls_of old) (and_no (same_site c a) (same_site x b) h)

undelivered : (g : Input) (e : Event) (old new : Log) (c x : Site) → may_act (reach_of g new e (found_by e old new)) x ≡ false
    → delivered (link_of c x (Mark e ∷ old)).there ≡ delivered (link_of c x old).there
undelivered g (Deliver a b k) old new c x h = delivered_if a b k old new (packet_at k (link_of a b old)) c x refl h
undelivered g (Lose a b k) old new c x h = delivered_lose c x a b k (calls_of old)
undelivered g (Repeat a b k) old new c x h = delivered_repeat c x a b k (calls_of old)
undelivered g (Resend a b) old new c x h = delivered_resend c x a b (calls_of old)
undelivered g _ old new c x h = refl

-- a site to which messages are handed after an event got them before it, but for a module that comes up

up_before_down : (u same down : Bool) → (u || not (if same then true else down)) ≡ true → (u || not down) ≡ true
up_before_down true same down p = refl
up_before_down false true down p = absurd (let no : false ≡ true = p in cc)
up_before_down false false down p = p

takes_on : (x : Site) (e : Event) (old : Log) → ((at : Site) → e ≡ Up at → same_site x at ≡ false) → takes_at x (Mark e ∷ old) ≡ true
    → takes_at x old ≡ true
takes_on x (Up at) old h p = part_up x at old (h at refl) p
takes_on x (Down at) old h p = up_before_down (same_site x U) (same_site at x) (is_down x old) p
takes_on x _ old h p = p

aside_rejoins : (g : Input) (new : Log) (e : Event) (found : Found) (old : Log) (x : Site) → may_act (reach_of g new e found) x ≡ false
    → takes_at x (Mark e ∷ old) ≡ true → takes_at x old ≡ true
aside_rejoins g new e found old x h p = takes_on x e old (λ at is. subst (λ z. may_act (reach_of g new z found) x ≡ false) is h) p

untouched_rejoins : (g : Input) (new : Log) (e : Event) (found : Found) (old : Log) (x y : Site) → is_touched (reach_of g new e found) x y ≡ false
    → takes_at y (Mark e ∷ old) ≡ true → takes_at y old ≡ true
untouched_rejoins g new e found old x y h p = takes_on y e old (λ at is. subst (λ z. is_touched (reach_of g new z found) x y ≡ false) is h) p

-- what it gives to a site is for one that acts

pub no_note : (b : Bool) (x : Site) (n : ℕ) → note_if b ≡ Some (Submitted x n) → ⊥
no_note true x n e = let no : Some Notes ≡ Some (Submitted x n) = e in cc
no_note false x n e = let no : None ≡ Some (Submitted x n) = e in cc

given_aside : (g : Input) (new : Log) (e : Event) (found : Found) (old : Log) (x : Site) (n : ℕ) → redeclares new ≡ redeclares (Mark e ∷ old)
    → may_act (reach_of g new e found) x ≡ false → mark_due g (Mark e ∷ old) ≡ Some (Submitted x n) → ⊥
given_aside g new (Submit k) found old x n same h e =
    let home : Site = site_of (nth_era g (redeclares old)).catalogue (txn_at g k.0) in
    let there : Some (Submitted home k.0) ≡ Some (Submitted x n) = e in
    let at : home ≡ x = cc in
    let apart : same_site x home ≡ false = ap (λ z. same_site x (site_of (nth_era g z).catalogue (txn_at g k.0))) (sym same) ∙ h in
    let no : true ≡ false = sym (site_self x) ∙ ap (same_site x) (sym at) ∙ apart in cc
given_aside g new (Deliver a b k) found old x n same h e = no_note _ x n e
given_aside g new (Lose a b k) found old x n same h e = no_note _ x n e
given_aside g new (Repeat a b k) found old x n same h e = no_note _ x n e
given_aside g new (Resend a b) found old x n same h e = no_note _ x n e
given_aside g new (Down at) found old x n same h e = no_note _ x n e
given_aside g new (Up at) found old x n same h e = no_note _ x n e
given_aside g new _ found old x n same h e = let no : None ≡ Some (Submitted x n) = e in cc

-- what comes after the mark

pub lists_on : (more log : Log) → marks more ≡ 0 → redeclares (more ++ log) ≡ redeclares log
lists_on [] log z = refl
lists_on (Mark e ∷ more) log z = absurd (omega (arith, z))
lists_on (Redeclares t ∷ more) log z = absurd (omega (arith, z))
lists_on (_ ∷ more) log z = lists_on more log z

delivered_on : (x y : Site) (more log : Log) → marks more ≡ 0 → delivered (link_of x y (more ++ log)).there ≡ delivered (link_of x y log).there
delivered_on x y [] log z = refl
delivered_on x y (Does at act ∷ more) log z =
    delivered_puts x y at (sends_of_act act) (calls_of (more ++ log)) ∙ delivered_on x y more log z
delivered_on x y (Mark e ∷ more) log z = absurd (omega (arith, z))
delivered_on x y (Redeclares t ∷ more) log z = absurd (omega (arith, z))
delivered_on x y (_ ∷ more) log z = delivered_on x y more log z

-- to a module that is down nothing is handed over
none_handed : (g : Input) (x y : Site) (more log : Log) → IsPermitted g (more ++ log) → marks more ≡ 0 → takes_at y log ≡ false
    → handed x y (more ++ log) ≡ handed x y log
none_handed g x y [] log p z down = refl
none_handed g x y (Hand a b n m ∷ more) log p z down =
    elim (same_site x a && same_site y b) as
    (λ c. (same_site x a && same_site y b) ≡ c → (if c then n else handed x y (more ++ log)) ≡ handed x y log) [
      | true ↦ λ e. (
          let here : y ≡ b = (same_link x y a b e).1 in
          let takes : takes_at b (more ++ log) ≡ true = (allowed_hand g (more ++ log) (Hand a b n m) p.0).takes in
          let no : true ≡ false = sym takes ∙ ap (λ w. takes_at w (more ++ log)) (sym here) ∙ takes_more y more log z ∙ down in cc)
      | false ↦ λ e. none_handed g x y more log p.1 z down
    ] refl
none_handed g x y (Mark e ∷ more) log p z down = absurd (omega (arith, z))
none_handed g x y (Redeclares t ∷ more) log p z down = absurd (omega (arith, z))
none_handed g x y (_ ∷ more) log p z down = none_handed g x y more log p.1 z down

-- by the mark of the event

abbrev pub reach_after : Input → Log → Log → Log → Reach
reach_after g old new log = reach_of g new (last_event log) (found_by (last_event log) old new)

by_mark : (g : Input) (old new : Log) (mark : Entry) (x y : Site) → IsMark mark → is_touched (reach_after g old new (mark ∷ old)) x y ≡ false
    → link_of x y (mark ∷ old) ≡ link_of x y old
by_mark g old new (Mark e) x y h t = untouched g new e (found_by e old new) old x y t
by_mark g old new (Redeclares k) x y h t = refl
by_mark g old new _ x y h t = absurd h

undelivered_by_mark : (g : Input) (old new : Log) (mark : Entry) (c x : Site) → IsMark mark → may_act (reach_after g old new (mark ∷ old)) x ≡ false
    → delivered (link_of c x (mark ∷ old)).there ≡ delivered (link_of c x old).there
undelivered_by_mark g old new (Mark e) c x h t = undelivered g e old new c x t
undelivered_by_mark g old new (Redeclares k) c x h t = refl
undelivered_by_mark g old new _ c x h t = absurd h

aside_by_mark : (g : Input) (old new : Log) (mark : Entry) (x : Site) → IsMark mark → may_act (reach_after g old new (mark ∷ old)) x ≡ false
    → takes_at x (mark ∷ old) ≡ true → takes_at x old ≡ true
aside_by_mark g old new (Mark e) x h t p = aside_rejoins g new e (found_by e old new) old x t p
aside_by_mark g old new (Redeclares k) x h t p = p
aside_by_mark g old new _ x h t p = absurd h

untouched_by_mark : (g : Input) (old new : Log) (mark : Entry) (x y : Site) → IsMark mark → is_touched (reach_after g old new (mark ∷ old)) x y ≡ false
    → takes_at y (mark ∷ old) ≡ true → takes_at y old ≡ true
untouched_by_mark g old new (Mark e) x y h t p = untouched_rejoins g new e (found_by e old new) old x y t p
untouched_by_mark g old new (Redeclares k) x y h t p = p
untouched_by_mark g old new _ x y h t p = absurd h

given_by_mark : (g : Input) (old new : Log) (mark : Entry) (x : Site) (n : ℕ) → IsMark mark → redeclares new ≡ redeclares (mark ∷ old)
    → may_act (reach_after g old new (mark ∷ old)) x ≡ false → mark_due g (mark ∷ old) ≡ Some (Submitted x n) → ⊥
given_by_mark g old new (Mark e) x n h same t d = given_aside g new e (found_by e old new) old x n same t d
given_by_mark g old new (Redeclares k) x n h same t d = let no : None ≡ Some (Submitted x n) = d in cc
given_by_mark g old new _ x n h same t d = absurd h

-- between two logs

module _ (g : Input) (old new : Log) (good : IsGood g) (b : IsBetween g old new) where
  handed_stays : (x y : Site) → delivered (link_of x y (b.mark ∷ old)).there ≡ delivered (link_of x y old).there
      → (takes_at y (b.mark ∷ old) ≡ true → takes_at y old ≡ true) → handed x y new ≡ handed x y old
  handed_stays x y same rejoins =
      let p : IsPermitted g (b.more ++ b.mark ∷ old) =
      subst (IsPermitted g) b.parts (lawful_permitted g new good.once b.after.lawful) in
      elim (takes_at y (b.mark ∷ old)) as (λ c. takes_at y (b.mark ∷ old) ≡ c → handed x y new ≡ handed x y old) [
        | true ↦ λ e.
            b.after.handed_all x y (ap (takes_at y) b.parts ∙ takes_more y b.more (b.mark ∷ old) b.no_marks ∙ e)
            ∙ ap (λ l. delivered (link_of x y l).there) b.parts ∙ delivered_on x y b.more (b.mark ∷ old) b.no_marks
            ∙ same ∙ sym (b.before.handed_all x y (rejoins e))
        | false ↦ λ e.
            ap (handed x y) b.parts ∙ none_handed g x y b.more (b.mark ∷ old) p b.no_marks e ∙ unhanded x y b.mark old b.is_mark
      ] refl

  event_is : last_event new ≡ last_event (b.mark ∷ old)
  event_is = ap last_event b.parts ∙ last_is b.more (b.mark ∷ old) b.no_marks

  at_mark : (P : Reach → Type 0) → P (reach_after g old new new) → P (reach_after g old new (b.mark ∷ old))
  at_mark P p = subst (λ e. P (reach_of g new e (found_by e old new))) event_is p

  -- a link that isn't touched
  pub link_at_mark : (x y : Site) → is_touched (reach_after g old new new) x y ≡ false → link_of x y (b.mark ∷ old) ≡ link_of x y old
  link_at_mark x y t = by_mark g old new b.mark x y b.is_mark (at_mark (λ r. is_touched r x y ≡ false) t)

  pub untouched_handed : (x y : Site) → is_touched (reach_after g old new new) x y ≡ false → handed x y new ≡ handed x y old
  untouched_handed x y t =
      handed_stays x y (ap (λ l. delivered l.there) (link_at_mark x y t))
      (λ p. untouched_by_mark g old new b.mark x y b.is_mark (at_mark (λ r. is_touched r x y ≡ false) t) p)

  -- a site that doesn't act
  pub aside_handed : (c x : Site) → may_act (reach_after g old new new) x ≡ false → handed c x new ≡ handed c x old
  aside_handed c x t =
      let m = at_mark (λ r. may_act r x ≡ false) t in
      handed_stays c x (undelivered_by_mark g old new b.mark c x b.is_mark m) (λ p. aside_by_mark g old new b.mark x b.is_mark m p)

  pub aside_log : (x : Site) → IsSiteOf g x → may_act (reach_after g old new new) x ≡ false → local_of g x new ≡ local_of g x (b.mark ∷ old)
  aside_log x here t =
      let m = at_mark (λ r. may_act r x ≡ false) t in
      left_alone g old new x good b
      (due_after_mark g old b.mark x b.is_mark here b.before.no_site (λ p. aside_by_mark g old new b.mark x b.is_mark m p))
      (λ n d. given_by_mark g old new b.mark x n b.is_mark (ap redeclares b.parts ∙ lists_on b.more (b.mark ∷ old) b.no_marks) m d)
      (λ a there. aside_handed a x t)
