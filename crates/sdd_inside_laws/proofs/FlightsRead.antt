-- What an event and what it makes due leave of the flight of a link, by the log: the old flight without the packet that the
-- event took off it stands at the front of the new one.
use Rattle.std.proofs.Common.{ap, arith, subst, sym, ◌∙◌}
use Rattle.std.specs.Prelude.{ℕ, ◌-◌, ◌≡◌, ◌&&◌, Bool, true, false, if◌then◌else◌, List, [], ◌∷◌, ◌++◌, is_some, length, slice_get, Option, Some, None, refl}
use Rattle.sdd_app_inside.specs.watch.obligations.All.{Ack, Call, Deliver, Does, Entry, Event, Input, Log, Lose, Mark, Msg, Packet, Puts, Redeclare, Redeclares, Repeat, Resend, Site, calls_of, link_of, marks, packet_at, puts, same_site, sends_of_act}
use Rattle.sdd_app_inside.proofs.watch.obligations.ReadSent.{site_sym}
use Rattle.sdd_app_inside.specs.watch.obligations.net.Links.{Link, deliver, link, lose, repeat, resend, turned}
use Rattle.sdd_inside.specs.Differences.{takes_one}
use Rattle.sdd_inside.specs.declared.delta.Found.{Found}
use Rattle.sdd_inside_laws.proofs.FlightsLeft.{Begins, deliver_back, deliver_there, kept_if, lose_back, lose_there, plain_way, put_way, repeat_back, repeat_there, resend_there, same_flight, taking_way}
use Rattle.sdd_inside_laws.proofs.PacketsRead.{fewer}
use Rattle.sdd_inside_laws.specs.Reader.{place_in}
use Rattle.sdd_app_inside.proofs.watch.moments.Between.{last_is, same_link}
use Rattle.sdd_app_inside.specs.watch.moments.AtEvent.{arrived_by, found_by, last_event, lost_by}
use Rattle.sdd_app_inside.specs.watch.moments.Changes.{IsBetween, is_taken, left_between, left_of}
use Rattle.sdd_app_inside.specs.watch.Watching.{IsMark}

-- the packets that an event leaves of a flight
abbrev pub kept_by : Event → Found → Site × Site → List (Packet Msg) → List (Packet Msg)
kept_by e found l flight = kept_if (is_taken e found l) (place_in e - 1) flight

both_back : (x y a b : Site) → (same_site a x && same_site b y) ≡ (same_site x a && same_site y b)
both_back x y a b = ap (λ z. z && same_site b y) (site_sym a x) ∙ ap (λ z. same_site x a && z) (site_sym b y)

that_link : (x y a b : Site) (log : Log) → (same_site x a && same_site y b) ≡ true → link_of a b log ≡ link_of x y log
that_link x y a b log e = let p = same_link x y a b e in λ i. link_of (sym p.0 i) (sym p.1 i) log

takes_arrived : (a b : Site) (o : Option (Packet Msg)) (new : Log) → takes_one (arrived_by a b o new) ≡ is_some o
takes_arrived a b (Some (Ack upto)) new = refl
takes_arrived a b _ new = refl

takes_lost : (o : Option (Packet Msg)) → takes_one (lost_by o) ≡ is_some o
takes_lost None = refl
takes_lost (Some p) = refl

-- an event on the link from x to y

abbrev BeginsBy : Event → Log → Log → Site → Site → Type 0
BeginsBy e old new x y = Begins (kept_by e (found_by e old new) (x, y) (link_of x y old).there.flight) (link_of x y (Mark e ∷ old)).there

abbrev on_link_of : Site → Site → Site → Site → (Link Msg → Link Msg) → Link Msg → Link Msg
on_link_of x y a b f l =
    if same_site x a && same_site y b then f l else if same_site x b && same_site y a then turned (f (turned l)) else l

by_taking : (f : Link Msg → Link Msg) (t : Bool) (a b : Site) (k : ℕ) (old : Log) (x y : Site)
    → t ≡ is_some (packet_at k (link_of a b old))
    → ((l : Link Msg) → Begins (kept_if (is_some (packet_at k l)) (k - 1) l.there.flight) (f l).there)
    → ((l : Link Msg) → Begins l.back.flight (f l).back)
    → Begins (kept_if (t && (same_site a x && same_site b y)) (k - 1) (link_of x y old).there.flight) (on_link_of x y a b f (link_of x y old)).there
by_taking f t a b k old x y takes there back =
    let l : Link Msg = link_of x y old in
    subst (λ z. Begins (kept_if (t && z) (k - 1) l.there.flight) (on_link_of x y a b f l).there) (sym (both_back x y a b))
    (taking_way (same_site x a && same_site y b) (same_site x b && same_site y a) t (k - 1) f l
    (λ e. subst (λ z. Begins (kept_if z (k - 1) l.there.flight) (f l).there)
    (sym (takes ∙ ap (λ (i : Link Msg). is_some (packet_at k i)) (that_link x y a b old e))) (there l)) (back (turned l)))

and_false : (t : Bool) → (t && false) ≡ false
and_false true = refl
and_false false = refl

none_taken : (t : Bool) (k : ℕ) (flight : List (Packet Msg)) → kept_if (t && false) k flight ≡ flight
none_taken t k flight = ap (λ b. kept_if b k flight) (and_false t)

event_begins : (e : Event) (old new : Log) (x y : Site) → BeginsBy e old new x y
event_begins (Deliver a b k) old new x y =
    by_taking (deliver k) _ a b k old x y (takes_arrived a b (packet_at k (link_of a b old)) new) (deliver_there k) (deliver_back k)
event_begins (Lose a b k) old new x y =
    by_taking (lose k) _ a b k old x y (takes_lost (packet_at k (link_of a b old))) (lose_there k) (lose_back k)
event_begins (Repeat a b k) old new x y =
    let l : Link Msg = link_of x y old in
    subst (λ ps. Begins ps (link_of x y (Mark (Repeat a b k) ∷ old)).there) (sym (none_taken (takes_one (found_by (Repeat a b k) old new)) (place_in (Repeat a b k) - 1) l.there.flight))
    (plain_way (same_site x a && same_site y b) (same_site x b && same_site y a) (repeat k) l (repeat_there k l) (repeat_back k (turned l)))
event_begins (Resend a b) old new x y =
    let l : Link Msg = link_of x y old in
    subst (λ ps. Begins ps (link_of x y (Mark (Resend a b) ∷ old)).there) (sym (none_taken (takes_one (found_by (Resend a b) old new)) (place_in (Resend a b) - 1) l.there.flight))
    (plain_way (same_site x a && same_site y b) (same_site x b && same_site y a) resend l (resend_there l) (same_flight (turned l).back))
event_begins w old new x y =
    let l : Link Msg = link_of x y old in
    subst (λ ps. Begins ps l.there) (sym (none_taken (takes_one (found_by w old new)) (place_in w - 1) l.there.flight)) (same_flight l.there)

-- and what is put after its mark

puts_begin : (kept : List (Packet Msg)) (x y at : Site) (sends : List (Site × Msg)) (calls : List (Call Msg))
    → Begins kept (link x y calls).there → Begins kept (link x y (puts at sends calls)).there
puts_begin kept x y at [] calls b = b
puts_begin kept x y at (s ∷ sends) calls b =
    puts_begin kept x y at sends (Puts at s.0 s.1 ∷ calls)
    (put_way kept (same_site x at && same_site y s.0) (same_site x s.0 && same_site y at) s.1 (link x y calls) b)

acts_begin : (kept : List (Packet Msg)) (x y : Site) (more log : Log) → marks more ≡ 0
    → Begins kept (link_of x y log).there → Begins kept (link_of x y (more ++ log)).there
acts_begin kept x y [] log z b = b
acts_begin kept x y (Does at act ∷ more) log z b =
    puts_begin kept x y at (sends_of_act act) (calls_of (more ++ log)) (acts_begin kept x y more log z b)
acts_begin kept x y (Mark e ∷ more) log z b = absurd (omega (arith, z))
acts_begin kept x y (Redeclares t ∷ more) log z b = absurd (omega (arith, z))
acts_begin kept x y (_ ∷ more) log z b = acts_begin kept x y more log z b

mark_begins : (mark : Entry) (old new : Log) (x y : Site) → IsMark mark
    → Begins (kept_by (last_event (mark ∷ old)) (found_by (last_event (mark ∷ old)) old new) (x, y) (link_of x y old).there.flight) (link_of x y (mark ∷ old)).there
mark_begins (Mark e) old new x y h = event_begins e old new x y
mark_begins (Redeclares t) old new x y h =
    let l : Link Msg = link_of x y old in
    subst (λ ps. Begins ps l.there) (sym (none_taken (takes_one (found_by Redeclare old new)) (place_in Redeclare - 1) l.there.flight)) (same_flight l.there)
mark_begins _ old new x y h = absurd h

-- the packets that are left between two logs
abbrev pub kept_between : Log → Log → Site × Site → List (Packet Msg)
kept_between old new l = kept_by (last_event new) (found_by (last_event new) old new) l (link_of l.0 l.1 old).there.flight

pub link_begins : (g : Input) (old new : Log) (l : Site × Site) → IsBetween g old new → Begins (kept_between old new l) (link_of l.0 l.1 new).there
link_begins g old new l b =
    let flight : List (Packet Msg) = (link_of l.0 l.1 old).there.flight in
    let whole : Log = b.more ++ b.mark ∷ old in
    let last : last_event new ≡ last_event (b.mark ∷ old) = ap last_event b.parts ∙ last_is b.more (b.mark ∷ old) b.no_marks in
    let kept : Event → List (Packet Msg) = λ e. kept_by e (found_by e old new) l flight in
    let all : Begins (kept (last_event (b.mark ∷ old))) (link_of l.0 l.1 whole).there =
    acts_begin (kept (last_event (b.mark ∷ old))) l.0 l.1 b.more (b.mark ∷ old) b.no_marks (mark_begins b.mark old new l.0 l.1 b.is_mark) in
    let there : Begins (kept (last_event (b.mark ∷ old))) (link_of l.0 l.1 new).there =
    subst (λ z. Begins (kept (last_event (b.mark ∷ old))) (link_of l.0 l.1 z).there) (sym b.parts) all in
    subst (λ e. Begins (kept e) (link_of l.0 l.1 new).there) (sym last) there

-- as many are left as stay

packet_there : {A : Type 0} (o : Option A) → is_some o ≡ true → (x : A) × (o ≡ Some x)
packet_there None e = absurd cc
packet_there (Some x) e = (x, refl)

left_if_taken : (t : Bool) (k : ℕ) (flight : List (Packet Msg)) → (t ≡ true → is_some (slice_get flight k) ≡ true)
    → length (kept_if t k flight) ≡ left_of t (length flight)
left_if_taken false k flight h = refl
left_if_taken true k flight h = let p = packet_there (slice_get flight k) (h refl) in fewer flight k p.0 p.1

taken_there : (a b x y : Site) (t : Bool) (k : ℕ) (old : Log) → t ≡ is_some (packet_at k (link_of a b old))
    → (t && (same_site a x && same_site b y)) ≡ true → is_some (packet_at k (link_of x y old)) ≡ true
taken_there a b x y true k old e h =
    let s : (same_site x a && same_site y b) ≡ true = sym (both_back x y a b) ∙ h in
    sym (e ∙ ap (λ (i : Link Msg). is_some (packet_at k i)) (that_link x y a b old s))
taken_there a b x y false k old e h = absurd cc

as_many : (e : Event) (old new : Log) (x y : Site)
    → length (kept_by e (found_by e old new) (x, y) (link_of x y old).there.flight)
    ≡ left_of (is_taken e (found_by e old new) (x, y)) (length (link_of x y old).there.flight)
as_many (Deliver a b k) old new x y =
    left_if_taken _ (k - 1) (link_of x y old).there.flight
    (taken_there a b x y _ k old (takes_arrived a b (packet_at k (link_of a b old)) new))
as_many (Lose a b k) old new x y =
    left_if_taken _ (k - 1) (link_of x y old).there.flight (taken_there a b x y _ k old (takes_lost (packet_at k (link_of a b old))))
as_many w old new x y =
    let t : Bool = takes_one (found_by w old new) in
    let flight : List (Packet Msg) = (link_of x y old).there.flight in
    ap (λ b. length (kept_if b (place_in w - 1) flight)) (and_false t) ∙ ap (λ b. left_of b (length flight)) (sym (and_false t))

pub as_many_left : (old new : Log) (l : Site × Site) → length (kept_between old new l) ≡ left_between old new l
as_many_left old new l = as_many (last_event new) old new l.0 l.1
