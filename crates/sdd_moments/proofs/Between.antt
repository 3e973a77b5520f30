-- What one event, and what it makes due, change on the links of a run.
use Rattle.sdd_moments.proofs.All.{Ack, Bool, Call, Deliver, Does, Entry, Event, Hand, Input, IsBetween, IsGood, IsMark, IsPermitted, Link, LinkSeen, List, Log, Lose, Mark, Msg, None, Option, Packet, Purpose, Puts, Redeclare, Redeclares, Repeat, Resend, Site, Some, Way, [], advanced, all_waiting, allowed_hand, and_parts, ap, arith, arrived_by, behind, calls_of, deliver, delivered, drop, false, filter_map, found_by, handed, handed_of_sent, if◌then◌else◌, is_some, is_taken, last_event, lawful_permitted, left_between, left_of, length, link, link_after, link_before, link_of, lose, lost_by, marks, numbered, packet_at, purposed, puts, refl, repeat, resend, same_back, same_site, seen_between, seen_with, sends_of_act, sent, site_is, sound, subst, suc, sym, takes_one, true, turned, up_to, waiting_on, watched_link, ℕ, ◌&&◌, ◌++◌, ◌==◌, ◌∙◌, ◌∷◌, ◌≡◌, ◌≤◌}
use Rattle.sdd_moments.proofs.Flights.{Grows, deliver_back, deliver_there, lose_back, lose_there, no_way, plain_way, put_way, repeat_back, repeat_there, resend_there, same, taking_way}
use Rattle.sdd_moments.proofs.Numbered.{behind_is, flying, noted, up_to_is}

-- sites

pub both_back : (x y a b : Site) → (same_site a x && same_site b y) ≡ (same_site x a && same_site y b)
both_back x y a b = ap (λ z. z && same_site b y) (same_back a x) ∙ ap (λ z. same_site x a && z) (same_back b y)

pub same_link : (x y a b : Site) → (same_site x a && same_site y b) ≡ true → (x ≡ a) × (y ≡ b)
same_link x y a b e = let p = and_parts (same_site x a) (same_site y b) e in (site_is x a p.0, site_is y b p.1)

that_link : (x y a b : Site) (log : Log) → (same_site x a && same_site y b) ≡ true → link_of a b log ≡ link_of x y log
that_link x y a b log e = let p = same_link x y a b e in λ i. link_of (sym p.0 i) (sym p.1 i) log

-- what an event found, as far as a packet was taken

takes_arrived : (a b : Site) (o : Option (Packet Msg)) (new : Log) → takes_one (arrived_by a b o new) ≡ is_some o
takes_arrived a b (Some (Ack upto)) new = refl
takes_arrived a b _ new = refl

takes_lost : (o : Option (Packet Msg)) → takes_one (lost_by o) ≡ is_some o
takes_lost None = refl
takes_lost (Some p) = refl

-- an event on the link from x to y

abbrev GrowsBy : Event → Log → Log → Site → Site → Type 0
GrowsBy e old new x y =
    Grows (link_of x y old).there (link_of x y (Mark e ∷ old)).there
    (left_of (is_taken e (found_by e old new) (x, y)) (length (link_of x y old).there.flight))

-- a call on the link from a to b, seen from the link from x to y
abbrev on_link_of : Site → Site → Site → Site → (Link Msg → Link Msg) → Link Msg → Link Msg
on_link_of x y a b f l =
    if same_site x a && same_site y b then f l else if same_site x b && same_site y a then turned (f (turned l)) else l

-- one that takes a packet, if there is one
by_taking : (f : Link Msg → Link Msg) (t : Bool) (a b : Site) (k : ℕ) (old : Log) (x y : Site)
    → t ≡ is_some (packet_at k (link_of a b old))
    → ((l : Link Msg) → Grows l.there (f l).there (left_of (is_some (packet_at k l)) (length l.there.flight)))
    → ((l : Link Msg) → Grows l.back (f l).back (length l.back.flight))
    → Grows (link_of x y old).there (on_link_of x y a b f (link_of x y old)).there
    (left_of (t && (same_site a x && same_site b y)) (length (link_of x y old).there.flight))
by_taking f t a b k old x y takes there back =
    let l : Link Msg = link_of x y old in
    subst (λ z. Grows l.there (on_link_of x y a b f l).there (left_of (t && z) (length l.there.flight))) (sym (both_back x y a b))
    (taking_way (same_site x a && same_site y b) (same_site x b && same_site y a) t f l
    (λ e. subst (λ z. Grows l.there (f l).there (left_of z (length l.there.flight)))
    (sym (takes ∙ ap (λ (i : Link Msg). is_some (packet_at k i)) (that_link x y a b old e))) (there l)) (back (turned l)))

event_grows : (e : Event) (old new : Log) (x y : Site) → GrowsBy e old new x y
event_grows (Deliver a b k) old new x y =
    by_taking (deliver k) _ a b k old x y (takes_arrived a b (packet_at k (link_of a b old)) new)
    (deliver_there k) (deliver_back k)
event_grows (Lose a b k) old new x y =
    by_taking (lose k) _ a b k old x y (takes_lost (packet_at k (link_of a b old))) (lose_there k) (lose_back k)
event_grows (Repeat a b k) old new x y =
    let l : Link Msg = link_of x y old in
    plain_way (same_site x a && same_site y b) (same_site x b && same_site y a) (takes_one (found_by (Repeat a b k) old new)) (repeat k) l
    (repeat_there k (delivered l.back) l (sound x y (calls_of old)).there) (repeat_back k (turned l))
event_grows (Resend a b) old new x y =
    let l : Link Msg = link_of x y old in
    plain_way (same_site x a && same_site y b) (same_site x b && same_site y a) (takes_one (found_by (Resend a b) old new)) resend l
    (resend_there l) (same (turned l).back)
event_grows w old new x y = no_way (takes_one (found_by w old new)) (link_of x y old).there

-- and what is put after its mark

puts_grow : (old : Way Msg) (left : ℕ) (x y at : Site) (sends : List (Site × Msg)) (calls : List (Call Msg))
    → Grows old (link x y calls).there left → Grows old (link x y (puts at sends calls)).there left
puts_grow old left x y at [] calls g = g
puts_grow old left x y at (s ∷ sends) calls g =
    puts_grow old left x y at sends (Puts at s.0 s.1 ∷ calls)
    (put_way old left (same_site x at && same_site y s.0) (same_site x s.0 && same_site y at) s.1 (link x y calls) g)

acts_grow : (old : Way Msg) (left : ℕ) (x y : Site) (more log : Log) → marks more ≡ 0
    → Grows old (link_of x y log).there left → Grows old (link_of x y (more ++ log)).there left
acts_grow old left x y [] log z g = g
acts_grow old left x y (Does at act ∷ more) log z g =
    puts_grow old left x y at (sends_of_act act) (calls_of (more ++ log)) (acts_grow old left x y more log z g)
acts_grow old left x y (Mark e ∷ more) log z g = absurd (omega (arith, z))
acts_grow old left x y (Redeclares t ∷ more) log z g = absurd (omega (arith, z))
acts_grow old left x y (_ ∷ more) log z g = acts_grow old left x y more log z g

-- the last mark

pub last_is : (more log : Log) → marks more ≡ 0 → last_event (more ++ log) ≡ last_event log
last_is [] log z = refl
last_is (Mark e ∷ more) log z = absurd (omega (arith, z))
last_is (Redeclares t ∷ more) log z = absurd (omega (arith, z))
last_is (_ ∷ more) log z = last_is more log z

mark_grows : (mark : Entry) (old new : Log) (x y : Site) → IsMark mark
    → Grows (link_of x y old).there (link_of x y (mark ∷ old)).there
    (left_of (is_taken (last_event (mark ∷ old)) (found_by (last_event (mark ∷ old)) old new) (x, y)) (length (link_of x y old).there.flight))
mark_grows (Mark e) old new x y h = event_grows e old new x y
mark_grows (Redeclares t) old new x y h = no_way (takes_one (found_by Redeclare old new)) (link_of x y old).there
mark_grows _ old new x y h = absurd h

pub link_grows : (g : Input) (old new : Log) (l : Site × Site) → IsBetween g old new
    → Grows (link_of l.0 l.1 old).there (link_of l.0 l.1 new).there (left_between old new l)
link_grows g old new l b =
    let o : Way Msg = (link_of l.0 l.1 old).there in
    let whole : Log = b.more ++ b.mark ∷ old in
    let last : last_event new ≡ last_event (b.mark ∷ old) = ap last_event b.parts ∙ last_is b.more (b.mark ∷ old) b.no_marks in
    let first = mark_grows b.mark old new l.0 l.1 b.is_mark in
    let left : ℕ = left_of (is_taken (last_event (b.mark ∷ old)) (found_by (last_event (b.mark ∷ old)) old new) l) (length o.flight) in
    let all : Grows o (link_of l.0 l.1 whole).there left = acts_grow o left l.0 l.1 b.more (b.mark ∷ old) b.no_marks first in
    let there : Grows o (link_of l.0 l.1 new).there left = subst (λ z. Grows o (link_of l.0 l.1 z).there left) (sym b.parts) all in
    subst (λ e. Grows o (link_of l.0 l.1 new).there (left_of (is_taken e (found_by e old new) l) (length o.flight))) (sym last) there

-- what is handed over

rises_if : (c : Bool) (n k low : ℕ) → (c ≡ true → low ≤ n) → low ≤ k → low ≤ (if c then n else k)
rises_if true n k low f l = f refl
rises_if false n k low f l = l

pub handed_rises : (g : Input) (more log : Log) (a b : Site) → IsPermitted g (more ++ log) → handed a b log ≤ handed a b (more ++ log)
handed_rises g [] log a b h = omega arith
handed_rises g (Hand from to n m ∷ more) log a b h =
    let i = handed_rises g more log a b h.1 in
    let next : n ≡ suc (handed from to (more ++ log)) = (allowed_hand g (more ++ log) (Hand from to n m) h.0).next in
    rises_if (same_site a from && same_site b to) n (handed a b (more ++ log)) (handed a b log)
    (λ e. let p = same_link a b from to e in
    let there : n ≡ suc (handed a b (more ++ log)) = next ∙ (λ j. suc (handed (sym p.0 j) (sym p.1 j) (more ++ log))) in
    omega (arith, i, there)) i
handed_rises g (_ ∷ more) log a b h = handed_rises g more log a b h.1

pub joined_more : (more : Log) (mark : Entry) (old : Log) → more ++ mark ∷ old ≡ (more ++ mark ∷ []) ++ old
joined_more [] mark old = refl
joined_more (e ∷ more) mark old = ap (λ l. e ∷ l) (joined_more more mark old)

pub handed_between : (g : Input) (old new : Log) (a b : Site) → IsGood g → IsBetween g old new → handed a b old ≤ handed a b new
handed_between g old new a b good i =
    let is : new ≡ (i.more ++ i.mark ∷ []) ++ old = i.parts ∙ joined_more i.more i.mark old in
    let p : IsPermitted g new = lawful_permitted g new good.once i.after.lawful in
    subst (λ z. handed a b old ≤ handed a b z) (sym is) (handed_rises g (i.more ++ i.mark ∷ []) old a b (subst (IsPermitted g) is p))

-- what is kept of a link, and what is seen of it

awaited : (g : Input) (old new : Log) (l : Site × Site) → IsGood g → IsBetween g old new
    → all_waiting (drop (left_between old new l) (link_of l.0 l.1 new).there.flight) (watched_link old l)
    ≡ filter_map purposed (drop (handed l.0 l.1 old) (numbered 0 (sent l.0 l.1 new)))
awaited g old new l good b =
    noted (handed l.0 l.1 old) (left_between old new l) (link_of l.0 l.1 old).there (link_of l.0 l.1 new).there
    (handed_of_sent g old l.0 l.1 (lawful_permitted g old good.once b.before.lawful)) (link_grows g old new l b)

pub link_advances : (g : Input) (old new : Log) (l : Site × Site) → IsGood g → IsBetween g old new
    → advanced (left_between old new l) (drop (left_between old new l) (link_of l.0 l.1 new).there.flight) (length (sent l.0 l.1 new)) (handed l.0 l.1 new)
    (watched_link old l)
    ≡ watched_link new l
link_advances g old new l good b =
    let h : ℕ = handed l.0 l.1 new in
    let news : List (Packet Msg) = drop (left_between old new l) (link_of l.0 l.1 new).there.flight in
    let waits : behind h (all_waiting news (watched_link old l)) ≡ waiting_on l.0 l.1 new =
    ap (behind h) (awaited g old new l good b)
    ∙ behind_is (handed l.0 l.1 old) h (sent l.0 l.1 new) (handed_between g old new l.0 l.1 good b) in
    let count = flying (left_between old new l) (link_of l.0 l.1 old).there (link_of l.0 l.1 new).there (link_grows g old new l b) in
    ap (λ n. record (watched_link new l) { flying = n; waiting = behind h (all_waiting news (watched_link old l)) }) count
    ∙ ap (λ ws. record (watched_link new l) { waiting = ws }) waits

abbrev seen_of : Log → Log → Site × Site → List (ℕ × Purpose) → LinkSeen
seen_of old new l messages =
    record {
      before = link_before old l;
      after = link_after old new l;
      arrived = if handed l.0 l.1 old == handed l.0 l.1 new then None else Some (record { from = l.0; to = l.1; messages = messages });
    }

pub link_seen : (g : Input) (old new : Log) (l : Site × Site) → IsGood g → IsBetween g old new
    → seen_with (drop (left_between old new l) (link_of l.0 l.1 new).there.flight) (length (sent l.0 l.1 new)) (handed l.0 l.1 new) (watched_link old l)
    ≡ seen_between old new l
link_seen g old new l good b =
    ap (seen_of old new l) (ap (up_to (handed l.0 l.1 new)) (awaited g old new l good b)
    ∙ up_to_is (handed l.0 l.1 old) (handed l.0 l.1 new) (sent l.0 l.1 new) (handed_between g old new l.0 l.1 good b))
