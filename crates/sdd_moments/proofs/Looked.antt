-- A look at a link, at what is read of it in the world.
use Rattle.sdd_moments.proofs.All.{Bool, Event, Found, Input, IsBetween, IsGood, IsLinkOf, LinkSeen, List, Log, Msg, Packet, Site, WatchedLink, advanced, ap, drop, found_by, handed, is_taken, last_event, left_between, left_of, length, link_of, refl, seen_between, seen_with, sent, subst, sym, watched_link, ℕ, ◌∙◌, ◌≡◌}
use Rattle.sdd_moments.proofs.Between.{link_advances, link_seen}

keeps : (g : Input) (old new : Log) (l : Site × Site) (w next : WatchedLink) (left put over : ℕ) (news : List (Packet Msg)) → IsGood g
    → IsBetween g old new → w ≡ watched_link old l → left ≡ left_between old new l
    → news ≡ drop (left_between old new l) (link_of l.0 l.1 new).there.flight → put ≡ length (sent l.0 l.1 new) → over ≡ handed l.0 l.1 new
    → next ≡ advanced left news put over w → next ≡ watched_link new l
keeps g old new l w next left put over news good b is stay packets count given e =
    e ∙ (λ i. advanced (stay i) (packets i) (count i) (given i) (is i)) ∙ link_advances g old new l good b

sees : (g : Input) (old new : Log) (l : Site × Site) (w : WatchedLink) (seen : LinkSeen) (put over : ℕ) (news : List (Packet Msg)) → IsGood g
    → IsBetween g old new → w ≡ watched_link old l
    → news ≡ drop (left_between old new l) (link_of l.0 l.1 new).there.flight → put ≡ length (sent l.0 l.1 new) → over ≡ handed l.0 l.1 new
    → seen ≡ seen_with news put over w → seen ≡ seen_between old new l
sees g old new l w seen put over news good b is packets count given e =
    e ∙ (λ i. seen_with (packets i) (count i) (given i) (is i)) ∙ link_seen g old new l good b

-- What is read at one look: of the event whether it took a packet, how many packets are left, what stands after them, and how
-- many messages are put and handed over.
pub record IsRead (old new : Log) (w : WatchedLink) (taken : Bool) (left : ℕ) (news : List (Packet Msg)) (put over : ℕ) : Type 0 where
  pub taken_is : taken ≡ is_taken (last_event new) (found_by (last_event new) old new) (w.from, w.to)
  pub left_is : left ≡ left_of taken w.flying
  pub news_are : news ≡ drop left (link_of w.from w.to new).there.flight
  pub put_is : put ≡ length (sent w.from w.to new)
  pub over_is : over ≡ handed w.from w.to new

-- the link is that of the network
pub link_there : (g : Input) (old : Log) (l : Site × Site) (w : WatchedLink) → w ≡ watched_link old l → IsLinkOf g l.0 l.1 → IsLinkOf g w.from w.to
link_there g old l w is linked = subst (λ (x : WatchedLink). IsLinkOf g x.from x.to) (sym is) linked

-- the event and what it found are those that are reported
pub taken_reported : (old new : Log) (w : WatchedLink) (event : Event) (found : Found) (taken : Bool)
    → event ≡ last_event new → found ≡ found_by event old new → taken ≡ is_taken event found (w.from, w.to)
    → taken ≡ is_taken (last_event new) (found_by (last_event new) old new) (w.from, w.to)
taken_reported old new w event found taken e is h =
    h ∙ ap (λ f. is_taken event f (w.from, w.to)) is ∙ ap (λ x. is_taken x (found_by x old new) (w.from, w.to)) e

at_left : (old new : Log) (l : Site × Site) (taken : Bool) (left : ℕ) (news : List (Packet Msg)) (put over : ℕ)
    → IsRead old new (watched_link old l) taken left news put over
    → (left ≡ left_between old new l) × (news ≡ drop (left_between old new l) (link_of l.0 l.1 new).there.flight)
at_left old new l taken left news put over r =
    let stay : left ≡ left_between old new l = r.left_is ∙ ap (λ b. left_of b (length (link_of l.0 l.1 old).there.flight)) r.taken_is in
    (stay, r.news_are ∙ ap (λ n. drop n (link_of l.0 l.1 new).there.flight) stay)

pub link_kept : (g : Input) (old new : Log) (l : Site × Site) (w next : WatchedLink) (taken : Bool) (left put over : ℕ) (news : List (Packet Msg)) → IsGood g
    → IsBetween g old new → w ≡ watched_link old l → IsRead old new w taken left news put over → next ≡ advanced left news put over w
    → next ≡ watched_link new l
link_kept g old new l w next taken left put over news good b is r e =
    let q : IsRead old new (watched_link old l) taken left news put over = subst (λ x. IsRead old new x taken left news put over) is r in
    let p = at_left old new l taken left news put over q in
    keeps g old new l (watched_link old l) next left put over news good b refl p.0 p.1 q.put_is q.over_is (e ∙ ap (advanced left news put over) is)

pub link_looked : (g : Input) (old new : Log) (l : Site × Site) (w : WatchedLink) (seen : LinkSeen) (taken : Bool) (left put over : ℕ)
    (news : List (Packet Msg)) → IsGood g → IsBetween g old new → w ≡ watched_link old l → IsRead old new w taken left news put over
    → seen ≡ seen_with news put over w → seen ≡ seen_between old new l
link_looked g old new l w seen taken left put over news good b is r e =
    let q : IsRead old new (watched_link old l) taken left news put over = subst (λ x. IsRead old new x taken left news put over) is r in
    let p = at_left old new l taken left news put over q in
    sees g old new l (watched_link old l) seen put over news good b refl p.1 q.put_is q.over_is (e ∙ ap (seen_with news put over) is)
