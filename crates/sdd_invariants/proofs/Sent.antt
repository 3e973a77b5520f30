-- Only what is put changes the list of messages that were put on a link.
use Rattle.sdd_invariants.proofs.All.{Act, Bool, Call, Did, Era, Input, Link, List, Msg, None, Option, Puts, Resends, Site, Some, Txn, U, [], ap, append-nil, append_assoc, arith, given_to, if◌then◌else◌, link, local_of, lose, made, on_link, packet_at, put_by, puts, puts_to, redeclared_entry, refl, repeat, resend, same_site, sends_of_act, sent, sym, to_site, turned, ℕ, ◌&&◌, ◌++◌, ◌∙◌, ◌∷◌, ◌≡◌}
use Rattle.sdd_invariants.proofs.Bools.{if_way}
use Rattle.sdd_invariants.proofs.Made.{local_step}
use Rattle.sdd_log.specs.All.{Log}
use Rattle.sdd_log.specs.Entries.{Entry}
use Rattle.sdd_log.specs.site_module.SiteLog as site

abbrev Same : {M : Type 0} → Link M → Link M → Type 0
Same l k = (k.there.sent ≡ l.there.sent) × (k.back.sent ≡ l.back.sent)

by_way : {M : Type 0} (c d : Bool) (f : Link M → Link M) (l : Link M) → ((k : Link M) → Same k (f k))
    → Same l (if c then f l else if d then turned (f (turned l)) else l)
by_way c d f l h = grind arith

on_link_same : {M : Type 0} (a b from to : Site) (f : Link M → Link M) (l : Link M) → ((k : Link M) → Same k (f k))
    → (on_link a b from to f l).there.sent ≡ l.there.sent
on_link_same a b from to f l h = (by_way (same_site a from && same_site b to) (same_site a to && same_site b from) f l h).0

by_resends : (a b from to : Site) (calls : List (Call Msg)) → (link a b (Resends from to ∷ calls)).there.sent ≡ (link a b calls).there.sent
by_resends a b from to calls = on_link_same a b from to resend (link a b calls) (λ k. (refl, refl))

by_puts : (a b from to : Site) (m : Msg) (calls : List (Call Msg))
    → (link a b (Puts from to m ∷ calls)).there.sent ≡ (if same_site a from && same_site b to then (link a b calls).there.sent ++ m ∷ [] else (link a b calls).there.sent)
by_puts a b from to m calls = (grind arith)

by_act : (a b at : Site) (sends : List (Site × Msg)) (calls : List (Call Msg))
    → (link a b (puts at sends calls)).there.sent ≡ (link a b calls).there.sent ++ (if same_site a at then to_site b sends else [])
by_act a b at [] calls = grind (arith, if_way, append-nil)
by_act a b at (s ∷ sends) calls =
    by_act a b at sends (Puts at s.0 s.1 ∷ calls) ∙ ap (λ xs. xs ++ (if same_site a at then to_site b sends else [])) (by_puts a b at s.0 s.1 calls)
    ∙ (grind (arith, append_assoc))

-- what an entry of the log of everything puts on the link

put_if : (c : Bool) (b : Site) (act : Act) → (if c then to_site b (sends_of_act act) else []) ≡ put_by b (if c then Some (Did act) else None)
put_if c b act = grind arith

pub no_put : (b : Site) (c : Bool) (o : Option site.Entry) → put_by b o ≡ [] → put_by b (if c then o else None) ≡ []
no_put b c o e = grind arith

pub given_puts : (b : Site) (n : ℕ) (o : Option Txn) → put_by b (given_to n o) ≡ []
given_puts b n o = grind arith

era_puts : (b at : Site) (era : Era) (t : ℕ) → put_by b (redeclared_entry at era t) ≡ []
era_puts b at era t = grind arith

nothing_more : (xs ys zs : List Msg) → zs ≡ xs → ys ≡ [] → zs ≡ xs ++ ys
nothing_more xs ys zs e f = e ∙ sym (append-nil xs) ∙ ap (λ l. xs ++ l) (sym f)

pub sent_grows : (g : Input) (a b : Site) (e : Entry) (log : Log) → sent a b (e ∷ log) ≡ sent a b log ++ put_by b (made g a log e)
sent_grows g a b e log = grind (arith, nothing_more, on_link_same, lose, repeat, link, packet_at, by_resends, no_put, era_puts, given_puts, by_act, put_if)

pub puts_grow : (g : Input) (a b : Site) (e : Entry) (log : Log)
    → puts_to b (local_of g a (e ∷ log)) ≡ puts_to b (local_of g a log) ++ put_by b (made g a log e)
puts_grow g a b e log = ap (puts_to b) (local_step g a e log) ∙ (grind (arith, append-nil))

-- what was put on a link is what its first site's log says
pub sent_is : (g : Input) (a b : Site) (log : Log) → sent a b log ≡ puts_to b (local_of g a log)
sent_is g U b [] = refl
sent_is g a b (e ∷ log) = sent_grows g a b e log ∙ ap (λ xs. xs ++ put_by b (made g a log e)) (sent_is g a b log) ∙ sym (puts_grow g a b e log)
sent_is g _ b [] = refl

-- what was put stays, and more comes after it
pub puts_more : (g : Input) (a b : Site) (later log : Log)
    → (more : List Msg) × (puts_to b (local_of g a (later ++ log)) ≡ puts_to b (local_of g a log) ++ more)
puts_more g a b [] log = ([], sym (append-nil _))
puts_more g a b (e ∷ later) log =
    let i = puts_more g a b later log in (
      i.0 ++ put_by b (made g a (later ++ log) e),
      puts_grow g a b e (later ++ log) ∙ ap (λ xs. xs ++ put_by b (made g a (later ++ log) e)) i.1
          ∙ append_assoc (puts_to b (local_of g a log)) i.0 (put_by b (made g a (later ++ log) e)),
    )
