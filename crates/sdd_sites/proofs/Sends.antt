-- The loop that sends.
use Rattle.sdd_sites.proofs.All.{AreLinked, Call, Carries, List, MAX_LINK_MESSAGES, Msg, NetValue, Sending, Site, [], ap, append-nil, append_assoc, arith, false, is_link, le-ltb, lt-ltb, nat_lt, or_first, or_past, or_second, puts, puts-append, puts_past, puts_past-append, refl, suc, sym, true, ℕ, ◌++◌, ◌||◌, ◌∙◌, ◌∷◌, ◌≡◌, ◌≢◌, ◌≤◌}

linked_at : (tms dms : ℕ) (at : Site) (sent : List (Site × Msg)) (x : Site × Msg) (rest : List (Site × Msg))
    → AreLinked tms dms at (sent ++ x ∷ rest) → is_link tms dms at x.0 ≡ true
linked_at tms dms at [] x rest h = h.0
linked_at tms dms at (y ∷ sent) x rest h = linked_at tms dms at sent x rest h.1

one_linked : (old now : NetValue) (at : Site) (out left rest : List (Site × Msg)) (x : Site × Msg) → (s : Sending old now at out left) → left ≡ x ∷ rest
    → (tms dms : ℕ) → AreLinked tms dms at out → AreLinked tms dms at (x ∷ [])
one_linked old now at out left rest x s e tms dms h =
    let parts : out ≡ s.sent ++ x ∷ rest = s.parts ∙ ap (λ l. s.sent ++ l) e in
    let all : AreLinked tms dms at (s.sent ++ x ∷ rest) = rw parts at h in
    (linked_at tms dms at s.sent x rest all, tt)

pub can_send : (old now : NetValue) (at : Site) (out left rest : List (Site × Msg)) (x : Site × Msg) → Sending old now at out left → left ≡ x ∷ rest
    → (tms : ℕ) × (dms : ℕ) × (calls : List (Call Msg)) × Carries now tms dms calls × AreLinked tms dms at (x ∷ [])
can_send old now at out left rest x s e = (
  s.some.0,
  s.some.1,
  puts at s.sent s.some.2,
  (s.so_far s.some.0 s.some.1 s.some.2 s.some.3 s.some.4).1,
  one_linked old now at out left rest x s e s.some.0 s.some.1 s.some.4,
)

pub sends_on : (old now new : NetValue) (at : Site) (out left rest : List (Site × Msg)) (x : Site × Msg) → Sending old now at out left → left ≡ x ∷ rest
    → ((tms dms : ℕ) (calls : List (Call Msg)) → Carries now tms dms calls → AreLinked tms dms at (x ∷ [])
    → (puts_past calls at (x ∷ []) ≡ false) × Carries new tms dms (puts at (x ∷ []) calls))
    → Sending old new at out rest
sends_on old now new at out left rest x s e f = record {
  sent = s.sent ++ x ∷ [];
  parts = s.parts ∙ ap (λ l. s.sent ++ l) e ∙ sym (append_assoc s.sent (x ∷ []) rest);
  some = s.some;
  so_far = λ tms dms calls h k.
      let a = s.so_far tms dms calls h k in
      let b = f tms dms (puts at s.sent calls) a.1 (one_linked old now at out left rest x s e tms dms k) in (
        puts_past-append at s.sent (x ∷ []) calls ∙ or_first (puts_past calls at s.sent) (puts_past (puts at s.sent calls) at (x ∷ [])) a.0 b.0,
        let same : puts at (s.sent ++ x ∷ []) calls ≡ puts at (x ∷ []) (puts at s.sent calls) = puts-append at s.sent (x ∷ []) calls in rw same b.1,
      );
}

pub sends_past : (old now : NetValue) (at : Site) (out left rest : List (Site × Msg)) (x : Site × Msg) → Sending old now at out left → left ≡ x ∷ rest
    → ((tms dms : ℕ) (calls : List (Call Msg)) → Carries now tms dms calls → AreLinked tms dms at (x ∷ []) → puts_past calls at (x ∷ []) ≡ true)
    → (tms dms : ℕ) (calls : List (Call Msg)) → Carries old tms dms calls → AreLinked tms dms at out → puts_past calls at out ≡ true
sends_past old now at out left rest x s e f tms dms calls h k =
    let b : puts_past (puts at s.sent calls) at (x ∷ []) ≡ true =
    f tms dms (puts at s.sent calls) (s.so_far tms dms calls h k).1 (one_linked old now at out left rest x s e tms dms k) in
    let parts : out ≡ (s.sent ++ x ∷ []) ++ rest = s.parts ∙ ap (λ l. s.sent ++ l) e ∙ sym (append_assoc s.sent (x ∷ []) rest) in
    ap (λ l. puts_past calls at l) parts ∙ puts_past-append at (s.sent ++ x ∷ []) rest calls
    ∙ or_past (puts_past calls at (s.sent ++ x ∷ [])) (puts_past (puts at (s.sent ++ x ∷ []) calls) at rest)
    (puts_past-append at s.sent (x ∷ []) calls ∙ or_second (puts_past calls at s.sent) (puts_past (puts at s.sent calls) at (x ∷ [])) b)

-- all is sent
pub sent_all : (old now : NetValue) (at : Site) (out left : List (Site × Msg)) → Sending old now at out left → left ≡ []
    → (tms dms : ℕ) (calls : List (Call Msg)) → Carries old tms dms calls → AreLinked tms dms at out
    → (puts_past calls at out ≡ false) × Carries now tms dms (puts at out calls)
sent_all old now at out left s e tms dms calls h k =
    let same : out ≡ s.sent = s.parts ∙ ap (λ l. s.sent ++ l) e ∙ append-nil s.sent in
    rw same (s.so_far tms dms calls h k)

-- where a link has room for one more message, one more doesn't pass the limit
pub one_more : (n m : ℕ) → n ≡ m → n ≢ MAX_LINK_MESSAGES → n ≤ MAX_LINK_MESSAGES → (nat_lt MAX_LINK_MESSAGES (suc m) || false) ≡ false
one_more n m is left few = or_first (nat_lt MAX_LINK_MESSAGES (suc m)) false (le-ltb MAX_LINK_MESSAGES (suc m) (omega (arith, is, left, few))) refl

-- where it has none, one more does
pub none_more : (n m : ℕ) → n ≡ m → n ≡ MAX_LINK_MESSAGES → (nat_lt MAX_LINK_MESSAGES (suc m) || false) ≡ true
none_more n m is last = or_past (nat_lt MAX_LINK_MESSAGES (suc m)) false (lt-ltb MAX_LINK_MESSAGES (suc m) (omega (arith, is, last)))
