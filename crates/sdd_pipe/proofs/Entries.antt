-- What is kept by fragment: room for an entry, and an entry that is raised.
use Rattle.sdd_pipe.proofs.All.{Bool, Change, Equal, FragNo, Greater, HasRoom, HaveRoom, List, Msg, None, Option, Some, Writes, [], arith, changes_of, entry_of, false, fold, if◌then◌else◌, insert_entry, is_by, is_eq, is_some, list_any, nat_cmp, nat_le, nat_tests, or_none, raised, raised_entry, refl, true, with_room, with_write, write_in, ℕ, ◌&&◌, ◌++◌, ◌==◌, ◌||◌, ◌∷◌, ◌≡◌}

-- an entry is put in

eq_at : (a b : ℕ) → is_eq (nat_cmp a b) ≡ (a == b)
eq_at a b = grind (arith, nat_tests)

same_number : (f a : ℕ) → nat_cmp f a ≡ Equal → f ≡ a
same_number f a e = grind (arith, nat_tests)

not_same : (f a g : ℕ) → nat_cmp f a ≡ Greater → (g == a) ≡ true → (f == g) ≡ false
not_same f a g e h = grind (arith, nat_tests)

entry_put : (writes : Writes) (f g : ℕ) (v : Option ℕ) → entry_of g (insert_entry nat_cmp writes f v) ≡ (if f == g then Some v else entry_of g writes)
entry_put [] f g v = rw (eq_at g f) (let e : (g == f) ≡ (f == g) = grind (arith, nat_tests) in rw e refl)
entry_put (e ∷ writes) f g v = grind (arith, nat_tests, (entry_put writes f g v))

-- room

entry_room : (writes : Writes) (x : Change) (g : ℕ) → entry_of g (with_room writes x)
    ≡ (if is_some (entry_of x.frag.0 writes) then entry_of g writes else (if x.frag.0 == g then Some None else entry_of g writes))
entry_room writes x g = (grind (arith, entry_put))

write_room_by : (writes : Writes) (f g : ℕ) (o : Option (Option ℕ)) → entry_of f writes ≡ o
    → or_none (if is_some o then entry_of g writes else (if f == g then Some None else entry_of g writes)) ≡ or_none (entry_of g writes)
write_room_by writes f g o e = grind (arith, nat_tests)

-- room tells of no write
pub write_with_room : (changes : List Change) (writes : Writes) (f : FragNo) → write_in (fold with_room writes changes) f ≡ write_in writes f
write_with_room [] writes f = refl
write_with_room (x ∷ changes) writes f = grind (arith, entry_room, write_room_by, (write_with_room changes (with_room writes x) f))

-- entries that are there stay

abbrev pub Stay : Writes → Writes → Type 0
Stay old new = (f : ℕ) → is_some (entry_of f old) ≡ true → is_some (entry_of f new) ≡ true

put_stays : (writes : Writes) (f : ℕ) (v : Option ℕ) → Stay writes (insert_entry nat_cmp writes f v)
put_stays writes f v g h = grind (arith, nat_tests, entry_put)

pub room_stays : (changes : List Change) (writes : Writes) → Stay writes (fold with_room writes changes)
room_stays [] writes g h = h
room_stays (x ∷ changes) writes g h = room_stays changes (with_room writes x) g (grind (arith, put_stays))

write_stays_by : (writes : Writes) (f time : ℕ) (o : Option (Option ℕ)) → Stay writes (raised_entry f time writes o)
write_stays_by writes f time o g h = grind (arith, put_stays)

pub writes_stay : (time : ℕ) (changes : List Change) (writes : Writes) → Stay writes (fold (with_write time) writes changes)
writes_stay time [] writes g h = h
writes_stay time (x ∷ changes) writes g h = grind (arith, write_stays_by, (writes_stay time changes (with_write time writes x) g (write_stays_by writes x.frag.0 time (entry_of x.frag.0 writes) g h)))

pub has_room_stays : (changes : List Change) (old new : Writes) → Stay old new → HasRoom old changes → HasRoom new changes
has_room_stays [] old new s h = tt
has_room_stays (x ∷ changes) old new s h = (s x.frag.0 h.0, has_room_stays changes old new s h.1)

pub have_room_stays : (messages : List Msg) (old new : Writes) → Stay old new → HaveRoom old messages → HaveRoom new messages
have_room_stays [] old new s h = tt
have_room_stays (m ∷ messages) old new s h = (has_room_stays (changes_of m) old new s h.0, have_room_stays messages old new s h.1)

pub have_room_append : (messages more : List Msg) (writes : Writes) → HaveRoom writes messages → HaveRoom writes more → HaveRoom writes (messages ++ more)
have_room_append [] more writes h g = g
have_room_append (m ∷ messages) more writes h g = (h.0, have_room_append messages more writes h.1 g)

pub room_made : (changes : List Change) (writes : Writes) → HasRoom (fold with_room writes changes) changes
room_made [] writes = tt
room_made (x ∷ changes) writes = grind (arith, room_stays, is_some, entry_put, (room_made changes (with_room writes x)))

-- entries are raised

pub by_raised : (t time : ℕ) (o : Option ℕ) → is_by t (raised o time) ≡ (is_by t o || nat_le t time)
by_raised t time o = grind (arith, nat_tests)

pub or_swap : (a b : Bool) → (a || b) ≡ (b || a)
or_swap a b = grind (arith, nat_tests)

raised_entry_by : (writes : Writes) (t time f g : ℕ) (latest : Option ℕ) (o : Option (Option ℕ)) → entry_of f writes ≡ Some latest
    → entry_of g writes
    ≡ o → is_by t (or_none (if f == g then Some (raised latest time) else o)) ≡ (((f == g) && nat_le t time) || is_by t (or_none o))
raised_entry_by writes t time f g latest o e h = grind (arith, nat_tests)

any_or : (a b c d : Bool) → ((a && c) || ((b && c) || d)) ≡ (((b || a) && c) || d)
any_or a b c d = grind (arith, nat_tests)

-- the write of fragment g after a WRITE with this time
pub write_raised : (t time : ℕ) (changes : List Change) (writes : Writes) (g : FragNo) → HasRoom writes changes
    → is_by t (write_in (fold (with_write time) writes changes) g) ≡ ((list_any (λ x. x.frag.0 == g.0) changes && nat_le t time) || is_by t (write_in writes g))
write_raised t time [] writes g h = refl
write_raised t time (x ∷ changes) writes g h = grind (arith, has_room_stays, write_stays_by, list_any, nat_le, entry_put, raised_entry_by, any_or, (write_raised t time changes (with_write time writes x) g (has_room_stays changes writes (with_write time writes x) (write_stays_by writes x.frag.0 time (entry_of x.frag.0 writes)) h.1)))
