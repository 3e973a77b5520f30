-- What is kept of a pipe answers what conditions ask of it, and follows it.
use Rattle.sdd_pipe.proofs.All.{Bool, Change, Digest, FragNo, IsDigest, List, Msg, None, Option, Pipe, Some, Write, Writes, [], ap, append-nil, arith, changes_of, cond, empty_digest, empty_pipe, false, filter_map, fold, fold-append, greatest, has_passed, head_processed, is_by, last_in, last_write, list_any, list_any-append, map, map-append, nat_le, nat_tests, passed, put, put_digest, raised, refl, subst, sym, take_digest, time_of, touches, true, with_write, write_in, write_time, ℕ, ◌&&◌, ◌++◌, ◌==◌, ◌||◌, ◌∙◌, ◌∷◌, ◌≡◌}
use Rattle.sdd_pipe.proofs.Entries.{by_raised, write_with_room, room_stays, writes_stay, have_room_stays, have_room_append, room_made, write_raised, or_swap}

-- an option is determined by the numbers that it reaches

same_time : (a b : ℕ) → nat_le a a ≡ nat_le a b → nat_le b a ≡ nat_le b b → a ≡ b
same_time a b e f = grind (arith, nat_tests)

reaches_own : (a : ℕ) → nat_le a a ≡ true
reaches_own a = grind (arith, nat_tests)

same_reach : (o p : Option ℕ) → ((t : ℕ) → is_by t o ≡ is_by t p) → o ≡ p
same_reach None None h = refl
same_reach None (Some b) h = let e : false ≡ true = h b ∙ reaches_own b in absurd cc
same_reach (Some a) None h = let e : true ≡ false = sym (reaches_own a) ∙ h a in absurd cc
same_reach (Some a) (Some b) h = ap Some (same_time a b (h a) (h b))

pub or_assoc : (a b c : Bool) → ((a || b) || c) ≡ (a || (b || c))
or_assoc a b c = grind (arith, nat_tests)

or_false : (a : Bool) → (a || false) ≡ a
or_false a = grind (arith, nat_tests)

-- the greatest number reaches t where one of them does

reached : {A : Type 0} (g : A → Option ℕ) (t : ℕ) (xs : List A) (o : Option ℕ) → is_by t (fold raised o (filter_map g xs))
    ≡ (is_by t o || list_any (λ x. is_by t (g x)) xs)
reached g t [] o = sym (or_false (is_by t o))
reached g t (x ∷ xs) o =
    elim (g x) as (λ p. g x ≡ p → is_by t (fold raised o (filter_map g (x ∷ xs))) ≡ (is_by t o || (is_by t p || list_any (λ y. is_by t (g y)) xs))) [
      | None ↦ λ e. rw e (reached g t xs o)
      | Some u ↦ grind (arith, raised, list_any, is_by, by_raised, or_assoc, nat_le, (reached g t xs (raised o u)))
    ] refl

reached_map : {A : Type 0} (g : A → ℕ) (t : ℕ) (xs : List A) (o : Option ℕ) → is_by t (fold raised o (map g xs))
    ≡ (is_by t o || list_any (λ x. nat_le t (g x)) xs)
reached_map g t [] o = sym (or_false (is_by t o))
reached_map g t (x ∷ xs) o = grind (arith, list_any, nat_le, by_raised, or_assoc, (reached_map g t xs (raised o (g x))))

-- two tests in either order

any_same : {A : Type 0} (f g : A → Bool) (xs : List A) → ((x : A) → f x ≡ g x) → list_any f xs ≡ list_any g xs
any_same f g xs h = grind (arith, nat_tests)

any_none : {A : Type 0} (xs : List A) → list_any (λ x. false) xs ≡ false
any_none [] = refl
any_none (x ∷ xs) = any_none xs

or_four : (a b c d : Bool) → ((a || b) || (c || d)) ≡ ((a || c) || (b || d))
or_four a b c d = grind (arith, nat_tests)

any_either : {A : Type 0} (f g : A → Bool) (xs : List A) → list_any (λ x. f x || g x) xs ≡ (list_any f xs || list_any g xs)
any_either f g [] = refl
any_either f g (x ∷ xs) = ap (λ b. (f x || g x) || b) (any_either f g xs) ∙ or_four (f x) (g x) (list_any f xs) (list_any g xs)

any_swap : {A B : Type 0} (f : A → B → Bool) (xs : List A) (ys : List B)
    → list_any (λ x. list_any (f x) ys) xs ≡ list_any (λ y. list_any (λ x. f x y) xs) ys
any_swap f [] ys = sym (any_none ys)
any_swap f (x ∷ xs) ys = ap (λ b. list_any (f x) ys || b) (any_swap f xs ys) ∙ sym (any_either (f x) (λ y. list_any (λ z. f z y) xs) ys)

and_out : {A : Type 0} (f : A → Bool) (b : Bool) (xs : List A) → list_any (λ x. f x && b) xs ≡ (list_any f xs && b)
and_out f b [] = refl
and_out f true (x ∷ xs) = grind (arith, nat_tests)
and_out f false (x ∷ xs) = grind (arith, nat_tests, (and_out f false xs))

-- a WRITE's time for some fragments, and for each of them

by_write : (t ts : ℕ) (b : Bool) → is_by t (cond b (Some ts) None) ≡ (b && nat_le t ts)
by_write t ts b = grind (arith, nat_tests)

one_touched : (f : FragNo) (changes : List Change) → touches (f ∷ []) changes ≡ list_any (λ x. f.0 == x.frag.0) changes
one_touched f changes = any_same (λ x. (f.0 == x.frag.0) || false) (λ x. f.0 == x.frag.0) changes (λ x. or_false (f.0 == x.frag.0))

each_touched : (frags : List FragNo) (changes : List Change) → list_any (λ f. touches (f ∷ []) changes) frags ≡ touches frags changes
each_touched frags changes = any_same (λ f. touches (f ∷ []) changes) (λ f. list_any (λ x. f.0 == x.frag.0) changes) frags (λ f. one_touched f changes)
    ∙ any_swap (λ f x. f.0 == x.frag.0) frags changes

each_write : (t ts : ℕ) (frags : List FragNo) (changes : List Change) → list_any (λ f. is_by t (cond (touches (f ∷ []) changes) (Some ts) None)) frags
    ≡ is_by t (cond (touches frags changes) (Some ts) None)
each_write t ts frags changes =
    any_same (λ f. is_by t (cond (touches (f ∷ []) changes) (Some ts) None)) (λ f. touches (f ∷ []) changes && nat_le t ts) frags
    (λ f. by_write t ts (touches (f ∷ []) changes))
    ∙ and_out (λ f. touches (f ∷ []) changes) (nat_le t ts) frags
    ∙ ap (λ b. b && nat_le t ts) (each_touched frags changes)
    ∙ sym (by_write t ts (touches frags changes))

each_time : (t : ℕ) (frags : List FragNo) (m : Msg) → list_any (λ f. is_by t (write_time (f ∷ []) m)) frags ≡ is_by t (write_time frags m)
each_time t frags (Write ts class txn changes) = each_write t ts.0 frags changes
each_time t frags _ = any_none frags

-- what conditions ask

pub passed_is : (d : Digest) (p : Pipe) → IsDigest d p → (t : ℕ) → has_passed d t ≡ passed p t
passed_is d p i t = (grind (arith, reached_map))

last_reached : (t : ℕ) (frags : List FragNo) (p : Pipe) → is_by t (last_write frags p) ≡ list_any (λ m. is_by t (write_time frags m)) p.processed
last_reached t frags p = reached (write_time frags) t p.processed None

pub last_write_is : (d : Digest) (p : Pipe) → IsDigest d p → (frags : List FragNo) → last_in frags d ≡ last_write frags p
last_write_is d p i frags = same_reach (last_in frags d) (last_write frags p) (λ t.
    reached (write_in d.writes) t frags None
    ∙ any_same (λ f. is_by t (write_in d.writes f)) (λ f. list_any (λ m. is_by t (write_time (f ∷ []) m)) p.processed) frags
    (λ f. ap (is_by t) (i.writes f) ∙ last_reached t (f ∷ []) p)
    ∙ any_swap (λ f m. is_by t (write_time (f ∷ []) m)) frags p.processed
    ∙ any_same (λ m. list_any (λ f. is_by t (write_time (f ∷ []) m)) frags) (λ m. is_by t (write_time frags m)) p.processed (λ m. each_time t frags m)
    ∙ sym (last_reached t frags p))

-- a message comes, and the head is processed

pub is_empty_digest : IsDigest empty_digest empty_pipe
is_empty_digest = record { unprocessed = refl; latest = refl; writes = λ f. refl; room = tt }

pub is_put : (m : Msg) (d : Digest) (p : Pipe) → IsDigest d p → IsDigest (put_digest m d) (put m p)
is_put m d p i = grind (arith, nat_tests, write_with_room, have_room_append, have_room_stays, room_stays, room_made)

one_write : (t : ℕ) (f : FragNo) (m : Msg) → (list_any (λ x. x.frag.0 == f.0) (changes_of m) && nat_le t (time_of m)) ≡ is_by t (write_time (f ∷ []) m)
one_write t f m = grind (arith, nat_tests)

write_taken : (m : Msg) (d : Digest) (p : Pipe) (rest : List Msg) → IsDigest d p → p.unprocessed ≡ m ∷ rest → (f : FragNo)
    → write_in (fold (with_write (time_of m)) d.writes (changes_of m)) f ≡ greatest (filter_map (write_time (f ∷ [])) (p.processed ++ m ∷ []))
write_taken m d p rest i e f =
    grind (arith, same_reach, filter_map, write_raised, one_write, last_reached, or_swap, list_any, or_false, list_any-append, reached)

latest_taken : (m : Msg) (ms : List Msg) → raised (greatest (map time_of ms)) (time_of m) ≡ greatest (map time_of (ms ++ m ∷ []))
latest_taken m ms = rw (map-append time_of ms (m ∷ []), fold-append raised None (map time_of ms) (time_of m ∷ [])) refl

abbrev pipe_of : List Msg → List Msg → Pipe
pipe_of done rest = record { processed = done; unprocessed = rest }

abbrev digest_of : List Msg → Option ℕ → Writes → Digest
digest_of rest latest writes = record { unprocessed = rest; latest = latest; writes = writes }

taken_from : (latest : Option ℕ) (writes : Writes) (done rest : List Msg) → IsDigest (digest_of rest latest writes) (pipe_of done rest)
    → IsDigest (take_digest (digest_of rest latest writes)) (head_processed (pipe_of done rest))
taken_from latest writes done [] i = rw (append-nil done) i
taken_from latest writes done (m ∷ rest) i = record {
  unprocessed = refl;
  latest = ap (λ o. raised o (time_of m)) i.latest ∙ latest_taken m done;
  writes = write_taken m (digest_of (m ∷ rest) latest writes) (pipe_of done (m ∷ rest)) rest i refl;
  room = have_room_stays rest writes (fold (with_write (time_of m)) writes (changes_of m)) (writes_stay (time_of m) (changes_of m) writes) i.room.1;
}

pub is_taken : (d : Digest) (p : Pipe) → IsDigest d p → IsDigest (take_digest d) (head_processed p)
is_taken d p i =
    subst (λ rest. IsDigest (digest_of rest d.latest d.writes) p
    → IsDigest (take_digest (digest_of rest d.latest d.writes)) (head_processed p)) (sym i.unprocessed)
    (taken_from d.latest d.writes p.processed p.unprocessed) i

pub no_last : (frags : List FragNo) → last_in frags empty_digest ≡ None
no_last [] = refl
no_last (f ∷ frags) = no_last frags
