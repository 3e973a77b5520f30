-- Messages that are read from their spellings.
use Rattle.sdd_sites.proofs.All.{Acked, AllByRecursion, AllDelivered, Delivered, FitsMsg, IsSpelling, List, Messages, Msg, Nothing, Ok, Result, Spells, [], ap, arith, delivered_as, get_or, length, map, map-append, message_in, message_read_back, refl, spelled, subst, suc, sym, take, take_more, zero, ℕ, ◌++◌, ◌+◌, ◌<◌, ◌∙◌, ◌∷◌, ◌≡◌}

-- the only message that has a spelling is read from it
ok_is : (m n : Msg) → ◌≡◌ {A = Result Msg ℕ} (Ok m) (Ok n) → m ≡ n
ok_is m n e = cc

pub same_message : (m n : Msg) → FitsMsg m → FitsMsg n → spelled m ≡ spelled n → m ≡ n
same_message m n fm fn e = ok_is m n (sym (message_read_back m fm) ∙ ap message_in e ∙ message_read_back n fn)

pub same_messages : (ms ns : List Msg) → AllByRecursion FitsMsg ms → AllByRecursion FitsMsg ns → map spelled ms ≡ map spelled ns → ms ≡ ns
same_messages [] [] h k e = refl
same_messages (m ∷ ms) (n ∷ ns) h k e = rw (same_message m n h.0 k.0 cc, same_messages ms ns h.1 k.1 cc) refl
same_messages _ _ h k e = absurd cc

-- of each spelling at its place
pub spelling_at : (P : List ℕ → Type 0) (xs : List (List ℕ)) (i : ℕ) (x : List ℕ) → AllByRecursion P xs → i < length xs → x ≡ get_or xs i x → P x
spelling_at P [] i x h lt is = absurd (omega arith)
spelling_at P (y ∷ xs) zero x h lt is = subst P (sym is) h.0
spelling_at P (y ∷ xs) (suc i) x h lt is = spelling_at P xs i x h.1 (omega arith) is

-- one message more
pub opened_more : (xs : List (List ℕ)) (i : ℕ) (x : List ℕ) (ms : List Msg) (m : Msg) → i < length xs → x ≡ get_or xs i x
    → take i xs ≡ map spelled ms → x ≡ spelled m → take (i + 1) xs ≡ map spelled (ms ++ m ∷ [])
opened_more xs i x ms m lt is before e =
    sym (ap (λ y. take i xs ++ y ∷ []) is ∙ sym (take_more xs i x lt)) ∙ ap (λ (l : List (List ℕ)). l ++ x ∷ []) before
    ∙ ap (λ (y : List ℕ). map spelled ms ++ y ∷ []) e ∙ sym (map-append spelled ms (m ∷ []))

pub fit_more : (ms : List Msg) (m : Msg) → AllByRecursion FitsMsg ms → FitsMsg m → AllByRecursion FitsMsg (ms ++ m ∷ [])
fit_more [] m h k = (k, tt)
fit_more (n ∷ ms) m h k = (h.0, fit_more ms m h.1 k)

each_spells : (ms : List Msg) → AllByRecursion FitsMsg ms → AllByRecursion IsSpelling (map spelled ms)
each_spells [] h = tt
each_spells (m ∷ ms) h = ((m, h.0, refl), each_spells ms h.1)

-- what spells something handed on
pub given_spells : (given : Delivered (List ℕ)) (found : Delivered Msg) → Spells given found → AllDelivered IsSpelling given
given_spells given (Messages ms) h = subst (λ (d : Delivered (List ℕ)). AllDelivered IsSpelling d) (sym h.spelled_so) (each_spells ms h.fit)
given_spells given _ h = subst (λ (d : Delivered (List ℕ)). AllDelivered IsSpelling d) (sym h.spelled_so) tt

spellings_at : (P : List ℕ → Type 0) (given : Delivered (List ℕ)) (xs : List (List ℕ)) → given ≡ Messages xs → AllDelivered P given → AllByRecursion P xs
spellings_at P given xs is h = subst (λ (d : Delivered (List ℕ)). AllDelivered P d) is h

pub are_spellings : (given : Delivered (List ℕ)) (xs : List (List ℕ)) → given ≡ Messages xs
    → (found : Delivered Msg) × Spells given found → AllByRecursion IsSpelling xs
are_spellings given xs is h = spellings_at IsSpelling given xs is (given_spells given h.0 h.1)

messages_are : {M : Type 0} (ms ns : List M) → ◌≡◌ {A = Delivered M} (Messages ms) (Messages ns) → ms ≡ ns
messages_are ms ns e = cc

-- only one thing handed on has these spellings
one_found : (found other : Delivered Msg) → AllDelivered FitsMsg found → AllDelivered FitsMsg other
    → delivered_as spelled found ≡ delivered_as spelled other → found ≡ other
one_found Nothing Nothing h k e = refl
one_found Acked Acked h k e = refl
one_found (Messages ms) (Messages ns) h k e = ap (λ l. Messages l) (same_messages ms ns h k (messages_are (map spelled ms) (map spelled ns) e))
one_found _ _ h k e = absurd cc

pub same_found : (given : Delivered (List ℕ)) (found other : Delivered Msg) → Spells given found → Spells given other → found ≡ other
same_found given found other h k = one_found found other h.fit k.fit (sym h.spelled_so ∙ k.spelled_so)
