-- Orders in which the runs give their replies, by their first number and the rest.
use Rattle.sdd_short_runs.proofs.All.{Bool, Catalogue, Contains, Contains-cases, Contains-filter, Contains-from_filter, Contains-here, Contains-later, Database, Effect, HasReplyOrder, IsOrderOf, List, Txn, [], after_changes, ap, arith, effect, effect_of, effects_in_turn, eq-eqb, eqb-true, false, inl, inr, length, not, range_with_len, refl, slice_index_or, subst, suc, sym, true, txn_of, without, ℕ, ◌++◌, ◌==◌, ◌∙◌, ◌∷◌, ◌≡◌}
use Rattle.sdd_short_runs.proofs.Counterexamples.{behind, long_run}

differ : (m k : ℕ) → m ≡ k → not (m == k) ≡ true → ⊥
differ m k e passes = grind (arith, eq-eqb)

pair_up : {A : Type 0} (x y : A) (xs ys : List A) → x ≡ y → xs ≡ ys → x ∷ xs ≡ y ∷ ys
pair_up x y xs ys e f = ap (λ z. z ∷ xs) e ∙ ap (λ zs. y ∷ zs) f

-- an order of the numbers but one, behind that one
with_first : (numbers : List ℕ) (n : ℕ) (rest : List ℕ) → Contains numbers n → IsOrderOf (without numbers n) rest → IsOrderOf numbers (n ∷ rest)
with_first numbers n rest there is =
    record {
      same = λ m. (
        (λ h. by m h (m == n) refl),
        (λ h. elim (Contains-cases n rest m h) [
          | inl e ↦ subst (Contains numbers) (sym e) there
          | inr later ↦ (Contains-from_filter (λ (x : ℕ). not (x == n)) numbers m ((is.same m).1 later)).0
        ]),
      );
      once = (
        (λ m h e. differ m n e (Contains-from_filter (λ (x : ℕ). not (x == n)) numbers m ((is.same m).1 h)).1),
        is.once,
      );
    }
  where
    by : (m : ℕ) → Contains numbers m → (b : Bool) → (m == n) ≡ b → Contains (n ∷ rest) m
    by m h true e = subst (Contains (n ∷ rest)) (sym (eqb-true m n e)) (Contains-here n rest)
    by m h false e = Contains-later n rest m ((is.same m).0 (Contains-filter (λ (x : ℕ). not (x == n)) numbers m (ap not e) h))

module _ (cat : Catalogue) (txns : ℕ → Txn) (effects : ℕ → Effect) (db : Database) where
  pub no_numbers : HasReplyOrder cat txns effects db []
  no_numbers = record { order = []; of = record { same = λ n. ((λ h. h), (λ h. h)); once = tt }; replies = refl }

  -- a run gives its reply, and some order of the others gives theirs from there
  pub first_and_rest : (numbers : List ℕ) (n : ℕ) → Contains numbers n → (effect cat db (txns n)).reply ≡ (effects n).reply
      → HasReplyOrder cat txns effects (after_changes cat db (effect cat db (txns n)).changes) (without numbers n) → HasReplyOrder cat txns effects db numbers
  first_and_rest numbers n there same rest =
      record {
        order = n ∷ rest.order;
        of = with_first numbers n rest.order there rest.of;
        replies = pair_up _ _ _ _ same rest.replies;
      }

  -- the same, as the code holds them
  pub begun_with : (numbers : List ℕ) (n : ℕ) (found : Effect) (after : Database) (left : List ℕ) → found ≡ effect cat db (txns n)
      → found.reply ≡ (effects n).reply → after ≡ after_changes cat db found.changes → left ≡ without numbers n → Contains numbers n
      → HasReplyOrder cat txns effects after left → HasReplyOrder cat txns effects db numbers
  begun_with numbers n found after left is same made are there has =
      first_and_rest numbers n there (ap (λ (e : Effect). e.reply) (sym is) ∙ same)
      (subst (λ d. HasReplyOrder cat txns effects d (without numbers n)) (made ∙ ap (λ (e : Effect). after_changes cat db e.changes) is)
      (subst (HasReplyOrder cat txns effects after) are has))

-- the transactions as the code holds them: the outer one behind the inner ones
pub of_short_run : (cat : Catalogue) (outer : Txn) (inner txns : List Txn) (effects : List Effect) (base : Database) (left : List ℕ) (e : Effect)
    → txns ≡ inner ++ outer ∷ [] → left ≡ range_with_len 0 (length effects)
    → HasReplyOrder cat (λ n. slice_index_or txns n outer) (λ n. slice_index_or effects n e) base left
    → HasReplyOrder cat (txn_of outer inner) (λ n. slice_index_or effects n e) base (range_with_len 0 (length effects))
of_short_run cat outer inner txns effects base left e are of has =
    subst (λ z. HasReplyOrder cat z (λ n. slice_index_or effects n e) base (range_with_len 0 (length effects))) texts
    (subst (HasReplyOrder cat (λ n. slice_index_or txns n outer) (λ n. slice_index_or effects n e) base) of has)
  where
    texts : (λ n. slice_index_or txns n outer) ≡ txn_of outer inner
    texts = λ i n. (ap (λ z. slice_index_or z n outer) are ∙ behind inner outer n) i

-- and their effects
pub of_effects : (cat : Catalogue) (first : Database) (outer : Txn) (inner : List Txn) (effects : List Effect)
    → effects ≡ effects_in_turn cat first inner ++ effect cat first outer ∷ []
    → ((e : Effect) → HasReplyOrder cat (txn_of outer inner) (λ n. slice_index_or effects n e) first (range_with_len 0 (length effects)))
    → HasReplyOrder cat (txn_of outer inner) (effect_of cat first outer inner) first (range_with_len 0 (suc (length inner)))
of_effects cat first outer inner effects are has =
    subst (λ z. HasReplyOrder cat (txn_of outer inner) (effect_of cat first outer inner) first (range_with_len 0 z)) (sym (long_run cat first outer inner))
    (subst (λ z. HasReplyOrder cat (txn_of outer inner) z first (range_with_len 0 (length (made ++ own ∷ [])))) (sym replies)
    (subst (λ z. HasReplyOrder cat (txn_of outer inner) (λ n. slice_index_or z n own) first (range_with_len 0 (length z))) are (has own)))
  where
    own : Effect
    own = effect cat first outer

    made : List Effect
    made = effects_in_turn cat first inner

    replies : effect_of cat first outer inner ≡ (λ n. slice_index_or (made ++ own ∷ []) n own)
    replies = λ i n. (sym (behind made own n)) i

pub some_found : (found : Bool) → not found ≡ false → found ≡ true
some_found true e = refl
some_found false e = cc

pub never_commits : {X : Type 0} {b : Bool} → b ≡ false → b ≡ true → X
never_commits fails commits = cc
