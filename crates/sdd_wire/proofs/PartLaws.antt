-- The laws of lists, texts and values, and of the parts of messages that are made of them.
use Rattle.sdd_wire.proofs.All.{AllByRecursion, Bool, FitsChange, FitsCond, FitsFrag, FitsList, FitsOp, FitsOption, FitsPair, FitsRestriction, FitsRow, FitsUse, FitsValue, IsText, List, None, Op, Option, Reading, Some, Value, [], ap, append_assoc, arith, false, flat_map, frag_at, if_there, items_at, length, list_at, nat_tests, numbered, ops_by_byte, option_at, pair_at, refl, row_at, slice_get, spelled_change, spelled_cond, spelled_frag, spelled_list, spelled_op, spelled_option, spelled_pair, spelled_restriction, spelled_row, spelled_text, spelled_use, spelled_value, subst, suc, text_in, true, value_by, zero, ℕ, ◌++◌, ◌+◌, ◌∷◌, ◌≡◌}
use Rattle.sdd_wire.specs.Reading.{text_at, value_at, op_at, restriction_at, use_at, cond_at, change_at}
use Rattle.sdd_wire.proofs.Laws.{OnlyReads, ReadsBack, IsSpelled, Law, only_next, only_last, only_weaker, only_meant, only_done, back_next, back_last, back_as, back_meant}
use Rattle.sdd_wire.proofs.NumberLaws.{IsByte, piece_back, piece_law, byte_law, flag_byte, flag_law, u32_law, u64_law, i64_law, class_law, rel_law, frag_law, ts_law}
use Rattle.sdd_wire.proofs.Texts.{text_found, found_text}

-- pairs, options and lists

pub pair_law : {A B : Type 0} {fits : A → Type 0} {also : B → Type 0}
    {spelling : A → List ℕ} {more : B → List ℕ} {first : Reading A} {second : Reading B}
    → Law fits spelling first → Law also more second
    → Law (FitsPair fits also) (spelled_pair spelling more) (pair_at first second)
pair_law one two = record {
  back = λ p fits. back_next _ (one.back p.0 fits.0) (back_last _ (two.back p.1 fits.1));
  only = only_next one (λ a ha. only_last _ two (λ b hb. (refl, (ha, hb))));
}

option_back : {A : Type 0} {fits : A → Type 0} {spelling : A → List ℕ} {item : Reading A}
    → Law fits spelling item → (o : Option A) → FitsOption fits o
    → ReadsBack (option_at item) (spelled_option spelling o) o
option_back law o fits = grind (arith, nat_tests)

there_only : {A : Type 0} {fits : A → Type 0} {spelling : A → List ℕ} {item : Reading A}
    → Law fits spelling item → (b : Bool)
    → OnlyReads (λ o more. IsSpelled (FitsOption fits) (spelled_option spelling) o (flag_byte b ++ more))
    (if_there item b)
there_only law true = only_last _ law (λ x hx. (refl, hx))
there_only law false = only_done None _ (refl, tt)

pub option_law : {A : Type 0} {fits : A → Type 0} {spelling : A → List ℕ} {item : Reading A}
    → Law fits spelling item → Law (FitsOption fits) (spelled_option spelling) (option_at item)
option_law law = record { back = option_back law; only = only_next flag_law (λ b hb. there_only law b) }

abbrev FitsItems : {A : Type 0} → (A → Type 0) → ℕ → List A → Type 0
FitsItems fits n xs = (length xs ≡ n) × AllByRecursion fits xs

items_back : {A : Type 0} {fits : A → Type 0} {spelling : A → List ℕ} {item : Reading A}
    → Law fits spelling item → (n : ℕ) (xs : List A) → length xs ≡ n → AllByRecursion fits xs
    → ReadsBack (items_at item n) (flat_map spelling xs) xs
items_back law zero [] len fits = record { reads = λ whole rest. refl }
items_back law (suc n) (x ∷ xs) len fits = grind (arith, back_next, back_last, (items_back law n xs (omega arith) fits.1))
items_back law _ _ len fits = absurd (omega arith)

items_law : {A : Type 0} {fits : A → Type 0} {spelling : A → List ℕ} {item : Reading A}
    → Law fits spelling item → (n : ℕ) → Law (FitsItems fits n) (flat_map spelling) (items_at item n)
items_law law zero = record {
  back = λ xs fits. items_back law zero xs fits.0 fits.1;
  only = only_done [] _ (refl, (refl, tt));
}
items_law law (suc n) = record {
  back = λ xs fits. items_back law (suc n) xs fits.0 fits.1;
  only = only_next law (λ x hx. only_last _ (items_law law n) (λ xs h. (refl, (ap suc h.0, (hx, h.1)))));
}

pub list_law : {A : Type 0} {fits : A → Type 0} {spelling : A → List ℕ} {item : Reading A}
    → Law fits spelling item → Law (FitsList fits) (spelled_list spelling) (list_at item)
list_law {fits = fits} {spelling = spelling} law = grind (arith, back_next, u64_law, items_back, only_next, only_weaker, items_law)

-- texts, values and operators

pub text_law : Law IsText spelled_text text_at
unfolding text_at
text_law = record {
  back = λ text fits.
      let size : IsByte (length text) = record { below = omega (arith, fits.short) } in
      back_next _ (byte_law.back (length text) size)
      (back_meant text_in (piece_back (length text) text refl) (text_found text fits));
  only = only_next byte_law (λ size hs. only_meant text_in (piece_law size) (grind (arith, found_text, spelled_text)));
}

value_back : (v : Value) → FitsValue v → ReadsBack value_at (spelled_value v) v
unfolding value_at
value_back v fits = grind (arith, back_next, flag_law, back_last, i64_law, text_law)

value_only : (b : Bool) → OnlyReads (λ v more. IsSpelled FitsValue spelled_value v (flag_byte b ++ more)) (value_by b)
value_only false = only_last _ i64_law (λ z h. (refl, h))
value_only true = only_last _ text_law (λ text h. (refl, h))

pub value_law : Law FitsValue spelled_value value_at
unfolding value_at
value_law = record { back = value_back; only = only_next flag_law (λ b hb. value_only b) }

pub row_law : Law FitsRow spelled_row row_at
row_law = list_law value_law

-- what holds of each member of a list with its number, counted on from that of the first
abbrev pub AllNumbered : {A : Type 0} → (ℕ → A → Type 0) → ℕ → List A → Type 0
AllNumbered P n [] = Unit {0}
AllNumbered P n (x ∷ xs) = P n x × AllNumbered P (suc n) xs

at_number : {A : Type 0} (P : ℕ → A → Type 0) (first : ℕ) (xs : List A) (k : ℕ) (x : A)
    → AllNumbered P first xs → slice_get xs k ≡ Some x → P (k + first) x
at_number P first (y ∷ xs) (suc k) x all is = subst (λ n. P n x) (omega arith) (at_number P (suc first) xs k x all.1 is)
at_number _ first _ _ x all is = grind (arith, nat_tests)

pub numbered_so : {A : Type 0} (P : ℕ → A → Type 0) (xs : List A) (n : ℕ) (x : A)
    → AllNumbered P 1 xs → numbered xs n ≡ Some x → P n x
numbered_so P xs n x all is = grind (arith, at_number)

op_back : (op : Op) → FitsOp op → ReadsBack op_at (spelled_op op) op
unfolding op_at
op_back op fits = grind (arith, nat_tests)

pub op_law : Law FitsOp spelled_op op_at
unfolding op_at
op_law = record {
  back = op_back;
  only = only_meant _ byte_law (grind (arith, AllNumbered, spelled_op, ops_by_byte, numbered_so));
}

-- restrictions, uses, conditions and changes

pub restriction_law : Law FitsRestriction spelled_restriction restriction_at
unfolding restriction_at
restriction_law = record {
  back = grind (arith, back_as, back_next, u32_law, op_law, back_last, value_law, append_assoc);
  only =
      only_next u32_law (λ column h1. only_next op_law (λ op h2.
      only_last _ value_law (λ value h3. (simp append_assoc, (h1, h3)))));
}

frags_law : Law (FitsList FitsFrag) (spelled_list spelled_frag) (list_at frag_at)
frags_law = list_law frag_law

pub use_law : Law FitsUse spelled_use use_at
unfolding use_at
use_law = record {
  back = grind (arith, back_as, back_next, u32_law, rel_law, frags_law, back_last, list_law, restriction_law, append_assoc);
  only =
      only_next u32_law (λ number h1. only_next rel_law (λ rel h2. only_next frags_law (λ frags h3.
      only_last _ (list_law restriction_law) (λ restrictions h4. (simp append_assoc, (h1, h2, h3, h4))))));
}

pub cond_law : Law FitsCond spelled_cond cond_at
unfolding cond_at
cond_law = record {
  back = grind (arith, back_as, back_next, class_law, ts_law, back_last, frags_law, append_assoc);
  only =
      only_next class_law (λ class h1. only_next ts_law (λ time h2.
      only_last _ frags_law (λ frags h3. (simp append_assoc, (h1, h2, h3)))));
}

pub change_law : Law FitsChange spelled_change change_at
unfolding change_at
change_law = record {
  back = grind (arith, back_as, back_next, frag_law, i64_law, back_last, option_law, row_law, append_assoc);
  only =
      only_next frag_law (λ frag h1. only_next i64_law (λ key h2.
      only_last _ (option_law row_law) (λ row h3. (simp append_assoc, (h1, h2, h3)))));
}
