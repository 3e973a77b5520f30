-- Texts that a reader passes whole: none of their bytes cuts, and behind them he stands where he stood before.
use Rattle.std.proofs.Common.{ap, append_assoc, inl, inr, subst, sym, ◌∙◌}
use Rattle.std.proofs.lemmas.Bool.{and_parts}
use Rattle.std.specs.Prelude.{ℕ, zero, suc, ◌≡◌, ◌==◌, ◌||◌, ◌⊎◌, Bool, true, false, not, if◌then◌else◌, List, [], ◌∷◌, ◌++◌, refl}
use Rattle.std.specs.List.{list_all}
use Rattle.sdd_inside_read.specs.Pieces.{Comma, Cut, Newline, Place, Within, after, cuts, in_front, is_closing, is_opening, pieces}

-- a reader goes over a text from one place to another, and is cut nowhere
abbrev pub Passes : Cut → Place → List ℕ → Place → Type 0
Passes cut at text to = (rest : List ℕ) → pieces cut at (text ++ rest) ≡ in_front text (pieces cut to rest)

-- one text behind another

front_twice : (v w : List ℕ) (ps : List (List ℕ)) → in_front v (in_front w ps) ≡ in_front (v ++ w) ps
front_twice v w [] = refl
front_twice v w (p ∷ ps) = ap (λ x. x ∷ ps) (sym (append_assoc v w p))

front_nothing : (cut : Cut) (at : Place) (rest : List ℕ) → pieces cut at rest ≡ in_front [] (pieces cut at rest)
front_nothing cut at [] = refl
front_nothing cut at (c ∷ rest) =
    elim (cuts cut at c) as (λ b. (if b then [] ∷ pieces cut at rest else in_front (c ∷ []) (pieces cut (after at c) rest))
    ≡ in_front [] (if b then [] ∷ pieces cut at rest else in_front (c ∷ []) (pieces cut (after at c) rest))) [
      | true ↦ refl
      | false ↦ sym (front_twice [] (c ∷ []) (pieces cut (after at c) rest))
    ]

pub nothing : (cut : Cut) (at : Place) → Passes cut at [] at
nothing cut at rest = front_nothing cut at rest

pub then_text : (cut : Cut) (a b c : Place) (v w : List ℕ) → Passes cut a v b → Passes cut b w c → Passes cut a (v ++ w) c
then_text cut a b c v w p q rest =
    ap (pieces cut a) (append_assoc v w rest) ∙ p (w ++ rest) ∙ ap (in_front v) (q rest) ∙ front_twice v w (pieces cut c rest)

-- one byte

pub byte : (cut : Cut) (at to : Place) (c : ℕ) → cuts cut at c ≡ false → after at c ≡ to → Passes cut at (c ∷ []) to
byte cut at to c uncut goes rest =
    ap (λ b. if b then [] ∷ pieces cut at rest else in_front (c ∷ []) (pieces cut (after at c) rest)) uncut
    ∙ ap (λ p. in_front (c ∷ []) (pieces cut p rest)) goes

pub then_byte : (cut : Cut) (at next to : Place) (c : ℕ) (text : List ℕ) → cuts cut at c ≡ false → after at c ≡ next → Passes cut next text to
    → Passes cut at (c ∷ text) to
then_byte cut at next to c text uncut goes p = then_text cut at next to (c ∷ []) text (byte cut at next c uncut goes) p

-- a byte that means nothing by itself, and is no space

abbrev pub is_plain : ℕ → Bool
is_plain c = not (c == 34 || (is_opening c || (is_closing c || (c == 44 || (c == 10 || c == 32)))))

plain_parts : (a b c d e f : Bool) → not (a || (b || (c || (d || (e || f))))) ≡ true
    → (a ≡ false) × (b ≡ false) × (c ≡ false) × (d ≡ false) × (e ≡ false) × (f ≡ false)
plain_parts false false false false false false h = (refl, refl, refl, refl, refl, refl)
plain_parts _ _ _ _ _ _ h = absurd cc

pub record MeansNothing (c : ℕ) : Type 0 where
  pub quote : (c == 34) ≡ false
  pub opening : is_opening c ≡ false
  pub closing : is_closing c ≡ false
  pub comma : (c == 44) ≡ false
  pub newline : (c == 10) ≡ false
  pub space : (c == 32) ≡ false

pub means_nothing : (c : ℕ) → is_plain c ≡ true → MeansNothing c
means_nothing c h =
    let p = plain_parts (c == 34) (is_opening c) (is_closing c) (c == 44) (c == 10) (c == 32) h in
    record { quote = p.0; opening = p.1; closing = p.2; comma = p.3; newline = p.4; space = p.5 }

pub uncut_within : (cut : Cut) (depth c : ℕ) → (c == 44) ≡ false → (c == 10) ≡ false → cuts cut (Within depth) c ≡ false
uncut_within Comma zero c h k = h
uncut_within Newline zero c h k = k
uncut_within cut (suc depth) c h k = refl

plain_byte : (cut : Cut) (depth c : ℕ) → is_plain c ≡ true → Passes cut (Within depth) (c ∷ []) (Within depth)
plain_byte cut depth c h =
    let p = means_nothing c h in
    byte cut (Within depth) (Within depth) c (uncut_within cut depth c p.comma p.newline) (rw (p.quote, p.opening, p.closing) refl)

-- a text of such bytes
pub plain : (cut : Cut) (depth : ℕ) (text : List ℕ) → list_all is_plain text ≡ true → Passes cut (Within depth) text (Within depth)
plain cut depth [] h = nothing cut (Within depth)
plain cut depth (c ∷ text) h =
    let p = and_parts (is_plain c) (list_all is_plain text) h in
    then_text cut (Within depth) (Within depth) (Within depth) (c ∷ []) text (plain_byte cut depth c p.0) (plain cut depth text p.1)

-- Texts that a reader passes wherever he stands outside of strings, and those that he passes within brackets alone.

abbrev pub IsWhole : List ℕ → Type 0
IsWhole text = (cut : Cut) (depth : ℕ) → Passes cut (Within depth) text (Within depth)

abbrev pub IsInner : List ℕ → Type 0
IsInner text = (cut : Cut) (depth : ℕ) → Passes cut (Within (suc depth)) text (Within (suc depth))

pub whole_of_plain : (text : List ℕ) → list_all is_plain text ≡ true → IsWhole text
whole_of_plain text h cut depth = plain cut depth text h

pub inner : (text : List ℕ) → IsWhole text → IsInner text
inner text h cut depth = h cut (suc depth)

pub whole_join : (v w : List ℕ) → IsWhole v → IsWhole w → IsWhole (v ++ w)
whole_join v w h k cut depth = then_text cut (Within depth) (Within depth) (Within depth) v w (h cut depth) (k cut depth)

pub inner_none : IsInner []
inner_none cut depth = nothing cut (Within (suc depth))

pub inner_join : (v w : List ℕ) → IsInner v → IsInner w → IsInner (v ++ w)
inner_join v w h k cut depth =
    then_text cut (Within (suc depth)) (Within (suc depth)) (Within (suc depth)) v w (h cut depth) (k cut depth)

-- behind a comma
pub inner_comma : (v : List ℕ) → IsInner v → IsInner (44 ∷ v)
inner_comma v h cut depth =
    then_byte cut (Within (suc depth)) (Within (suc depth)) (Within (suc depth)) 44 v refl refl (h cut depth)

-- in brackets

opens : (cut : Cut) (depth c : ℕ) → (c ≡ 91) ⊎ (c ≡ 123) → cuts cut (Within depth) c ≡ false
opens cut depth c (inl e) = subst (λ x. cuts cut (Within depth) x ≡ false) (sym e) (uncut_within cut depth 91 refl refl)
opens cut depth c (inr e) = subst (λ x. cuts cut (Within depth) x ≡ false) (sym e) (uncut_within cut depth 123 refl refl)

in_brackets : (first last : ℕ) (text : List ℕ) → (first ≡ 91) ⊎ (first ≡ 123)
    → ((depth : ℕ) → after (Within depth) first ≡ Within (suc depth))
    → ((depth : ℕ) → after (Within (suc depth)) last ≡ Within depth) → IsInner text → IsWhole (first ∷ (text ++ last ∷ []))
in_brackets first last text is goes back h cut depth =
    then_byte cut (Within depth) (Within (suc depth)) (Within depth) first (text ++ last ∷ []) (opens cut depth first is) (goes depth)
    (then_text cut (Within (suc depth)) (Within (suc depth)) (Within depth) text (last ∷ []) (h cut depth)
    (byte cut (Within (suc depth)) (Within depth) last refl (back depth)))

pub whole_list : (text : List ℕ) → IsInner text → IsWhole (91 ∷ (text ++ 93 ∷ []))
whole_list text h = in_brackets 91 93 text (inl refl) (λ depth. refl) (λ depth. refl) h

pub whole_braces : (text : List ℕ) → IsInner text → IsWhole (123 ∷ (text ++ 125 ∷ []))
whole_braces text h = in_brackets 123 125 text (inr refl) (λ depth. refl) (λ depth. refl) h
