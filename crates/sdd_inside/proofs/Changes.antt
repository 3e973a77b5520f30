-- Loops over two moments, one part more and at their end.
use Rattle.std.proofs.Common.{◌≡◌, ℕ, ◌+◌, ◌<◌, ◌≤◌, ◌⊎◌, List, [], ◌∷◌, ◌++◌, length, map, get_or, drop, inl, inr, refl, sym, ap, ◌∙◌, append_assoc, append-nil, drop-cons, add-one, arith}
use Rattle.std.proofs.lemmas.List.{drop_all}
use Rattle.sdd_script.specs.All.{Site}
use Rattle.sdd_inside.specs.Differences.{changes, on_link}
use Rattle.sdd_inside.specs.declared.delta.InFlight.{InFlight}
use Rattle.sdd_inside.specs.declared.delta.Put.{Put}

-- what is made of one part, and of those that are left
pub changes_more : {A B : Type 0} (f : A → A → List B) (out now total : List B) (before after olds news : List A) (x y : A)
    → before ≡ x ∷ olds → after ≡ y ∷ news → now ≡ out ++ f x y → out ++ changes f before after ≡ total
    → now ++ changes f olds news ≡ total
changes_more f out now total before after olds news x y old new add h =
    ap (λ l. l ++ changes f olds news) add
    ∙ append_assoc out (f x y) (changes f olds news)
    ∙ sym (ap (λ l. out ++ changes f l after) old ∙ ap (λ l. out ++ changes f (x ∷ olds) l) new)
    ∙ h

none_before : {A B : Type 0} (f : A → A → List B) (before : List A) → changes f before [] ≡ []
none_before f [] = refl
none_before f (x ∷ before) = refl

-- no part is left
pub changes_end : {A B : Type 0} (f : A → A → List B) (out total : List B) (before after : List A)
    → (before ≡ []) ⊎ (after ≡ []) → out ++ changes f before after ≡ total → out ≡ total
changes_end f out total before after (inl none) h = sym (ap (λ l. out ++ changes f l after) none ∙ append-nil out) ∙ h
changes_end f out total before after (inr none) h =
    sym (ap (λ l. out ++ changes f before l) none ∙ ap (λ l. out ++ l) (none_before f before) ∙ append-nil out) ∙ h

-- the rest is shorter
pub fewer : {A : Type 0} (xs rest : List A) (x : A) → xs ≡ x ∷ rest → length rest < length xs
fewer xs rest x e = rw e (omega arith)

-- an image more, and all images
pub packet_more : {A B : Type 0} (f : A → B) (xs : List A) (x : A) (out total : List B) (i : ℕ) → i < length xs → x ≡ get_or xs i x
    → out ++ map f (drop i xs) ≡ total → (out ++ f x ∷ []) ++ map f (drop (i + 1) xs) ≡ total
packet_more f xs x out total i lt is e =
    let d : drop i xs ≡ x ∷ drop (i + 1) xs = rw (drop-cons xs i x, ← is, add-one) refl in
    append_assoc out (f x ∷ []) (map f (drop (i + 1) xs)) ∙ ap (λ l. out ++ map f l) (sym d) ∙ e

pub packets_end : {A B : Type 0} (f : A → B) (xs : List A) (out total : List B) (i : ℕ) → length xs ≤ i
    → out ++ map f (drop i xs) ≡ total → out ≡ total
packets_end f xs out total i past e = sym (append-nil out) ∙ ap (λ l. out ++ map f l) (sym (drop_all i xs past)) ∙ e

-- the packets of a link, where there are some

pub no_packets : (out : List Put) (from to : Site) (packets : List InFlight) → length packets ≡ 0 → out ≡ out ++ on_link from to packets
no_packets out from to [] none = sym (append-nil out)
no_packets out from to (p ∷ ps) none = absurd (omega arith)

pub some_packets : (out : List Put) (from to : Site) (packets : List InFlight) → ¬ (length packets ≡ 0)
    → out ++ record { from = from; to = to; packets = packets } ∷ [] ≡ out ++ on_link from to packets
some_packets out from to [] some = absurd (some refl)
some_packets out from to (p ∷ ps) some = refl
