-- What is read is spelled, and what is spelled is read.
use Rattle.sdd_words.proofs.All.{Adds, AllWords, AreWords, Bool, Closed, Ends, Escape, Goes, HasNoSpace, InPlain, InText, IsPlain, IsWord, List, Mode, Move, Option, Plain, Quoted, Refuses, Some, Start, Word, [], append-nil, append_assoc, arith, eqb, escaped, escaped_byte, line_bytes, more_bytes, move_of, moved, nat_tests, ne_eqb, onto, refl, word_bytes, word_of, ℕ, ◌++◌, ◌∙◌, ◌∷◌, ◌≡◌, ◌≢◌}
use Rattle.sdd_words.specs.Scan.{scan}

-- ---- what is spelled is read

plain_again : (bytes text rest : List ℕ) → HasNoSpace bytes → scan InPlain text (bytes ++ rest) ≡ scan InPlain (text ++ bytes) rest
unfolding scan
plain_again [] text rest h = rw (append-nil text) refl
plain_again (c ∷ cs) text rest h = grind (arith, ne_eqb, append_assoc, (plain_again cs (text ++ c ∷ []) rest h.1))

text_step : (c : ℕ) (cs text rest : List ℕ) (x y : Bool) → eqb c 34 ≡ x → eqb c 92 ≡ y
    → scan InText (text ++ c ∷ []) (escaped cs ++ rest) ≡ scan InText ((text ++ c ∷ []) ++ cs) rest
    → scan InText text ((escaped_byte c ++ escaped cs) ++ rest) ≡ scan InText ((text ++ c ∷ []) ++ cs) rest
unfolding scan
text_step c cs text rest x y p q ih = grind (arith, nat_tests)

text_again : (bytes text rest : List ℕ) → scan InText text (escaped bytes ++ rest) ≡ scan InText (text ++ bytes) rest
unfolding scan
text_again [] text rest = rw (append-nil text) refl
text_again (c ∷ cs) text rest = grind (arith, text_step, append_assoc, (text_again cs (text ++ c ∷ []) rest))

text_closed : (text rest : List ℕ) → scan Start [] (word_bytes (Quoted text) ++ rest) ≡ scan Closed text rest
unfolding scan
text_closed text rest = grind (arith, append_assoc, text_again)

-- a word is read, and then what follows it
abbrev after_word : Word → List ℕ → Option (List Word)
after_word (Plain bytes) rest = scan InPlain bytes rest
after_word (Quoted text) rest = scan Closed text rest

begun : (w : Word) (rest : List ℕ) → IsWord w → scan Start [] (word_bytes w ++ rest) ≡ after_word w rest
unfolding scan
begun w rest h = grind (arith, ne_eqb, plain_again, text_closed)

followed : (w : Word) (cs : List ℕ) → after_word w (32 ∷ cs) ≡ onto (w ∷ []) (scan Start [] cs)
unfolding scan
followed w cs = grind (arith, nat_tests)

ended : (w : Word) → after_word w [] ≡ Some (w ∷ [])
unfolding scan
ended w = grind (arith, nat_tests)

more_again : (w : Word) (ws : List Word) → IsWord w → AllWords ws → scan Start [] (word_bytes w ++ more_bytes ws) ≡ Some (w ∷ ws)
more_again w [] h hs = begun w [] h ∙ ended w
more_again w (v ∷ vs) h hs = grind (arith, begun, followed, (more_again v vs hs.0 hs.1))

pub scan_again : (ws : List Word) → AreWords ws → scan Start [] (line_bytes ws) ≡ Some ws
scan_again ws h = grind (arith, more_again)

-- ---- what is read is spelled

-- what was read before, in each mode
abbrev before : Mode → List ℕ → List ℕ
before Start text = []
before InPlain text = text
before InText text = 34 ∷ escaped text
before Escape text = 34 ∷ (escaped text ++ 92 ∷ [])
before Closed text = 34 ∷ (escaped text ++ 34 ∷ [])

-- what is known of the text in each mode
abbrev Keeps : Mode → List ℕ → Type 0
Keeps Start text = text ≡ []
Keeps InPlain text = IsPlain text
Keeps _ text = Unit {0}

-- the bytes, after what was read before, spell words
pub record Spells (bytes : List ℕ) (ws : List Word) : Type 0 where
  pub words : AreWords ws
  pub spelled : bytes ≡ line_bytes ws

escaped-snoc : (text : List ℕ) (c : ℕ) → escaped (text ++ c ∷ []) ≡ escaped text ++ escaped_byte c
escaped-snoc [] c = append-nil (escaped_byte c)
escaped-snoc (x ∷ text) c = grind (arith, append_assoc, (escaped-snoc text c))

no_space-snoc : (text : List ℕ) (c : ℕ) → HasNoSpace text → c ≢ 32 → HasNoSpace (text ++ c ∷ [])
no_space-snoc [] c h n = (n, tt)
no_space-snoc (x ∷ text) c h n = (h.0, no_space-snoc text c h.1 n)

-- one byte more, which leads from a mode and text to others
record Moves (mode to : Mode) (text next : List ℕ) (c : ℕ) : Type 0 where
  same : before mode text ++ c ∷ [] ≡ before to next
  keeps : Keeps to next

goes_text : (to : Mode) (c : ℕ) (text : List ℕ) (x y : Bool) → eqb c 34 ≡ x → eqb c 92 ≡ y → Goes to ≡ move_of InText c
    → Moves InText to text text c
goes_text to c text x y p q e = grind (arith, nat_tests)

goes_as : (mode to : Mode) (c : ℕ) (text : List ℕ) → Keeps mode text → Goes to ≡ move_of mode c → Moves mode to text text c
goes_as mode to c text k e = grind (arith, nat_tests)

adds_as : (mode to : Mode) (c : ℕ) (text : List ℕ) → Keeps mode text → Adds to ≡ move_of mode c → Moves mode to text (text ++ c ∷ []) c
adds_as Start to c text k e = grind arith
adds_as mode to c text k e = grind (arith, no_space-snoc, escaped-snoc, append_assoc)

-- a word that ends
record IsMade (mode : Mode) (text : List ℕ) : Type 0 where
  same : before mode text ≡ word_bytes (word_of mode text)
  is_word : IsWord (word_of mode text)

record EndsWord (mode : Mode) (text : List ℕ) (c : ℕ) : Type 0 where
  made : IsMade mode text
  space : c ≡ 32

ends_as : (mode : Mode) (c : ℕ) (text : List ℕ) → Keeps mode text → Ends ≡ move_of mode c → EndsWord mode text c
ends_as mode c text k e = grind (arith, nat_tests)

abbrev found : List Word → Option (List Word)
found ws = Some ws

onto_is : (w : Word) (read : Option (List Word)) (ws : List Word) → onto (w ∷ []) read ≡ Some ws
    → (vs : List Word) × (read ≡ Some vs) × (ws ≡ w ∷ vs)
onto_is w read ws e = grind (arith, nat_tests)

joins : (w : Word) (cs : List ℕ) (vs : List Word) → IsWord w → Spells cs vs → Spells (word_bytes w ++ 32 ∷ cs) (w ∷ vs)
joins w cs vs h s = grind (arith, nat_tests)

steps_on : (mode to : Mode) (text next : List ℕ) (c : ℕ) (cs : List ℕ) (ws : List Word) → Moves mode to text next c → Spells (before to next ++ cs) ws
    → Spells (before mode text ++ c ∷ cs) ws
steps_on mode to text next c cs ws m s = grind (arith, before, append_assoc)

takes_one : (m : Move) (mode : Mode) (text : List ℕ) (c : ℕ) (cs : List ℕ) (ws : List Word) → m ≡ move_of mode c → Keeps mode text
    → ((to : Mode) (t : List ℕ) (vs : List Word) → Keeps to t → scan to t cs ≡ Some vs → Spells (before to t ++ cs) vs)
    → moved m mode text c (λ m t. scan m t cs) ≡ Some ws → Spells (before mode text ++ c ∷ cs) ws
takes_one (Goes to) mode text c cs ws is k ih e = let m = goes_as mode to c text k is in steps_on mode to text text c cs ws m (ih to text ws m.keeps e)
takes_one (Adds to) mode text c cs ws is k ih e =
    let m = adds_as mode to c text k is in steps_on mode to text (text ++ c ∷ []) c cs ws m (ih to (text ++ c ∷ []) ws m.keeps e)
takes_one Ends mode text c cs ws is k ih e =
    let m = ends_as mode c text k is in
    let p = onto_is (word_of mode text) (scan Start [] cs) ws e in
    rw (m.made.same, m.space, p.2) (joins (word_of mode text) cs p.0 m.made.is_word (ih Start [] p.0 refl p.1))
takes_one Refuses mode text c cs ws is k ih e = absurd cc

takes : (mode : Mode) (text bytes : List ℕ) (ws : List Word) → Keeps mode text → scan mode text bytes ≡ Some ws
    → Spells (before mode text ++ bytes) ws
unfolding scan
takes mode text [] ws k e = rw (append-nil (before mode text)) (grind (arith, append-nil))
takes mode text (c ∷ cs) ws k e = takes_one (move_of mode c) mode text c cs ws refl k (λ to t vs h g. takes to t cs vs h g) e

pub scan_takes : (line : List ℕ) (ws : List Word) → scan Start [] line ≡ Some ws → AreWords ws × (line ≡ line_bytes ws)
scan_takes line ws e = let s = takes Start [] line ws refl e in (s.words, s.spelled)

pub scan_spelled : (line : List ℕ) (ws : List Word) → scan Start [] line ≡ Some ws → line ≡ line_bytes ws
scan_spelled line ws e = (scan_takes line ws e).1
