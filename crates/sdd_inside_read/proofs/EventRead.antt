-- Which packet an event took is read back from the words of the event.
use Rattle.std.proofs.Common.{ap, append-nil, ◌∙◌}
use Rattle.std.proofs.lemmas.Bool.{and_parts}
use Rattle.std.specs.Fmt.{decimal}
use Rattle.std.specs.List.{list_all}
use Rattle.std.specs.Prelude.{ℕ, ◌≡◌, true, if◌then◌else◌, List, [], ◌∷◌, ◌++◌, Some, refl}
use Rattle.sdd_inside_read.proofs.DigitsPass.{decimal_plain, number_again}
use Rattle.sdd_inside_read.proofs.Passing.{is_plain, means_nothing}
use Rattle.sdd_inside_read.proofs.PutsRead.{named_again}
use Rattle.sdd_inside_read.specs.LineReader.{place_at, taking_in}
use Rattle.sdd_inside_read.specs.Pieces.{in_front}
use Rattle.sdd_inside_read.specs.Small.{IsSmall, IsSmallSite, IsSmallTaking}
use Rattle.sdd_inside_read.specs.Told.{Taking, taken_by}
use Rattle.sdd_inside_read.specs.Values.{words_of}
use Rattle.sdd_report.specs.Names.{site_word}
use Rattle.sdd_script.specs.All.{D, Deliver, Down, Event, Lose, Redeclare, Repeat, Resend, Settle, Site, Submit, T, Tick, Txn, Up}
use Rattle.sdd_script.specs.Spelling.{event_words}
use Rattle.sdd_script.specs.Spelling.{site_word as spelled_site}
use Rattle.sdd_script.specs.base.declared.site.Site.TheVariants.{U}
use Rattle.sdd_script.specs.words.Words.{line_bytes, word_bytes}

-- a word without a space, and what stands behind it

pub before_space : (word rest : List ℕ) → list_all is_plain word ≡ true → words_of (word ++ 32 ∷ rest) ≡ word ∷ words_of rest
before_space [] rest h = refl
before_space (c ∷ word) rest h =
    let p = and_parts (is_plain c) (list_all is_plain word) h in
    ap (λ b. if b then [] ∷ words_of (word ++ 32 ∷ rest) else in_front (c ∷ []) (words_of (word ++ 32 ∷ rest))) (means_nothing c p.0).space
    ∙ ap (in_front (c ∷ [])) (before_space word rest p.1)

pub one_word : (word : List ℕ) → list_all is_plain word ≡ true → words_of word ≡ word ∷ []
one_word [] h = refl
one_word (c ∷ word) h =
    let p = and_parts (is_plain c) (list_all is_plain word) h in
    ap (λ b. if b then [] ∷ words_of word else in_front (c ∷ []) (words_of word)) (means_nothing c p.0).space
    ∙ ap (in_front (c ∷ [])) (one_word word p.1)

site_plain : (s : Site) → list_all is_plain (site_word s) ≡ true
site_plain U = refl
site_plain (T tm) = decimal_plain tm.0
site_plain (D dm) = decimal_plain dm.0

site_bytes : (s : Site) → word_bytes (spelled_site s) ≡ site_word s
site_bytes U = refl
site_bytes (T tm) = refl
site_bytes (D dm) = refl

-- the words behind the first of an event with a link and a place

abbrev link_words : Site → Site → ℕ → List ℕ
link_words a b k = word_bytes (spelled_site a) ++ 32 ∷ (word_bytes (spelled_site b) ++ 32 ∷ (decimal k ++ []))

three_words : (a b : Site) (k : ℕ) → words_of (link_words a b k) ≡ site_word a ∷ site_word b ∷ decimal k ∷ []
three_words a b k =
    (λ i. words_of (site_bytes a i ++ 32 ∷ (site_bytes b i ++ 32 ∷ append-nil (decimal k) i)))
    ∙ before_space (site_word a) (site_word b ++ 32 ∷ decimal k) (site_plain a)
    ∙ ap (λ ws. site_word a ∷ ws) (before_space (site_word b) (decimal k) (site_plain b) ∙ ap (λ ws. site_word b ∷ ws) (one_word (decimal k) (decimal_plain k)))

place_again : (a b : Site) (k : ℕ) → IsSmallSite a → IsSmallSite b → IsSmall k
    → place_at (words_of (link_words a b k)) ≡ Some (record { from = a; to = b; place = k })
place_again a b k small_a small_b small_k =
    let from = named_again a small_a in
    let to = named_again b small_b in
    let place = number_again k small_k in
    ap place_at (three_words a b k) ∙ (λ i. Some (record { from = from i; to = to i; place = place i }))

-- of each event

pub taking_again : (txns : List Txn) (e : Event) → ((t : Taking) → taken_by e ≡ Some t → IsSmallTaking t)
    → taking_in (words_of (line_bytes (event_words txns e))) ≡ taken_by e
taking_again txns (Deliver a b k) small = let s = small _ refl in place_again a b k s.0 s.1 s.2
taking_again txns (Lose a b k) small = let s = small _ refl in place_again a b k s.0 s.1 s.2
taking_again txns (Submit n) small = refl
taking_again txns (Repeat a b k) small = refl
taking_again txns (Resend a b) small = refl
taking_again txns (Tick t n) small = refl
taking_again txns Settle small = refl
taking_again txns Redeclare small = refl
taking_again txns (Down at) small = refl
taking_again txns (Up at) small = refl
