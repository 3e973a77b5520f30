-- The assignments, one more.
use Rattle.sdd_words.proofs.All.{Bool, List, MatchOption, None, Option, Setting, Some, Word, [], ap, arith, false, is_some, joined, length, nat_tests, not_empty, refl, setting_of, sym, true, unwrap_or, ◌<◌, ◌∙◌, ◌∷◌, ◌≡◌}
use Rattle.sdd_words.specs.Forms.{settings}
use Rattle.sdd_words.proofs.Comparing.{some_joined}

pub setting_more : (l o r : Word) (more ws : List Word) (s : Setting) → ws ≡ l ∷ o ∷ r ∷ more → Some s ≡ setting_of l o r
    → settings ws ≡ joined (Some s) (settings more)
unfolding settings
setting_more l o r more ws s is e = rw (is, e) refl

pub no_setting : (l o r : Word) (more ws : List Word) → ws ≡ l ∷ o ∷ r ∷ more → None ≡ setting_of l o r → settings ws ≡ None
unfolding settings
no_setting l o r more ws is e = rw (is, ← e) refl

pub settings_few : (ws : List Word) → length ws < 3 → not_empty ws ≡ true → settings ws ≡ None
unfolding settings
settings_few ws few some = grind (arith, nat_tests)

pub setting_read : (l o r : Word) (more ws : List Word) (read : Option Setting) → ws ≡ l ∷ o ∷ r ∷ more → read ≡ setting_of l o r
    → MatchOption read (not_empty ws ≡ true → settings ws ≡ None) (λ one. settings ws ≡ joined (Some one) (settings more))
setting_read l o r more ws read is e = grind (arith, no_setting, setting_more)

-- whether words are assignments, one less
pub are_settings_more : (ws more : List Word) (s : Setting) (total : Bool) → settings ws ≡ joined (Some s) (settings more)
    → is_some (settings ws) ≡ total → is_some (settings more) ≡ total
are_settings_more ws more s total is so_far = sym (some_joined s (settings more)) ∙ ap is_some (sym is) ∙ so_far

pub are_no_settings : (ws : List Word) (total : Bool) → settings ws ≡ None → is_some (settings ws) ≡ total → false ≡ total
are_no_settings ws total is so_far = ap is_some (sym is) ∙ so_far

pub are_settings_all : (ws : List Word) (total : Bool) → not_empty ws ≡ false → is_some (settings ws) ≡ total → true ≡ total
unfolding settings
are_settings_all ws total none so_far = grind (arith, nat_tests)

pub none_left : (ws : List Word) → not_empty ws ≡ false → unwrap_or (settings ws) [] ≡ []
unfolding settings
none_left ws none = grind (arith, nat_tests)
