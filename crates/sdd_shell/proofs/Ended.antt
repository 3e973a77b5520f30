-- How far files were read that were opened one after the other.
use Rattle.sdd_shell.proofs.All.{Ending, FilesRead, IsRead, IsReadTo, KeepsOpen, List, OnOk, Ok, Err, Result, ShelfState, Status, ToItsEnd, ToItsLimit, [], subst, ℕ, ◌∙◌, ◌∷◌, ◌≡◌}

pub one_ended : (before after : ShelfState) (ending : Ending) (f : ℕ) → IsRead before after ending f → FilesRead before after (ending ∷ [])
one_ended before after ending f first = record { files = f ∷ []; read = (first, tt, tt) }

-- of a call that reads no file
pub none_read : {T : Type 0} (r : Result T Status) (before after : ShelfState) → OnOk r (FilesRead before after [])
none_read (Ok v) before after = record { files = []; read = tt }
none_read (Err s) before after = tt

-- opened files stay open, with what is unread of them
abbrev pub Keeps : ShelfState → ShelfState → Type 0
Keeps before after = KeepsOpen (λ _. Unit {0}) before.is_open after.is_open before.opened after.opened

-- two, the first of which was read to its end
pub two_ended : (before mid after : ShelfState) (a : List ℕ) (ending : Ending) (f g : ℕ) → mid.files ≡ before.files
    → IsRead before mid (ToItsEnd a) f → Keeps before mid → IsRead mid after ending g → Keeps mid after → FilesRead before after (ToItsEnd a ∷ ending ∷ [])
two_ended before mid after a ending f g same first keep1 second keep2 =
    let later = keep2 f tt first.opened in
    let ended = subst (λ fs. IsReadTo fs ending (after.opened g)) same second.ended in
    record {
      files = f ∷ g ∷ [];
      read = (
        record { fresh = first.fresh; opened = later.0; ended = rw later.1 first.ended },
        ((λ e. second.fresh (subst mid.is_open e first.opened)), tt),
        (record { fresh = λ was_g. second.fresh (keep1 g tt was_g).0; opened = second.opened; ended = ended }, tt, tt),
      );
    }

-- and a third
pub three_ended : (before second third after : ShelfState) (limit : ℕ) (a_name b_name name : List ℕ) (f g h : ℕ) → third.files ≡ before.files
    → IsRead before second (ToItsEnd a_name) f → Keeps before second → IsRead second third (ToItsEnd b_name) g → Keeps second third
    → IsRead third after (ToItsLimit limit name) h → Keeps third after
    → FilesRead before after (ToItsEnd a_name ∷ ToItsEnd b_name ∷ ToItsLimit limit name ∷ [])
three_ended before second third after limit a_name b_name name f g h same a keep1 b keep2 c keep3 =
    let a2 = keep2 f tt a.opened in
    let a3 = keep3 f tt a2.0 in
    let b3 = keep3 g tt b.opened in
    let c_ended = subst (λ fs. IsReadTo fs (ToItsLimit limit name) (after.opened h)) same c.ended in
    record {
      files = f ∷ g ∷ h ∷ [];
      read = (
        record { fresh = a.fresh; opened = a3.0; ended = rw (a3.1 ∙ a2.1) a.ended },
        ((λ e. b.fresh (subst second.is_open e a.opened)), ((λ e. c.fresh (subst third.is_open e a2.0)), tt)),
        (
          record { fresh = λ was_g. b.fresh (keep1 g tt was_g).0; opened = b3.0; ended = rw b3.1 b.ended },
          ((λ e. c.fresh (subst third.is_open e b.opened)), tt),
          (record { fresh = λ was_h. c.fresh (keep2 h tt (keep1 h tt was_h).0).0; opened = c.opened; ended = c_ended }, tt, tt),
        ),
      );
    }
