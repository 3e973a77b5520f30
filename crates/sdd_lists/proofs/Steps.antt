-- The catalogues that follow each other, one list more.
use Rattle.sdd_lists.proofs.All.{AreValidLists, Catalogue, Class, ClassPart, Fragment, List, Text, [], ap, append_assoc, arith, class_of, drop, drop_more, eras, extended, faults_of_added_classes, length, map, numbered, retired, slice_index_or as get_or, subst, sym, whole, with_added_classes, ℕ, ◌++◌, ◌+◌, ◌<◌, ◌∙◌, ◌∷◌, ◌≡◌}
use Rattle.sdd_lists.proofs.OtherClasses.{MayFollow, all_may_follow, none_further, others_may, over, retired_may}

abbrev fragments_of : Catalogue → List Text
fragments_of cat = map (λ (f : Fragment). f.name) cat.fragments

-- a catalogue with other classes, after which these lists may follow
pub record IsExtendedBy (cat last : Catalogue) (lists : List (List ClassPart)) : Type 0 where
  pub is : last ≡ over cat last.classes
  pub may : MayFollow cat last.classes lists

-- these classes after a catalogue's own
abbrev pub added : Catalogue → Catalogue → List ClassPart → Catalogue
added cat last first = extended (map (class_of (fragments_of cat)) first) last

pub added_is : (cat last : Catalogue) (first : List ClassPart) → last.fragments ≡ cat.fragments → with_added_classes first last ≡ added cat last first
added_is cat last first same = grind arith

-- nothing is broken where they may follow
pub none_broken : (cat last : Catalogue) (first : List ClassPart) (lists : List (List ClassPart))
    → IsExtendedBy cat last (first ∷ lists) → faults_of_added_classes last first ≡ []
none_broken cat last first lists s =
    subst (λ (c : Catalogue). faults_of_added_classes c first ≡ []) (sym s.is) (none_further cat last.classes first lists s.may)

-- with them the others may follow
pub follows_more : (cat last next : Catalogue) (first : List ClassPart) (lists : List (List ClassPart)) → IsExtendedBy cat last (first ∷ lists)
    → next ≡ with_added_classes first last → IsExtendedBy cat next lists
follows_more cat last next first lists s e =
    subst (λ (c : Catalogue). IsExtendedBy cat c lists) (sym (e ∙ added_is cat last first (ap (λ (c : Catalogue). c.fragments) s.is))) (record {
      is = ap (λ (c : Catalogue). extended (map (class_of (fragments_of cat)) first) c) s.is;
      may = others_may cat (fragments_of cat) last.classes first lists s.may;
    })

-- and it is so where own classes are emptied
pub follows_retired : (cat last : Catalogue) (n : ℕ) (lists : List (List ClassPart)) → IsExtendedBy cat last lists → IsExtendedBy cat (retired n last) lists
follows_retired cat last n lists s = record {
  is = ap (λ (c : Catalogue). retired n c) s.is;
  may = retired_may cat last.classes n lists s.may;
}

-- what is in force after a catalogue with these classes
abbrev pub followed_by : Catalogue → List ClassPart → Catalogue
followed_by last first = with_added_classes first (retired (length last.classes) last)

-- before the first list

pub begins : (cat last : Catalogue) (lists : List (List ClassPart)) → last ≡ cat → AreValidLists cat lists → IsExtendedBy cat last lists
begins cat last lists is valid = grind (arith, IsExtendedBy, all_may_follow)

pub eras_begin : (last cat : Catalogue) (before : List Catalogue) (lists : List (List Class)) → before ≡ [] → last ≡ cat
    → before ++ eras last lists ≡ eras cat lists
eras_begin last cat before lists none is = ap (λ (l : List Catalogue). l ++ eras last lists) none ∙ ap (λ (c : Catalogue). eras c lists) is

-- one list more, the first of those that are left
module _ (cat last : Catalogue) (lists : List (List ClassPart)) (i : ℕ) (item first : List ClassPart)
    (within : i < length lists) (there : item ≡ get_or lists i item) (same : first ≡ item) (follows : IsExtendedBy cat last (drop i lists)) where
  abbrev Others : List (List ClassPart)
  Others = drop (i + 1) lists

  left : drop i lists ≡ first ∷ Others
  left = drop_more lists i item within ∙ ap (λ (l : List ClassPart). l ∷ Others) (sym there ∙ sym same)

  follows_here : IsExtendedBy cat last (first ∷ Others)
  follows_here = subst (λ (l : List (List ClassPart)). IsExtendedBy cat last l) left follows

  -- in the catalogue in force

  retired_here : IsExtendedBy cat (retired (length last.classes) last) (first ∷ Others)
  retired_here = follows_retired cat last (length last.classes) (first ∷ Others) follows_here

  pub era_allowed : faults_of_added_classes (retired (length last.classes) last) first ≡ []
  era_allowed = none_broken cat (retired (length last.classes) last) first Others retired_here

  pub era_follows : (next : Catalogue) → next ≡ followed_by last first → IsExtendedBy cat next Others
  era_follows next e = follows_more cat (retired (length last.classes) last) next first Others retired_here e

  pub era_more : (next old : Catalogue) (before after total : List Catalogue) → next ≡ followed_by last first → old ≡ last
      → after ≡ before ++ old ∷ [] → before ++ eras last (numbered cat (drop i lists)) ≡ total → after ++ eras next (numbered cat Others) ≡ total
  era_more next old before after total e is grown so_far = grind (arith, added, added_is, Others, append_assoc, left)

  -- in the whole catalogue

  pub whole_allowed : faults_of_added_classes last first ≡ []
  whole_allowed = none_broken cat last first Others follows_here

  pub whole_follows : (next : Catalogue) → next ≡ with_added_classes first last → IsExtendedBy cat next Others
  whole_follows next e = follows_more cat last next first Others follows_here e

  pub whole_more : (next total : Catalogue) → next ≡ with_added_classes first last
      → whole last (numbered cat (drop i lists)) ≡ total → whole next (numbered cat Others) ≡ total
  whole_more next total e so_far = grind (arith, added, added_is, Others, left)
