-- The one link from a site that an event touches, by the site to which it goes.
use Rattle.sdd_moments.proofs.All.{Across, Along, Around, Bool, From, None, Nowhere, Reach, Site, Some, ap, false, if◌then◌else◌, is_between, is_to, is_touched, other_end, refl, same_site, site_is, sym, touched_from, true, ◌&&◌, ◌||◌, ◌∙◌, ◌≡◌}

or_same : (b : Bool) → b ≡ (b || b)
or_same true = refl
or_same false = refl

or_nothing : (b : Bool) → b ≡ (b || false)
or_nothing true = refl
or_nothing false = refl

chosen : (p q : Bool) (a b y : Site) → (p ≡ true → q ≡ true → same_site y b ≡ same_site y a)
    → is_to (if p then Some b else if q then Some a else None) y ≡ ((p && same_site y b) || (q && same_site y a))
chosen true true a b y same = or_same (same_site y b) ∙ ap (λ c. same_site y b || c) (same refl refl)
chosen true false a b y same = or_nothing (same_site y b)
chosen false true a b y same = refl
chosen false false a b y same = refl

other_is : (a b x y : Site) → is_to (other_end a b x) y ≡ is_between a b x y
other_is a b x y =
    chosen (same_site x a) (same_site x b) a b y (λ p q. ap (same_site y) (sym (site_is x b q) ∙ site_is x a p))

pub touched_is : (r : Reach) (x y : Site) → is_to (touched_from r x) y ≡ is_touched r x y
touched_is Nowhere x y = refl
touched_is (Along a b) x y = other_is a b x y
touched_is (Across a b) x y = other_is a b x y
touched_is (From a) x y = refl
touched_is (Around a) x y = refl
