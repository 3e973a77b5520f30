-- Only what a message or a transaction touches may have a step after it.
use Rattle.sdd_tm.proofs.All.{AreApart, AreSettled, Bool, ClassNo, ClassState, Hold, IsCalm, List, Msg, None, Option, Release, Site, Some, State, Txn, all_places, ap, arith, class_given, class_handed, class_named, get_within, hold_handed, length, map, ne_eqb, of_map, one_place, place_of, refl, slice_get, some_is, start_step, state_given, state_handed, subst, sym, touched, touched_by, ℕ, ◌+◌, ◌∙◌, ◌≡◌, ◌≢◌, ◌≤◌}
use Rattle.sdd_tm.proofs.Dues.{none_parts}
use Rattle.sdd_tm.proofs.Calm.{calm_kept}
use Rattle.sdd_tm.proofs.ClassPlaces.{nowhere, somewhere}
use Rattle.sdd_tm.proofs.Handing.{handed_other}

-- the classes that f leaves as they are
kept_by : (f : ClassState → ClassState) (classes : List ClassState) (j : ℕ) (x : ClassState)
    → ((y : ClassState) → slice_get classes j ≡ Some y → f y ≡ y) → slice_get (map f classes) j ≡ Some x → slice_get classes j ≡ Some x
kept_by f classes j x same e = let r = of_map f classes j x e in r.1 ∙ ap Some (sym (same r.0 r.1) ∙ r.2)

starts_none : (old : State) → AreSettled old → (j : ℕ) (x : ClassState) → slice_get old.classes j ≡ Some x → start_step old.on_hold x ≡ None
starts_none old settled j x e = (none_parts old.on_hold x (settled j x e)).1

-- one class may be changed, and the hold stays
calm_one : (old new : State) (f : ClassState → ClassState) (c : ℕ) → AreSettled old → AreApart old.classes
    → new.classes ≡ map f old.classes → new.on_hold ≡ old.on_hold → ((x : ClassState) → x.line.class ≢ c → f x ≡ x)
    → (o : Option ℕ) → place_of old.classes c ≡ o → IsCalm (one_place o).from (one_place o).end new
calm_one old new f c settled apart is hold others None e =
    calm_kept old new 0 0 settled (omega arith)
    (λ j x g h. kept_by f old.classes j x (λ y k. others y (nowhere old.classes c e j y k)) (subst (λ cs. slice_get cs j ≡ Some x) is g))
    (λ j x g. (λ l. rw hold (starts_none old settled j x g), λ l. rw hold (starts_none old settled j x g)))
calm_one old new f c settled apart is hold others (Some p) e =
    let at = somewhere old.classes c p e in
    calm_kept old new p (p + 1) settled (omega arith)
    (grind (arith, kept_by, slice_get)) (λ j x g. (λ l. rw hold (starts_none old settled j x g), λ l. rw hold (starts_none old settled j x g)))

-- a message

hold_stays : (m : Msg) (d : ClassNo) (on_hold : Bool) → class_named m ≡ Some d → hold_handed m on_hold ≡ on_hold
hold_stays m d on_hold e = grind arith

pub unnamed : (from : Site) (m : Msg) (k : ClassState) → class_named m ≡ None → class_handed from m k ≡ k
unnamed from m k e = handed_other from m k (λ d f. absurd cc)

calm_same : (old : State) (from : Site) (m : Msg) → AreSettled old → class_named m ≡ None
    → hold_handed m old.on_hold ≡ old.on_hold → IsCalm 0 0 (state_handed from m old)
calm_same old from m settled e hold =
    calm_kept old (state_handed from m old) 0 0 settled (omega arith) (λ j x g h. (kept_by (class_handed from m) old.classes j x (λ y k. unnamed from m y e) g))
    (λ j x g. (λ l. rw hold (starts_none old settled j x g), λ l. rw hold (starts_none old settled j x g)))

calm_rest : (old : State) (from : Site) (m : Msg) → AreSettled old → class_named m ≡ None
    → IsCalm (all_places (length old.classes) m).from (all_places (length old.classes) m).end
    (state_handed from m old)
calm_rest old from (Release ts) settled e =
    calm_kept old (state_handed from (Release ts) old) 0 (length old.classes) settled (omega arith)
    (λ j x g h. (kept_by (class_handed from (Release ts)) old.classes j x (λ y k. unnamed from (Release ts) y e) g))
    (λ j x g. (λ l. absurd (omega arith), λ l. absurd (let w = get_within old.classes j x g in omega arith)))
calm_rest old from Hold settled e =
    calm_kept old (state_handed from Hold old) 0 0 settled (omega arith)
    (λ j x g h. (kept_by (class_handed from Hold) old.classes j x (λ y k. unnamed from Hold y e) g)) (λ j x g. (λ l. refl, λ l. refl))
calm_rest old from m settled e = calm_same old from m settled e refl

pub calm_handed : (old : State) (from : Site) (m : Msg) → AreSettled old → AreApart old.classes
    → IsCalm (touched old.classes m).from (touched old.classes m).end (state_handed from m old)
calm_handed old from m settled apart = by (class_named m) refl
  where
    by : (o : Option ClassNo) → class_named m ≡ o → IsCalm (touched_by old.classes m o).from (touched_by old.classes m o).end (state_handed from m old)
    by None e = calm_rest old from m settled e
    by (Some d) e =
        calm_one old (state_handed from m old) (class_handed from m) d.0 settled apart refl (hold_stays m d old.on_hold e)
        (λ x other. handed_other from m x (λ c f same. other (sym same ∙ ap (λ (k : ClassNo). k.0) (some_is (sym f ∙ e))))) (place_of old.classes d.0)
        refl

-- a transaction

pub given_other : (c n : ℕ) (txn : Txn) (k : ClassState) → k.line.class ≢ c → class_given c n txn k ≡ k
given_other c n txn k apart = rw (ne_eqb k.line.class c apart) refl

pub calm_given : (old : State) (c n : ℕ) (txn : Txn) → AreSettled old → AreApart old.classes
    → IsCalm (one_place (place_of old.classes c)).from (one_place (place_of old.classes c)).end
    (state_given c n txn old)
calm_given old c n txn settled apart = grind (arith, calm_one)

-- the places are there

pub place_within : (classes : List ClassState) (c : ℕ) → (one_place (place_of classes c)).end ≤ length classes
place_within classes c = (grind arith)

pub touched_within : (classes : List ClassState) (m : Msg) → (touched classes m).end ≤ length classes
touched_within classes m = grind arith
