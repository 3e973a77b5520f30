-- A world before its first event, over plain worlds.
use Rattle.sdd_world.proofs.All.{AllRepresent, Carries, HasBoxes, Input, IsBelow, IsGood, IsPlaced, IsSoundNetwork, KeepsFor, List, Mailbox, Msg, None, Option, Represents, Site, Some, Spooled, U, World, [], ap, arith, empty_boxes, empty_mailbox, false, get_or as slice_index_or, kept_from, length, length-replicate, mailbox_at, next_at_first, nth_era, place_of, queue_at, refl, replicate, rests_at_first, subst, suc, sym, true, zero, ℕ, ◌+◌, ◌<◌, ◌∙◌, ◌≡◌}
use Rattle.sdd_world.proofs.Placing.{is_placed, site_of}
use Rattle.sdd_sites.specs.needs.net.Mailboxes.{box_at}

nothing_at : {A : Type 0} (n k : ℕ) → slice_index_or (replicate {A = List A} n []) k [] ≡ []
nothing_at (suc n) (suc k) = nothing_at n k
nothing_at _ _ = refl

none_queued : {A : Type 0} (n : ℕ) (o : Option ℕ) → queue_at (replicate {A = List A} n []) o ≡ []
none_queued n None = refl
none_queued n (Some k) = nothing_at n k

one_of_all : {A : Type 0} (n i : ℕ) (x d : A) → i < n → slice_index_or (replicate n x) i d ≡ x
one_of_all zero i x d l = absurd (omega (arith, l))
one_of_all (suc n) zero x d l = refl
one_of_all (suc n) (suc i) x d l = one_of_all n i x d (omega (arith, l))

keeps_none : (g : Input) (tms dms : ℕ) (at : Site) (b : Mailbox Msg) → g.catalogue.tms ≡ tms → g.catalogue.dms ≡ dms
    → b ≡ empty_mailbox tms dms → KeepsFor g [] at b
keeps_none g tms dms at b t d e =
    let none : (x : Site) → kept_from b x ≡ [] = λ x. ap (λ v. kept_from v x) e ∙ none_queued (suc (tms + dms)) (place_of tms x) in
    record {
      down_is = ap (λ v. v.down) e;
      senders = record {
        tms = ap (λ v. v.tms) e ∙ sym t;
        count = ap (λ v. length v.queues) e ∙ length-replicate (suc (tms + dms)) []
            ∙ ap (λ k. suc (k + dms)) (sym t) ∙ ap (λ k. suc (g.catalogue.tms + k)) (sym d);
        linked = λ x n. none x;
      };
      kept = λ p x. (let no : false ≡ true = p in cc);
      empty = λ p x. none x;
    }

box_in : (n k : ℕ) (b : Mailbox Msg) → k < n → box_at (replicate n b) (Some k) ≡ b
box_in n k b l = one_of_all n k b _ l

empty_box : (n : ℕ) (o : Option ℕ) (b : Mailbox Msg) → IsBelow n o → box_at (replicate n b) o ≡ b
empty_box n None b h = absurd h
empty_box n (Some k) b h = box_in n k b h

spooled_none : (g : Input) (tms dms : ℕ) → g.catalogue.tms ≡ tms → g.catalogue.dms ≡ dms → Spooled g [] (empty_boxes tms dms) U
spooled_none g tms dms t d =
    let has : HasBoxes g (empty_boxes tms dms) = record {
      tms = sym t;
      count = length-replicate (suc (tms + dms)) (empty_mailbox tms dms) ∙ ap (λ k. suc (k + dms)) (sym t) ∙ ap (λ k. suc (g.catalogue.tms + k)) (sym d);
    } in
    record {
      has = has;
      each = λ at here apart.
          let there : IsPlaced (empty_boxes tms dms) at = is_placed g (empty_boxes tms dms) at has (site_of g at here) in
          keeps_none g tms dms at (mailbox_at (empty_boxes tms dms) at) t d
          (empty_box (suc (tms + dms)) (place_of tms at) (empty_mailbox tms dms)
          (subst (λ n. IsBelow n (place_of tms at)) (length-replicate (suc (tms + dms)) (empty_mailbox tms dms)) there));
    }

-- nothing is recorded, kept or due
pub begins : (w : World) (tms dms : ℕ) → w.history ≡ [] → w.marks ≡ 0 → w.given.items ≡ [] → w.spool ≡ empty_boxes tms dms
    → (g : Input) → IsGood g → IsSoundNetwork g → w.whole.now ≡ g.catalogue → w.catalogue.now ≡ (nth_era g 0).catalogue
    → g.catalogue.tms ≡ tms → g.catalogue.dms ≡ dms → w.txns ≡ g.txns → g.events ≡ []
    → AllRepresent w.sites g []
    → Carries w.net g.catalogue.tms g.catalogue.dms [] → Represents w g []
begins w tms dms h m v s g good sound all c t d x e sites net = record {
  calm = record {
    parts = record {
      good = good;
      sound = sound;
      whole_is = all;
      catalogue_is = c;
      txns_are = x;
      given_is = v ∙ sym e;
      history_is = h;
      sites = sites;
      net = net;
    };
    rests = rests_at_first g;
    marks_are = m;
    spooled = subst (λ boxes. Spooled g [] boxes U) (sym s) (spooled_none g tms dms t d);
  };
  complete = next_at_first g e;
}
