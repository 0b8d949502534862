-- What a task may take, and its offer: a low task's one share, and a high task's passing pairs, of which the offer has
-- the least at each typical share.
use Prim.Native.Nat.{ℕ, ◌+◌, ◌-◌, ◌≤◌, ◌<◌}
use mathlib.Core.Path.{◌≡◌, refl, sym, ap, ◌∙◌, subst, ap₂}
use mathlib.Core.Bool.{Bool, true, false, cond}
use mathlib.Core.List.Memᴰ
use mathlib.Core.List.{List, [], ◌∷◌, Memᴰ}
use native.Mathlib.Omega.{arith}
use lib.Dec.{T}
use lib.Ieee.Bits.{is_true}
use Rattle.sheet.specs.declared.task.Figures.{Figures}
use Rattle.sheet.specs.declared.task.Task.{Task}
use Rattle.shares.specs.declared.share.Share.{Share}
use Rattle.shares.specs.Test.{passes}
use Rattle.sheet.specs.Level.{is_low}
use Rattle.shares.specs.Low.{low_share, has_low_share}
use Rattle.shares.specs.Search.{least_critical}
use Rattle.shares.specs.Offer.{critical_at, low_critical}
use Rattle.shares.proofs.Ends.{low_positive}
use Rattle.shares.proofs.Least.{least_at_most, least_from_lem, least-passes}
use Rattle.shares.proofs.Levels.{has_below, has_within, low_critical_own, low_critical_within, critical_low, critical_high}
use Rattle.basics.specs.Lists.{range}
use Rattle.allocation.specs.Choice.{low_options, pairs_within, high_options, options_of}
use Rattle.allocation.specs.Way.{LowPair, HighPair, MayTake}
use Rattle.allocation.specs.Lawful.{LawfulTask}
use Rattle.basics.proofs.Members.{range-has, range-within, flat_map-has, flat_map_from, filter-has, filter_from}
use Rattle.allocation.proofs.Lawfulness.{low_equal, heavy_work}
use Rattle.allocation.proofs.Optimal.{OfferOf}

module _ (M : ℕ) (f : Figures) where
  pub low_from : (s : Share) → Memᴰ s (low_options M f) → LowPair M f s
  unfolding low_options
  low_from s m = go (has_low_share M f) refl m
    where
      go : (h : Bool) → has_low_share M f ≡ h →
          Memᴰ s (cond h (record { typical = low_share f; critical = 0 } ∷ []) []) → LowPair M f s
      go true e n =
          let same = Memᴰ.eq_of_singleton n in
          record { has = e; typical = ap (λ (x : Share). x.typical) same; critical = ap (λ (x : Share). x.critical) same }
      go false e n = absurd (Memᴰ.not-nil n)

  pub low_has : (s : Share) → LowPair M f s → Memᴰ s (low_options M f)
  unfolding low_options
  low_has s pair = rw pair.has (Memᴰ.head (ap₂ (λ (a b : ℕ). record { typical = a; critical = b }) pair.typical pair.critical))

  pub high_from_lem : (s : Share) → Memᴰ s (high_options M f) → HighPair M f s
  unfolding high_options pairs_within
  high_from_lem s m =
      let kept = filter_from _ _ s m in
      let outer = flat_map_from _ (range 1 M) s kept.0 in
      let inner = Memᴰ.of_map _ (range outer.0 (M + 1 - outer.0)) outer.1.1 in
      let a = range-within 1 M _ outer.1.0 in
      let b = range-within outer.0 (M + 1 - outer.0) _ inner.1 in
      pair outer.0 inner.0
      (ap (λ (x : Share). x.typical) (sym inner.2)) (ap (λ (x : Share). x.critical) (sym inner.2))
      a.0 a.1 b.0 b.1 kept.1
    where
      pair : (a b : ℕ) → s.typical ≡ a → s.critical ≡ b → 1 ≤ a → a < 1 + M → a ≤ b → b < a + (M + 1 - a) →
          passes f s.typical s.critical ≡ true → HighPair M f s
      pair a b same-a same-b one a_to from b-to passing =
          record { positive = omega arith; ordered = omega arith; within = omega arith; passing = passing }

  pub high_has : (s : Share) → HighPair M f s → Memᴰ s (high_options M f)
  unfolding high_options pairs_within
  high_has s pair =
      let ordered = pair.ordered in
      let within = pair.within in
      filter-has _ _ s
      (flat_map-has _ (range 1 M) s.typical s (range-has 1 M s.typical pair.positive (omega arith))
      (Memᴰ.map (λ (b : ℕ). record { typical = s.typical; critical = b })
      (range-has s.typical (M + 1 - s.typical) s.critical ordered (omega arith))))
      pair.passing

module _ (M : ℕ) (t : Task) where
  pub options_low : is_low t.level ≡ true → options_of M t ≡ low_options M t.figures
  unfolding options_of
  options_low low = rw low

  pub options_high : is_low t.level ≡ false → options_of M t ≡ high_options M t.figures
  unfolding options_of
  options_high high = rw high

  -- The options are what the task may take.
  pub option_may : (s : Share) → Memᴰ s (options_of M t) → MayTake M t s
  option_may s m =
      record {
        high = λ high. high_from_lem M t.figures s (subst (λ (o : List Share). Memᴰ s o) (options_high high) m);
        low = λ low. low_from M t.figures s (subst (λ (o : List Share). Memᴰ s o) (options_low low) m);
      }

  pub may_option : (s : Share) → MayTake M t s → Memᴰ s (options_of M t)
  may_option s may = go (is_low t.level) refl
    where
      go : (l : Bool) → is_low t.level ≡ l → Memᴰ s (options_of M t)
      go true low = rw (options_low low) (low_has M t.figures s (may.low low))
      go false high = rw (options_high high) (high_has M t.figures s (may.high high))

  -- A lawful low task has a share of at least 1.
  pub low_share_positive : LawfulTask t → is_low t.level ≡ true → has_low_share M t.figures ≡ true → 1 ≤ low_share t.figures
  low_share_positive lawful low has =
      let below = has_below M t.figures has in
      let equal = low_equal t.level t.figures lawful.figures low in
      low_positive t.figures (omega (arith, heavy_work t.figures lawful.heavy, equal.0)) below

  -- The offer of a task.
  offer_low_of : LawfulTask t → is_low t.level ≡ true → OfferOf M (low_options M t.figures) (critical_at M t)
  offer_low_of lawful low =
      record {
        positive = λ s m. let pair = low_from M t.figures s m in rw pair.typical (low_share_positive lawful low pair.has);
        within = λ s m. let pair = low_from M t.figures s m in rw pair.typical (has_within M t.figures pair.has);
        small = λ s m. let none = (low_from M t.figures s m).critical in omega arith;
        least = λ s m.
            let pair = low_from M t.figures s m in
            rw (critical_low M t low, pair.typical, low_critical_own M t.figures pair.has) (omega arith);
        offers = λ a one within offers.
            let own = low_critical_within M t.figures a (rw (critical_low M t low) at offers) in
            low_has M t.figures _
            (record {
              has = own.0;
              typical = own.1;
              critical = critical_low M t low a ∙ ap (low_critical M t.figures) own.1 ∙ low_critical_own M t.figures own.0;
            });
      }

  offer_high_of : is_low t.level ≡ false → OfferOf M (high_options M t.figures) (critical_at M t)
  offer_high_of high =
      record {
        positive = λ s m. (high_from_lem M t.figures s m).positive;
        within = λ s m. let pair = high_from_lem M t.figures s m in omega arith;
        small = λ s m. (high_from_lem M t.figures s m).within;
        least = λ s m.
            let pair = high_from_lem M t.figures s m in
            rw (critical_high M t high)
            (least_at_most M t.figures s.typical s.critical pair.ordered pair.within (subst T (sym pair.passing) tt));
        offers = λ a one within offers.
            let few : least_critical M t.figures a ≤ M = rw (critical_high M t high) at offers in
            high_has M t.figures _
            (record {
              positive = one;
              ordered = rw (critical_high M t high) (least_from_lem M t.figures a few);
              within = offers;
              passing = rw (critical_high M t high) (is_true _ (least-passes M t.figures a few));
            });
      }

  pub offer_of_lem : LawfulTask t → OfferOf M (options_of M t) (critical_at M t)
  offer_of_lem lawful = go (is_low t.level) refl
    where
      go : (l : Bool) → is_low t.level ≡ l → OfferOf M (options_of M t) (critical_at M t)
      go true e = rw (options_low e) (offer_low_of lawful e)
      go false e = rw (options_high e) (offer_high_of e)

-- An offer that agrees with an offer of these options from 1 to M is one.
pub offer_agrees : (M : ℕ) (options : List Share) (offer offer' : ℕ → ℕ) → M ≤ 64 → ((a : ℕ) → 1 ≤ a → a ≤ 64 → offer' a ≡ offer a) →
    OfferOf M options offer → OfferOf M options offer'
offer_agrees M options offer offer' few same r =
    record {
      positive = r.positive;
      within = r.within;
      small = r.small;
      least = λ s m. rw (same s.typical (r.positive s m) (omega (arith, r.within s m))) (r.least s m);
      offers = λ a from to few.
          let e = same a from to in
          subst (λ (b : ℕ). Memᴰ (record { typical = a; critical = b }) options) (sym e) (r.offers a from to (rw e at few));
    }
