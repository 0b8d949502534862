-- The shares of the first n tasks alone: the search among them finds what it finds among all.
use Prim.Native.Nat.{ℕ, ◌≤◌, ◌<◌}
use mathlib.Core.Path.{◌≡◌, ap, subst}
use mathlib.Core.Logic.{inl, inr}
use mathlib.Core.List.{List}
use native.Mathlib.Omega.{arith}
use lib.ListN.{length, take}
use Rattle.std.proofs.lemmas.List.{get_or-take, length-take-le, take_all}
use Rattle.shares.specs.declared.share.Share.{Share}
use Rattle.shares.specs.Totals.{share_at, critical_total, no_processors}
use Rattle.keeping.specs.Kept.{typical_share_at}
use Rattle.keeping.specs.Running.{critical_share_at}
use Rattle.keeping.specs.means.Keeping.{NotAfter, Next, none, found, Keepable}

module _ (M n : ℕ) (all : List Share) (there : n ≤ length all) where
  typical : (i : ℕ) → i < n → typical_share_at (take n all) i ≡ typical_share_at all i
  unfolding typical_share_at share_at
  typical i inside = ap (λ (s : Share). s.typical) (get_or-take n all i no_processors inside)

  critical : (i : ℕ) → i < n → critical_share_at (take n all) i ≡ critical_share_at all i
  unfolding critical_share_at share_at
  critical i inside = ap (λ (s : Share). s.critical) (get_or-take n all i no_processors inside)

  many : length (take n all) ≡ n
  many = length-take-le n all there

  total : critical_total (take n (take n all)) ≡ critical_total (take n all)
  total = ap critical_total (take_all n (take n all) (omega (arith, many)))

  pub front_able : Keepable M n all → Keepable M (length (take n all)) (take n all)
  front_able able =
      rw many (record {
        few = able.few;
        small = able.small;
        some_share = λ i inside. omega (arith, typical i inside, able.some_share i inside);
        within = λ i inside. omega (arith, typical i inside, able.within i inside);
        fits = omega (arith, total, able.fits);
      })

  not_after : (i j : ℕ) → i < n → j < n → NotAfter (typical_share_at (take n all)) i j → NotAfter (typical_share_at all) i j
  not_after i j here there (inl less) = inl (omega (arith, typical i here, typical j there))
  not_after i j here there (inr (same, before)) = inr (omega (arith, typical i here, typical j there), before)

  from_front : {i x : ℕ} → Next M n (take n all) i x → Next M n all i x
  from_front (none more) =
      none (λ j inside low. omega (arith, more j inside (omega (arith, critical j inside)), typical j inside, total))
  from_front (found {i} inside low fits first) =
      subst (Next M n all i) (omega (arith, typical i inside, total))
      (found inside (omega (arith, critical i inside)) (omega (arith, typical i inside, total))
      (λ j inside' low'. not_after i j inside inside' (first j inside' (omega (arith, critical j inside')))))

  -- A task that was found, and none.
  pub front_next : {i x : ℕ} → Next M (length (take n all)) (take n all) i x → Next M n all i x
  front_next {i} {x} next = from_front (subst (λ k. Next M k (take n all) i x) many next)

  pub front_none : {x : ℕ} → Next M (length (take n all)) (take n all) (length (take n all)) x → Next M n all n x
  front_none {x} next = from_front (subst (λ k. Next M k (take n all) k x) many next)
