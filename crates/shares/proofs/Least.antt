-- The search gives the least that passes, or none: by induction on how many numbers are left to try.
use Prim.Native.Nat.{ℕ, zero, suc, ◌+◌, ◌-◌, ◌≤◌, ◌<◌}
use mathlib.Core.Path.{◌≡◌, refl, sym, subst}
use mathlib.Core.Logic.{◌⊎◌, inl, inr, ⊎_elim, ◌≢◌}
use mathlib.Core.Bool.{Bool, true, false, cond}
use native.Mathlib.Omega.{arith}
use lib.Dec.{T}
use lib.Arith.{lt_of_le-ne}
use Rattle.sheet.specs.declared.task.Figures.{Figures}
use Rattle.shares.specs.Test.{passes}
use Rattle.shares.specs.Search.{first, least_critical}

-- r is one of the n numbers from k on, and passes.
pub record Hit (test : ℕ → Bool) (k n r : ℕ) : Type 0 where
  pub from : k ≤ r
  pub below : r < k + n
  pub passed : T (test r)

module _ (test : ℕ → Bool) (none : ℕ) where
  pub first_at_most : (k n c : ℕ) → k ≤ c → c < k + n → T (test c) → first test none k n ≤ c
  unfolding first
  first_at_most k zero c from below passed = absurd (omega arith)
  first_at_most k (suc n) c from below passed =
      go (test k) refl (first_at_most (suc k) n c)
    where
      go : (t : Bool) → test k ≡ t → (suc k ≤ c → c < suc k + n → T (test c) → first test none (suc k) n ≤ c) →
          cond t k (first test none (suc k) n) ≤ c
      go true e rest = from
      go false e rest =
          let other : k ≢ c = λ q. subst T e (subst (λ z. T (test z)) (sym q) passed) in
          rest (lt_of_le-ne from other) (omega arith) passed

  pub first_either : (k n : ℕ) → (first test none k n ≡ none) ⊎ Hit test k n (first test none k n)
  unfolding first
  first_either k zero = inl refl
  first_either k (suc n) = go (test k) refl (first_either (suc k) n)
    where
      go : (t : Bool) → test k ≡ t → (first test none (suc k) n ≡ none) ⊎ Hit test (suc k) n (first test none (suc k) n) →
          (cond t k (first test none (suc k) n) ≡ none) ⊎ Hit test k (suc n) (cond t k (first test none (suc k) n))
      go true e rest = inr (record { from = omega arith; below = omega arith; passed = subst T (sym e) tt })
      go false e (inl none_left) = inl none_left
      go false e (inr h) = inr (record { from = omega arith; below = omega arith; passed = h.passed })

-- The least critical share at typical share a, within M.
module _ (M : ℕ) (f : Figures) (a : ℕ) where
  pub least_at_most : (b : ℕ) → a ≤ b → b ≤ M → T (passes f a b) → least_critical M f a ≤ b
  unfolding least_critical
  least_at_most b from within passed = first_at_most (passes f a) (M + 1) _ _ b (omega arith) (omega arith) passed

  least_either : (least_critical M f a ≡ M + 1) ⊎ Hit (passes f a) a (M + 1 - a) (least_critical M f a)
  unfolding least_critical
  least_either = first_either (passes f a) (M + 1) a (M + 1 - a)

  pub least_bound : least_critical M f a ≤ M + 1
  least_bound = ⊎_elim (λ e. omega arith) (λ h. omega arith) least_either

  pub least_from_lem : least_critical M f a ≤ M → a ≤ least_critical M f a
  least_from_lem within = ⊎_elim (λ e. absurd (omega arith)) (λ h. h.from) least_either

  pub least-passes : least_critical M f a ≤ M → T (passes f a (least_critical M f a))
  least-passes within = ⊎_elim (λ e. absurd (omega arith)) (λ h. h.passed) least_either

  pub least_none : least_critical M f a ≡ M + 1 → (b : ℕ) → a ≤ b → b ≤ M → T (passes f a b) → ⊥
  least_none none b from within passed = omega (arith, least_at_most b from within passed)

  pub none_least : ((b : ℕ) → a ≤ b → b ≤ M → T (passes f a b) → ⊥) → least_critical M f a ≡ M + 1
  none_least none =
      ⊎_elim (λ e. e) (λ h. absurd (none _ h.from (omega arith) h.passed)) least_either

  pub least_past : M < a → least_critical M f a ≡ M + 1
  least_past past = none_least (λ b from within passed. omega arith)
