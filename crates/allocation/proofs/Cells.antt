-- The cells of offers and totals: an offer's cells one after the other, and what tabulated numbers say.
use Prim.Native.Nat.{ℕ, zero, suc, ◌+◌, ◌≤◌, ◌<◌}
use mathlib.Core.Path.{◌≡◌, refl, sym, ap, ◌∙◌}
use mathlib.Core.Bool.{Bool, true, false, ◌&&◌}
use mathlib.Core.Logic.{◌⊎◌, inl, inr}
use mathlib.Core.List.Memᴰ
use mathlib.Core.List.{List, ◌∷◌, Memᴰ}
use native.Mathlib.Numerals.{add-one}
use native.Mathlib.Omega.{arith}
use lib.Dec.{leb, ltb}
use lib.ListN.{length, get_or, drop, drop_of_length-le}
use lib.Seq.{drop-cons}
use borrow.Author.Tests.{lt-ltb, le-ltb, leb-true, leb-false}
use Rattle.shares.specs.Offer.{tabulate}
use Rattle.allocation.specs.means.Selection.{offers_none}

module _ (M : ℕ) (offer : List ℕ) (i : ℕ) (inside : i < length offer) where
  offers_open : offers_none M (drop i offer) ≡ ltb M (get_or offer i 0) && offers_none M (drop (i + 1) offer)
  unfolding offers_none
  offers_open = rw (drop-cons offer i 0, add-one i)

  -- A cell past M leaves it to the next ones.
  pub offers_on : M < get_or offer i 0 → offers_none M (drop (i + 1) offer) ≡ offers_none M (drop i offer)
  offers_on past = sym (offers_open ∙ ap (λ (t : Bool). t && offers_none M (drop (i + 1) offer)) (lt-ltb M (get_or offer i 0) past))

  -- A cell within M is offered.
  pub offers_stop : get_or offer i 0 ≤ M → offers_none M (drop i offer) ≡ false
  offers_stop within = offers_open ∙ ap (λ (t : Bool). t && offers_none M (drop (i + 1) offer)) (le-ltb M (get_or offer i 0) within)

-- Behind the last cell nothing is offered.
pub offers_end : (M : ℕ) (offer : List ℕ) (i : ℕ) → length offer ≤ i → offers_none M (drop i offer) ≡ true
unfolding offers_none
offers_end M offer i done = rw (drop_of_length-le offer done)

-- The members of tabulated numbers.
pub tabulate_from : (g : ℕ → ℕ) (k n x : ℕ) → Memᴰ x (tabulate g k n) → (a : ℕ) × ((k ≤ a) × (x ≡ g a))
unfolding tabulate
tabulate_from g k zero x m = absurd (Memᴰ.not-nil m)
tabulate_from g k (suc n) x m = go (tabulate_from g (suc k) n x) (Memᴰ.cases_cons m)
  where
    go : (Memᴰ x (tabulate g (suc k) n) → (a : ℕ) × ((suc k ≤ a) × (x ≡ g a))) →
        (x ≡ g k) ⊎ Memᴰ x (tabulate g (suc k) n) → (a : ℕ) × ((k ≤ a) × (x ≡ g a))
    go rest (inl e) = (k, (omega arith, e))
    go rest (inr later) = let found = rest later in let from = found.1.0 in (found.0, (omega arith, found.1.1))

pub tabulate-has : (g : ℕ → ℕ) (k n a : ℕ) → k ≤ a → a < k + n → Memᴰ (g a) (tabulate g k n)
unfolding tabulate
tabulate-has g k zero a from to = absurd (omega arith)
tabulate-has g k (suc n) a from to = go (leb a k) refl (tabulate-has g (suc k) n a)
  where
    go : (b : Bool) → leb a k ≡ b → (suc k ≤ a → a < suc k + n → Memᴰ (g a) (tabulate g (suc k) n)) →
        Memᴰ (g a) (g k ∷ tabulate g (suc k) n)
    go true e rest = let same : a ≡ k = omega (arith, leb-true a k e) in Memᴰ.head (ap g same)
    go false e rest = let past = leb-false a k e in Memᴰ.tail (rest (omega arith) (omega arith))
