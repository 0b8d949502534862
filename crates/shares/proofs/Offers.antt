-- An offer by its cells: a tabulated list is known by its length and its elements, and cells that are all filled are
-- one.
use Prim.Native.Nat.{ℕ, zero, suc, ◌+◌, ◌-◌, ◌≤◌, ◌<◌}
use mathlib.Core.Path.{◌≡◌, refl, sym, ap, ap₂, ◌∙◌}
use mathlib.Core.Bool.{cond}
use mathlib.Core.List.{List, ◌∷◌}
use native.Mathlib.Nat.{le_of_suc-le-suc, add-zero}
use native.Mathlib.Omega.{arith}
use native.Mathlib.Decide.{dec_le}
use lib.Dec.{ltb}
use lib.ListN.{length, get_or}
use lib.Seq.{ext_get_or}
use borrow.Author.Tests.{lt-ltb, le-ltb}
use Rattle.sheet.specs.declared.task.Task.{Task}
use Rattle.basics.specs.Lists.{cells_from}
use Rattle.shares.specs.Offer.{tabulate, critical_at, offer_of}

module _ (g : ℕ → ℕ) where
  pub tabulate-length : (k n : ℕ) → length (tabulate g k n) ≡ n
  unfolding tabulate
  tabulate-length k zero = refl
  tabulate-length k (suc n) = ap suc (tabulate-length (suc k) n)

  pub tabulate_at : (k n i : ℕ) → i < n → get_or (tabulate g k n) i 0 ≡ g (k + i)
  unfolding tabulate
  tabulate_at k zero i h = absurd (omega arith)
  tabulate_at k (suc n) zero h = ap g (sym (add-zero k))
  tabulate_at k (suc n) (suc i) h = tabulate_at (suc k) n i (le_of_suc-le-suc h) ∙ ap g (omega arith)

  -- A list with these cells.
  pub tabulated : (l : List ℕ) (k n : ℕ) → length l ≡ n → ((i : ℕ) → i < n → get_or l i 0 ≡ g (k + i)) → l ≡ tabulate g k n
  tabulated l k n long cells =
      ext_get_or 0 l (tabulate g k n) (long ∙ sym (tabulate-length k n))
      (λ i h. cells i (omega arith) ∙ sym (tabulate_at k n i (omega arith)))

-- Cells that are filled as far as g says anything are the values of g.
pub cells_tabulated : (g : ℕ → ℕ) (none first size count : ℕ) → ((a : ℕ) → count ≤ a → g a ≡ none) →
    cells_from first size g none count ≡ tabulate g first size
unfolding cells_from tabulate
cells_tabulated g none first zero count past = refl
cells_tabulated g none first (suc size) count past =
    ap₂ (λ (x : ℕ) (xs : List ℕ). x ∷ xs) (cell (dec_le count first)) (cells_tabulated g none (suc first) size count past)
  where
    cell : Dec (count ≤ first) → cond (ltb first count) (g first) none ≡ g first
    cell (yes empty) = rw (le-ltb first count empty) (sym (past first empty))
    cell (no filled) = rw (lt-ltb first count (omega arith))

-- The cell of typical share a is number a − 1.
pub offer_at : (M : ℕ) (t : Task) (a : ℕ) → 1 ≤ a → a ≤ 64 → get_or (offer_of M t) (a - 1) 0 ≡ critical_at M t a
unfolding offer_of
offer_at M t a one within =
    let e : 1 + (a - 1) ≡ a = omega arith in
    tabulate_at (critical_at M t) 1 64 (a - 1) (omega arith) ∙ ap (critical_at M t) e
