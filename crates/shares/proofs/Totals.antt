-- Sums of the first shares of a list, with one more and with more of them.
use Prim.Native.Nat.{ℕ, zero, suc, ◌+◌, ◌≤◌, ◌<◌}
use mathlib.Core.Path.{◌≡◌, refl, ap₂}
use mathlib.Core.Bool.{Bool, true, false}
use mathlib.Core.List.{List, [], ◌∷◌, ◌++◌}
use native.Mathlib.Numerals.{add-one}
use native.Mathlib.Omega.{arith}
use lib.ListN.{length, get_or, take}
use lib.Seq.{take-suc}
use Rattle.shares.specs.declared.share.Share.{Share}
use Rattle.shares.specs.Totals.{no_processors, share_at, share_in, share_total}

-- The shares up to a task, with one more.
total_snoc : (mode : Bool) (shares : List Share) (s : Share) → share_total mode (shares ++ (s ∷ [])) ≡ share_total mode shares + share_in mode s
total_snoc false [] s = omega arith
total_snoc false (u ∷ shares) s = omega (arith, total_snoc false shares s)
total_snoc true [] s = omega arith
total_snoc true (u ∷ shares) s = omega (arith, total_snoc true shares s)

-- A part of the shares totals no more than all of them.
pub total_part : (mode : Bool) (shares : List Share) (i : ℕ) → share_total mode (take i shares) ≤ share_total mode shares
total_part false shares zero = omega arith
total_part false [] (suc i) = omega arith
total_part false (s ∷ shares) (suc i) = omega (arith, total_part false shares i)
total_part true shares zero = omega arith
total_part true [] (suc i) = omega arith
total_part true (s ∷ shares) (suc i) = omega (arith, total_part true shares i)

-- More tasks total no less.
pub total_more : (mode : Bool) (shares : List Share) (i j : ℕ) → i ≤ j → share_total mode (take i shares) ≤ share_total mode (take j shares)
total_more false shares zero j h = omega arith
total_more false [] (suc i) j h = omega arith
total_more false (s ∷ shares) (suc i) zero h = absurd (omega arith)
total_more false (s ∷ shares) (suc i) (suc j) h = omega (arith, total_more false shares i j (omega arith))
total_more true shares zero j h = omega arith
total_more true [] (suc i) j h = omega arith
total_more true (s ∷ shares) (suc i) zero h = absurd (omega arith)
total_more true (s ∷ shares) (suc i) (suc j) h = omega (arith, total_more true shares i j (omega arith))

-- The first i shares, and the next one.
pub total_next : (mode : Bool) (shares : List Share) (i : ℕ) → i < length shares →
    share_total mode (take (i + 1) shares) ≡ share_total mode (take i shares) + share_in mode (share_at shares i)
unfolding share_at
total_next mode shares i inside =
    rw (add-one i, take-suc shares i no_processors) (total_snoc mode (take i shares) (get_or shares i no_processors))

-- Shares that are alike in a mode have the same sums in it.
pub total_same : (mode : Bool) (a b : List Share) → length a ≡ length b →
    ((i : ℕ) → share_in mode (share_at a i) ≡ share_in mode (share_at b i)) →
    (i : ℕ) → share_total mode (take i a) ≡ share_total mode (take i b)
unfolding share_at
total_same mode a b long same zero = refl
total_same mode [] [] long same (suc i) = refl
total_same mode [] (t ∷ b) long same (suc i) = absurd (omega arith)
total_same mode (s ∷ a) [] long same (suc i) = absurd (omega arith)
total_same mode (s ∷ a) (t ∷ b) long same (suc i) = ap₂ ◌+◌ (same 0) (total_same mode a b (omega arith) (λ j. same (suc j)) i)
