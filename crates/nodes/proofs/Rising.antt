-- Rising lists of numbers below k are the lists of members: each is `filter` of being in it, so `members k (set_of vs)`
-- is vs.
use Prim.Native.Nat.{ℕ, zero, suc, ◌+◌, ◌^◌, ◌≤◌, ◌<◌}
use mathlib.Core.Path.{◌≡◌, refl, sym, ap, ap₂, ◌∙◌}
use mathlib.Core.Bool.{Bool, true, false, ◌||◌}
use mathlib.Core.List.{List, [], ◌∷◌}
use native.Mathlib.Decide.{ℕ_discrete}
use native.Mathlib.Omega.{arith}
use borrow.Author.Tests.{eq-eqb, ne_eqb}
use lib.Dec.{eqb}
use lib.ListN.{take}
use Rattle.std.specs.Prelude.{filter}
use Rattle.basics.specs.Lists.{range, kept_if}
use Rattle.nodes.specs.Sets.{members, set_of}
use Rattle.basics.proofs.Lists.{filter_ext, filter_none}
use Rattle.nodes.proofs.Members.{members-set_of-filter, set_of-filter_lt}

-- Each number of the list is at least `low`, below k and below those after it.
abbrev pub Rising : ℕ → ℕ → List ℕ → Type 0
Rising low k [] = Unit {0}
Rising low k (v ∷ vs) = (low ≤ v) × (v < k) × Rising (suc v) k vs

-- Rising lists: with a lower start, without the numbers that fail a test, cut short.
pub rising_weaken : (low low' k : ℕ) (vs : List ℕ) → low' ≤ low → Rising low k vs → Rising low' k vs
rising_weaken low low' k [] h r = tt
rising_weaken low low' k (v ∷ vs) h r = (omega arith, r.1, r.2)

rising_kept : (t : Bool) (low k v : ℕ) (vs : List ℕ) → low ≤ v → v < k → Rising (suc v) k vs → Rising low k (kept_if t v vs)
rising_kept true low k v vs a b r = (a, b, r)
rising_kept false low k v vs a b r = rising_weaken (suc v) low k vs (omega arith) r

pub rising_filter : (p : ℕ → Bool) (low k : ℕ) (vs : List ℕ) → Rising low k vs → Rising low k (filter p vs)
rising_filter p low k [] r = tt
rising_filter p low k (v ∷ vs) r = rising_kept (p v) low k v (filter p vs) r.0 r.1 (rising_filter p (suc v) k vs r.2)

pub rising_take : (s low k : ℕ) (vs : List ℕ) → Rising low k vs → Rising low k (take s vs)
rising_take zero low k [] r = tt
rising_take zero low k (v ∷ vs) r = tt
rising_take (suc s) low k [] r = tt
rising_take (suc s) low k (v ∷ vs) r = (r.0, r.1, rising_take s (suc v) k vs r.2)

pub rising_range : (first n k : ℕ) → first + n ≤ k → Rising first k (range first n)
unfolding range
rising_range first zero k h = tt
rising_range first (suc n) k h = (omega arith, omega arith, rising_range (suc first) n k (omega arith))

-- Whether a number is in a list.
abbrev is_in : ℕ → List ℕ → Bool
is_in u [] = false
is_in u (v ∷ vs) = eqb u v || is_in u vs

not_in : (u low k : ℕ) (vs : List ℕ) → u < low → Rising low k vs → is_in u vs ≡ false
not_in u low k [] h r = refl
not_in u low k (v ∷ vs) h r =
    rw (ne_eqb u v (λ e. omega arith)) (not_in u (suc v) k vs (omega arith) r.2)

-- A rising list is what its own test keeps of the range.
rising_is_filter : (low n k : ℕ) (vs : List ℕ) → low + n ≡ k → Rising low k vs → filter (λ u. is_in u vs) (range low n) ≡ vs
unfolding range
rising_is_filter low zero k [] e r = refl
rising_is_filter low zero k (v ∷ vs) e r = absurd (omega arith)
rising_is_filter low (suc n) k [] e r = filter_none (λ u. false) (range low (suc n)) (λ u m. refl)
rising_is_filter low (suc n) k (v ∷ vs) e r =
    go (ℕ_discrete low v) (rising_is_filter (suc low) n k vs (omega arith)) (rising_is_filter (suc low) n k (v ∷ vs) (omega arith))
  where
    go : Dec (low ≡ v) → (Rising (suc low) k vs → filter (λ u. is_in u vs) (range (suc low) n) ≡ vs)
        → (Rising (suc low) k (v ∷ vs) → filter (λ u. is_in u (v ∷ vs)) (range (suc low) n) ≡ v ∷ vs)
        → kept_if (is_in low (v ∷ vs)) low (filter (λ u. is_in u (v ∷ vs)) (range (suc low) n)) ≡ v ∷ vs
    go (yes d) here later =
        rw (eq-eqb low v d)
        (ap₂ (λ (x : ℕ) (xs : List ℕ). x ∷ xs) d
        (filter_ext (λ u. is_in u (v ∷ vs)) (λ u. is_in u vs) (suc low) n (λ u a b. rw (ne_eqb u v (λ c. omega arith)))
        ∙ here (rising_weaken (suc v) (suc low) k vs (omega arith) r.2)))
    go (no d) here later =
        rw (not_in low (suc low) k (v ∷ vs) (omega arith) (omega arith, r.1, r.2)) (later (omega arith, r.1, r.2))

below_is_filter : (k : ℕ) (vs : List ℕ) → Rising 0 k vs → vs ≡ filter (λ u. is_in u vs) (range 0 k)
below_is_filter k vs r = sym (rising_is_filter 0 k k vs (omega arith) r)

-- A rising list below k, as a set and back; the set lies below 2 ^ k.
pub members-set_of : (k : ℕ) (vs : List ℕ) → Rising 0 k vs → members k (set_of vs) ≡ vs
members-set_of k vs r =
    ap (λ (xs : List ℕ). members k (set_of xs)) (below_is_filter k vs r) ∙ members-set_of-filter (λ u. is_in u vs) k ∙ sym (below_is_filter k vs r)

pub set_of_lt : (k : ℕ) (vs : List ℕ) → Rising 0 k vs → set_of vs < 2 ^ k
set_of_lt k vs r = rw (below_is_filter k vs r) (set_of-filter_lt (λ u. is_in u vs) k)
