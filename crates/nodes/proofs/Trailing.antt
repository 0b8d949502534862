-- The lowest member of a set is the number of zeros below its lowest one. By induction on the width, an even and an
-- odd set apart.
use Prim.Native.Nat.{ℕ, zero, suc, ◌-◌, ◌/◌, ◌%◌, ◌^◌, ◌≤◌, ◌<◌}
use mathlib.Core.Path.{◌≡◌, ap, ◌∙◌}
use mathlib.Core.Logic.{◌⊎◌, inl, inr}
use mathlib.Core.Bool.{true}
use mathlib.Core.List.{[], ◌∷◌, map}
use native.Mathlib.Nat.{pow-suc}
use native.Mathlib.Omega.{arith}
use lib.Bits.{bit_and, and_step, and_self}
use lib.Count.{count_trailing_zeros}
use Rattle.nodes.specs.Sets.{has, members}
use Rattle.nodes.proofs.Bits.{digit_cases, has_first, has_next, has_lt, within_power, within_le}
use Rattle.nodes.proofs.Members.{members_zero, members_next}

-- An even set has zeros of its half and one more; an odd set has none.
trailing_even : (k set : ℕ) → set % 2 ≡ 0 → count_trailing_zeros (suc k) set ≡ suc (count_trailing_zeros k (set / 2))
unfolding count_trailing_zeros
trailing_even k set e = rw e

trailing_odd : (k set : ℕ) → set % 2 ≡ 1 → count_trailing_zeros (suc k) set ≡ 0
unfolding count_trailing_zeros
trailing_odd k set e = rw e

members_even : (k set : ℕ) → set % 2 ≡ 0 → members (suc k) set ≡ map suc (members k (set / 2))
members_even k set e = members_next k set ∙ rw (has_first set, e)

members_odd : (k set : ℕ) → set % 2 ≡ 1 → members (suc k) set ≡ 0 ∷ map suc (members k (set / 2))
members_odd k set e = members_next k set ∙ rw (has_first set, e)

-- The lowest member is a member.
pub has_trailing : (k set : ℕ) → 0 < set → set < 2 ^ k → has set (count_trailing_zeros k set) ≡ true
has_trailing zero set low high = absurd (omega arith)
has_trailing (suc k) set low high = go (digit_cases set) (λ pos. has_trailing k (set / 2) pos (omega (arith, pow-suc 2 k)))
  where
    go : (set % 2 ≡ 0) ⊎ (set % 2 ≡ 1) → (0 < set / 2 → has (set / 2) (count_trailing_zeros k (set / 2)) ≡ true) → has set (count_trailing_zeros (suc k) set) ≡ true
    go (inl e) rest = rw (trailing_even k set e, has_next set (count_trailing_zeros k (set / 2))) (rest (omega arith))
    go (inr e) rest = rw (trailing_odd k set e, has_first set, e)

-- It lies below the width, and its power is a part of the set.
pub trailing_lt : (k set : ℕ) → 0 < set → set < 2 ^ k → count_trailing_zeros k set < k
trailing_lt k set low high = has_lt k set (count_trailing_zeros k set) high (has_trailing k set low high)

pub trailing_power : (k set : ℕ) → 0 < set → set < 2 ^ k → 2 ^ count_trailing_zeros k set ≤ set
trailing_power k set low high =
    within_le (2 ^ count_trailing_zeros k set) set (within_power set (count_trailing_zeros k set) (has_trailing k set low high))

-- The members are the lowest one and those of the set without it.
pub members_trailing : (k set : ℕ) → 0 < set → set < 2 ^ k → members k set ≡ count_trailing_zeros k set ∷ members k (set - 2 ^ count_trailing_zeros k set)
members_trailing zero set low high = absurd (omega arith)
members_trailing (suc k) set low high =
    go (digit_cases set) (count_trailing_zeros k (set / 2)) (λ pos. members_trailing k (set / 2) pos (omega (arith, pow-suc 2 k))) (trailing_even k set)
  where
    go : (set % 2 ≡ 0) ⊎ (set % 2 ≡ 1) → (t : ℕ) → (0 < set / 2 → members k (set / 2) ≡ t ∷ members k (set / 2 - 2 ^ t)) → (set % 2 ≡ 0 → count_trailing_zeros (suc k) set ≡ suc t)
        → members (suc k) set ≡ count_trailing_zeros (suc k) set ∷ members (suc k) (set - 2 ^ count_trailing_zeros (suc k) set)
    go (inl e) t rest up =
        let half : (set - 2 ^ suc t) / 2 ≡ set / 2 - 2 ^ t = omega (arith, pow-suc 2 t) in
        let even : (set - 2 ^ suc t) % 2 ≡ 0 = omega (arith, pow-suc 2 t) in
        rw (up e, members_even k set e, members_even k (set - 2 ^ suc t) even, half, rest (omega arith))
    go (inr e) t rest up =
        let half : (set - 1) / 2 ≡ set / 2 = omega arith in
        let even : (set - 1) % 2 ≡ 0 = omega arith in
        rw (trailing_odd k set e, members_odd k set e, members_even k (set - 1) even, half)

-- What a set and the number before it have in common is the set without its lowest member.
pub without_lowest : (k set : ℕ) → 0 < set → set < 2 ^ k → bit_and set (set - 1) ≡ set - 2 ^ count_trailing_zeros k set
without_lowest zero set low high = absurd (omega arith)
without_lowest (suc k) set low high = go (digit_cases set) (λ pos. without_lowest k (set / 2) pos (omega (arith, pow-suc 2 k)))
  where
    go : (set % 2 ≡ 0) ⊎ (set % 2 ≡ 1) → (0 < set / 2 → bit_and (set / 2) (set / 2 - 1) ≡ set / 2 - 2 ^ count_trailing_zeros k (set / 2)) →
        bit_and set (set - 1) ≡ set - 2 ^ count_trailing_zeros (suc k) set
    go (inl e) rest =
        let t = count_trailing_zeros k (set / 2) in
        let half : (set - 1) / 2 ≡ set / 2 - 1 = omega arith in
        let part = trailing_power k (set / 2) (omega arith) (omega (arith, pow-suc 2 k)) in
        rw (trailing_even k set e)
        (omega (arith, and_step set (set - 1), ap (bit_and (set / 2)) half, rest (omega arith), pow-suc 2 t, part))
    go (inr e) rest =
        let half : (set - 1) / 2 ≡ set / 2 = omega arith in
        rw (trailing_odd k set e) (omega (arith, and_step set (set - 1), ap (bit_and (set / 2)) half, and_self (set / 2)))

-- Taking the members one by one: an empty word has none, and any other has its lowest one before those of the word
-- without it.
pub members_end : (set : ℕ) → set ≡ 0 → members 32 set ≡ []
members_end set none = ap (members 32) none ∙ members_zero 32

pub members_step : (set : ℕ) → (set ≡ 0 → ⊥) → set < 2 ^ 32 →
    members 32 set ≡ count_trailing_zeros 32 set ∷ members 32 (bit_and set (set - 1))
members_step set some below =
    rw (without_lowest 32 set (omega arith) below) (members_trailing 32 set (omega arith) below)
