-- The bits of a set kept in a number: `has` of each operation on words, parts of a set, and that the bits determine
-- the set. By induction on the bit's place or on the digits, one halving a step.
use Prim.Native.Nat.{ℕ, zero, suc, ◌-◌, ◌/◌, ◌%◌, ◌^◌, ◌≤◌, ◌<◌, zero-le}
use mathlib.Core.Path.{◌≡◌, refl, sym, ap, ◌∙◌}
use mathlib.Core.Logic.{◌⊎◌, inl, inr}
use mathlib.Core.Bool.{Bool, true, false, not, ◌&&◌, ◌||◌, true≢false, and-eq-true_iff}
use native.Mathlib.Nat.{div-one, zero-div, div-eq_of_lt, lt_of_lt_of_le, lt_of_not-le, le_antisymm, pow-suc}
use native.Mathlib.Numerals.{one-add}
use native.Mathlib.Omega.{arith}
use borrow.Author.Tests.{eqb-true, lt-ltb}
use lib.Arith.{bin_ind}
use lib.Bits.{bit_and, bit_or, and_shr, or_shr, and_mod, or_mod}
use lib.Dec.{eqb, ltb, eqb-zero-suc, eqb-suc-zero, eqb-suc-suc, leb-suc-suc, leb-suc-zero, leb-zero}
use lib.Pow.{pow_pos, pow_mono, shr-shr, lt_of_le_ones}
use Rattle.basics.proofs.Logic.{under}
use Rattle.nodes.specs.Sets.{has}

-- The lowest digit of a number, by its cases.
pub digit_cases : (n : ℕ) → (n % 2 ≡ 0) ⊎ (n % 2 ≡ 1)
digit_cases n = go (n % 2) (omega arith)
  where
    go : (d : ℕ) → d < 2 → (d ≡ 0) ⊎ (d ≡ 1)
    go zero h = inl refl
    go (suc d) h = inr (omega arith)

-- The lowest bit is the lowest digit, and the others are the bits of the half.
pub has_first : (set : ℕ) → has set zero ≡ eqb (set % 2) 1
unfolding has
has_first set = rw div-one

pub has_next : (set v : ℕ) → has set (suc v) ≡ has (set / 2) v
unfolding has
has_next set v = ap (λ (n : ℕ). eqb (n % 2) 1) (ap (λ (n : ℕ). set / 2 ^ n) (sym (one-add v)) ∙ sym (shr-shr set 1 v))

-- The empty set.
pub has_zero : (v : ℕ) → has 0 v ≡ false
unfolding has
has_zero v = rw zero-div

-- A set below 2 ^ k has no member from k on.
pub has_above : (k set v : ℕ) → set < 2 ^ k → k ≤ v → has set v ≡ false
unfolding has
has_above k set v below up = rw (div-eq_of_lt (lt_of_lt_of_le below (pow_mono up)))

pub has_lt : (k set v : ℕ) → set < 2 ^ k → has set v ≡ true → v < k
has_lt k set v below m = lt_of_not-le (λ up. true≢false (sym m ∙ has_above k set v below up))

-- Two functions of two digits are equal if they agree at the four pairs.
digits_agree : (f g : ℕ → ℕ → Bool) → f 0 0 ≡ g 0 0 → f 0 1 ≡ g 0 1 → f 1 0 ≡ g 1 0 → f 1 1 ≡ g 1 1 → (a b : ℕ) → f (a % 2) (b % 2) ≡ g (a % 2) (b % 2)
digits_agree f g p q r s a b = go (digit_cases a) (digit_cases b)
  where
    go : (a % 2 ≡ 0) ⊎ (a % 2 ≡ 1) → (b % 2 ≡ 0) ⊎ (b % 2 ≡ 1) → f (a % 2) (b % 2) ≡ g (a % 2) (b % 2)
    go (inl e) (inl d) = rw (e, d) p
    go (inl e) (inr d) = rw (e, d) q
    go (inr e) (inl d) = rw (e, d) r
    go (inr e) (inr d) = rw (e, d) s

-- A union and an intersection.
pub has_or : (a b v : ℕ) → has (bit_or a b) v ≡ (has a v || has b v)
unfolding has
has_or a b v =
    rw (or_shr a b v, or_mod (a / 2 ^ v) (b / 2 ^ v) 1)
    (digits_agree (λ x y. eqb (bit_or x y) 1) (λ x y. eqb x 1 || eqb y 1) refl refl refl refl (a / 2 ^ v) (b / 2 ^ v))

pub has_and : (a b v : ℕ) → has (bit_and a b) v ≡ (has a v && has b v)
unfolding has
has_and a b v =
    rw (and_shr a b v, and_mod (a / 2 ^ v) (b / 2 ^ v) 1)
    (digits_agree (λ x y. eqb (bit_and x y) 1) (λ x y. eqb x 1 && eqb y 1) refl refl refl refl (a / 2 ^ v) (b / 2 ^ v))

-- The set of one node.
pub has_power : (j v : ℕ) → has (2 ^ j) v ≡ eqb v j
has_power zero zero = has_first 1
has_power (suc j) zero =
    let e : 2 ^ suc j % 2 ≡ 0 = omega (arith, pow-suc 2 j) in
    rw (has_first (2 ^ suc j), e, eqb-zero-suc j)
has_power zero (suc v) = rw (has_next 1 v, has_zero v, eqb-suc-zero v)
has_power (suc j) (suc v) =
    let e : 2 ^ suc j / 2 ≡ 2 ^ j = omega (arith, pow-suc 2 j) in
    rw (has_next (2 ^ suc j) v, e, has_power j v, eqb-suc-suc v j)

-- The set of the k lowest nodes.
pub has_ones : (k v : ℕ) → has (2 ^ k - 1) v ≡ ltb v k
has_ones zero v = rw (has_zero v, leb-suc-zero v)
has_ones (suc k) zero =
    let e : (2 ^ suc k - 1) % 2 ≡ 1 = omega (arith, pow-suc 2 k, pow_pos k) in
    rw (has_first (2 ^ suc k - 1), e, leb-suc-suc 0 k, leb-zero k)
has_ones (suc k) (suc v) =
    let e : (2 ^ suc k - 1) / 2 ≡ 2 ^ k - 1 = omega (arith, pow-suc 2 k, pow_pos k) in
    rw (has_next (2 ^ suc k - 1) v, e, has_ones k v, leb-suc-suc (suc v) k)

-- Every member of b is one of a.
abbrev pub Within : ℕ → ℕ → Type 0
Within b a = (v : ℕ) → has b v ≡ true → has a v ≡ true

within_half : (b a : ℕ) → Within b a → Within (b / 2) (a / 2)
within_half b a w v h = sym (has_next a v) ∙ w (suc v) (has_next b v ∙ h)

within-digit : (b a : ℕ) → Within b a → b % 2 ≤ a % 2
within-digit b a w = go (digit_cases b)
  where
    go : (b % 2 ≡ 0) ⊎ (b % 2 ≡ 1) → b % 2 ≤ a % 2
    go (inl e) = omega arith
    go (inr e) =
        let t : eqb (a % 2) 1 ≡ true = sym (has_first a) ∙ w zero (rw (has_first b, e)) in
        omega (arith, eqb-true (a % 2) 1 t)

-- A part of a set is no larger as a number.
pub within_le : (b a : ℕ) → Within b a → b ≤ a
within_le = bin_ind (λ (b : ℕ). (a : ℕ) → Within b a → b ≤ a) (λ a w. zero-le) (λ b ih a w. omega (arith, within-digit b a w, ih (a / 2) (within_half b a w)))

-- A set is determined by its bits: below 2 ^ k by those below k.
pub within_antisymm : (a b : ℕ) → Within a b → Within b a → a ≡ b
within_antisymm a b u w = le_antisymm (within_le a b u) (within_le b a w)

pub has_ext : (k a b : ℕ) → a < 2 ^ k → b < 2 ^ k → ((v : ℕ) → v < k → has a v ≡ has b v) → a ≡ b
has_ext k a b ha hb same =
    within_antisymm a b (λ v m. sym (same v (has_lt k a v ha m)) ∙ m) (λ v m. same v (has_lt k b v hb m) ∙ m)

pub below_of_has : (k set : ℕ) → ((v : ℕ) → has set v ≡ true → v < k) → set < 2 ^ k
below_of_has k set w = lt_of_le_ones k (within_le set (2 ^ k - 1) (λ v m. has_ones k v ∙ lt-ltb v k (w v m)))

-- A set less a part of it.
pub has_sub : (a b v : ℕ) → Within b a → has (a - b) v ≡ (has a v && not (has b v))
has_sub a b zero w =
    let e : (a - b) % 2 ≡ a % 2 - b % 2 = omega (arith, within-digit b a w, within_le (b / 2) (a / 2) (within_half b a w)) in
    rw (has_first (a - b), e, has_first a, has_first b)
    (digits_agree (λ x y. eqb (x - y) 1) (λ x y. eqb x 1 && not (eqb y 1)) refl refl refl refl a b)
has_sub a b (suc v) w =
    let e : (a - b) / 2 ≡ a / 2 - b / 2 = omega (arith, within-digit b a w, within_le (b / 2) (a / 2) (within_half b a w)) in
    rw (has_next (a - b) v, e, has_next a v, has_next b v) (has_sub (a / 2) (b / 2) v (within_half b a w))

-- Parts of a set: one of its nodes, and what it shares with another.
pub within_power : (a j : ℕ) → has a j ≡ true → Within (2 ^ j) a
within_power a j h v e = ap (has a) (eqb-true v j (sym (has_power j v) ∙ e)) ∙ h

pub within_and : (a b : ℕ) → Within (bit_and a b) a
within_and a b v e = ((and-eq-true_iff (has a v) (has b v)).0 (sym (has_and a b v) ∙ e)).0

pub has-without : (a b v : ℕ) → has (a - bit_and a b) v ≡ (has a v && not (has b v))
has-without a b v = has_sub a (bit_and a b) v (within_and a b) ∙ rw has_and (under (has a v) (λ e. rw e))
