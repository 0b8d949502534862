-- How long lines are: a number below 10 ^ k has at most k digits, so that sixteen lines of a plan fit a text.
use Prim.Native.Nat.{ℕ, zero, suc, ◌+◌, ◌*◌, ◌/◌, ◌%◌, ◌^◌, ◌≤◌, ◌<◌}
use mathlib.Core.List.{List, [], ◌∷◌}
use native.Mathlib.Decide.{dec_lt}
use native.Mathlib.Nat.{div-lt_iff_lt-mul, pow-suc}
use native.Mathlib.Omega.{arith}
use lib.ListN.{length, length-append}
use Rattle.std.specs.Prelude.{flat_map}
use Rattle.basics.specs.Lists.{range}
use Rattle.basics.specs.Digits.{digit}
use Rattle.plan_text.specs.Decimal.{decimal}
use Rattle.plan_text.specs.Lines.{mark, line}
use Rattle.allocation.specs.declared.allocate.Allocation.{Allocation}
use Rattle.allocation.specs.Allocation.{allocation_at}
use Rattle.allocation.specs.means.Bounds.{AllBounded}
use Rattle.plan_text.specs.Printed.{fields_of, plan_lines, refusal_line}
use Rattle.plan_text.specs.means.Growth.{room}
use Rattle.plan_text.proofs.Digits.{one_digit, more_digits}

-- A number below 10 ^ (k + 1) has at most k + 1 digits.
decimal-length : (k n : ℕ) → n < 10 ^ suc k → length (decimal n) ≤ suc k
decimal-length zero n h = rw (one_digit n h) (omega arith)
decimal-length (suc k) n h = go (dec_lt n 10) (decimal-length k (n / 10))
  where
    go : Dec (n < 10) → (n / 10 < 10 ^ suc k → length (decimal (n / 10)) ≤ suc k) → length (decimal n) ≤ suc (suc k)
    go (yes less) rest = rw (one_digit n less) (omega arith)
    go (no more) rest =
        let fewer = rest ((div-lt_iff_lt-mul {k = 10} {x = n} {y = 10 ^ suc k} (omega arith)).1 (rw (pow-suc 10 (suc k)) at h)) in
        rw (more_digits n (omega arith), length-append (decimal (n / 10)) (digit (n % 10) ∷ [])) (omega arith)

-- A number of a line with its mark.
field_length : (k n : ℕ) (rest : List ℕ) → n < 10 ^ suc k → length (line (n ∷ rest)) ≤ suc k + 1 + length (line rest)
field_length k n rest h =
    let digits = decimal-length k n h in
    rw (length-append (decimal n) (mark (length rest) ∷ line rest)) (omega arith)

-- The line of seven numbers: five of at most two digits, one of at most seven, and one of at most two.
seven_length : (a b c d e v r : ℕ) → a < 10 ^ 2 → b < 10 ^ 2 → c < 10 ^ 2 → d < 10 ^ 2 → e < 10 ^ 2 → v < 10 ^ 7 → r < 10 ^ 2 →
    length (line (a ∷ b ∷ c ∷ d ∷ e ∷ v ∷ r ∷ [])) ≤ 26
seven_length a b c d e v r ha hb hc hd he hv hr = omega (
  arith,
  field_length 1 a (b ∷ c ∷ d ∷ e ∷ v ∷ r ∷ []) ha,
  field_length 1 b (c ∷ d ∷ e ∷ v ∷ r ∷ []) hb,
  field_length 1 c (d ∷ e ∷ v ∷ r ∷ []) hc,
  field_length 1 d (e ∷ v ∷ r ∷ []) hd,
  field_length 1 e (v ∷ r ∷ []) he,
  field_length 6 v (r ∷ []) hv,
  field_length 1 r [] hr,
)

-- What f gives for the numbers of a range, each of at most b bytes.
flat_map-length : (f : ℕ → List ℕ) (b first n : ℕ) → ((i : ℕ) → i < first + n → length (f i) ≤ b) → length (flat_map f (range first n)) ≤ b * n
unfolding range
flat_map-length f b first zero h = omega arith
flat_map-length f b first (suc n) h =
    let one = h first (omega arith) in
    let rest = flat_map-length f b (suc first) n (λ i l. h i (omega arith)) in
    rw (length-append (f first) (flat_map f (range (suc first) n))) (omega arith)

-- The lines of tasks whose blocks, V and remainders are small.
module _ (n : ℕ) (allocations : List Allocation) (small : AllBounded allocations n) where
  fields_length : (i : ℕ) → i < n → length (line (fields_of i (allocation_at allocations i))) ≤ 26
  unfolding fields_of
  fields_length i h =
      let few = small.few in
      let here = small.each i h in
      let typical = here.typical in
      let critical = here.critical in
      let virtual = here.virtual in
      let left = here.remainder in
      seven_length i _ _ _ _ _ _ (omega arith) (omega arith) (omega arith) (omega arith) (omega arith) (omega arith) (omega arith)

  pub lines_length : length (plan_lines n allocations) ≤ room
  unfolding plan_lines
  lines_length =
      let few = small.few in
      let all = flat_map-length (λ i. line (fields_of i (allocation_at allocations i))) 26 0 n (λ i h. fields_length i (omega arith)) in
      omega arith

-- The line of a refusal whose number and task are bytes.
pub refusal-length : (number task : ℕ) → number < 256 → task < 256 → length (refusal_line number task) ≤ room
unfolding refusal_line
refusal-length number task h g =
    omega (arith, field_length 2 number (task ∷ []) (omega arith), field_length 2 task [] (omega arith))
