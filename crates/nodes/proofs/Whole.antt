-- The full set of k nodes as a word: 2 ^ k - 1 up to 32 nodes, and all of the word beyond.
use Prim.Native.Nat.{ℕ, ◌-◌, ◌*◌, ◌≤◌, ◌^◌, ◌%◌, min}
use mathlib.Core.Path.{◌≡◌, sym, ap, ◌∙◌}
use native.Mathlib.Nat.{min-eq_left, min-eq_right}
use native.Mathlib.Omega.{arith}
use Rattle.std.proofs.lemmas.Nat.{one_shl}
use Rattle.basics.specs.Lists.{range}
use Rattle.nodes.specs.Sets.{set_of}
use Rattle.nodes.proofs.Members.{set_of-range}

pub full_below : (k : ℕ) → k ≤ 32 → 1 * 2 ^ k % 18446744073709551616 - 1 ≡ set_of (range 0 (min k 32))
full_below k few =
    ap (λ (n : ℕ). n - 1) (one_shl k 64 (omega arith)) ∙ sym (set_of-range k) ∙ ap (λ (n : ℕ). set_of (range 0 n)) (sym (min-eq_left {n = k} {m = 32} few))

pub full_beyond : (k : ℕ) → 32 ≤ k → 4294967295 ≡ set_of (range 0 (min k 32))
full_beyond k many = sym (set_of-range 32) ∙ ap (λ (n : ℕ). set_of (range 0 n)) (sym (min-eq_right {n = 32} {m = k} many))
