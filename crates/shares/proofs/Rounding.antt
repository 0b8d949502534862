-- The library's quotient rounded up is S4.1's.
use Prim.Native.Nat.{ℕ, ◌+◌, ◌/◌, ◌%◌, ◌≤◌, min}
use mathlib.Core.Path.{◌≡◌, sym}
use native.Mathlib.Nat.{div-eq_of_lt-le}
use native.Mathlib.Omega.{arith}
use Rattle.std.proofs.lemmas.Grind.{div_ceil_times}
use Rattle.shares.specs.Low.{ceil_div}

pub div_ceil_is : (n d : ℕ) → 1 ≤ d → n / d + min 1 (n % d) ≡ ceil_div n d
unfolding ceil_div
div_ceil_is n d one =
    let bounds = div_ceil_times n d one in
    sym (div-eq_of_lt-le d (omega (arith, bounds.0)) (omega (arith, bounds.1)))
