-- A part of a list written over is a run of stores.
use Prim.Native.Nat.{ℕ, ◌+◌, ◌-◌, ◌≤◌}
use mathlib.Core.List.{List}
use mathlib.Core.Path.{◌≡◌}
use native.Mathlib.Omega.{arith}
use lib.ListN.{length}
use lib.Seq.{drop-drop, sets}
use Rattle.std.proofs.Common.{append_assoc}
use borrow.Rule.Slice.PartMut.{put_mid}
use Rattle.std.proofs.lemmas.List.Edits.{sets-eq}

pub put_mid_sets : (out bytes xs : List ℕ) (at k : ℕ) → xs ≡ bytes → length bytes ≡ k → at + k ≤ length out →
    put_mid at (at + k - at) out xs ≡ sets out at bytes
put_mid_sets out bytes xs at k same size inside =
    let span : at + k - at ≡ length bytes = omega arith in
    rw (span, same, sets-eq bytes out at (omega arith), drop-drop, append_assoc)
