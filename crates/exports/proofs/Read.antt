-- Words read one behind the other.
use Rattle.std.proofs.Common.{◌≡◌, ℕ, ◌+◌, ◌<◌, List, length, take, drop, set, get_or, add-one, arith, take-suc, get_or-drop, length-drop}
use Rattle.std.proofs.Math.Seq.{take-suc-set}

-- One more word read.
pub read_next : (words line : List ℕ) (at v : ℕ) → v < length words → at + v < length line → take v words ≡ take v (drop at line) →
    take (v + 1) (set words v (get_or line (at + v) 0)) ≡ take (v + 1) (drop at line)
read_next words line at v room inside so_far =
    let short : v < length (drop at line) = omega (arith, length-drop at line) in
    rw (add-one v, take-suc-set words v (get_or line (at + v) 0) room, take-suc (drop at line) v 0 short, get_or-drop at line v 0, so_far)
