-- `importer::record::put_masks`: what is written, with the masks left, is the whole.
use Prim.Native.Nat.{◌+◌, ◌*◌, ◌-◌}
use mathlib.Core.Path.{◌≡◌}
use lib.ListN.{length, drop}
use lib.Seq.{sets}
use Rattle.sheet.specs.Encoding.{masks_bytes}
use Rattle.importer.proofs.record.put_masks.Given as goal

abbrev pub invariant-loop-v : goal.invariant-loop-v
invariant-loop-v l =
    (length l.out ≡ length l.initial.out)
    × (sets l.out (12 + 4 * l.v) (masks_bytes (l.k - l.v) (drop l.v l.masks)) ≡ sets l.initial.out 12 (masks_bytes l.k l.masks))
