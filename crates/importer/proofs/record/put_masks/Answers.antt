-- `importer::record::put_masks`: the goals that the check leaves.
use Prim.Native.Nat.{ℕ, ◌<◌}
use mathlib.Core.Path.{◌≡◌, ◌∙◌}
use native.Mathlib.Omega.{arith}
use lib.ListN.{take, get_or}
use Rattle.std.proofs.lemmas.List.{get_or-take, length-take}
use Rattle.importer.proofs.Writing.{masks_step, masks_all}
use Rattle.importer.proofs.record.put_masks.Goals.{In-loop-v}
use Rattle.importer.proofs.record.put_masks.Goals as goal

inside : (c : In-loop-v) → c.loop-v.v < c.args.k
inside c = omega (arith, length-take {A = ℕ})

one : (c : In-loop-v) → get_or (take c.args.k c.args.masks.now) c.loop-v.v 0 ≡ get_or c.args.masks.now c.loop-v.v 0
one c = get_or-take c.args.k c.args.masks.now c.loop-v.v 0 (inside c)

pub loop-v-preserved : goal.loop-v-preserved
loop-v-preserved c =
    let at = (goal.at.loop-v-preserved c).In-loop-v in
    let within = inside at in (
      c.put_u32.auto.out ∙ c.loop-v.invariant.0,
      masks_step c.args.masks.now c.args.k c.loop-v.v c.loop-v.out c.put_u32.new.out _ within (omega (arith, within)) (rw (one at) at c.put_u32.ensures) c.loop-v.invariant.1,
    )

pub returns : goal.returns
returns c =
    masks_all c.args.masks.now c.args.k c.loop-v.v c.loop-v.out _ (omega (arith, length-take {A = ℕ})) c.loop-v.invariant.1
