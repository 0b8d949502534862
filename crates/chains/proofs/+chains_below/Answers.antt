-- `chains::chains_below`: the call for v stores the chain of v - 1 behind the chains below v - 1, which its call of itself gives.
use Prim.Native.Nat.{suc, ◌-◌, ◌<◌}
use mathlib.Core.Path.{◌≡◌}
use native.Mathlib.Omega.{arith}
use Rattle.chains.proofs.Stores.{own_small, chains_stored}
use Rattle.chains.proofs.+chains_below.Goals as goal

pub overflow_add-chains : goal.overflow_add-chains
overflow_add-chains t c =
    let few : c.args.v - 1 < 32 = omega arith in
    omega (arith, own_small c.args.masks.now c.args.times.now (c.args.v - 1) _ _ few c.chains_below-chains.ensures (rw c.from_bits.ensures at c.longest_among.ensures) c.requires.small)

pub returns : goal.returns
returns t c =
    let few : c.args.v - 1 < 32 = omega arith in
    let stored = chains_stored c.args.masks.now c.args.times.now (c.args.v - 1) c.chains_below-chains.result c.longest_among.result few c.chains_below-chains.ensures (rw c.from_bits.ensures at c.longest_among.ensures) in
    let next : suc (c.args.v - 1) ≡ c.args.v = omega arith in
    rw next at stored
