-- `exports::decoding::masks_from`: one mask more is read, and all 32 are the masks.
use Rattle.std.proofs.Common.{◌≡◌, ◌+◌, refl, sym, ◌∙◌, arith, get_or, length-set, take_all}
use Rattle.exports.proofs.Read.{read_next}
use Rattle.exports.proofs.decoding.masks_from.Goals as goal

pub loop-v-init : goal.loop-v-init
loop-v-init c = record { all = refl; read = refl }

pub loop-v-preserved : goal.loop-v-preserved
loop-v-preserved c =
    record {
      all = length-set c.loop-v.masks c.loop-v.v (get_or c.args.words.now (2 + c.loop-v.v) 0) ∙ c.loop-v.invariant.all;
      read = read_next c.loop-v.masks c.args.words.now 2 c.loop-v.v (omega (arith, c.loop-v.invariant.all)) (omega arith) c.loop-v.invariant.read;
    }

pub returns : goal.returns
returns c =
    let all : c.loop-v.v ≡ 32 = omega arith in
    sym (take_all 32 c.loop-v.masks (omega (arith, c.loop-v.invariant.all))) ∙ rw all at c.loop-v.invariant.read
