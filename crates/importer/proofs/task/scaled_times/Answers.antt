-- `importer::task::scaled_times`: one time more is one cell more, and stays small.
use Rattle.std.proofs.Common.{arith}
use Rattle.importer.proofs.Figures.{scaled_none, scaled_next, none_small, next_small}
use Rattle.importer.proofs.task.scaled_times.Goals as goal

pub loop-v-init : goal.loop-v-init
loop-v-init c = record { value = scaled_none _ _; small = none_small }

pub loop-v-preserved : goal.loop-v-preserved
loop-v-preserved c =
    record {
      value = scaled_next c.loop-v.v c.args.percentage c.args.times.now c.loop-v.result _ (omega arith) c.loop-v.invariant.value c.scaled.ensures.value;
      small = next_small c.loop-v.result c.loop-v.v _ c.loop-v.invariant.small c.scaled.ensures.bound;
    }
