-- `guarantee::record::put_state`: what is written, with the tasks left, is the whole, and there is room for them.
use Prim.Native.Nat.{◌+◌}
use lib.ListN.{length}
use lib.Seq.{sets}
use Rattle.dispatcher.specs.Holds.{model_of}
use Rattle.guarantee.specs.Record.{rows_bytes}
use Rattle.guarantee.proofs.Records.{Putting}
use Rattle.guarantee.proofs.record.put_state.Given as goal

abbrev pub invariant-loop-i : goal.invariant-loop-i
invariant-loop-i l = Putting (sets l.initial.out (l.at + 1) (rows_bytes (model_of l.state).rows)) (length l.initial.out) l.state (l.at + 1) l.out l.i
