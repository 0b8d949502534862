-- `guarantee::replay::put_turns`: what is written, with the records of the calls left, is the whole, and there is room for them.
use Rattle.std.proofs.Common.{length}
use lib.Seq.{sets}
use Rattle.guarantee.specs.Encoding.{calls_of}
use Rattle.guarantee.specs.Replay.{records_of}
use Rattle.guarantee.proofs.Replays.{Replaying}
use Rattle.guarantee.proofs.replay.put_turns.Given as goal

abbrev pub invariant-loop-call : goal.invariant-loop-call
invariant-loop-call l =
    record {
      can : (goal.iterator-loop-call).can_next l.call-iterator;
      finite : (goal.iterator-loop-call).is_finite l.call-iterator;
      replaying : Replaying (sets l.initial.out l.from (records_of l.initial.current (calls_of l.calls))) (length l.initial.out)
          l.initial.current.count (calls_of l.call-iterator.rest.now) l.current l.out l.place;
    }
