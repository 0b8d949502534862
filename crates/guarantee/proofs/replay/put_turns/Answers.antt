-- `guarantee::replay::put_turns`: the goals that the check leaves.
use Rattle.std.proofs.Common.{◌∷◌, List, length, subst}
use lib.Seq.{sets}
use Rattle.model.specs.Step.{Call}
use Rattle.guarantee.specs.Encoding.{call_in, calls_of}
use Rattle.guarantee.specs.Replay.{records_of}
use Rattle.guarantee.proofs.Replays.{Replaying, replaying_line, replaying_room, replaying_more}
use Rattle.guarantee.proofs.replay.put_turns.Goals.{In-Some}
use Rattle.guarantee.proofs.replay.put_turns.Goals as goal

-- In a turn the call is the first of those left.
here : (c : In-Some) →
    Replaying (sets c.args.out.now c.args.from (records_of c.args.state (calls_of c.args.calls.now))) (length c.args.out.now) c.args.state.count
    (call_in c.in-Some.call.kind c.in-Some.call.bytes.now ∷ calls_of c.next.new.self.rest.now) c.loop-call.current c.loop-call.out c.loop-call.place
here c =
    subst (λ (calls : List Call). Replaying (sets c.args.out.now c.args.from (records_of c.args.state (calls_of c.args.calls.now)))
    (length c.args.out.now) c.args.state.count calls c.loop-call.current c.loop-call.out c.loop-call.place)
    c.in-Some.ensures.steps c.loop-call.invariant.replaying

pub put_turn-requires-clause-line : goal.put_turn-requires-clause-line
put_turn-requires-clause-line c =
    replaying_line _ _ _ _ _ _ _ _ c.requires.few (here (goal.at.put_turn-requires-clause-line c).In-Some) c.turn_of-after.result c.turn_of-after.ensures

pub put_turn-requires-clause-room : goal.put_turn-requires-clause-room
put_turn-requires-clause-room c =
    replaying_room _ _ _ _ _ _ _ _ c.requires.few (here (goal.at.put_turn-requires-clause-room c).In-Some) c.turn_of-after.result c.turn_of-after.ensures

pub loop-call-preserved : goal.loop-call-preserved
loop-call-preserved c =
    record {
      can = tt;
      finite = tt;
      replaying = rw (c.put_turn.ensures, c.record_size-size.ensures)
          (replaying_more _ _ _ _ _ _ _ _ c.requires.few (here (goal.at.loop-call-preserved c).In-Some) c.turn_of-after.result c.turn_of-after.ensures);
    }
