-- `guarantee::replay::replay`: the whole length is known before anything is written.
use Prim.Native.Nat.{ℕ, ◌+◌, ◌*◌, ◌≤◌}
use mathlib.Core.List.{List}
use mathlib.Core.Path.{◌≡◌, sym, ap, ◌∙◌}
use borrow.Author.Tests.{leb-true, leb-false}
use lib.ListN.{length}
use lib.Seq.{sets}
use Rattle.guarantee.specs.Encoding.{calls_of}
use Rattle.guarantee.specs.Replay.{records_of, replay_bytes, replayed_of, replay_over, ReplayGuarantee}
use Rattle.std.specs.Prelude.{Some, None}
use Rattle.guarantee.proofs.Replays.{replay_size, replay_few, replay_room, replay_put, replay_short, replay_written}
use Rattle.guarantee.proofs.ReplayModel.{replay_guarantee}
use Rattle.guarantee.proofs.replay.replay.Goals.{After-has_room, Then-not-has_room, Else-not-has_room}
use Rattle.guarantee.proofs.replay.replay.Goals as goal

-- The length that the code has reckoned.
size : (c : After-has_room) →
    2 + c.count_calls-count.result * c.record_size-size.result
    ≡ length (replay_bytes c.args.sheet.now c.args.calls.now)
size c =
    rw c.record_size-size.ensures (
    replay_size c.args.sheet.now c.args.calls.now c.log_run-log.result.now c.count_calls-count.result c.start-started.result c.start-started.ensures.whole c.log_run-log.ensures c.count_calls-count.ensures
    )

-- Short of room.
short : (c : Then-not-has_room) →
    (None ≡ replayed_of c.args.sheet.now c.args.calls.now (length c.args.out.now))
    × (c.args.out.now ≡ replay_over c.args.sheet.now c.args.calls.now c.args.out.now)
short c =
    let cut = leb-false _ _ (sym c.has_room.ensures ∙ c.if-not-has_room.true) in
    replay_short c.args.sheet.now c.args.calls.now c.args.out.now (rw (← size (goal.at.Then-not-has_room c).After-has_room) cut)

-- Past the test there is room.
room : (c : Else-not-has_room) →
    length (replay_bytes c.args.sheet.now c.args.calls.now)
    ≤ length c.args.out.now
room c =
    rw (← size (goal.at.Else-not-has_room c).After-has_room) (leb-true _ _ (sym c.has_room.ensures ∙ c.if-not-has_room.false))

pub returns-then-not-has_room-clause-answered : goal.returns-then-not-has_room-clause-answered
returns-then-not-has_room-clause-answered c = (short (goal.at.returns-then-not-has_room-clause-answered c).Then-not-has_room).0

pub returns-then-not-has_room-clause-written : goal.returns-then-not-has_room-clause-written
returns-then-not-has_room-clause-written c = (short (goal.at.returns-then-not-has_room-clause-written c).Then-not-has_room).1

pub put_turns-requires-clause-few : goal.put_turns-requires-clause-few
put_turns-requires-clause-few c =
    replay_few c.args.sheet.now c.args.calls.now c.log_run-log.result.now c.count_calls-count.result c.start-started.result c.start-started.ensures.whole c.log_run-log.ensures c.count_calls-count.ensures

pub put_turns-requires-clause-room : goal.put_turns-requires-clause-room
put_turns-requires-clause-room c =
    let fits = room (goal.at.put_turns-requires-clause-room c).Else-not-has_room in
    replay_room c.args.sheet.now c.args.calls.now c.log_run-log.result.now c.count_calls-count.result c.start-started.result c.start-started.ensures.whole c.log_run-log.ensures c.count_calls-count.ensures
    (length c.put_answer.new.out) (rw c.put_answer.auto.out fits)

pub returns-clause-answered : goal.returns-clause-answered
returns-clause-answered c =
    let done = replay_written c.args.sheet.now c.args.calls.now c.args.out.now (room (goal.at.returns-clause-answered c).Else-not-has_room) in
    ap Some (size (goal.at.returns-clause-answered c).After-has_room) ∙ done.0

pub returns-clause-written : goal.returns-clause-written
returns-clause-written c =
    let done = replay_written c.args.sheet.now c.args.calls.now c.args.out.now (room (goal.at.returns-clause-written c).Else-not-has_room) in
    c.put_turns.ensures
    ∙ ap (λ (l : List ℕ). sets l 2 (records_of c.start-started.result.state (calls_of c.log_run-log.result.now))) c.put_answer.ensures
    ∙ replay_put c.args.sheet.now c.args.calls.now c.log_run-log.result.now c.count_calls-count.result c.start-started.result c.start-started.ensures.whole c.log_run-log.ensures c.count_calls-count.ensures c.args.out.now
    ∙ done.1

pub returns-then-not-has_room-clause-promised : goal.returns-then-not-has_room-clause-promised
unfolding ReplayGuarantee
returns-then-not-has_room-clause-promised c = replay_guarantee c.args.sheet.now c.args.calls.now

pub returns-clause-promised : goal.returns-clause-promised
unfolding ReplayGuarantee
returns-clause-promised c = replay_guarantee c.args.sheet.now c.args.calls.now
