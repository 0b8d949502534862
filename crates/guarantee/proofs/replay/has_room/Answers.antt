-- `guarantee::replay::has_room`: a product is compared by a quotient.
use native.Mathlib.Omega.{arith}
use Rattle.guarantee.proofs.Replays.{room_quotient}
use Rattle.guarantee.proofs.replay.has_room.Goals as goal

pub returns : goal.returns
returns c = grind (arith, c.is_some_and.ensures, c.checked_sub.ensures, room_quotient c.args.room c.args.count c.args.size c.requires)
