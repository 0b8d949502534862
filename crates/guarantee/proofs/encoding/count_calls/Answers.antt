-- `guarantee::encoding::count_calls`: a log has no more calls than bytes.
use Rattle.std.proofs.Common.{inl, arith}
use Rattle.guarantee.proofs.Encodings.{no_more_calls}
use Rattle.guarantee.proofs.encoding.count_calls.Goals as goal

pub count-requires-clause-fits : goal.count-requires-clause-fits
count-requires-clause-fits c = let few = no_more_calls c.args.calls.now in inl (rw c.new.ensures (omega (arith, few)))
