-- `exports::decoding::state_from`: the entries passed are read.
use mathlib.Core.Path.{◌≡◌}
use Rattle.exports.proofs.Decoded.{state_below}
use Rattle.exports.proofs.decoding.state_from.Given as goal

abbrev pub invariant-loop-i : goal.invariant-loop-i
invariant-loop-i l = l.state ≡ state_below l.line l.i
