-- `exports::encoding::write_state`: what is written, with the entries left, is the whole.
use lib.Seq.{sets}
use Rattle.exports.specs.Words.{entries_words}
use Rattle.exports.proofs.Stored.{Storing}
use Rattle.exports.proofs.encoding.write_state.Given as goal

abbrev pub invariant-loop-i : goal.invariant-loop-i
invariant-loop-i l = Storing l.state.entries (sets l.initial.line 3 (entries_words l.state.entries)) l.line l.i
