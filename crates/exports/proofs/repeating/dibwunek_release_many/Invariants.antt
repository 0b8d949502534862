-- `exports::repeating::dibwunek_release_many`: the word is that of the last release made.
use mathlib.Core.Path.{◌≡◌}
use Rattle.dispatcher.specs.Calls.{release_of}
use Rattle.sheet.specs.Refusal.{answer_word}
use Rattle.exports.specs.Words.{state_from}
use Rattle.exports.specs.Repeats.{last_word}
use Rattle.exports.proofs.repeating.dibwunek_release_many.Given as goal

abbrev pub invariant-loop-i : goal.invariant-loop-i
invariant-loop-i l = l.word ≡ last_word l.i (answer_word (release_of (state_from l.state) l.task).answer)
