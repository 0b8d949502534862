-- `exports::repeating::dibwunek_tick_many`: the ticks that are left, after those that were made, give the word of all.
use Prim.Native.Nat.{◌-◌, ◌≤◌}
use mathlib.Core.Path.{◌≡◌}
use Rattle.exports.specs.Words.{state_from}
use Rattle.exports.specs.Ticks.{accepted_word}
use Rattle.exports.specs.Repeats.{ticks_word}
use Rattle.exports.proofs.repeating.dibwunek_tick_many.Given as goal

abbrev pub invariant-loop : goal.invariant-loop
invariant-loop l =
    (l.counter ≤ l.count) × (ticks_word (l.count - l.counter) l.word l.s l.reports ≡ ticks_word l.count accepted_word (state_from l.state) l.reports)
