-- `exports::repeating::dibwunek_tick_many`: the goals that the check leaves.
use Prim.Native.Nat.{ℕ, ◌-◌}
use mathlib.Core.Path.{◌≡◌, ap₂, ◌∙◌, sym}
use mathlib.Core.Bool.{true}
use native.Mathlib.Omega.{arith}
use Rattle.dispatcher.specs.declared.state.State.{State}
use Rattle.exports.specs.Words.{is_state}
use Rattle.sheet.specs.Refusal.{answer_word}
use Rattle.exports.specs.Ticks.{accepted_word}
use Rattle.exports.specs.Repeats.{ticks_word}
use Rattle.exports.proofs.Repeated.{ticks_next, ticks_none, ticks_no_state, ticks_of_state}
use Rattle.exports.proofs.repeating.dibwunek_tick_many.Goals.{Else-not-is_state}
use Rattle.exports.proofs.repeating.dibwunek_tick_many.Goals as goal

pub returns-then-not-is_state : goal.returns-then-not-is_state
returns-then-not-is_state c =
    ticks_no_state c.args.count c.args.state.now c.args.reports.now (sym c.is_state.ensures ∙ c.if-not-is_state.true)

-- Past the first test the line is a state.
is : (c : Else-not-is_state) → is_state c.args.state.now ≡ true
is c = sym c.is_state.ensures ∙ c.if-not-is_state.false

pub loop-init : goal.loop-init
unfolding answer_word
loop-init c =
    let all : c.args.count - 0 ≡ c.args.count = omega arith in
    (omega arith, rw c.answer_word-word.ensures (ap₂ (λ (n : ℕ) (s : State). ticks_word n accepted_word s c.args.reports.now) all c.state_from-s.ensures))

pub loop-preserved : goal.loop-preserved
loop-preserved c = (
  omega arith,
  ticks_next c.args.count c.loop.counter c.loop.word c.loop.s c.args.reports.now (omega arith) _ _ c.tick_word-word.ensures c.tick-ticked.ensures.whole
      ∙ c.loop.invariant.1,
)

pub returns : goal.returns
returns c =
    ticks_none c.args.count c.loop.counter c.loop.word c.loop.s c.args.reports.now (omega arith)
    ∙ c.loop.invariant.1
    ∙ ticks_of_state c.args.count c.args.state.now c.args.reports.now (is (goal.at.returns c).Else-not-is_state)
