-- `exports::repeating::dibwunek_release_many`: the goals that the check leaves.
use Prim.Native.Nat.{ℕ}
use mathlib.Core.Path.{◌≡◌, ap, ◌∙◌, sym}
use mathlib.Core.Bool.{true}
use native.Mathlib.Omega.{arith}
use Rattle.dispatcher.specs.declared.state.State.{State}
use Rattle.dispatcher.specs.Answers.{Released}
use Rattle.dispatcher.specs.Calls.{release_of}
use Rattle.sheet.specs.Refusal.{answer_word}
use Rattle.exports.specs.Words.{state_from, is_state}
use Rattle.exports.specs.Repeats.{last_word}
use Rattle.exports.proofs.Repeated.{by_turns, last_next, releases_no_state, releases_of_state}
use Rattle.exports.proofs.repeating.dibwunek_release_many.Goals.{Else-not-is_state}
use Rattle.exports.proofs.repeating.dibwunek_release_many.Goals as goal

pub returns-then-not-is_state : goal.returns-then-not-is_state
returns-then-not-is_state c =
    releases_no_state c.args.count c.args.state.now c.args.task (sym c.is_state.ensures ∙ c.if-not-is_state.true)

-- Past the first test the line is a state.
is : (c : Else-not-is_state) → is_state c.args.state.now ≡ true
is c = sym c.is_state.ensures ∙ c.if-not-is_state.false

pub loop-i-init : goal.loop-i-init
unfolding last_word answer_word
loop-i-init c = c.answer_word-word.ensures

pub loop-i-preserved : goal.loop-i-preserved
loop-i-preserved c =
    let released = c.release-released.ensures.whole ∙ ap (λ (s : State). release_of s c.args.task) (by_turns c.state_from-before.result _ c.loop-i.i ∙ c.state_from-before.ensures) in
    last_next c.loop-i.i _ _ (c.answer_word-word-in-loop-i.ensures ∙ ap (λ (r : Released). answer_word r.answer) released)

pub returns : goal.returns
returns c =
    let all : c.loop-i.i ≡ c.args.count = omega arith in
    c.loop-i.invariant
    ∙ ap (λ (n : ℕ). last_word n (answer_word (release_of (state_from c.args.state.now) c.args.task).answer)) all
    ∙ releases_of_state c.args.count c.args.state.now c.args.task (is (goal.at.returns c).Else-not-is_state)
