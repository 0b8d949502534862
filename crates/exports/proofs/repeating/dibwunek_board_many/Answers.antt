-- `exports::repeating::dibwunek_board_many`: the goals that the check leaves.
use Prim.Native.Nat.{ℕ}
use mathlib.Core.Path.{◌≡◌, refl, ap, ◌∙◌, sym}
use mathlib.Core.Bool.{true}
use native.Mathlib.Omega.{arith}
use lib.ListN.{length}
use Rattle.dispatcher.specs.declared.state.State.{State}
use Rattle.dispatcher.specs.Answers.{Boarded}
use Rattle.dispatcher.specs.Board.{boarded_of, board_of}
use Rattle.sheet.specs.Refusal.{answer_word}
use Rattle.exports.specs.Words.{state_from, is_state}
use Rattle.exports.specs.Repeats.{last_word, boards_of}
use Rattle.exports.proofs.Repeated.{last_next, boards_next, boards_no_state, boards_of_state}
use Rattle.exports.proofs.repeating.dibwunek_board_many.Goals.{Else-not-is_state}
use Rattle.exports.proofs.repeating.dibwunek_board_many.Goals as goal

pub returns-then-not-is_state : goal.returns-then-not-is_state
returns-then-not-is_state c =
    let both = boards_no_state c.args.count c.args.state.now c.args.buffer.now (sym c.is_state.ensures ∙ c.if-not-is_state.true) in
    record { answered = both.0; written = both.1 }

-- Past the first test the line is a state.
is : (c : Else-not-is_state) → is_state c.args.state.now ≡ true
is c = sym c.is_state.ensures ∙ c.if-not-is_state.false

pub loop-init : goal.loop-init
unfolding last_word boards_of answer_word
loop-init c = (omega arith, refl, c.answer_word-word.ensures, refl)

pub loop-preserved : goal.loop-preserved
loop-preserved c =
    let boarded =
    c.board-boarded.ensures.answered
    ∙ ap (λ (s : State). boarded_of s (length c.loop.buffer)) c.state_from-shown.ensures
    ∙ ap (boarded_of (state_from c.args.state.now)) c.loop.invariant.1 in (
      omega arith,
      c.board-boarded.auto.buffer ∙ c.loop.invariant.1,
      last_next c.loop.counter _ _ (c.answer_word-word-in-loop.ensures ∙ ap (λ (r : Boarded). answer_word r.answer) boarded),
      boards_next c.loop.counter (state_from c.args.state.now) c.args.buffer.now c.loop.buffer _ c.loop.invariant.3
          (c.board-boarded.ensures.written ∙ ap (λ (s : State). board_of s c.loop.buffer) c.state_from-shown.ensures),
    )

pub returns : goal.returns
returns c =
    let s = state_from c.args.state.now in
    let all : c.loop.counter ≡ c.args.count = omega arith in
    let called = boards_of_state c.args.count c.args.state.now c.args.buffer.now (is (goal.at.returns c).Else-not-is_state) in record { answered = c.loop.invariant.2 ∙ ap (λ (n : ℕ). last_word n (answer_word (boarded_of s (length c.args.buffer.now)).answer)) all ∙ called.0; written = c.loop.invariant.3 ∙ ap (λ (n : ℕ). boards_of n s c.args.buffer.now) all ∙ called.1 }
