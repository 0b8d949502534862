-- `exports::dispatching::dibwunek_release`: no state, a refused release, an accepted one.
use mathlib.Core.Path.{◌≡◌, sym, ◌∙◌}
use mathlib.Core.Bool.{true}
use Rattle.exports.specs.Words.{is_state}
use Rattle.exports.proofs.Lines.{state_line}
use Rattle.exports.proofs.Called.{says_none, release_none, release_refused, release_accepted}
use Rattle.exports.proofs.dispatching.dibwunek_release.Goals.{Else-not-is_state}
use Rattle.exports.proofs.dispatching.dibwunek_release.Goals as goal

pub returns-then-not-is_state : goal.returns-then-not-is_state
returns-then-not-is_state c =
    let both = says_none c.args.state.now (release_none c.args.state.now c.args.task (sym c.is_state.ensures ∙ c.if-not-is_state.true)) in
    record { answered = both.0; written = both.1 }

-- Past the first test the line is a state.
is : (c : Else-not-is_state) → is_state c.args.state.now ≡ true
is c = sym c.is_state.ensures ∙ c.if-not-is_state.false

pub returns-in-Err : goal.returns-in-Err
returns-in-Err c =
    let both = release_refused c.args.state.now c.args.task (is (goal.at.returns-in-Err c).Else-not-is_state) _ c.state_from-before.ensures _ c.release-released.ensures.whole _ c.answer_word.ensures c.in-Err.is in
    record { answered = both.0; written = both.1 }

pub write_state-requires : goal.write_state-requires
write_state-requires c = (state_line _ (is (goal.at.write_state-requires c).Else-not-is_state)).long

pub returns : goal.returns
returns c =
    let both = release_accepted c.args.state.now c.args.task (is (goal.at.returns c).Else-not-is_state) _ c.state_from-before.ensures _ c.release-released.ensures.whole _ _ c.answer_word-2.ensures c.write_state.ensures.written in
    record { answered = both.0; written = both.1 }
