-- `exports::dispatching::dibwunek_tick`: no state, a refused tick, an accepted one.
use mathlib.Core.Path.{◌≡◌, sym, ◌∙◌}
use mathlib.Core.Bool.{true}
use Rattle.exports.specs.Words.{is_state}
use Rattle.exports.proofs.Lines.{state_line}
use Rattle.exports.proofs.Called.{says_none, tick_none, tick_refused, tick_accepted}
use Rattle.exports.proofs.dispatching.dibwunek_tick.Goals.{Else-not-is_state}
use Rattle.exports.proofs.dispatching.dibwunek_tick.Goals as goal

pub returns-then-not-is_state : goal.returns-then-not-is_state
returns-then-not-is_state c =
    let both = says_none c.args.state.now (tick_none c.args.state.now c.args.reports.now (sym c.is_state.ensures ∙ c.if-not-is_state.true)) in
    record { answered = both.0; written = both.1 }

-- Past the first test the line is a state.
is : (c : Else-not-is_state) → is_state c.args.state.now ≡ true
is c = sym c.is_state.ensures ∙ c.if-not-is_state.false

pub returns-in-Refused : goal.returns-in-Refused
returns-in-Refused c =
    let both = tick_refused c.args.state.now c.args.reports.now (is (goal.at.returns-in-Refused c).Else-not-is_state) _ c.state_from-before.ensures _ c.tick-ticked.ensures.whole _ c.answer_word.ensures c.in-Refused.is in
    record { answered = both.0; written = both.1 }

pub write_state-requires : goal.write_state-requires
write_state-requires c = (state_line _ (is (goal.at.write_state-requires c).Else-not-is_state)).long

pub returns : goal.returns
returns c =
    let both = tick_accepted c.args.state.now c.args.reports.now (is (goal.at.returns c).Else-not-is_state) _ c.state_from-before.ensures _ c.tick-ticked.ensures.whole _ _ c.tick_word.ensures c.write_state.ensures.written in
    record { answered = both.0; written = both.1 }
