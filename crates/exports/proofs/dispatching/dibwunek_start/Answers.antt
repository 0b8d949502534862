-- `exports::dispatching::dibwunek_start`: another length, a refused sheet, an accepted one.
use mathlib.Core.Path.{◌≡◌, ap₂}
use Rattle.sheet.specs.Refusal.{Answer}
use Rattle.dispatcher.specs.declared.state.State.{State}
use Rattle.start.specs.Start.{Started, start_of}
use Rattle.exports.proofs.Called.{start-length, start_short, start_refused, start_untaken, start_accepted, start_taken}
use Rattle.exports.proofs.dispatching.dibwunek_start.Goals.{After-start_into-answer}
use Rattle.exports.proofs.dispatching.dibwunek_start.Goals as goal

pub returns-then-state-ne-STATE_WORDS : goal.returns-then-state-ne-STATE_WORDS
returns-then-state-ne-STATE_WORDS c =
    let does = start-length c.args.sheet.now c.args.state.now c.if-state-ne-STATE_WORDS.true in
    record { answered = does.0; written = does.1; taken = start_short c.args.sheet.now c.args.state.now c.if-state-ne-STATE_WORDS.true c.args.state.now }

-- The state and the answer beside it are what Start makes of the sheet.
begun : (c : After-start_into-answer)
    → ◌≡◌ {A = Started} (record { state = c.start_into-answer.new.state; answer = c.start_into-answer.result }) (start_of c.args.sheet.now)
begun c =
    ap₂ (λ (s : State) (a : Answer). record { state = s; answer = a }) c.start_into-answer.ensures.started c.start_into-answer.ensures.answered

pub returns-in-Err : goal.returns-in-Err
returns-in-Err c =
    let started = begun (goal.at.returns-in-Err c).After-start_into-answer in
    let does = start_refused c.args.sheet.now c.args.state.now c.if-state-ne-STATE_WORDS.false _ started _ c.answer_word.ensures c.in-Err.is in
    record { answered = does.0; written = does.1; taken = start_untaken c.args.sheet.now c.args.state.now _ started c.in-Err.is c.args.state.now }

pub returns : goal.returns
returns c =
    let started = begun (goal.at.returns c).After-start_into-answer in
    let does = start_accepted c.args.sheet.now c.args.state.now c.if-state-ne-STATE_WORDS.false _ started _ _ c.answer_word-2.ensures c.write_state.ensures.written c.in_default.is in
    record { answered = does.0; written = does.1; taken = start_taken c.args.sheet.now c.args.state.now _ c.write_state.ensures.held _ c.write_state.ensures.written }
