-- `dispatcher::tick::tick`: what the pass leaves of an accepted tick, turned, is what the tick returns.
use mathlib.Core.Path.{◌≡◌, sym, ap, ap₂, ◌∙◌}
use native.Mathlib.Omega.{arith}
use Rattle.std.specs.List.{list_any}
use Rattle.model.specs.Row.{has_high_job}
use Rattle.model.specs.Step.{Model, lowest_late}
use Rattle.dispatcher.specs.declared.state.State.{State}
use Rattle.dispatcher.specs.Answers.{Ticked}
use Rattle.dispatcher.specs.declared.tick.TickAnswer.{TickAnswer}
use Rattle.dispatcher.specs.Answers.{tick_number, tick_task}
use Rattle.dispatcher.specs.Calls.{tick_of}
use Rattle.dispatcher.specs.means.Passed.{HasPassed}
use Rattle.dispatcher.proofs.Soundness.{few_entries}
use Rattle.dispatcher.proofs.Ticks.{passed_count, passed_model, passed_tick, passed_state, passed_answer}
use Rattle.dispatcher.proofs.tick.tick.Goals.{In-Ok, After-turn-answer}
use Rattle.dispatcher.proofs.tick.tick.Goals as goal

passed : (c : In-Ok) → HasPassed c.args.state c.args.reports.now c.in-Ok.pass c.pass_over.new.state
passed c = c.in-Ok.ensures.passed

pub turn-answer-requires-clause-few : goal.turn-answer-requires-clause-few
turn-answer-requires-clause-few c =
    let p = passed (goal.at.turn-answer-requires-clause-few c).In-Ok in
    omega (arith, passed_count _ _ _ _ p, few_entries c.args.state p.sound)

pub turn-answer-requires-clause-lowest : goal.turn-answer-requires-clause-lowest
turn-answer-requires-clause-lowest c =
    let p = passed (goal.at.turn-answer-requires-clause-lowest c).In-Ok in
    p.late ∙ ap (λ (m : Model). lowest_late 0 m.rows) (sym (passed_model _ _ _ _ p))

pub turn-answer-requires-clause-alive : goal.turn-answer-requires-clause-alive
turn-answer-requires-clause-alive c =
    let p = passed (goal.at.turn-answer-requires-clause-alive c).In-Ok in
    p.high ∙ ap (λ (m : Model). list_any has_high_job m.rows) (sym (passed_model _ _ _ _ p))

whole : (c : After-turn-answer) → ◌≡◌ {A = Ticked} (record { state = c.turn-answer.new.state; answer = c.turn-answer.result }) (tick_of c.args.state c.args.reports.now)
whole c =
    let p = passed (goal.at.After-turn-answer c).In-Ok in
    ap₂ (λ (s : State) (a : TickAnswer). record { state = s; answer = a })
    (c.turn-answer.ensures.turned ∙ passed_state _ _ _ _ p)
    (c.turn-answer.ensures.answered ∙ passed_answer _ _ _ _ p)
    ∙ sym (passed_tick _ _ _ _ p)

pub returns-in-Ok-clause-whole : goal.returns-in-Ok-clause-whole
returns-in-Ok-clause-whole c = whole c

pub returns-in-Ok-clause-says : goal.returns-in-Ok-clause-says
returns-in-Ok-clause-says c =
    record {
      number_is = ap (λ (r : Ticked). tick_number r.answer) (whole c);
      task_is = ap (λ (r : Ticked). tick_task r.answer) (whole c);
    }
