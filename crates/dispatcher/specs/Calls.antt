-- Release and Tick on a state: refusal 10 if it is not sound (S9.10), else the model's step (S10.2) put back.
use Rattle.std.specs.Prelude.{ℕ, cond, List, Err}
use Rattle.sheet.specs.declared.refusal.Refusal.TheVariants.{NotSound}
use Rattle.model.specs.Step.{Step, step, release, tick}
use Rattle.dispatcher.specs.declared.state.State.{State}
use Rattle.dispatcher.specs.Answers.{Released}
use Rattle.dispatcher.specs.Answers.{Ticked}
use Rattle.dispatcher.specs.declared.tick.TickAnswer.TheVariants.{Refused as TickRefused}
use Rattle.dispatcher.specs.Holds.{model_of, with_model}
use Rattle.dispatcher.specs.Sound.{is_sound}
use Rattle.dispatcher.specs.Answers.{release_answer, tick_answer}

-- S10.3: the model's step of a Release, put back into the state.
abbrev pub released_by : State → Step → Released
released_by s t = record { state = with_model s t.model; answer = release_answer t.answer }

-- S8.4: Release of task i. The model's step has refusals 11 to 13; a step that is refused puts back what was there
-- (S3.4).
unfoldable pub release_of : State → ℕ → Released
release_of s i =
    cond (is_sound s)
    (released_by s (step (model_of s) (release i)))
    (record { state = s; answer = Err NotSound })

-- S10.3: the model's step of a Tick, put back into the state.
abbrev pub ticked_by : State → Step → Ticked
ticked_by s t = record { state = with_model s t.model; answer = tick_answer t.answer }

-- S8.5 to S8.7: Tick with these reports. The model's step has refusals 14 and 15, and the switch.
unfoldable pub tick_of : State → List ℕ → Ticked
tick_of s reports =
    cond (is_sound s)
    (ticked_by s (step (model_of s) (tick reports)))
    (record { state = s; answer = TickRefused NotSound })
