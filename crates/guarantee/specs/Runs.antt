-- S10.1: runs. A run is a list of Release and Tick calls; each hands its state on to the next.
use Rattle.std.specs.Prelude.{List, [], ◌∷◌}
use Rattle.sheet.specs.Refusal.{Answer}
use Rattle.model.specs.Step.{Model, Call, release, tick, Answer as ModelAnswer, step}
use Rattle.dispatcher.specs.declared.state.State.{State}
use Rattle.dispatcher.specs.declared.tick.TickAnswer.{TickAnswer}
use Rattle.dispatcher.specs.Answers.{release_answer, tick_answer}
use Rattle.dispatcher.specs.Calls.{release_of, tick_of}

-- S3.1, S8.7: what a call of a run answers: as a Release, or as a Tick.
pub data Said : Type 0 where
  released : Answer → Said
  ticked : TickAnswer → Said

-- S8.4 to S8.6: the state that a call returns.
abbrev pub state_of : State → Call → State
state_of s (release i) = (release_of s i).state
state_of s (tick reports) = (tick_of s reports).state

-- S3.1, S8.7: the answer that a call returns.
abbrev pub said_of : State → Call → Said
said_of s (release i) = released (release_of s i).answer
said_of s (tick reports) = ticked (tick_of s reports).answer

-- S10.1: the state after a run. A refused call hands its state on like an accepted one.
abbrev pub state_after : State → List Call → State
state_after s [] = s
state_after s (c ∷ calls) = state_after (state_of s c) calls

-- S10.3: the answers of a run.
abbrev pub all_said : State → List Call → List Said
all_said s [] = []
all_said s (c ∷ calls) = said_of s c ∷ all_said (state_of s c) calls

-- S10.3: the model's answer to a call, put as Release or Tick put theirs.
abbrev pub model_said : Call → ModelAnswer → Said
model_said (release i) a = released (release_answer a)
model_said (tick reports) a = ticked (tick_answer a)

-- S10.3: the model's answers to a run.
abbrev pub all_model_said : Model → List Call → List Said
all_model_said m [] = []
all_model_said m (c ∷ calls) = model_said c (step m c).answer ∷ all_model_said (step m c).model calls
