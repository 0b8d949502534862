-- S10.3: a run from a sound state goes together with the model that the state holds. By induction on the calls, since each keeps the
-- state sound and steps the model.
use mathlib.Core.Bool.{true}
use mathlib.Core.List.{List, [], ◌∷◌}
use mathlib.Core.Path.{◌≡◌, refl, ap, ap₂, ◌∙◌}
use Rattle.model.specs.Step.{Model, Call, release, tick, step}
use Rattle.model.specs.Run.{after}
use Rattle.dispatcher.specs.declared.state.State.{State}
use Rattle.dispatcher.specs.Holds.{model_of}
use Rattle.dispatcher.specs.Sound.{is_sound}
use Rattle.dispatcher.specs.Calls.{release_of, tick_of}
use Rattle.dispatcher.proofs.Laws.{release_sound, tick_sound, release_model, tick_model}
use Rattle.guarantee.specs.Runs.{state_of, said_of, state_after, all_said, model_said, all_model_said}

module _ (s : State) (sound : is_sound s ≡ true) where
  pub call_sound : (c : Call) → is_sound (state_of s c) ≡ true
  call_sound (release i) = release_sound s i sound
  call_sound (tick reports) = tick_sound s reports sound

  pub call_model : (c : Call) → model_of (state_of s c) ≡ (step (model_of s) c).model
  call_model (release i) = release_model s i sound
  call_model (tick reports) = tick_model s reports sound

  pub call_said : (c : Call) → said_of s c ≡ model_said c (step (model_of s) c).answer
  unfolding release_of tick_of
  call_said (release i) = rw sound refl
  call_said (tick reports) = rw sound refl

pub run_said : (s : State) → is_sound s ≡ true → (calls : List Call) → all_said s calls ≡ all_model_said (model_of s) calls
run_said s sound [] = refl
run_said s sound (c ∷ calls) =
    ap₂ ◌∷◌ (call_said s sound c)
    (run_said (state_of s c) (call_sound s sound c) calls ∙ ap (λ (m : Model). all_model_said m calls) (call_model s sound c))

pub run_model : (s : State) → is_sound s ≡ true → (calls : List Call) → model_of (state_after s calls) ≡ after (model_of s) calls
run_model s sound [] = refl
run_model s sound (c ∷ calls) =
    run_model (state_of s c) (call_sound s sound c) calls ∙ ap (λ (m : Model). after m calls) (call_model s sound c)

-- The state stays sound.
pub run_sound : (s : State) → is_sound s ≡ true → (calls : List Call) → is_sound (state_after s calls) ≡ true
run_sound s sound [] = sound
run_sound s sound (c ∷ calls) = run_sound (state_of s c) (call_sound s sound c) calls
