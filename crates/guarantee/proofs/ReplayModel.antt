-- S12.4: a call on a sound state answers as the model and holds what it holds, so that record by record the bytes of a replay are the
-- model's.
use mathlib.Core.Bool.{true}
use mathlib.Core.List.{List, [], ◌∷◌, ◌++◌, append_assoc}
use mathlib.Core.Path.{◌≡◌, refl, sym, ap, ap₂, ◌∙◌}
use Prim.Native.Nat.{ℕ}
use Rattle.sheet.specs.Refusal.{Answer}
use Rattle.std.specs.Prelude.{Ok}
use Rattle.model.specs.Step.{Model, Call, step}
use Rattle.model.specs.Run.{after}
use Rattle.dispatcher.specs.declared.state.State.{State}
use Rattle.dispatcher.specs.Holds.{model_of}
use Rattle.dispatcher.specs.Sound.{is_sound}
use Rattle.start.specs.Start.{start_of}
use Rattle.guarantee.specs.Runs.{Said, state_of, model_said}
use Rattle.guarantee.specs.Guarantee.{model_for, start_state, Guarantee}
use Rattle.guarantee.specs.Encoding.{calls_of}
use Rattle.guarantee.specs.Record.{answer_bytes, record_of}
use Rattle.guarantee.specs.Replay.{records_of, calls_run, replay_bytes, model_records, RecordOfCall, ReplayGuarantee}
use Rattle.guarantee.proofs.Together.{call_sound, call_model, call_said}
use Rattle.guarantee.proofs.Theorem.{state_sound, state_model, guarantee}

records_model : (s : State) → is_sound s ≡ true → (calls : List Call) → records_of s calls ≡ model_records (model_of s) calls
records_model s sound [] = refl
records_model s sound (c ∷ calls) =
    let said = model_said c (step (model_of s) c).answer in
    ap₂ ◌++◌ (ap (λ (a : Said). record_of a (model_of (state_of s c))) (call_said s sound c)) (records_model (state_of s c) (call_sound s sound c) calls)
    ∙ ap (λ (m : Model). record_of said m ++ model_records m calls) (call_model s sound c)

replayed_model : (sheet calls : List ℕ) → (start_of sheet).answer ≡ Ok tt →
    replay_bytes sheet calls ≡ answer_bytes (Ok tt) ++ model_records (model_for sheet) (calls_of calls)
unfolding replay_bytes start_state
replayed_model sheet calls accepted =
    ap (λ (a : Answer). answer_bytes a ++ records_of (start_of sheet).state (calls_run a (calls_of calls))) accepted
    ∙ ap (λ (records : List ℕ). answer_bytes (Ok tt) ++ records)
    (records_model (start_state sheet) (state_sound sheet accepted) (calls_of calls)
    ∙ ap (λ (m : Model). model_records m (calls_of calls)) (state_model sheet accepted))

pub replay_guarantee : ReplayGuarantee
unfolding ReplayGuarantee Guarantee
replay_guarantee sheet calls accepted =
    record { bytes = replayed_model sheet calls accepted; run = guarantee sheet accepted (calls_of calls) }

pub record_of_call : RecordOfCall
unfolding RecordOfCall
record_of_call m [] c rest = refl
record_of_call m (d ∷ before) c rest =
    let first = record_of (model_said d (step m d).answer) (step m d).model in
    let next = (step m d).model in
    let last = after next (before ++ c ∷ []) in
    let here = record_of (model_said c (step (after next before) c).answer) last in
    ap (λ (l : List ℕ). first ++ l) (record_of_call next before c rest)
    ∙ sym (append_assoc first (model_records next before ++ here) (model_records last rest))
    ∙ ap (λ (l : List ℕ). l ++ model_records last rest) (sym (append_assoc first (model_records next before) here))
