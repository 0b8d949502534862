-- S12: Replay. A sheet and a log of calls give the bytes of the run.
use Rattle.std.specs.Prelude.{ℕ, cond, List, [], ◌∷◌, ◌++◌, ◌≡◌, leb, length, drop, Ok, Err, Option, Some, None}
use Rattle.sheet.specs.Refusal.{Answer}
use Rattle.model.specs.Step.{Model, Call, step}
use Rattle.model.specs.Run.{after}
use Rattle.dispatcher.specs.declared.state.State.{State}
use Rattle.dispatcher.specs.Holds.{model_of}
use Rattle.start.specs.Start.{start_of}
use Rattle.guarantee.specs.Runs.{state_of, said_of, model_said}
use Rattle.guarantee.specs.Guarantee.{model_for, Guaranteed}
use Rattle.guarantee.specs.Encoding.{calls_of}
use Rattle.guarantee.specs.Record.{answer_bytes, record_of}

-- S12.2: the records of a run, one for each call; S10.1 says which state a call gets.
abbrev pub records_of : State → List Call → List ℕ
records_of s [] = []
records_of s (c ∷ calls) = record_of (said_of s c) (model_of (state_of s c)) ++ records_of (state_of s c) calls

-- S12.2: the calls that are run: those of the log, but none if Start refused the sheet.
abbrev pub calls_run : Answer → List Call → List Call
calls_run (Ok x) calls = calls
calls_run (Err r) calls = []

-- S12.2: the bytes of a replay: Start's answer, then the records.
unfoldable pub replay_bytes : List ℕ → List ℕ → List ℕ
replay_bytes sheet calls =
    answer_bytes (start_of sheet).answer ++ records_of (start_of sheet).state (calls_run (start_of sheet).answer (calls_of calls))

-- S12.3: what Replay answers for a buffer of so many bytes: how many it wrote, or none where the buffer is short.
unfoldable pub replayed_of : List ℕ → List ℕ → ℕ → Option ℕ
replayed_of sheet calls room =
    cond (leb (length (replay_bytes sheet calls)) room) (Some (length (replay_bytes sheet calls))) None

-- S12.3: the buffer after a replay: its bytes in front of those that stay; a short buffer is as it was.
unfoldable pub replay_over : List ℕ → List ℕ → List ℕ → List ℕ
replay_over sheet calls out =
    cond (leb (length (replay_bytes sheet calls)) (length out))
    (replay_bytes sheet calls ++ drop (length (replay_bytes sheet calls)) out)
    out

-- S12.4: the records of a run as the model gives them: its answers, and what it holds after each call.
abbrev pub model_records : Model → List Call → List ℕ
model_records m [] = []
model_records m (c ∷ calls) = record_of (model_said c (step m c).answer) (step m c).model ++ model_records (step m c).model calls

-- S12.4: which record is a call's: it shows the answer of the model after the calls before it, and what the model holds after it.
unfoldable pub RecordOfCall : Type 0
RecordOfCall =
    (m : Model) (before : List Call) (c : Call) (rest : List Call) →
    model_records m (before ++ c ∷ rest)
    ≡ model_records m before
    ++ record_of (model_said c (step (after m before) c).answer) (after m (before ++ c ∷ []))
    ++ model_records (after m (before ++ c ∷ [])) rest

-- S12.4: what is promised of a replay.
pub record ReplayGuaranteed (sheet calls : List ℕ) : Type 0 where
  -- The bytes are the model's.
  pub bytes : replay_bytes sheet calls ≡ answer_bytes (Ok tt) ++ model_records (model_for sheet) (calls_of calls)
  -- S10 holds of the logged calls.
  pub run : Guaranteed sheet (calls_of calls)

-- S12.4: it holds of every sheet that Start accepts and of every log.
unfoldable pub ReplayGuarantee : Type 0
ReplayGuarantee = (sheet calls : List ℕ) → (start_of sheet).answer ≡ Ok tt → ReplayGuaranteed sheet calls
