-- What a pass over a state's tasks leaves of a tick, before the mode may turn.
use Rattle.std.specs.Prelude.{ℕ, ◌≡◌, true, List, Ok, ⊤}
use Rattle.std.specs.List.{list_any}
use Rattle.sheet.specs.declared.refusal.Refusal.{Refusal}
use Rattle.sheet.specs.declared.refusal.Refusal.TheVariants.{NotSound, WrongCount, NotRunning}
use Rattle.model.specs.Row.{has_high_job}
use Rattle.model.specs.Step.{tick_refusal, ticked_rows, lowest_late}
use Rattle.entries.specs.declared.pass.Pass.{Pass}
use Rattle.dispatcher.specs.declared.state.State.{State}
use Rattle.dispatcher.specs.Holds.{model_of, with_model}
use Rattle.dispatcher.specs.Sound.{is_sound}

-- S8.5: the state with each task's part of the tick, in the mode as it was.
abbrev pub with_parts : State → List ℕ → State
with_parts s reports = with_model s (record { critical = s.critical; rows = ticked_rows (model_of s).rows reports })

-- S8.5: the tick is accepted, each task has its part of it, and the pass found the lowest late task and whether a high
-- job is alive.
pub record HasPassed (s : State) (reports : List ℕ) (p : Pass) (next : State) : Type 0 where
  pub sound : is_sound s ≡ true
  pub accepted : tick_refusal (model_of s) reports ≡ Ok tt
  pub written : next ≡ with_parts s reports
  pub late : p.late ≡ lowest_late 0 (ticked_rows (model_of s).rows reports)
  pub high : p.high ≡ list_any has_high_job (ticked_rows (model_of s).rows reports)

-- What is left of a tick that is refused, by the refusal: where there are not just n reports (S9.14) the state as it
-- came, and where a report is wrong (S9.15) the state with each task's part. A state that is not sound (S9.10) may be
-- left half way, and a pass has no other refusal.
abbrev pub HasStopped : State → List ℕ → Refusal → State → Type 0
HasStopped s reports NotSound next = ⊤
HasStopped s reports WrongCount next = next ≡ s
HasStopped s reports (NotRunning task) next = next ≡ with_parts s reports
HasStopped s reports r next = ⊥
