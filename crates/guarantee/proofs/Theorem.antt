-- S10: a run from Start's state goes together with the model, and the model's theorem says the rest.
use Prim.Native.Nat.{ℕ, ◌<◌}
use mathlib.Core.Bool.{true}
use mathlib.Core.List.{List}
use mathlib.Core.Path.{◌≡◌, refl, sym, ap, ◌∙◌}
use Rattle.sheet.specs.Refusal.{Answer}
use Rattle.std.specs.Prelude.{Result, Ok, Err}
use Rattle.sheet.specs.Refusal.{◌or_else◌}
use Rattle.sheet.specs.Format.{task_set_of}
use Rattle.allocation.specs.Lawful.{LawfulSet, LawfulShares}
use Rattle.allocation.specs.Allocation.{allocation_of, allocation_at, allocation_answer, allocations_for}
use Rattle.allocation.proofs.Allocations.{read_lawful, read_shares, allocated_at}
use Rattle.model.specs.Step.{Model, Call}
use Rattle.model.specs.Run.{after}
use Rattle.model.specs.Beside.{Beside}
use Rattle.model.specs.Plan.{Planned}
use Rattle.model.proofs.Theorem.{of_every_run, beside}
use Rattle.model.proofs.Return.{return_law}
use Rattle.model.proofs.Back.{back_in_time}
use Rattle.dispatcher.specs.declared.state.State.{State}
use Rattle.dispatcher.specs.Holds.{model_of}
use Rattle.dispatcher.specs.Sound.{is_sound}
use Rattle.start.specs.Start.{fresh_state, started_with, prepared_of, start_of}
use Rattle.sheet.specs.declared.refusal.Refusal.{Refusal}
use Rattle.start.proofs.Starts.{prepared_accepted}
use Rattle.guarantee.specs.Runs.{all_model_said}
use Rattle.guarantee.specs.Guarantee.{shares_for, model_for, start_state, Guaranteed, Guarantee, BesideGuarantee, tasks_for}
use Rattle.guarantee.proofs.Together.{run_said, run_model}
use Rattle.guarantee.proofs.Planning.{planned}
use Rattle.guarantee.proofs.Freshness.{fresh_model, fresh_sound}

-- Start accepts just where the allocation does.
pub start_answered : (sheet : List ℕ) → allocation_answer sheet ≡ Ok tt → (start_of sheet).answer ≡ Ok tt
unfolding start_of prepared_of
start_answered sheet e = rw e refl

module _ (sheet : List ℕ) (accepted : (start_of sheet).answer ≡ Ok tt) where
  answered : allocation_answer sheet ≡ Ok tt
  unfolding start_of prepared_of
  answered = go (allocation_answer sheet) (fresh_state (task_set_of sheet) (allocations_for sheet)) accepted
    where
      go : (a : Answer) (fresh : State) → (started_with (a or_else Ok fresh)).answer ≡ Ok tt → a ≡ Ok tt
      go (Ok x) fresh e = refl
      go (Err r) fresh e = e

  lawful : LawfulSet (tasks_for sheet)
  unfolding tasks_for
  lawful = read_lawful sheet answered

  shared : LawfulShares (tasks_for sheet) (shares_for sheet)
  unfolding tasks_for shares_for
  shared = read_shares sheet answered

  -- What is fixed for the sheet's tasks.
  fixed : (i : ℕ) → i < (tasks_for sheet).count → allocation_at (allocations_for sheet) i ≡ allocation_of (tasks_for sheet) (shares_for sheet) i
  unfolding tasks_for shares_for
  fixed = allocated_at sheet answered

  state_is : start_state sheet ≡ fresh_state (tasks_for sheet) (allocations_for sheet)
  unfolding start_state start_of tasks_for
  state_is = ap (λ (p : Result State Refusal). (started_with p).state) (sym (prepared_accepted sheet answered))

  pub state_sound : is_sound (start_state sheet) ≡ true
  state_sound = rw state_is (fresh_sound (tasks_for sheet) lawful (shares_for sheet) shared (allocations_for sheet) fixed)

  pub state_model : model_of (start_state sheet) ≡ model_for sheet
  unfolding model_for
  state_model = rw state_is (fresh_model (tasks_for sheet) lawful (shares_for sheet) shared (allocations_for sheet) fixed)

  pub sheet_planned : Planned (tasks_for sheet) (shares_for sheet)
  sheet_planned = planned (tasks_for sheet) lawful (shares_for sheet) shared

  guaranteed : (calls : List Call) → Guaranteed sheet calls
  unfolding model_for
  guaranteed calls =
      let whole = of_every_run (tasks_for sheet) (shares_for sheet) sheet_planned calls in
      record {
        answers = run_said (start_state sheet) state_sound calls ∙ ap (λ (m : Model). all_model_said m calls) state_model;
        states = run_model (start_state sheet) state_sound calls ∙ ap (λ (m : Model). after m calls) state_model;
        deadline = whole.deadline;
        capacity = whole.capacity;
        nominal = whole.nominal;
        kept = whole.kept;
        returns = return_law (after (model_for sheet) calls);
        back = back_in_time (tasks_for sheet) (shares_for sheet) sheet_planned calls;
      }

  besides : (calls : List Call) → Beside (tasks_for sheet) (shares_for sheet) calls
  besides calls = beside (tasks_for sheet) (shares_for sheet) sheet_planned calls

pub guarantee : Guarantee
unfolding Guarantee
guarantee = guaranteed

pub beside_guarantee : BesideGuarantee
unfolding BesideGuarantee
beside_guarantee = besides
