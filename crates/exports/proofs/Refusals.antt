-- S13.5, S13.6, S13.8: a refused call leaves what stood there, a line that is no state is answered first, and a line
-- that is a state stays one. By the cases of the answer: an accepted one has number 0, and a refused one hands back
-- what it was given.
use Prim.Native.Nat.{ℕ, zero, suc, ◌≤◌}
use mathlib.Core.Path.{◌≡◌, refl, ap, ◌∙◌}
use mathlib.Core.Bool.{Bool, true, false, cond}
use mathlib.Core.List.{List, [], ◌∷◌}
use native.Mathlib.Omega.{arith}
use lib.Dec.{eqb}
use lib.ListN.{length, get_or, get_or-replicate, length-replicate}
use Rattle.sheet.specs.Refusal.{Answer}
use Rattle.std.specs.Prelude.{Ok, Err}
use Rattle.dispatcher.proofs.Rows.{rows_length}
use Rattle.sheet.specs.declared.refusal.Refusal.{Refusal}
use Rattle.sheet.specs.Format.{task_set_of}
use Rattle.allocation.specs.Allocation.{allocations_for}
use Rattle.planner.specs.Plan.{plan_answer, plan_bytes, planned}
use Rattle.sheet.specs.Refusal.{answer_word, written_if}
use Rattle.model.specs.Row.{Row}
use Rattle.model.specs.Step.{Model, step, release, tick}
use Rattle.entries.specs.declared.state.TaskState.{TaskState}
use Rattle.entries.specs.Entry.{with_row}
use Rattle.start.specs.Fresh.{zero_entry}
use Rattle.dispatcher.specs.declared.state.State.{State}
use Rattle.dispatcher.specs.Holds.{model_of, with_rows, with_model}
use Rattle.dispatcher.specs.Sound.{is_sound}
use Rattle.sheet.specs.declared.refusal.Refusal.TheVariants.{NotSound}
use Rattle.dispatcher.specs.declared.tick.TickAnswer.{TickAnswer}
use Rattle.dispatcher.specs.declared.tick.TickAnswer.TheVariants.{Ran, Switched, Returned, Refused as TickRefused}
use Rattle.dispatcher.specs.Calls.{released_by, release_of, ticked_by, tick_of}
use Rattle.dispatcher.specs.Board.{board_answer, boarded_of, board_left, board_of}
use Rattle.dispatcher.proofs.Laws.{release_back, tick_back}
use Rattle.start.specs.Start.{zero_state, start_of}
use Rattle.exports.specs.Ticks.{tick_word}
use Rattle.exports.specs.Words.{state_size, state_words, state_from, is_state, EntryHeld, StateHeld}
use Rattle.exports.specs.Calls.{no_state, number_in, start_left, start_call, release_call, tick_call, board_call, plan_call, Leaves, RefusalLeaves, NoStateFirst, StaysState, SomeStates}
use Rattle.exports.proofs.Codec.{same_said}
use Rattle.exports.proofs.Called.{release_none, tick_none, board_none}

-- An accepted answer has number 0: what a refused one leaves is all that counts.
left_by : {A : Type 0} (a : Answer) (left before : A) → ((r : Refusal) → a ≡ Err r → left ≡ before) →
    1 ≤ number_in (answer_word a) → left ≡ before
unfolding answer_word
left_by (Ok x) left before h refused = absurd (omega arith)
left_by (Err r) left before h refused = h r refl

tick_left_by : {A : Type 0} (a : TickAnswer) (left before : A) → ((r : Refusal) → a ≡ TickRefused r → left ≡ before) →
    1 ≤ number_in (tick_word a) → left ≡ before
unfolding tick_word
tick_left_by Ran left before h refused = absurd (omega arith)
tick_left_by (Switched task) left before h refused = absurd (omega arith)
tick_left_by Returned left before h refused = absurd (omega arith)
tick_left_by (TickRefused r) left before h refused = h r refl

start-leaves : (sheet line : List ℕ) → Leaves (start_call sheet line) line
unfolding Leaves start_call
start-leaves sheet line = go (eqb (length line) state_size) (start_of sheet).answer
  where
    go : (t : Bool) (a : Answer) →
        Leaves (cond t (record { word = answer_word a; left = start_left a (start_of sheet).state line }) (no_state line)) line
    go false a refused = refl
    go true a refused = left_by a (start_left a (start_of sheet).state line) line (λ r e. ap (λ (a : Answer). start_left a (start_of sheet).state line) e) refused

-- A call on a line leaves it where a number other than 0 goes with the state that was read.
line-leaves : (line : List ℕ) (word : ℕ) (after : State) → (1 ≤ number_in word → after ≡ state_from line) →
    (t : Bool) → is_state line ≡ t → Leaves (cond t (record { word = word; left = state_words after }) (no_state line)) line
unfolding Leaves
line-leaves line word after back true is refused = ap state_words (back refused) ∙ same_said.words line is
line-leaves line word after back false none refused = refl

release_leaves : (line : List ℕ) (task : ℕ) → Leaves (release_call line task) line
unfolding release_call
release_leaves line task =
    line-leaves line (answer_word (release_of (state_from line) task).answer) (release_of (state_from line) task).state
    (left_by (release_of (state_from line) task).answer _ _ (λ r. release_back (state_from line) task {r = r}))
    (is_state line)
    refl

tick_leaves : (line reports : List ℕ) → Leaves (tick_call line reports) line
unfolding tick_call
tick_leaves line reports =
    line-leaves line (tick_word (tick_of (state_from line) reports).answer) (tick_of (state_from line) reports).state
    (tick_left_by (tick_of (state_from line) reports).answer _ _ (λ r. tick_back (state_from line) reports {r = r}))
    (is_state line)
    refl

board_leaves : (line buffer : List ℕ) → Leaves (board_call line buffer) buffer
unfolding Leaves board_call boarded_of board_of
board_leaves line buffer = go (is_state line) (board_answer (state_from line) (length buffer))
  where
    go : (t : Bool) (a : Answer) → Leaves (cond t (record { word = answer_word a; left = board_left a (state_from line) buffer }) (no_state buffer)) buffer
    go false a refused = refl
    go true a refused = left_by a (board_left a (state_from line) buffer) buffer (λ r e. ap (λ (a : Answer). board_left a (state_from line) buffer) e) refused

plan_leaves : (sheet buffer : List ℕ) → Leaves (plan_call sheet buffer) buffer
unfolding Leaves plan_call planned
plan_leaves sheet buffer refused =
    left_by (plan_answer sheet (length buffer)) (planned sheet buffer) buffer
    (λ r e. ap (λ (a : Answer). written_if a (plan_bytes (task_set_of sheet).count (allocations_for sheet)) buffer) e)
    refused

pub refusal_leaves : RefusalLeaves
refusal_leaves =
    record { start = start-leaves; release = release_leaves; tick = tick_leaves; board = board_leaves; plan = plan_leaves }

pub no_state_first : (line : List ℕ) → is_state line ≡ false → NoStateFirst line
no_state_first line none =
    record { release = λ task. release_none line task none; tick = λ reports. tick_none line reports none; board = λ buffer. board_none line buffer none }

-- A call changes only ages, ended sets, marks and the mode, so that what fitted fits.
row_held : (e : TaskState) (r : Row) → EntryHeld e → EntryHeld (with_row e r)
unfolding with_row
row_held e r h = record { level = h.level; nodes = h.nodes; masks = h.masks; typical = h.typical; critical = h.critical }

rows_held : (entries : List TaskState) (rows : List Row) (i : ℕ) → EntryHeld (get_or entries i zero_entry) → EntryHeld (get_or (with_rows entries rows) i zero_entry)
rows_held [] rows i h = h
rows_held (e ∷ entries) [] i h = h
rows_held (e ∷ entries) (r ∷ rows) zero h = row_held e r h
rows_held (e ∷ entries) (r ∷ rows) (suc i) h = rows_held entries rows i h

model_held : (s : State) (m : Model) → StateHeld s → StateHeld (with_model s m)
unfolding with_model
model_held s m h =
    record {
      processors = h.processors;
      count = h.count;
      sixteen = rows_length s.entries m.rows ∙ h.sixteen;
      entries = λ i inside. rows_held s.entries m.rows i (h.entries i inside);
    }

release_held : (s : State) (task : ℕ) → StateHeld s → StateHeld (release_of s task).state
unfolding release_of
release_held s task h = go (is_sound s)
  where
    go : (t : Bool) → StateHeld (cond t (released_by s (step (model_of s) (release task))) (record { state = s; answer = Err NotSound })).state
    go true = model_held s (step (model_of s) (release task)).model h
    go false = h

tick_held : (s : State) (reports : List ℕ) → StateHeld s → StateHeld (tick_of s reports).state
unfolding tick_of
tick_held s reports h = go (is_sound s)
  where
    go : (t : Bool) → StateHeld (cond t (ticked_by s (step (model_of s) (tick reports))) (record { state = s; answer = TickRefused NotSound })).state
    go true = model_held s (step (model_of s) (tick reports)).model h
    go false = h

pub stays_state : (line : List ℕ) → is_state line ≡ true → StaysState line
unfolding release_call tick_call
stays_state line is =
    let held : StateHeld (state_from line) = same_said.held line is in
    record {
      release = λ task. rw is (same_said.taken _ (release_held (state_from line) task held));
      tick = λ reports. rw is (same_said.taken _ (tick_held (state_from line) reports held));
    }

-- A line that is a state, and one that is not: the words of a state of zeros, and no words.
zero_held : StateHeld zero_state
unfolding zero_state zero_entry
zero_held =
    record {
      processors = omega arith;
      count = omega arith;
      sixteen = length-replicate 16 zero_entry;
      entries = λ i h. rw (get_or-replicate 16 i zero_entry zero_entry h) (record { level = omega arith; nodes = omega arith; masks = refl; typical = omega arith; critical = omega arith });
    }

pub states_stand : SomeStates
unfolding is_state
states_stand = record { one = same_said.taken zero_state zero_held; none = refl }
