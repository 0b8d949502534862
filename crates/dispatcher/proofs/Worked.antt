-- Worked facts by computation: soundness of small states, each refusal by its number, a tick's answers, and the bytes
-- of a board.
use Prim.Native.Nat.{ℕ}
use mathlib.Core.Bool.{Bool, true, false}
use mathlib.Core.List.{List, [], ◌∷◌}
use mathlib.Core.Path.{◌≡◌, refl}
use lib.ListN.{replicate, drop}
use Rattle.basics.specs.Lists.{range, all_below}
use Rattle.nodes.specs.Sets.{has}
use Rattle.std.specs.Prelude.{Ok, Err}
use Rattle.sheet.specs.declared.refusal.Refusal.TheVariants.{NotSound, UnknownTask, LowInCritical, TooEarly, WrongCount, NotRunning, WrongLength}
use Rattle.sheet.specs.Refusal.{number_of, task_of}
use Rattle.sheet.specs.Level.{level_lawful, is_high, is_low, figure_limit, is_wide}
use Rattle.sheet.specs.Rules.{mask_lawful, masks_lawful}
use Rattle.shares.specs.Low.{is_kept}
use Rattle.model.specs.Row.{is_subset, all_ended, predecessors_of, is_ready, ready, running, running_set, released_row, joined, ticked_row, has_high_job, is_late, survives, switched_row}
use Rattle.model.specs.Step.{row_at, granted, release_refusal, tick_refusal, released, ticked, step}
use Rattle.entries.specs.declared.state.TaskState.{TaskState}
use Rattle.entries.specs.Entry.{fixed_of, job_of, row_of, with_row}
use Rattle.entries.specs.Sound.{entry_sound}
use Rattle.dispatcher.specs.declared.state.State.{State}
use Rattle.dispatcher.specs.declared.tick.TickAnswer.TheVariants.{Ran, Switched, Returned, Refused as TickRefused}
use Rattle.dispatcher.specs.Holds.{entries_of, model_of, with_model}
use Rattle.dispatcher.specs.Sound.{is_sound}
use Rattle.dispatcher.specs.Answers.{tick_number, tick_task}
use Rattle.dispatcher.specs.Calls.{release_of, tick_of}
use Rattle.dispatcher.specs.Board.{idle, block, board_bytes, board_answer, board_of}

-- An entry with D 9 and V 2, k nodes without predecessors, and no node ended: level, k, shares, age, alive.
abbrev entry : ℕ → ℕ → ℕ → ℕ → ℕ → Bool → TaskState
entry level nodes typical critical age alive =
    record {
      level = level;
      nodes = nodes;
      predecessors = replicate nodes 0;
      deadline = 9;
      virtual_deadline = 2;
      share = record { typical = typical; critical = critical };
      age = age;
      job = record { ended = 0; alive = alive };
    }

-- A high task that waits for its release, with these shares.
abbrev waits : ℕ → ℕ → TaskState
waits typical critical = entry 1 1 typical critical 9 false

-- A state of M, n, the mode, and the entries.
abbrev state : ℕ → ℕ → Bool → List TaskState → State
state processors count critical entries = record { processors = processors; count = count; critical = critical; entries = entries }

-- M 5. Task 0 is high with shares (2, 3), task 1 low with (2, 0); no job is alive. A third entry is no task.
abbrev calm : Bool → State
calm critical = state 5 2 critical (entry 1 2 2 3 9 false ∷ entry 0 1 2 0 9 false ∷ waits 9 9 ∷ [])

-- The same with a job of each task, of age 0 and 1.
abbrev busy : Bool → State
busy critical = state 5 2 critical (entry 1 2 2 3 0 true ∷ entry 0 1 2 0 1 true ∷ waits 9 9 ∷ [])

-- Two high tasks with a node each, whose jobs have the age 1: the next tick brings both to V.
abbrev late : State
late = state 5 2 false (entry 1 1 1 1 1 true ∷ entry 1 1 1 1 1 true ∷ [])

-- M 5. Task 0 is high with shares (2, 3), task 1 low and kept with (2, 2), task 2 low with (1, 0); no job is alive, in
-- the critical mode.
abbrev keeping : State
keeping = state 5 3 true (entry 1 2 2 3 9 false ∷ entry 0 1 2 2 9 false ∷ entry 0 1 1 0 9 false ∷ [])

-- The same tasks with a job each, of this age; that of task 2 is alive or dropped.
abbrev keeping_busy : Bool → ℕ → Bool → State
keeping_busy critical age alive = state 5 3 critical (entry 1 2 2 3 age true ∷ entry 0 1 2 2 age true ∷ entry 0 1 1 0 age alive ∷ [])

-- The shares total 4 and 3.
abbrev full : ℕ → State
full processors = state processors 2 false (waits 3 1 ∷ waits 1 2 ∷ [])

-- The shares total 3 and 4.
abbrev full_critical : ℕ → State
full_critical processors = state processors 2 false (waits 1 3 ∷ waits 2 1 ∷ [])

pub record Worked : Type 0 where
  -- S7.2: in each mode the shares total at most M.
  pub typical_most : is_sound (full 4) ≡ true
  pub typical_above : is_sound (full 3) ≡ false
  pub critical_most : is_sound (full_critical 4) ≡ true
  pub critical_above : is_sound (full_critical 3) ≡ false
  -- S2.1: M is from 1 to 64.
  pub processors_most : is_sound (full 64) ≡ true
  pub processors_above : is_sound (full 65) ≡ false
  pub processors_none : is_sound (state 0 1 false (waits 0 0 ∷ [])) ≡ false
  -- S2.2: n is from 1 to 16.
  pub tasks_most : is_sound (state 64 16 false (replicate 16 (waits 1 1))) ≡ true
  pub tasks_above : is_sound (state 64 17 false (replicate 17 (waits 1 1))) ≡ false
  pub tasks_none : is_sound (state 64 0 false []) ≡ false
  -- S7.2: the last entry is tested, and S7.3: the one behind it is not.
  pub last_broken : is_sound (state 64 2 false (waits 1 1 ∷ entry 2 1 1 1 9 false ∷ [])) ≡ false
  pub behind_broken : is_sound (state 64 1 false (waits 1 1 ∷ entry 2 1 1 1 9 false ∷ [])) ≡ true
  -- S9.10: the state is not sound.
  pub release_10 : (release_of (full 3) 0).answer ≡ Err NotSound
  pub tick_10 : (tick_of (full 3) (0 ∷ 0 ∷ [])).answer ≡ TickRefused NotSound
  pub board_10 : board_answer (full 3) 6 ≡ Err NotSound
  -- S9.11: task 2 is none of two.
  pub release_11 : (release_of (calm false) 2).answer ≡ Err UnknownTask
  -- S9.12: task 1 is low and not kept, and the mode critical.
  pub release_12 : (release_of (calm true) 1).answer ≡ Err (LowInCritical 1)
  pub release_low : (release_of (calm false) 1).answer ≡ Ok tt
  pub release_high : (release_of (calm true) 0).answer ≡ Ok tt
  -- S7.4, S9.12: of two low tasks in the critical mode the kept one is released.
  pub release_kept : (release_of keeping 1).answer ≡ Ok tt
  pub release_other : (release_of keeping 2).answer ≡ Err (LowInCritical 2)
  -- S9.13: a job is alive at age D, or the age is below D.
  pub release_alive : (release_of (state 5 1 false (entry 1 1 1 1 9 true ∷ [])) 0).answer ≡ Err (TooEarly 0)
  pub release_young : (release_of (state 5 1 false (entry 1 1 1 1 8 false ∷ [])) 0).answer ≡ Err (TooEarly 0)
  -- S9.14: one report, and three, for two tasks.
  pub tick_fewer : (tick_of (busy false) (0 ∷ [])).answer ≡ TickRefused WrongCount
  pub tick_more : (tick_of (busy false) (0 ∷ 0 ∷ 0 ∷ [])).answer ≡ TickRefused WrongCount
  -- S9.15: task 1 has no node 1; where both reports are wrong, task 0 is named.
  pub tick_15 : (tick_of (busy false) (3 ∷ 2 ∷ [])).answer ≡ TickRefused (NotRunning 1)
  pub tick_first : (tick_of (busy false) (4 ∷ 2 ∷ [])).answer ≡ TickRefused (NotRunning 0)
  -- S9.16: the board of 5 processors has 10 bytes.
  pub board_shorter : board_answer (busy false) 9 ≡ Err WrongLength
  pub board_longer : board_answer (busy false) 11 ≡ Err WrongLength
  pub board_fits : board_answer (busy false) 10 ≡ Ok tt
  -- S3.4: a refused call hands the state and the buffer back.
  pub release_back : (release_of (calm true) 1).state ≡ calm true
  pub tick_back : (tick_of (busy false) (3 ∷ 2 ∷ [])).state ≡ busy false
  pub board_back : board_of (busy false) (7 ∷ 8 ∷ []) ≡ 7 ∷ 8 ∷ []
  -- S3.1, S8.7: number and task of an accepted release, of a refused one, and of a tick that ran, switched or was
  -- refused.
  pub accepted_number : number_of (release_of (calm false) 0).answer ≡ 0
  pub accepted_task : task_of (release_of (calm false) 0).answer ≡ 255
  pub refused_number : number_of (release_of (calm true) 1).answer ≡ 12
  pub refused_task : task_of (release_of (calm true) 1).answer ≡ 1
  pub ran : (tick_of (busy false) (1 ∷ 1 ∷ [])).answer ≡ Ran
  pub ran_task : tick_task (tick_of (busy false) (1 ∷ 1 ∷ [])).answer ≡ 255
  pub switched : (tick_of late (0 ∷ 0 ∷ [])).answer ≡ Switched 0
  pub switched_number : tick_number (tick_of late (0 ∷ 0 ∷ [])).answer ≡ 0
  -- S8.6: a job that ends with the tick causes no switch; the other one's task is named.
  pub switched_second : (tick_of late (1 ∷ 0 ∷ [])).answer ≡ Switched 1
  pub ended_both : (tick_of late (1 ∷ 1 ∷ [])).answer ≡ Ran
  -- S7.4, S8.6: the tick that brings task 0 to V leaves the kept task's job alive and drops the other low one.
  pub switch_keeps : tick_of (keeping_busy false 1 true) (0 ∷ 0 ∷ 0 ∷ []) ≡ record { state = keeping_busy true 2 false; answer = Switched 0 }
  -- S8.9: the tick with which both nodes of task 0 end returns, and the kept job goes on; with one of them the job is
  -- alive, and the tick runs.
  pub returned : (tick_of (keeping_busy true 2 false) (3 ∷ 0 ∷ 0 ∷ [])).answer ≡ Returned
  pub returned_number : tick_number (tick_of (keeping_busy true 2 false) (3 ∷ 0 ∷ 0 ∷ [])).answer ≡ 0
  pub returned_task : tick_task (tick_of (keeping_busy true 2 false) (3 ∷ 0 ∷ 0 ∷ [])).answer ≡ 255
  pub returned_mode : (tick_of (keeping_busy true 2 false) (3 ∷ 0 ∷ 0 ∷ [])).state.critical ≡ false
  pub returned_kept : drop 1 (tick_of (keeping_busy true 2 false) (3 ∷ 0 ∷ 0 ∷ [])).state.entries ≡ entry 0 1 2 2 3 true ∷ entry 0 1 1 0 3 false ∷ []
  pub held_back : (tick_of (keeping_busy true 2 false) (1 ∷ 0 ∷ 0 ∷ [])).answer ≡ Ran
  -- S8.9: a critical mode in which no job is alive ends with the next tick; nothing else changes.
  pub returned_calm : tick_of keeping (0 ∷ 0 ∷ 0 ∷ []) ≡ record { state = state 5 3 false keeping.entries; answer = Returned }
  -- S8.8: in the typical mode processor 3 has no node in task 1's block, and processor 4 stands behind all blocks.
  pub board_typical : board_of (busy false) (replicate 10 7) ≡ 0 ∷ 0 ∷ 0 ∷ 1 ∷ 1 ∷ 0 ∷ 255 ∷ 255 ∷ 255 ∷ 255 ∷ []
  -- S8.8: in the critical mode task 0 has three processors and task 1 none.
  pub board_critical : board_of (busy true) (replicate 10 7) ≡ 0 ∷ 0 ∷ 0 ∷ 1 ∷ 255 ∷ 255 ∷ 255 ∷ 255 ∷ 255 ∷ 255 ∷ []
  -- S8.8: in the critical mode the kept task's block follows the three processors of task 0.
  pub board_kept : board_of (keeping_busy true 2 false) (replicate 10 7) ≡ 0 ∷ 0 ∷ 0 ∷ 1 ∷ 255 ∷ 255 ∷ 1 ∷ 0 ∷ 255 ∷ 255 ∷ []
  -- S8.8: no job is alive.
  pub board_calm : board_of (calm false) (replicate 10 7) ≡ replicate 10 255

worked : Worked
unfolding has range level_lawful mask_lawful all_below masks_lawful is_high is_low is_kept is_subset all_ended predecessors_of is_ready ready running running_set released_row joined ticked_row has_high_job is_late survives switched_row row_at granted release_refusal tick_refusal released ticked step fixed_of job_of row_of with_row entry_sound entries_of model_of with_model is_sound release_of tick_of idle block board_bytes board_answer board_of figure_limit is_wide
worked =
    record {
      typical_most = refl;
      typical_above = refl;
      critical_most = refl;
      critical_above = refl;
      processors_most = refl;
      processors_above = refl;
      processors_none = refl;
      tasks_most = refl;
      tasks_above = refl;
      tasks_none = refl;
      last_broken = refl;
      behind_broken = refl;
      release_10 = refl;
      tick_10 = refl;
      board_10 = refl;
      release_11 = refl;
      release_12 = refl;
      release_low = refl;
      release_high = refl;
      release_kept = refl;
      release_other = refl;
      release_alive = refl;
      release_young = refl;
      tick_fewer = refl;
      tick_more = refl;
      tick_15 = refl;
      tick_first = refl;
      board_shorter = refl;
      board_longer = refl;
      board_fits = refl;
      release_back = refl;
      tick_back = refl;
      board_back = refl;
      accepted_number = refl;
      accepted_task = refl;
      refused_number = refl;
      refused_task = refl;
      ran = refl;
      ran_task = refl;
      switched = refl;
      switched_number = refl;
      switched_second = refl;
      ended_both = refl;
      switch_keeps = refl;
      returned = refl;
      returned_number = refl;
      returned_task = refl;
      returned_mode = refl;
      returned_kept = refl;
      held_back = refl;
      returned_calm = refl;
      board_typical = refl;
      board_critical = refl;
      board_kept = refl;
      board_calm = refl;
    }
