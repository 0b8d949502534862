-- Worked facts by computation: the definitions on small models.
use Prim.Native.Nat.{ℕ}
use mathlib.Core.Path.{◌≡◌, refl}
use mathlib.Core.Bool.{Bool, true, false}
use mathlib.Core.List.{List, [], ◌∷◌, ◌++◌}
use lib.ListN.{replicate, get_or}
use Rattle.std.specs.Prelude.{filter}
use Rattle.basics.specs.Lists.{range}
use Rattle.nodes.specs.Sets.{has}
use Rattle.sheet.specs.Level.{is_high, is_low}
use Rattle.shares.specs.Low.{is_kept}
use Rattle.model.specs.Row.{Row, is_subset, all_ended, predecessors_of, is_ready, ready, running, running_set, released_row, joined, ticked_row, has_high_job, is_late, survives, switched_row}
use Rattle.sheet.specs.declared.refusal.Refusal.TheVariants.{UnknownTask, LowInCritical, TooEarly, WrongCount, NotRunning}
use Rattle.sheet.specs.Refusal.{number}
use Rattle.model.specs.Step.{Model, Call, release, tick, accepted, ran, switched, returned, refused, step, row_at, granted, running_at, release_refusal, tick_refusal, released, ticked}
use Rattle.model.specs.Run.{after, answers, is_accepted, ticks_in, is_running, runs_in, is_due}

-- A row without a job: level, nodes, masks, D, V and both shares.
abbrev pub idle : ℕ → ℕ → List ℕ → ℕ → ℕ → ℕ → ℕ → Row
idle level nodes masks deadline virtual_deadline typical critical =
    record {
      fixed =
          record {
            level = level;
            nodes = nodes;
            predecessors = masks;
            deadline = deadline;
            virtual_deadline = virtual_deadline;
            share = record { typical = typical; critical = critical };
          };
      age = deadline;
      job = record { ended = 0; alive = false };
    }

-- S11.13: task A alone, at (1, 2): D 45, V 9, three nodes without predecessors.
abbrev pub alone : Model
alone = record { critical = false; rows = idle 1 3 (0 ∷ 0 ∷ 0 ∷ []) 45 9 1 2 ∷ [] }

-- Ticks of one task's model that report nothing.
abbrev quiet : ℕ → List Call
quiet n = replicate n (tick (0 ∷ []))

-- S11.13: with the lengths 4, 3, 2 node 0 ends with tick 4, node 1 with tick 7, node 2 with tick 9.
abbrev ends_in_time : List Call
ends_in_time = release 0 ∷ quiet 3 ++ tick (1 ∷ []) ∷ quiet 2 ++ tick (2 ∷ []) ∷ quiet 1 ++ tick (4 ∷ []) ∷ []

-- S11.13: with the lengths 4, 3, 3 node 2 has a tick to run after tick 9.
abbrev ends_late : List Call
ends_late = release 0 ∷ quiet 3 ++ tick (1 ∷ []) ∷ quiet 2 ++ tick (2 ∷ []) ∷ quiet 2

-- The nodes that are due after some ticks of that job, with these lengths.
abbrev due : List ℕ → List Call → List ℕ
due lengths calls =
    filter
    (λ v. is_due (is_running 0 v (after (after alone (release 0 ∷ [])) calls)) (runs_in 0 v (after alone (release 0 ∷ [])) calls)
    (get_or lengths v 0))
    (range 0 3)

-- Three high tasks with V 2 and a low one.
abbrev mixed : Model
mixed =
    record {
      critical = false;
      rows =
          idle 1 1 (0 ∷ []) 9 2 1 1 ∷ idle 1 1 (0 ∷ []) 9 2 1 1 ∷ idle 1 1 (0 ∷ []) 9 2 1 1 ∷ idle 0 2
          (0 ∷ 1 ∷ []) 9 0 2 0 ∷ [];
    }

abbrev silent : Call
silent = tick (0 ∷ 0 ∷ 0 ∷ 0 ∷ [])

-- The jobs of tasks 1, 2 and 3 begin together; task 0 has none.
abbrev three : List Call
three = release 2 ∷ release 1 ∷ release 3 ∷ []

-- A high task with V 2, a low one that is kept, and a low one that is not; the low ones have two nodes and two
-- processors each.
abbrev keeping : Model
keeping =
    record {
      critical = false;
      rows = idle 1 1 (0 ∷ []) 9 2 1 1 ∷ idle 0 2 (0 ∷ 0 ∷ []) 9 0 2 2 ∷ idle 0 2 (0 ∷ 0 ∷ []) 9 0 2 0 ∷ [];
    }

-- A job of each of them begins; node 0 of the low jobs ends with the first tick, and the second one switches.
abbrev switch_over : List Call
switch_over = release 0 ∷ release 1 ∷ release 2 ∷ tick (0 ∷ 1 ∷ 1 ∷ []) ∷ tick (0 ∷ 0 ∷ 0 ∷ []) ∷ []

-- A tick that reports nothing of the three.
abbrev still : Call
still = tick (0 ∷ 0 ∷ 0 ∷ [])

-- Then the high job ends.
abbrev over_and_back : List Call
over_and_back = switch_over ++ tick (1 ∷ 0 ∷ 0 ∷ []) ∷ []

-- The critical mode with no job alive.
abbrev left_critical : Model
left_critical = record { critical = true; rows = keeping.rows }

-- The high job alone switches, and then the low tasks are released.
abbrev released_after : List Call
released_after = release 0 ∷ tick (0 ∷ 0 ∷ 0 ∷ []) ∷ tick (0 ∷ 0 ∷ 0 ∷ []) ∷ release 1 ∷ release 2 ∷ []

-- Node 2 waits for node 0; with share 2 the nodes 0 and 1 run first.
abbrev fork : Model
fork = record { critical = false; rows = idle 1 4 (0 ∷ 0 ∷ 1 ∷ 0 ∷ []) 30 9 2 3 ∷ [] }

-- Node 1 waits for node 0, node 2 for node 1, node 3 for the nodes 0 and 2; there is a processor for each.
abbrev ladder : Model
ladder = record { critical = false; rows = idle 1 4 (0 ∷ 1 ∷ 2 ∷ 5 ∷ []) 30 9 4 4 ∷ [] }

-- What runs of a model's task 0 after a list of calls.
abbrev runs : Model → List Call → List ℕ
runs m calls = running_at (after m calls) 0

-- What calls change of a task (S7.1).
record Changed : Type 0 where
  pub age : ℕ
  pub ended : ℕ
  pub alive : Bool

-- That of a model's task i.
abbrev changed_at : Model → ℕ → Changed
changed_at m i = record { age = (row_at m i).age; ended = (row_at m i).job.ended; alive = (row_at m i).job.alive }

pub record Worked : Type 0 where
  -- S11.13, lengths 4, 3, 2: a job that ends with tick V causes no switch.
  pub in_time : answers alone ends_in_time ≡ accepted ∷ replicate 9 ran
  pub in_time_gone : changed_at (after alone ends_in_time) 0 ≡ record { age = 9; ended = 7; alive = false }
  -- S11.13, lengths 4, 3, 3: the job is alive after tick 9, which switches.
  pub late : answers alone ends_late ≡ accepted ∷ replicate 8 ran ++ switched 0 ∷ []
  pub late_alive : changed_at (after alone ends_late) 0 ≡ record { age = 9; ended = 3; alive = true }
  -- S10.5: a node is due with the tick that brings what it ran to its length, neither before nor after, and only if it
  -- runs.
  pub not_due : due (4 ∷ 3 ∷ 2 ∷ []) (quiet 2) ≡ []
  pub due_first : due (4 ∷ 3 ∷ 2 ∷ []) (quiet 3) ≡ 0 ∷ []
  pub due_past : due (4 ∷ 3 ∷ 2 ∷ []) (quiet 4) ≡ []
  pub due_next : due (4 ∷ 3 ∷ 2 ∷ []) (quiet 3 ++ tick (1 ∷ []) ∷ quiet 2) ≡ 1 ∷ []
  -- S9.11 to S9.15: the numbers of the refusals.
  pub numbers : number UnknownTask ∷ number (LowInCritical 3) ∷ number (TooEarly 3) ∷ number WrongCount ∷ number (NotRunning 3) ∷ [] ≡ 11 ∷ 12 ∷ 13 ∷ 14 ∷ 15 ∷ []
  -- S3.4, S9.14 and S9.15: a refused tick ages nothing: node 1 does not run, node 3 is none, two reports are too many.
  pub wrong_node : answers alone (release 0 ∷ tick (2 ∷ []) ∷ tick (8 ∷ []) ∷ tick (1 ∷ 0 ∷ []) ∷ [])
      ≡ accepted
      ∷ refused (NotRunning 0)
      ∷ refused (NotRunning 0)
      ∷ refused WrongCount
      ∷ []
  pub no_age : after alone (release 0 ∷ tick (2 ∷ []) ∷ tick (8 ∷ []) ∷ tick (1 ∷ 0 ∷ []) ∷ []) ≡ after alone (release 0 ∷ [])
  pub no_tick : ticks_in alone (release 0 ∷ tick (2 ∷ []) ∷ tick (1 ∷ []) ∷ []) ≡ 1
  -- S9.15: the first task at fault is named, here one with a wrong node before another, and one without a job.
  pub first_fault : answers mixed (three ++ tick (0 ∷ 2 ∷ 2 ∷ 0 ∷ []) ∷ tick (1 ∷ 1 ∷ 2 ∷ 0 ∷ []) ∷ [])
      ≡ accepted
      ∷ accepted
      ∷ accepted
      ∷ refused (NotRunning 1)
      ∷ refused (NotRunning 0)
      ∷ []
  -- S8.6, S8.7 and S9.12: the switch names the lowest task that is late and drops the job of a low task that is not
  -- kept, whose ended set stays; such a task is then refused. The job of a high task stays.
  pub lowest : answers mixed (three ++ tick (0 ∷ 0 ∷ 0 ∷ 1 ∷ []) ∷ silent ∷ release 3 ∷ [])
      ≡ accepted ∷ accepted ∷ accepted ∷ ran ∷ switched 1 ∷ refused (LowInCritical 3) ∷ []
  pub dropped : changed_at (after mixed (three ++ tick (0 ∷ 0 ∷ 0 ∷ 1 ∷ []) ∷ silent ∷ [])) 3
      ≡ record { age = 2; ended = 1; alive = false }
  pub high_stays : changed_at (after mixed (three ++ silent ∷ silent ∷ [])) 2 ≡ record { age = 2; ended = 0; alive = true }
  -- S7.4 and S8.6: in one switch the job of the kept low task stays alive, and runs on; that of the other is dropped.
  pub switches : answers keeping switch_over ≡ accepted ∷ accepted ∷ accepted ∷ ran ∷ switched 0 ∷ []
  pub kept_stays : changed_at (after keeping switch_over) 1 ≡ record { age = 2; ended = 1; alive = true }
  pub kept_runs : running_at (after keeping switch_over) 1 ≡ 1 ∷ []
  pub other_dropped : changed_at (after keeping switch_over) 2 ≡ record { age = 2; ended = 1; alive = false }
  -- S9.12: in critical mode the kept low task is released, the other refused.
  pub kept_released : answers keeping released_after
      ≡ accepted ∷ ran ∷ switched 0 ∷ accepted ∷ refused (LowInCritical 2) ∷ []
  -- S8.9: the tick with which the last high job ends returns, and the next one runs. The kept job goes on, with its
  -- ended set; the dropped one stays dropped. In typical mode its task is released again, at age D.
  pub returns : answers keeping (over_and_back ++ still ∷ []) ≡ accepted ∷ accepted ∷ accepted ∷ ran ∷ switched 0 ∷ returned ∷ ran ∷ []
  pub back_typical : (after keeping over_and_back).critical ≡ false
  pub kept_goes_on : changed_at (after keeping over_and_back) 1 ≡ record { age = 3; ended = 1; alive = true }
  pub kept_runs_on : running_at (after keeping over_and_back) 1 ≡ 1 ∷ []
  pub dropped_stays : changed_at (after keeping over_and_back) 2 ≡ record { age = 3; ended = 1; alive = false }
  pub low_again : answers (after keeping over_and_back) (replicate 5 still ++ release 2 ∷ still ∷ release 2 ∷ [])
      ≡ replicate 5 ran ++ refused (TooEarly 2) ∷ ran ∷ accepted ∷ []
  -- S8.9: it is the jobs after the tick that count. A critical mode without a high job ends with the next accepted
  -- tick, and a refused one leaves it; a kept job does not hold it back.
  pub none_before : answers left_critical (tick (0 ∷ []) ∷ release 1 ∷ still ∷ still ∷ [])
      ≡ refused WrongCount ∷ accepted ∷ returned ∷ ran ∷ []
  pub refused_stays : (after left_critical (tick (0 ∷ []) ∷ [])).critical ≡ true
  -- S8.9: the last of two high jobs returns, and one that is released in critical mode holds the return back.
  pub last_of_two : answers mixed (three ++ silent ∷ silent ∷ tick (0 ∷ 1 ∷ 0 ∷ 0 ∷ []) ∷ tick (0 ∷ 0 ∷ 1 ∷ 0 ∷ []) ∷ [])
      ≡ accepted ∷ accepted ∷ accepted ∷ ran ∷ switched 1 ∷ ran ∷ returned ∷ []
  pub held_back : answers mixed
      (three ++ silent ∷ silent ∷ release 0 ∷ tick (0 ∷ 1 ∷ 1 ∷ 0 ∷ []) ∷ tick (1 ∷ 0 ∷ 0 ∷ 0 ∷ []) ∷ [])
      ≡ accepted ∷ accepted ∷ accepted ∷ ran ∷ switched 1 ∷ accepted ∷ ran ∷ returned ∷ []
  -- S8.9: a tick in typical mode never returns.
  pub typical_runs : answers keeping (still ∷ release 0 ∷ tick (1 ∷ 0 ∷ 0 ∷ []) ∷ []) ≡ ran ∷ accepted ∷ ran ∷ []
  -- S8.3: the lowest ready nodes run, as many as the share in the mode; a node that ends lets a later one start.
  pub first_nodes : runs fork (release 0 ∷ []) ≡ 0 ∷ 1 ∷ []
  pub next_nodes : runs fork (release 0 ∷ tick (1 ∷ []) ∷ []) ≡ 1 ∷ 2 ∷ []
  pub in_critical : running_at (record { critical = true; rows = (after fork (release 0 ∷ tick (1 ∷ []) ∷ [])).rows }) 0 ≡ 1 ∷ 2 ∷ 3 ∷ []
  pub counted : runs_in 0 2 fork (release 0 ∷ tick (1 ∷ []) ∷ tick (2 ∷ []) ∷ tick (0 ∷ []) ∷ []) ≡ 2
  -- S8.2: a node waits until each of its predecessors has ended, although there is a processor for it: node 3 too, of
  -- whose predecessors node 0 has.
  pub level_one : runs ladder (release 0 ∷ []) ≡ 0 ∷ []
  pub level_two : runs ladder (release 0 ∷ tick (1 ∷ []) ∷ []) ≡ 1 ∷ []
  pub level_three : runs ladder (release 0 ∷ tick (1 ∷ []) ∷ tick (2 ∷ []) ∷ []) ≡ 2 ∷ []
  pub level_four : runs ladder (release 0 ∷ tick (1 ∷ []) ∷ tick (2 ∷ []) ∷ tick (4 ∷ []) ∷ []) ≡ 3 ∷ []
  -- S8.5: a node that was reported stays ended, and it is refused as a report from then on.
  pub stays_ended : changed_at (after ladder (release 0 ∷ tick (1 ∷ []) ∷ tick (0 ∷ []) ∷ tick (2 ∷ []) ∷ [])) 0
      ≡ record { age = 3; ended = 3; alive = true }
  pub not_again : answers ladder (release 0 ∷ tick (1 ∷ []) ∷ tick (1 ∷ []) ∷ [])
      ≡ accepted ∷ ran ∷ refused (NotRunning 0) ∷ []
  -- S9.11 and S9.13: a Release is refused for an unknown task, and while a job is alive or the age is below D.
  pub released_too_early : answers alone (release 1 ∷ release 0 ∷ release 0 ∷ [])
      ≡ refused UnknownTask ∷ accepted ∷ refused (TooEarly 0) ∷ []
  pub not_yet : answers (after alone ends_in_time) (release 0 ∷ quiet 35 ++ release 0 ∷ quiet 1 ++ release 0 ∷ [])
      ≡ refused (TooEarly 0)
      ∷ replicate 35 ran ++ refused (TooEarly 0) ∷ ran ∷ accepted ∷ []
  -- S8.4: the next job begins afresh: what the last one left as its ended set goes with the Release.
  pub afresh : changed_at (after (after alone ends_in_time) (quiet 36 ++ release 0 ∷ [])) 0 ≡ record { age = 0; ended = 0; alive = true }

worked : Worked
unfolding has range is_high is_low is_kept is_subset all_ended predecessors_of is_ready ready running running_set released_row joined ticked_row has_high_job is_late survives switched_row step row_at granted running_at release_refusal tick_refusal released ticked is_accepted is_running is_due
worked =
    record {
      in_time = refl;
      in_time_gone = refl;
      late = refl;
      late_alive = refl;
      not_due = refl;
      due_first = refl;
      due_past = refl;
      due_next = refl;
      numbers = refl;
      wrong_node = refl;
      no_age = refl;
      no_tick = refl;
      first_fault = refl;
      lowest = refl;
      dropped = refl;
      high_stays = refl;
      switches = refl;
      kept_stays = refl;
      kept_runs = refl;
      other_dropped = refl;
      kept_released = refl;
      returns = refl;
      back_typical = refl;
      kept_goes_on = refl;
      kept_runs_on = refl;
      dropped_stays = refl;
      low_again = refl;
      none_before = refl;
      refused_stays = refl;
      last_of_two = refl;
      held_back = refl;
      typical_runs = refl;
      first_nodes = refl;
      next_nodes = refl;
      in_critical = refl;
      counted = refl;
      level_one = refl;
      level_two = refl;
      level_three = refl;
      level_four = refl;
      stays_ended = refl;
      not_again = refl;
      released_too_early = refl;
      not_yet = refl;
      afresh = refl;
    }
