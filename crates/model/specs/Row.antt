-- One task in the model: what the sheet and the plan fix, what calls change, and which of its nodes are ready and
-- running.
use Rattle.std.specs.List.{list_all}
use Rattle.std.specs.Prelude.{ℕ, suc, min, Bool, true, not, ◌&&◌, ◌||◌, List, eqb, leb, get_or, take, filter}
use Rattle.std.specs.Int.Bits.{bit_and, bit_or}
use Rattle.shares.specs.declared.share.Share.{Share}
use Rattle.basics.specs.Lists.{range}
use Rattle.nodes.specs.Sets.{has, set_of}
use Rattle.sheet.specs.Level.{is_high}
use Rattle.shares.specs.Low.{is_kept}

-- S7.1: a task's level, k, masks, D, V and shares. The sheet and the plan fix them; no call changes them.
pub record Fixed : Type 0 where
  pub level : ℕ
  pub nodes : ℕ
  pub predecessors : List ℕ
  pub deadline : ℕ
  pub virtual_deadline : ℕ
  pub share : Share

-- S7.1: what one release begins: the set of the job's ended nodes, and whether it is alive.
pub record Job : Type 0 where
  pub ended : ℕ
  pub alive : Bool

-- S10.2: one task in the model: what is fixed of it, its age, and its job. The age is the task's: it grows on when the
-- job has ended.
pub record Row : Type 0 where
  pub fixed : Fixed
  pub age : ℕ
  pub job : Job

-- What is fixed of a row.
abbrev pub fixed_part : Row → Fixed
fixed_part r = r.fixed

-- S1.2: whether each node of one set is in the other: what both have is all of the one.
unfoldable pub is_subset : ℕ → ℕ → Bool
is_subset nodes others = eqb (bit_and nodes others) nodes

-- S10.4: whether all k nodes have ended.
unfoldable pub all_ended : ℕ → ℕ → Bool
all_ended k ended = list_all (has ended) (range 0 k)

-- The set of node v's predecessors: its mask among the masks of a task.
unfoldable pub predecessors_of : List ℕ → ℕ → ℕ
predecessors_of masks v = get_or masks v 0

-- S2.12: whether node j is a predecessor of node v: bit j of v's mask.
unfoldable pub precedes : List ℕ → ℕ → ℕ → Bool
precedes masks j v = has (predecessors_of masks v) j

-- S8.2: a node is ready if the job is alive, the node has not ended, and all its predecessors have.
unfoldable pub is_ready : Row → ℕ → Bool
is_ready r v =
    r.job.alive
    && not (has r.job.ended v)
    && is_subset (predecessors_of r.fixed.predecessors v) r.job.ended

-- The ready nodes, lowest first.
unfoldable pub ready : Row → List ℕ
ready r = filter (is_ready r) (range 0 r.fixed.nodes)

-- S8.3: of the ready nodes the first ones run, as many as the task is granted processors at this moment.
unfoldable pub running : ℕ → Row → List ℕ
running grant r = take grant (ready r)

-- The running nodes as a set.
unfoldable pub running_set : ℕ → Row → ℕ
running_set grant r = set_of (running grant r)

-- S8.4: a job begins: it is alive, no node has ended, the age is 0.
unfoldable pub released_row : Row → Row
released_row r = record { fixed = r.fixed; age = 0; job = record { ended = 0; alive = true } }

-- S8.5: the ended set after a report: its nodes join the set.
unfoldable pub joined : Row → ℕ → ℕ
joined r report = bit_or r.job.ended report

-- S8.5: what a tick does to one task. The reported nodes have ended; if all have, the job is no longer alive; the age
-- grows by 1, but not beyond D.
unfoldable pub ticked_row : Row → ℕ → Row
ticked_row r report =
    record {
      fixed = r.fixed;
      age = min (suc r.age) r.fixed.deadline;
      job =
          record {
            ended = joined r report;
            alive = r.job.alive && not (all_ended r.fixed.nodes (joined r report));
          };
    }

-- S8.6, S8.9: whether this is a high task with an alive job.
unfoldable pub has_high_job : Row → Bool
has_high_job r = is_high r.fixed.level && r.job.alive

-- S8.6: whether this is a high task with an alive job whose age is V or more.
unfoldable pub is_late : Row → Bool
is_late r = has_high_job r && leb r.fixed.virtual_deadline r.age

-- S8.6: whether a switch leaves the task's job: that of a high task, and that of a low one that is kept.
unfoldable pub survives : Fixed → Bool
survives f = is_high f.level || is_kept f.level f.share

-- S8.6: what a switch does to one task: a job that does not survive it is no longer alive, and its ended set stands.
unfoldable pub switched_row : Row → Row
switched_row r =
    record {
      fixed = r.fixed;
      age = r.age;
      job = record { ended = r.job.ended; alive = r.job.alive && survives r.fixed };
    }
