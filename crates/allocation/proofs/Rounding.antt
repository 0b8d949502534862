-- S4.6 of what is fixed for the tasks of a sheet: by the law of the division, since each task has a typical share.
use Prim.Native.Nat.{ℕ, ◌≤◌, ◌<◌}
use mathlib.Core.List.{List}
use mathlib.Core.Path.{◌≡◌}
use Rattle.sheet.specs.declared.task.TaskSet.{TaskSet}
use Rattle.sheet.specs.Format.{task_in}
use Rattle.shares.specs.declared.share.Share.{Share}
use Rattle.shares.specs.Deadline.{virtual_deadline_of, remainder_of}
use Rattle.shares.specs.Totals.{share_at}
use Rattle.shares.proofs.Division.{virtual_exact}
use Rattle.shares.proofs.Ends.{virtual_from_span}
use Rattle.allocation.specs.Allocation.{allocation_of, allocation_at, allocation_answer, allocations_for}
use Rattle.allocation.specs.Rounded.{Rounded}
use Rattle.allocation.proofs.Allocations.{read_shares, allocated_at}
use Rattle.std.specs.Prelude.{Ok}
use Rattle.sheet.specs.Format.{task_set_of}

pub allocation_rounded : (tasks : TaskSet) (shares : List Share) (i : ℕ) → 1 ≤ (share_at shares i).typical →
    Rounded (task_in tasks i) (allocation_of tasks shares i)
unfolding allocation_of virtual_deadline_of remainder_of
allocation_rounded tasks shares i some =
    record {
      from_span = λ high. rw high (virtual_from_span (task_in tasks i).figures (share_at shares i).typical);
      exact = λ high. rw high (virtual_exact (task_in tasks i).figures (share_at shares i).typical some);
      low_virtual = λ low. rw low;
      low_remainder = λ low. rw low;
    }

-- Of each task of every sheet that is planned.
pub sheet_rounded : (s : List ℕ) → allocation_answer s ≡ Ok tt → (i : ℕ) → i < (task_set_of s).count →
    Rounded (task_in (task_set_of s) i) (allocation_at (allocations_for s) i)
sheet_rounded s accepted i inside =
    rw (allocated_at s accepted i inside)
    (allocation_rounded (task_set_of s) _ i ((read_shares s accepted).some_share i inside))
