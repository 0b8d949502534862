-- What is fixed for the tasks of a set: a line of sixteen shares fixes what the shares do, the numbers are small since
-- the shares fit, and a sheet's answers go refusal by refusal.
use Prim.Native.Nat.{ℕ, ◌+◌, ◌≤◌, ◌<◌}
use mathlib.Core.Bool.{true, false}
use mathlib.Core.List.{List}
use mathlib.Core.Path.{◌≡◌, refl, sym}
use native.Mathlib.Omega.{arith}
use lib.ListN.{length, take, set, replicate}
use Rattle.sheet.specs.declared.task.TaskSet.{TaskSet}
use Rattle.sheet.specs.Format.{task_in, task_set_of}
use Rattle.basics.specs.Lists.{cells}
use Rattle.basics.proofs.Cells.{cells_none, cells_store, cells-length, cells_at, cells_same}
use Rattle.std.specs.Prelude.{Ok, Err}
use Rattle.sheet.specs.declared.refusal.Refusal.{Refusal}
use Rattle.sheet.specs.Refusal.{Answer, ◌or_else◌}
use Rattle.reader.specs.Reading.{read_answer}
use Rattle.shares.specs.declared.share.Share.{Share}
use Rattle.shares.specs.Totals.{share_at, share_total}
use Rattle.allocation.specs.declared.allocate.Allocated.{Allocated}
use Rattle.allocation.specs.declared.allocate.Allocation.{Allocation}
use Rattle.allocation.specs.Blocks.{offset_in, length_in}
use Rattle.allocation.specs.Lawful.{LawfulSet, LawfulShares}
use Rattle.allocation.specs.Allocation.{choice_answer, sixteen, shares_of, allocation_of, no_allocation, allocations_of, allocation_at, allocation_answer, allocations_for, allocated_of}
use Rattle.allocation.specs.means.Bounds.{SharesFit, Bounded, AllBounded}
use Rattle.allocation.proofs.Accepted.{sheet_lawful}
use Rattle.allocation.proofs.KeptLine.{accepted_shares}
use Rattle.shares.proofs.Division.{remainder_less}
use Rattle.shares.proofs.Totals.{total_part}
use Rattle.allocation.proofs.Blocks.{shares_blocks}
use Rattle.sheet.proofs.Faults.{both_accepted, or_else_ok, or_else_err}
use Rattle.sheet.proofs.Limits.{limit_most}
use Rattle.allocation.proofs.Lawfulness.{figures_kept}
use Rattle.allocation.proofs.Sixteen.{share_same, sixteen-take, offset_same}

-- The line of the first i tasks: none of them, one more, all of them.
module _ (tasks : TaskSet) (shares : List Share) where
  pub allocations_none : replicate 16 no_allocation ≡ cells 16 (allocation_of tasks shares) no_allocation 0
  allocations_none = sym (cells_none (allocation_of tasks shares) no_allocation 0 16 0 (omega arith))

  pub allocations_store : (i : ℕ) → i < 16 →
      set (cells 16 (allocation_of tasks shares) no_allocation i) i (allocation_of tasks shares i)
      ≡ cells 16 (allocation_of tasks shares) no_allocation (i + 1)
  allocations_store i h = cells_store (allocation_of tasks shares) no_allocation 16 i h

  pub allocations_length : length (allocations_of tasks shares) ≡ 16
  unfolding allocations_of
  allocations_length = cells-length (allocation_of tasks shares) no_allocation 0 16 tasks.count

  pub allocations_at : tasks.count ≤ 16 → (i : ℕ) → i < tasks.count → allocation_at (allocations_of tasks shares) i ≡ allocation_of tasks shares i
  unfolding allocation_at allocations_of
  allocations_at few i inside = cells_at (allocation_of tasks shares) no_allocation 16 tasks.count i no_allocation (omega arith) inside

-- The shares that the tasks of a lawful set get.
module _ (tasks : TaskSet) (lawful : LawfulSet tasks) (shares : List Share) (given : LawfulShares tasks shares) where
  few_shares : length shares ≤ 16
  few_shares = let few = lawful.few_tasks in omega (arith, given.each)

  -- Their numbers fit what the code adds up.
  pub shares_fit : SharesFit tasks (sixteen shares)
  unfolding offset_in length_in share_at
  shares_fit =
      record {
        few = lawful.few_tasks;
        some_share = λ i inside. rw (share_same shares few_shares i) (given.some_share i inside);
        ends = λ mode i to.
            let small = lawful.few_processors in
            let here = given.fits mode in
            let part = total_part mode shares i in
            let few : share_total mode (take i shares) < 256 = omega arith in
            rw (sixteen-take shares few_shares i (omega (arith, given.each))) few;
      }

  allocation_same : (i : ℕ) → i < tasks.count → allocation_of tasks (sixteen shares) i ≡ allocation_of tasks shares i
  unfolding allocation_of
  allocation_same i inside =
      rw (
        share_same shares few_shares i,
        offset_same shares few_shares false i (omega (arith, given.each)),
        offset_same shares few_shares true i (omega (arith, given.each)),
      )

  -- The line of sixteen shares fixes what the shares do.
  pub allocations_same : allocations_of tasks (sixteen shares) ≡ allocations_of tasks shares
  unfolding allocations_of
  allocations_same = cells_same (allocation_of tasks (sixteen shares)) (allocation_of tasks shares) no_allocation 0 16 tasks.count allocation_same

  pub allocation_bounded : (i : ℕ) → i < tasks.count → Bounded (allocation_of tasks shares i)
  unfolding allocation_of length_in share_at
  allocation_bounded i inside =
      let small = lawful.few_processors in
      let blocks = shares_blocks tasks shares given in
      let kept = figures_kept (task_in tasks i).level (task_in tasks i).figures (lawful.lawful i inside).figures in
      record {
        typical = let ends = blocks.inside false i (omega (arith, given.each)) in omega arith;
        critical = let ends = blocks.inside true i (omega (arith, given.each)) in omega arith;
        virtual = omega (arith, given.virtual i inside, kept.deadline_to, limit_most (task_in tasks i).level);
        remainder =
            let ends = blocks.inside false i (omega (arith, given.each)) in
            omega (arith, remainder_less (task_in tasks i) (share_at shares i).typical (given.some_share i inside));
      }

-- Two sheets for which the same is fixed are answered the same.
pub answer_same : (s t : List ℕ) → allocated_of s ≡ allocated_of t → allocation_answer s ≡ allocation_answer t
unfolding allocated_of
answer_same s t same = go _ _ (allocation_answer s) (allocation_answer t) same
  where
    go : (x y : Allocated) (a b : Answer) → (a or_else Ok x) ≡ (b or_else Ok y) → a ≡ b
    go x y (Ok u) (Ok v) e = refl
    go x y (Ok u) (Err r) e = absurd (cc)
    go x y (Err r) (Ok v) e = absurd (cc)
    go x y (Err r) (Err q) e = cc

module _ (s : List ℕ) where
  pub answer_read : {r : Refusal} → read_answer s ≡ Err r → allocation_answer s ≡ Err r
  unfolding allocation_answer
  answer_read e = rw e

  pub answer_choice : read_answer s ≡ Ok tt → allocation_answer s ≡ choice_answer (task_set_of s)
  unfolding allocation_answer
  answer_choice e = rw e

  pub allocated_refused : {r : Refusal} → allocation_answer s ≡ Err r → Err r ≡ allocated_of s
  unfolding allocated_of
  allocated_refused refused = rw refused

  -- What is fixed for a sheet is a line of sixteen.
  pub allocated_length : length (allocations_for s) ≡ 16
  unfolding allocations_for
  allocated_length = allocations_length (task_set_of s) (shares_of (task_set_of s))

  module _ (accepted : allocation_answer s ≡ Ok tt) where
    both_passed : (read_answer s ≡ Ok tt) × (choice_answer (task_set_of s) ≡ Ok tt)
    unfolding allocation_answer
    both_passed = both_accepted (read_answer s) (choice_answer (task_set_of s)) accepted

    pub read_lawful : LawfulSet (task_set_of s)
    read_lawful = sheet_lawful s both_passed.0

    pub read_shares : LawfulShares (task_set_of s) (shares_of (task_set_of s))
    read_shares = accepted_shares (task_set_of s) read_lawful both_passed.1

    -- What is fixed by the line of sixteen shares.
    pub line_fixed : allocations_of (task_set_of s) (sixteen (shares_of (task_set_of s))) ≡ allocations_for s
    unfolding allocations_for
    line_fixed = allocations_same (task_set_of s) read_lawful _ read_shares

    pub allocated_accepted : (count : ℕ) (allocations : List Allocation) → count ≡ (task_set_of s).count →
        allocations ≡ allocations_for s → Ok (record { count = count; allocations = allocations }) ≡ allocated_of s
    unfolding allocated_of
    allocated_accepted count allocations e f = rw (e, f, accepted)

    pub allocated_at : (i : ℕ) → i < (task_set_of s).count →
        allocation_at (allocations_for s) i ≡ allocation_of (task_set_of s) (shares_of (task_set_of s)) i
    unfolding allocations_for
    allocated_at i inside = allocations_at (task_set_of s) _ read_lawful.few_tasks i inside

    pub allocated_bounded : AllBounded (allocations_for s) (task_set_of s).count
    allocated_bounded =
        record {
          few = read_lawful.few_tasks;
          each = λ i inside. rw (allocated_at i inside) (allocation_bounded (task_set_of s) read_lawful _ read_shares i inside);
        }

-- What the allocation says of the answer.
pub allocated_ok : (s : List ℕ) {a : Allocated} → allocated_of s ≡ Ok a →
    (allocation_answer s ≡ Ok tt) × (a ≡ record { count = (task_set_of s).count; allocations = allocations_for s })
unfolding allocated_of
allocated_ok s e = or_else_ok (allocation_answer s) e

pub allocated_err : (s : List ℕ) {r : Refusal} → allocated_of s ≡ Err r → allocation_answer s ≡ Err r
unfolding allocated_of
allocated_err s e = or_else_err (allocation_answer s) _ e
