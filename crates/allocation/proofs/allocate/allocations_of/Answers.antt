-- `allocation::allocate::allocations_of`: the goals that the check leaves.
use Prim.Native.Nat.{◌+◌}
use mathlib.Core.Bool.{true, false}
use mathlib.Core.List.{List}
use mathlib.Core.Path.{◌≡◌, sym, ap, ◌∙◌}
use native.Mathlib.Omega.{arith}
use lib.ListN.{set}
use borrow.Author.Rules.{rules}
use Rattle.sheet.specs.Format.{task_in}
use Rattle.shares.specs.Totals.{share_at}
use Rattle.allocation.specs.declared.allocate.Allocation.{Allocation}
use Rattle.allocation.specs.Blocks.{offset_in, length_in}
use Rattle.allocation.specs.Allocation.{allocation_of, allocations_of, no_allocation}
use Rattle.allocation.proofs.Blocks.{offset_first, offset_next}
use Rattle.allocation.proofs.Allocations.{allocations_none, allocations_store}
use Rattle.allocation.proofs.allocate.allocations_of.Goals.{After-virtual_deadline_of-rounded, In-loop-i}
use Rattle.allocation.proofs.allocate.allocations_of.Goals as goal

pub loop-i-init : goal.loop-i-init
loop-i-init c = (
  sym (offset_first false c.args.shares.now),
  sym (offset_first true c.args.shares.now),
  (let h : c.default-allocations.result ≡ no_allocation = search rules in rw h (allocations_none c.args.set.now c.args.shares.now)),
)

pub virtual_deadline_of-rounded-requires : goal.virtual_deadline_of-rounded-requires
unfolding length_in
virtual_deadline_of-rounded-requires c =
    c.requires.some_share c.loop-i.i (omega arith)

-- The next blocks begin where these end.
module _ (c : In-loop-i) where
  typical_next : c.loop-i.typical + (share_at c.args.shares.now c.loop-i.i).typical ≡ offset_in false c.args.shares.now (c.loop-i.i + 1)
  unfolding length_in share_at
  typical_next = omega (arith, c.loop-i.invariant.0, offset_next false c.args.shares.now c.loop-i.i (omega arith))

  critical_next : c.loop-i.critical + (share_at c.args.shares.now c.loop-i.i).critical ≡ offset_in true c.args.shares.now (c.loop-i.i + 1)
  unfolding length_in share_at
  critical_next = omega (arith, c.loop-i.invariant.1, offset_next true c.args.shares.now c.loop-i.i (omega arith))

pub overflow_add-typical : goal.overflow_add-typical
unfolding share_at
overflow_add-typical c =
    omega (arith, typical_next (goal.at.overflow_add-typical c).In-loop-i, c.requires.ends false (c.loop-i.i + 1) (omega arith))

pub overflow_add-critical : goal.overflow_add-critical
unfolding share_at
overflow_add-critical c =
    omega (arith, critical_next (goal.at.overflow_add-critical c).In-loop-i, c.requires.ends true (c.loop-i.i + 1) (omega arith))

-- What is fixed for the task.
fixed : (c : After-virtual_deadline_of-rounded) →
    record {
      share = share_at c.args.shares.now c.loop-i.i;
      offset = record { typical = c.loop-i.typical; critical = c.loop-i.critical };
      virtual_deadline = c.virtual_deadline_of-rounded.result.ticks;
      remainder = c.virtual_deadline_of-rounded.result.remainder;
    }
    ≡ allocation_of c.args.set.now c.args.shares.now c.loop-i.i
unfolding share_at allocation_of task_in
fixed c =
    rw (c.loop-i.invariant.0, c.loop-i.invariant.1, c.virtual_deadline_of-rounded.ensures.ticks, c.virtual_deadline_of-rounded.ensures.remainder)

pub loop-i-preserved : goal.loop-i-preserved
unfolding share_at
loop-i-preserved c =
    let at = (goal.at.loop-i-preserved c).In-loop-i in (
      typical_next at,
      critical_next at,
      ap (λ (a : Allocation). set c.loop-i.allocations c.loop-i.i a) (fixed (goal.at.loop-i-preserved c).After-virtual_deadline_of-rounded)
          ∙ ap (λ (l : List Allocation). set l c.loop-i.i (allocation_of c.args.set.now c.args.shares.now c.loop-i.i)) c.loop-i.invariant.2
          ∙ allocations_store c.args.set.now c.args.shares.now c.loop-i.i (omega arith),
    )

pub returns : goal.returns
unfolding allocations_of
returns c =
    let all : c.loop-i.i ≡ c.args.set.now.count = omega arith in
    rw all at c.loop-i.invariant.2
