-- `start::begin`: the state begins with no entry, and each turn gives one its entry.
use native.Mathlib.Omega.{arith}
use mathlib.Core.List.{List}
use lib.ListN.{set}
use Rattle.sheet.specs.Format.{task_in}
use Rattle.allocation.specs.Allocation.{allocation_at}
use Rattle.entries.specs.declared.state.TaskState.{TaskState}
use Rattle.dispatcher.specs.declared.state.State.{State}
use mathlib.Core.Path.{◌≡◌, refl, ap, ap₂, ◌∙◌}
use Rattle.start.specs.Start.{zero_state, entries_below}
use Rattle.start.proofs.Starts.{entries_none, entries_store, state_whole}
use Rattle.start.proofs.begin.Goals as goal

pub loop-i-init : goal.loop-i-init
unfolding zero_state
loop-i-init c = (
  refl,
  refl,
  ap (λ (s : State). s.critical) c.requires.empty,
  ap (λ (s : State). s.entries) c.requires.empty ∙ entries_none c.args.set.now c.args.allocations.now,
)

pub loop-i-preserved : goal.loop-i-preserved
unfolding task_in allocation_at
loop-i-preserved c = (
  c.loop-i.invariant.0,
  c.loop-i.invariant.1,
  c.loop-i.invariant.2,
  ap₂ (λ (es : List TaskState) (e : TaskState). set es c.loop-i.i e) c.loop-i.invariant.3 c.fresh_entry.ensures
      ∙ entries_store c.args.set.now c.args.allocations.now c.loop-i.i (omega arith),
)

pub returns : goal.returns
returns c =
    let all : c.loop-i.i ≡ c.args.set.now.count = omega (arith, c.from-i-end.ensures) in
    state_whole c.args.set.now c.args.allocations.now _ _ _ _
    c.loop-i.invariant.0
    c.loop-i.invariant.1
    c.loop-i.invariant.2
    (c.loop-i.invariant.3 ∙ ap (entries_below c.args.set.now c.args.allocations.now) all)
