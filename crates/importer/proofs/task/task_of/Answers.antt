-- `importer::task::task_of`: the task by its definition, budgets and times put in.
use Rattle.std.proofs.Common.{arith}
use Rattle.importer.specs.means.Nodes.{nodes_task}
use Rattle.importer.proofs.Figures.{small_taken, budget_taken}
use Rattle.importer.proofs.task.task_of.Goals as goal

pub scaled_times-overload-requires : goal.scaled_times-overload-requires
scaled_times-overload-requires c = (rw c.from-k.ensures c.requires.few, c.requires.percentage)

pub budget_of-requires-clause-small : goal.budget_of-requires-clause-small
budget_of-requires-clause-small c = small_taken c.from-k.result c.scaled_times-nominal.result c.scaled_times-nominal.ensures.small

pub budget_of-requires-2-clause-small : goal.budget_of-requires-2-clause-small
budget_of-requires-2-clause-small c = small_taken c.from-k.result c.scaled_times-overload.result c.scaled_times-overload.ensures.small

pub returns : goal.returns
unfolding nodes_task
returns c =
    rw (
      c.budget_of.ensures,
      c.budget_of-2.ensures,
      budget_taken c.args.graph.now.masks c.from-k.result c.scaled_times-nominal.result (omega arith),
      budget_taken c.args.graph.now.masks c.from-k.result c.scaled_times-overload.result (omega arith),
      c.scaled_times-nominal.ensures.value,
      c.scaled_times-overload.ensures.value,
      c.from-k.ensures,
    )
