-- `importer::task::scaled_times`: the loop's invariant.
use Rattle.std.proofs.Common.{◌≡◌}
use Rattle.chains.specs.means.Bounds.{Small}
use Rattle.importer.specs.means.Nodes.{scaled_times}
use Rattle.importer.proofs.task.scaled_times.Given as goal

-- The times of the nodes passed are there.
abbrev pub invariant-loop-v : goal.invariant-loop-v
invariant-loop-v l = record { value : l.result ≡ scaled_times l.v l.percentage l.times; small : Small l.result }
