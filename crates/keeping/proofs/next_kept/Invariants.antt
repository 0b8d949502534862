-- `keeping::next_kept`: what was found among the tasks passed.
use lib.ListN.{length}
use Rattle.keeping.proofs.Scan.{SeenSoFar}
use Rattle.keeping.proofs.next_kept.Given as goal

abbrev pub invariant-loop-task : goal.invariant-loop-task
invariant-loop-task l = SeenSoFar l.m (length l.shares) l.shares l.task l.next l.smallest
