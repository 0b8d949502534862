-- `dispatcher::tick::pass_over`: what the pass has found, and the state with the parts of the tasks passed.
use Rattle.dispatcher.proofs.Ticks.{Scanned}
use Rattle.dispatcher.proofs.tick.pass_over.Given as goal

abbrev pub invariant-loop-i : goal.invariant-loop-i
invariant-loop-i l = Scanned l.initial.state l.reports l.i l.pass.typical l.pass.critical l.pass.wrong l.pass.late l.pass.high l.state
