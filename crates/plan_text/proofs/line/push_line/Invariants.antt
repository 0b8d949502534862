-- `plan_text::line::push_line`: the text with the line of the numbers that are left is the whole.
use Rattle.std.proofs.Common.{◌≡◌, drop}
use Rattle.plan_text.specs.means.Growth.{with_bytes}
use Rattle.plan_text.specs.Lines.{line}
use Rattle.plan_text.proofs.line.push_line.Given as goal

abbrev pub invariant-loop-i : goal.invariant-loop-i
invariant-loop-i l = with_bytes l.text (line (drop l.i l.numbers)) ≡ with_bytes l.initial.text (line l.numbers)
