-- `graph_text::text::after_blanks`: the loop's invariant, and the bytes left as its measure.
use Rattle.std.proofs.Common.{◌≡◌, length}
use Rattle.graph_text.specs.Text.{numerals_of}
use Rattle.graph_text.specs.means.Scan.{IsRest}
use Rattle.graph_text.proofs.text.after_blanks.Given as goal

-- What is left is the last bytes of the text, and says the same numerals.
abbrev pub invariant-loop-b : goal.invariant-loop-b
invariant-loop-b l = record { same : numerals_of l.rest ≡ numerals_of l.text; left : IsRest l.text l.rest }

abbrev pub decreases-loop-b : goal.decreases-loop-b
decreases-loop-b l = length l.rest
