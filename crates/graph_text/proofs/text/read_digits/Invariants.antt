-- `graph_text::text::read_digits`: the loop's invariant, and the bytes left as its measure.
use Rattle.std.proofs.Common.{◌≡◌, ◌≤◌, length}
use Rattle.graph_text.specs.Text.{before_mark, numeral_limit}
use Rattle.graph_text.specs.means.Scan.{IsRest, numerals_after}
use Rattle.graph_text.proofs.text.read_digits.Given as goal

-- The digits passed say the value, and with it what is left, the last bytes of the text, says the same numerals.
abbrev pub invariant-loop-b : goal.invariant-loop-b
invariant-loop-b l =
    record {
      small : l.value ≤ numeral_limit;
      same : numerals_after l.value (before_mark l.rest) ≡ numerals_after l.first (before_mark l.text);
      left : IsRest l.text l.rest;
    }

abbrev pub decreases-loop-b : goal.decreases-loop-b
decreases-loop-b l = length l.rest
