-- `graph_text::text::after_blanks`: a blank passed leaves the numerals, and the loop stops at another byte or at the end.
use Rattle.std.proofs.Common.{sym, ◌∙◌}
use Rattle.std.proofs.lemmas.List.{nil_from_length}
use Rattle.graph_text.specs.means.Scan.{BeginsFull}
use Rattle.graph_text.proofs.Numerals.{blank_passed}
use Rattle.graph_text.proofs.Rests.{rest_passed}
use Rattle.graph_text.proofs.text.after_blanks.Goals as goal

pub loop-b-preserved : goal.loop-b-preserved
loop-b-preserved c =
    let passed = blank_passed c.in-Some.b.now c.in-Some.behind.now (sym c.is_blank.ensures ∙ c.if-not-is_blank.false) in
    record {
      same = sym passed ∙ (rw c.in-Some.ensures.cases.0 at c.loop-b.invariant.same);
      left = rest_passed _ _ _ _ c.loop-b.invariant.left c.in-Some.ensures.cases.0;
    }

pub returns-then-not-is_blank-clause-stops : goal.returns-then-not-is_blank-clause-stops
unfolding BeginsFull
returns-then-not-is_blank-clause-stops c = rw c.in-Some.ensures.cases.0 (sym c.is_blank.ensures ∙ c.if-not-is_blank.true)

pub returns-in_default-clause-stops : goal.returns-in_default-clause-stops
unfolding BeginsFull
returns-in_default-clause-stops c = rw (nil_from_length c.loop-b.rest.now c.in_default.ensures.cases) tt
