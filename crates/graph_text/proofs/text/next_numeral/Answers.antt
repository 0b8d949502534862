-- `graph_text::text::next_numeral`: what `read_numeral` tells of the slice from the place on, and what is left of it is left of the text.
use Rattle.std.proofs.Common.{sym, ap, ◌∙◌, arith}
use Rattle.std.proofs.lemmas.Result.{err_from_is_err_and}
use Rattle.graph_text.specs.means.Scan.{number_before, IsRest}
use Rattle.graph_text.proofs.Rests.{rest_of_rest, rest_from, rest_within, at_slice, at_rest}
use Rattle.graph_text.proofs.text.next_numeral.Goals.{In-Some}
use Rattle.graph_text.proofs.text.next_numeral.Goals as goal

left_at : (c : In-Some) → IsRest c.args.text.now c.read_numeral.new.rest.now
left_at c = rest_of_rest _ _ _ (rest_from _ _ c.requires) c.in_ok-value.ensures.left

pub returns-in_err-value : goal.returns-in_err-value
returns-in_err-value c =
    let p = err_from_is_err_and c.from_residual.result c.from_residual.ensures.1 in
    rw p.1 (at_slice _ _ ∙ c.in_err-value.ensures.told)

pub returns-in_default : goal.returns-in_default
returns-in_default c = at_slice _ _ ∙ (rw c.in_default.is at c.in_ok-value.ensures.told)

pub overflow_sub-result : goal.overflow_sub-result
overflow_sub-result c = rest_within _ _ (left_at (goal.at.overflow_sub-result c).In-Some)

pub returns : goal.returns
returns c =
    let left = left_at (goal.at.returns c).In-Some in (
      omega arith,
      omega arith,
      at_slice _ _
          ∙ (rw c.in-Some.is at c.in_ok-value.ensures.told)
          ∙ ap (number_before _) (sym (at_rest _ _ _ left (omega (arith, rest_within _ _ left)))),
    )
