-- `graph_text::text::read_digits`: a digit goes into the value, or makes it too great; else the numeral ends.
use Rattle.std.proofs.Common.{◌≡◌, ◌*◌, ◌+◌, ◌-◌, sym, ap, ◌∙◌, arith}
use Rattle.std.proofs.lemmas.Result.{err_from_is_err_and}
use Rattle.std.proofs.lemmas.List.{nil_from_length}
use Rattle.graph_text.specs.Text.{before_mark}
use Rattle.graph_text.specs.means.Scan.{numerals_after}
use Rattle.graph_text.proofs.Numerals.{digit_is, digit_more, digits_end, digits_to_end, too_great, more_taken, more_refused}
use Rattle.graph_text.proofs.Rests.{rest_passed}
use Rattle.graph_text.proofs.text.read_digits.Goals.{Else-not-is_ascii_digit, in-Some+then-not-is_ascii_digit, in_default}
use Rattle.graph_text.proofs.text.read_digits.Goals as goal

-- Where there is a digit, it goes into the value.
read_at : (c : Else-not-is_ascii_digit) →
    numerals_after (10 * c.loop-b.value + (c.in-Some.b.now - 48)) (before_mark c.in-Some.behind.now)
    ≡ numerals_after c.args.first (before_mark c.args.text.now)
read_at c =
    let one = sym (digit_is _) ∙ sym c.is_ascii_digit.ensures.value ∙ c.if-not-is_ascii_digit.false in
    digit_more c.in-Some.b.now c.in-Some.behind.now c.loop-b.value one
    ∙ ap (λ text. numerals_after c.loop-b.value (before_mark text)) (sym c.in-Some.ensures.cases.0)
    ∙ c.loop-b.invariant.same

pub returns-in_err-value-clause-told : goal.returns-in_err-value-clause-told
returns-in_err-value-clause-told c =
    let p = err_from_is_err_and c.from_residual.result c.from_residual.ensures.1 in
    let great = more_refused _ _ _ _ c.with_digit.ensures (sym c.ok_or.ensures.value ∙ c.in_err-value.was) in
    rw p.1 (sym (read_at (goal.at.returns-in_err-value-clause-told c).Else-not-is_ascii_digit) ∙ too_great _ _ great)

pub loop-b-preserved : goal.loop-b-preserved
loop-b-preserved c =
    let more = more_taken _ _ _ _ c.with_digit.ensures (sym c.ok_or.ensures.value ∙ c.in_ok-value.was) in
    record {
      small = omega arith;
      same = rw more.0 (read_at (goal.at.loop-b-preserved c).Else-not-is_ascii_digit);
      left = rest_passed _ _ _ _ c.loop-b.invariant.left c.in-Some.ensures.cases.0;
    }

pub returns-clause-told : goal.returns-clause-told
returns-clause-told c =
    elim c.match-split_first.branch [
      | in-Some+then-not-is_ascii_digit w ↦
          sym c.loop-b.invariant.same
          ∙ rw w.in-Some.ensures.cases.0
          (digits_end _ _ _ c.loop-b.invariant.small (sym (digit_is _) ∙ sym w.is_ascii_digit.ensures.value ∙ w.if-not-is_ascii_digit.true))
      | in_default w ↦
          sym c.loop-b.invariant.same
          ∙ rw (nil_from_length c.loop-b.rest.now w.in_default.ensures.cases) (digits_to_end c.loop-b.value c.loop-b.invariant.small)
    ]
