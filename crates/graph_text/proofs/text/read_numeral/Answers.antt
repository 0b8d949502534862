-- `graph_text::text::read_numeral`: what it says of the numerals that were left, by its byte in front: none, the end mark, something
-- else, or a digit.
use Rattle.std.proofs.Common.{◌≡◌, ◌-◌, ◌∷◌, sym, ap, ◌∙◌}
use Rattle.std.proofs.lemmas.Result.{err_from_is_err_and}
use borrow.Author.Tests.{ne_eqb}
use Rattle.std.proofs.lemmas.List.{nil_from_length}
use Rattle.graph_text.specs.Text.{before_mark, end_mark, numerals_of}
use Rattle.graph_text.specs.means.Scan.{numerals_after}
use Rattle.graph_text.proofs.Numerals.{digit_is, no_blank, none_at_end, none_at_mark, fault_at, digits_begin}
use Rattle.graph_text.proofs.Rests.{rest_of_rest, rest_passed}
use Rattle.graph_text.proofs.text.read_numeral.Goals.{After-split_first, In-Some, Else-not-is_ascii_digit}
use Rattle.graph_text.proofs.text.read_numeral.Goals as goal

-- Past the blanks the numerals are the same.
left_at : (c : After-split_first) → numerals_of c.args.rest.now.now ≡ numerals_of c.after_blanks-text.result.now
left_at c = sym c.after_blanks-text.ensures.same

front-at : (c : In-Some) → numerals_of c.args.rest.now.now ≡ numerals_of (c.in-Some.b.now ∷ c.in-Some.behind.now)
front-at c = left_at (goal.at.In-Some c).After-split_first ∙ ap numerals_of c.in-Some.ensures.cases.0

pub returns-in_default-clause-told : goal.returns-in_default-clause-told
returns-in_default-clause-told c =
    left_at (goal.at.returns-in_default-clause-told c).After-split_first ∙ ap numerals_of (nil_from_length _ c.in_default.ensures.cases) ∙ none_at_end

pub returns-then-b-eq35-clause-told : goal.returns-then-b-eq35-clause-told
returns-then-b-eq35-clause-told c = front-at (goal.at.returns-then-b-eq35-clause-told c).In-Some ∙ none_at_mark _ _ c.if-b-eq35.true

pub returns-then-not-is_ascii_digit-clause-told : goal.returns-then-not-is_ascii_digit-clause-told
returns-then-not-is_ascii_digit-clause-told c =
    let blank = no_blank _ _ _ c.after_blanks-text.ensures.stops c.in-Some.ensures.cases.0 in
    let other = sym (digit_is _) ∙ sym c.is_ascii_digit.ensures.value ∙ c.if-not-is_ascii_digit.true in
    front-at (goal.at.returns-then-not-is_ascii_digit-clause-told c).In-Some ∙ fault_at _ _ blank other (ne_eqb c.in-Some.b.now end_mark c.if-b-eq35.false)

-- A digit begins a numeral.
begun-at : (c : Else-not-is_ascii_digit) →
    numerals_of c.args.rest.now.now ≡ numerals_after (c.in-Some.b.now - 48) (before_mark c.in-Some.behind.now)
begun-at c =
    front-at (goal.at.Else-not-is_ascii_digit c).In-Some
    ∙ digits_begin _ _ (sym (digit_is _) ∙ sym c.is_ascii_digit.ensures.value ∙ c.if-not-is_ascii_digit.false)

pub returns-in_err-value-clause-told : goal.returns-in_err-value-clause-told
returns-in_err-value-clause-told c =
    let p = err_from_is_err_and c.from_residual.result c.from_residual.ensures.1 in
    let begun = begun-at (goal.at.returns-in_err-value-clause-told c).Else-not-is_ascii_digit in
    rw p.1 (begun ∙ rw c.from.ensures at c.in_err-value.ensures.told)

pub returns-clause-told : goal.returns-clause-told
returns-clause-told c =
    let begun = begun-at (goal.at.returns-clause-told c).Else-not-is_ascii_digit in
    begun ∙ rw c.from.ensures at c.in_ok-value.ensures.told

pub returns-clause-left : goal.returns-clause-left
returns-clause-left c =
    rest_of_rest _ _ _ (rest_passed _ _ _ _ c.after_blanks-text.ensures.left c.in-Some.ensures.cases.0) c.in_ok-value.ensures.left
