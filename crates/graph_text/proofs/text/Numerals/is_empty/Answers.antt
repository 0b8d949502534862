-- `graph_text::text::Numerals::is_empty`: no bytes have no numerals.
use Rattle.std.proofs.Common.{sym, ap, ◌∙◌, arith}
use borrow.Author.Tests.{eqb-true}
use Rattle.std.proofs.lemmas.List.{nil_from_length}
use Rattle.graph_text.specs.Text.{numerals_of}
use Rattle.graph_text.proofs.Numerals.{none_at_end}
use Rattle.graph_text.proofs.text.Numerals.is_empty.Goals as goal

pub returns : goal.returns
returns c = λ e. sym c.self.view_is ∙ ap numerals_of (nil_from_length c.self.inside.rest.now (omega (arith, eqb-true _ _ (sym c.is_empty.ensures ∙ e)))) ∙ none_at_end
