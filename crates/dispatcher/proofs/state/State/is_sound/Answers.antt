-- `dispatcher::state::State::is_sound`: M and n out of range, or in range and what the entries say.
use mathlib.Core.Path.{sym, ◌∙◌}
use Rattle.dispatcher.proofs.Soundness.{ranges_broken, ranges_kept}
use Rattle.dispatcher.proofs.state.State.is_sound.Goals as goal

pub returns-then-is_in_range : goal.returns-then-is_in_range
returns-then-is_in_range c =
    c.has_sound_entries.ensures ∙ ranges_kept c.args.self.now (sym c.is_in_range.ensures ∙ c.if-is_in_range.true)

pub returns-else-is_in_range : goal.returns-else-is_in_range
returns-else-is_in_range c =
    c.if-is_in_range.false ∙ sym (ranges_broken c.args.self.now (sym c.is_in_range.ensures ∙ c.if-is_in_range.false))
