-- `plan_text::text::Text::push_bytes`: the text with the bytes that are left is the whole.
use Rattle.std.proofs.Common.{◌≡◌, drop}
use Rattle.plan_text.specs.means.Growth.{with_bytes}
use Rattle.plan_text.proofs.text.Text.push_bytes.Given as goal

abbrev pub invariant-loop-b : goal.invariant-loop-b
invariant-loop-b l = with_bytes l.self (drop l.b-index l.bytes) ≡ with_bytes l.initial.self l.bytes
