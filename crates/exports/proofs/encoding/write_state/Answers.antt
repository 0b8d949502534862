-- `exports::encoding::write_state`: three words, and each entry's over the front of what is left of the line.
use mathlib.Core.Path.{◌≡◌, ◌∙◌}
use native.Mathlib.Omega.{arith}
use lib.ListN.{length}
use borrow.Author.Rules.{rules}
use Rattle.exports.specs.Words.{StateHeld}
use Rattle.exports.proofs.Stored.{mark_word, entry_written, storing_more, storing_all, state_stored}
use Rattle.exports.proofs.encoding.write_state.Goals.{Start}
use Rattle.exports.proofs.encoding.write_state.Goals as goal

-- The state has sixteen entries.
sixteen : (c : Start) → length c.args.state.now.entries ≡ 16
sixteen c = omega arith

pub loop-i-preserved : goal.loop-i-preserved
loop-i-preserved c =
    rw (c.write_entry.ensures.written, entry_written c.loop-i.line _ c.loop-i.i c.write_entry.ensures.held (omega arith) c.loop-i.invariant.size)
    (storing_more c.args.state.now.entries (sixteen (goal.at.loop-i-preserved c).Start) _ c.loop-i.line c.loop-i.i _ (omega arith) c.write_entry.ensures.held c.loop-i.invariant)

pub returns : goal.returns
returns c =
    let all = storing_all c.args.state.now.entries (sixteen (goal.at.returns c).Start) _ c.loop-i.line c.loop-i.i (omega arith) c.loop-i.invariant in
    let held : StateHeld c.args.state.now = record { processors = search rules; count = search rules; sixteen = sixteen (goal.at.returns c).Start; entries = all.1 } in
    record {
      held = held;
      written =
          all.0
          ∙ rw (c.from.ensures, c.from-2.ensures)
          (state_stored c.args.state.now c.args.line.now _ c.requires held (c.from-3.ensures ∙ mark_word c.args.state.now.critical));
    }
