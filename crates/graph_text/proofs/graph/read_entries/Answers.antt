-- `graph_text::graph::read_entries`: an entry is left, or none; then no numeral stands behind, or one does.
use Rattle.std.proofs.Common.{◌≡◌, ◌-◌, ◌+◌, suc, sym, ◌∙◌, arith, add-one}
use Rattle.std.proofs.lemmas.Result.{err_from_is_err_and}
use Rattle.graph_text.specs.means.Entries.{held_with, held_of}
use Rattle.graph_text.proofs.Steps.{held_step, held_unread, held_end, held_past}
use Rattle.graph_text.proofs.graph.read_entries.Goals.{In-loop-v, After-loop-v}
use Rattle.graph_text.proofs.graph.read_entries.Goals as goal

-- An entry is left.
left_at : (c : In-loop-v) →
    held_of c.args.graph.now.count c.loop-v.v (suc (c.args.graph.now.count + 2 - suc c.loop-v.v)) c.loop-v.graph c.loop-v.numerals
    ≡ held_of c.args.graph.now.count 0 (suc (suc c.args.graph.now.count)) c.args.graph.now c.args.numerals.now
left_at c =
    let left : suc (c.args.graph.now.count + 2 - suc c.loop-v.v) ≡ c.args.graph.now.count + 2 - c.loop-v.v = omega arith in
    rw left c.loop-v.invariant.held

pub returns-in_err-read_entry : goal.returns-in_err-read_entry
returns-in_err-read_entry c =
    let p = err_from_is_err_and c.from_residual.result c.from_residual.ensures.1 in
    let none = held_unread c.args.graph.now.count c.loop-v.v (c.args.graph.now.count + 2 - suc c.loop-v.v) c.loop-v.graph c.loop-v.numerals c.in_err-read_entry.ensures in
    rw p.1 (sym (left_at (goal.at.returns-in_err-read_entry c).In-loop-v) ∙ none)

pub loop-v-preserved : goal.loop-v-preserved
unfolding held_with
loop-v-preserved c =
    let kept = rw c.loop-v.invariant.count at c.hold.ensures in
    let step = held_step c.args.graph.now.count c.loop-v.v (c.args.graph.now.count + 2 - suc c.loop-v.v) c.loop-v.graph c.in_ok-read_entry.field-0 c.loop-v.numerals c.read_entry.new.numerals c.in_ok-read_entry.ensures in
    record {
      count = rw kept;
      held = rw (add-one c.loop-v.v, kept) (sym step ∙ left_at (goal.at.loop-v-preserved c).In-loop-v);
    }

-- No entry is left.
whole_at : (c : After-loop-v) →
    held_of c.args.graph.now.count c.loop-v.v 0 c.loop-v.graph c.loop-v.numerals
    ≡ held_of c.args.graph.now.count 0 (suc (suc c.args.graph.now.count)) c.args.graph.now c.args.numerals.now
whole_at c =
    let none : c.args.graph.now.count + 2 - c.loop-v.v ≡ 0 = omega arith in
    rw none at c.loop-v.invariant.held

pub returns-in-None : goal.returns-in-None
returns-in-None c =
    let end = held_end c.args.graph.now.count c.loop-v.v c.loop-v.graph c.loop-v.numerals (rw c.in-None.is at c.in_ok-next_numeral.ensures.told) in
    sym (whole_at (goal.at.returns-in-None c).After-loop-v) ∙ end

pub returns-in-Some : goal.returns-in-Some
returns-in-Some c =
    let past = held_past c.args.graph.now.count c.loop-v.v c.in-Some.field-0 c.loop-v.graph c.loop-v.numerals c.next_numeral.new.self (rw c.in-Some.is at c.in_ok-next_numeral.ensures.told) in
    sym (whole_at (goal.at.returns-in-Some c).After-loop-v) ∙ past
