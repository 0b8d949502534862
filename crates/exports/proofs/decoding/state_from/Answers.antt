-- `exports::decoding::state_from`: the line is a state, so that its words are there and fit, entry by entry.
use mathlib.Core.Path.{◌≡◌, ap, ◌∙◌}
use native.Mathlib.Omega.{arith}
use Rattle.exports.proofs.Lines.{StateLine, state_line}
use Rattle.exports.specs.Words.{entry_start, entry_from, entry_fits}
use lib.ListN.{length-drop}
use Rattle.std.proofs.lemmas.List.{take_rest}
use Rattle.exports.proofs.Decoded.{state_below, state_none, state_store, state_whole}
use Rattle.exports.proofs.decoding.state_from.Goals.{Start}
use Rattle.exports.proofs.decoding.state_from.Goals as goal

-- What the tests of the line say.
facts : (c : Start) → StateLine c.args.line.now
facts c = state_line c.args.line.now c.requires

pub bounds-line-0 : goal.bounds-line-0
bounds-line-0 c = omega (arith, (facts (goal.at.bounds-line-0 c).Start).long)

pub overflow_cast-state : goal.overflow_cast-state
overflow_cast-state c = omega (arith, (facts (goal.at.overflow_cast-state c).Start).processors)

pub bounds-line-1 : goal.bounds-line-1
bounds-line-1 c = omega (arith, (facts (goal.at.bounds-line-1 c).Start).long)

pub overflow_cast-state-2 : goal.overflow_cast-state-2
overflow_cast-state-2 c = omega (arith, (facts (goal.at.overflow_cast-state-2 c).Start).count)

pub bounds-line-2 : goal.bounds-line-2
bounds-line-2 c = omega (arith, (facts (goal.at.bounds-line-2 c).Start).long)

pub loop-i-init : goal.loop-i-init
loop-i-init c = state_none c.args.line.now _ c.zero_entry.ensures

pub slice_bounds-entry_from-count : goal.slice_bounds-entry_from-count
slice_bounds-entry_from-count c = omega (arith, (facts (goal.at.slice_bounds-entry_from-count c).Start).long)

pub slice_bounds-entry_from-start : goal.slice_bounds-entry_from-start
slice_bounds-entry_from-start c = omega (arith, (facts (goal.at.slice_bounds-entry_from-start c).Start).long)

pub entry_from-requires-clause-room : goal.entry_from-requires-clause-room
entry_from-requires-clause-room c =
    rw (take_rest c.args.line.now (entry_start c.loop-i.i))
    (omega (arith, (facts (goal.at.entry_from-requires-clause-room c).Start).long, length-drop (entry_start c.loop-i.i) c.args.line.now))

pub entry_from-requires-clause-fits : goal.entry_from-requires-clause-fits
entry_from-requires-clause-fits c =
    ap entry_fits (take_rest c.args.line.now (entry_start c.loop-i.i))
    ∙ (facts (goal.at.entry_from-requires-clause-fits c).Start).entries c.loop-i.i (omega arith)

pub loop-i-preserved : goal.loop-i-preserved
loop-i-preserved c =
    state_store c.args.line.now c.loop-i.i c.loop-i.state _ (omega arith) c.loop-i.invariant
    (c.entry_from.ensures ∙ ap entry_from (take_rest c.args.line.now (entry_start c.loop-i.i)))

pub returns : goal.returns
returns c =
    let all : c.loop-i.i ≡ 16 = omega arith in
    c.loop-i.invariant ∙ ap (state_below c.args.line.now) all ∙ state_whole c.args.line.now
