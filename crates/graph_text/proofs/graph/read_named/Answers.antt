-- `graph_text::graph::read_named`: a predecessor is taken, or none is told, or none is left.
use Rattle.std.proofs.Common.{◌≡◌, ◌-◌, ◌+◌, sym, ap, ◌∙◌, arith}
use Rattle.std.proofs.lemmas.Result.{err_from_is_err_and}
use Rattle.graph_text.specs.means.Entries.{taken_from, named_from}
use Rattle.graph_text.proofs.Steps.{no_numeral, named_empty, named_step, named_all_taken}
use Rattle.graph_text.proofs.graph.read_named.Goals as goal

pub returns-in_err-take : goal.returns-in_err-take
returns-in_err-take c =
    let p = err_from_is_err_and c.from_residual.result c.from_residual.ensures.1 in
    rw p.1 (sym c.loop.invariant ∙ no_numeral (named_from c.args.v (c.args.many - c.loop.counter) c.loop.node) c.loop.numerals c.in_err-take.ensures.told
    (named_empty c.args.v (c.args.many - c.loop.counter) c.loop.node (omega arith)))

pub loop-preserved : goal.loop-preserved
loop-preserved c =
    let left : c.args.many - (c.loop.counter + 1) ≡ c.args.many - c.loop.counter - 1 = omega arith in
    rw (left, c.name.ensures)
    (sym (named_step c.args.v (c.args.many - c.loop.counter) c.in_ok-take.field-0 c.loop.node c.take.new.self (omega arith))
    ∙ ap (taken_from (named_from c.args.v (c.args.many - c.loop.counter) c.loop.node)) (sym c.in_ok-take.ensures.told)
    ∙ c.loop.invariant)

pub returns : goal.returns
returns c =
    sym c.loop.invariant ∙ named_all_taken c.args.v (c.args.many - c.loop.counter) c.loop.node c.loop.numerals (omega arith)
