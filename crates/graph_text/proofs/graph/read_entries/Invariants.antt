-- `graph_text::graph::read_entries`: the loop's invariant.
use Rattle.std.proofs.Common.{◌≡◌, ◌+◌, ◌-◌, suc}
use Rattle.graph_text.specs.means.Entries.{held_of}
use Rattle.graph_text.proofs.graph.read_entries.Given as goal

-- What is held, with the entries that are left, is what is held of all.
abbrev pub invariant-loop-v : goal.invariant-loop-v
invariant-loop-v l =
    record {
      count : l.graph.count ≡ l.count;
      held : held_of l.count l.v (l.count + 2 - l.v) l.graph l.numerals
          ≡ held_of l.count 0 (suc (suc l.count)) l.initial.graph l.initial.numerals;
    }
