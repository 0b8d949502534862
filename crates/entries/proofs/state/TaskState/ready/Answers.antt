-- `entries::state::TaskState::ready`: no job, no ready node; else each turn adds a node that waits for none, and the
-- ended ones go.
use Prim.Native.Nat.{ℕ, ◌<◌}
use mathlib.Core.Bool.{Bool}
use mathlib.Core.List.{[]}
use mathlib.Core.Path.{◌≡◌, ap, ◌∙◌}
use native.Mathlib.Omega.{arith}
use Rattle.std.proofs.lemmas.List.{get_or-take, length-take}
use Rattle.basics.specs.Lists.{kept_if}
use Rattle.nodes.specs.Sets.{set_of}
use Rattle.model.specs.Row.{predecessors_of}
use Rattle.entries.specs.Entry.{fixed_of, job_of, row_of}
use Rattle.entries.proofs.NodeSets.{is_unblocked, ready_none, ready_less_ended, gathered_none, gathered_more, gathered_all, gathered_fits}
use Rattle.entries.proofs.state.TaskState.ready.Goals.{After-node_if-set}
use Rattle.entries.proofs.state.TaskState.ready.Goals as goal

pub returns-then-not-self : goal.returns-then-not-self
unfolding row_of job_of
returns-then-not-self c = c.from_bits.ensures ∙ ready_none (row_of c.args.self.now) c.if-not-self.true

pub loop-v-init : goal.loop-v-init
loop-v-init c = gathered_none _ _

-- A mask of the first k is the node's, and what the turn adds.
inside : (c : After-node_if-set) → c.loop-v.v < c.args.self.now.nodes
inside c = omega (arith, length-take {A = ℕ})

node_added : (c : After-node_if-set) → c.node_if-set.result ≡ set_of (kept_if (is_unblocked (row_of c.args.self.now) c.loop-v.v) c.loop-v.v [])
unfolding is_unblocked predecessors_of row_of fixed_of job_of
node_added c =
    let own = get_or-take c.from.result c.args.self.now.predecessors c.loop-v.v 0 (omega (arith, inside c)) in
    c.node_if-set.ensures ∙ ap (λ (t : Bool). set_of (kept_if t c.loop-v.v [])) (rw own at c.is_unblocked.ensures)

pub overflow_add-set : goal.overflow_add-set
unfolding row_of fixed_of
overflow_add-set c =
    rw (node_added c) (record { fits = gathered_fits _ _ _ _ c.requires (inside c) c.loop-v.invariant })

pub loop-v-preserved : goal.loop-v-preserved
loop-v-preserved c = rw (node_added c) (gathered_more _ _ _ _ (inside c) c.loop-v.invariant)

pub returns : goal.returns
unfolding row_of fixed_of job_of
returns c =
    c.from_bits-2.ensures
    ∙ ready_less_ended (row_of c.args.self.now) c.loop-v.set c.if-not-self.false
    (gathered_all (is_unblocked (row_of c.args.self.now)) c.args.self.now.nodes c.loop-v.v c.loop-v.set (omega (arith, length-take {A = ℕ})) c.loop-v.invariant)
