-- S14.7: the work and the span that times of nodes come to: their sum, and their longest chain.
use Rattle.std.specs.Prelude.{ℕ, zero, suc, ◌+◌, List, [], ◌∷◌, ◌++◌, map, get_or}
use Rattle.basics.specs.Lists.{range, greatest}
use Rattle.nodes.specs.Sets.{members}
use Rattle.sheet.specs.declared.task.Budget.{Budget}
use Rattle.model.specs.Row.{predecessors_of}
use Rattle.model.specs.Budget.{sum_below}

-- The longest of the chains that end at one of these nodes, 0 where there is none; chains holds for each node the longest that ends
-- at it.
unfoldable pub longest_among : List ℕ → List ℕ → ℕ
longest_among chains nodes = greatest (map (λ j. get_or chains j 0) nodes)

-- S14.7: the longest chain that ends at node v: its own time and the longest that ends at any predecessor, or its own time alone.
unfoldable pub chain_at : List ℕ → (ℕ → ℕ) → List ℕ → ℕ → ℕ
chain_at masks times chains v = times v + longest_among chains (members 32 (predecessors_of masks v))

-- S14.7: for each of the nodes below v, the longest chain that ends at it.
unfoldable pub chains_below : List ℕ → (ℕ → ℕ) → ℕ → List ℕ
chains_below masks times zero = []
chains_below masks times (suc v) = chains_below masks times v ++ chain_at masks times (chains_below masks times v) v ∷ []

-- S14.7: the longest chain of k nodes.
unfoldable pub span_of : List ℕ → (ℕ → ℕ) → ℕ → ℕ
span_of masks times k = longest_among (chains_below masks times k) (range 0 k)

-- S14.7: the work of k nodes with these masks and times, and their span.
unfoldable pub budget_of : List ℕ → (ℕ → ℕ) → ℕ → Budget
budget_of masks times k = record { work = sum_below k times; span = span_of masks times k }
