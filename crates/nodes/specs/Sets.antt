-- S1.2: sets of nodes, each kept in a number: bit v of the number stands for node v.
use Rattle.std.specs.List.{list_all}
use Rattle.std.specs.Prelude.{ℕ, ◌+◌, ◌/◌, ◌%◌, ◌^◌, Bool, List, [], ◌∷◌, eqb, filter}
use Rattle.basics.specs.Lists.{range}

-- Whether the set holds node v: bit v of it is 1.
unfoldable pub has : ℕ → ℕ → Bool
has set v = eqb (set / 2 ^ v % 2) 1

-- The members of a set among the nodes below k, lowest first.
unfoldable pub members : ℕ → ℕ → List ℕ
members k set = filter (has set) (range 0 k)

-- The set that holds just the nodes of a list, each once in it.
abbrev pub set_of : List ℕ → ℕ
set_of [] = 0
set_of (v ∷ vs) = 2 ^ v + set_of vs

-- For S8.2, where all predecessors have ended: whether every member of the set a, among the nodes below k, is a
-- member of the set b.
unfoldable pub is_within : ℕ → ℕ → ℕ → Bool
is_within k a b = list_all (has b) (members k a)
