-- Entries read from numerals one after the other, and what is held of them.
use Rattle.std.specs.Prelude.{ℕ, zero, suc, ◌-◌, ◌^◌, min, true, Bool, cond, ◌&&◌, List, [], ◌∷◌, ◌≡◌, eqb, ltb, set, replicate, Result, Ok, Err, Option, None, Some}
use Rattle.std.specs.Int.Bits.{bit_or}
use Rattle.std.specs.Option.{ok_or}
use Rattle.basics.specs.Numbers.{within}
use Rattle.graph_text.specs.declared.graph.Node.{Node}
use Rattle.graph_text.specs.declared.graph.NodeGraph.{NodeGraph}
use Rattle.graph_text.specs.declared.text.BadFormat.{BadFormat}
use Rattle.graph_text.specs.Graph.{time_lawful}

-- What was taken from the front of some numerals, and the numerals behind it.
pub record Taken (A : Type 0) : Type 0 where
  pub value : A
  pub rest : List ℕ

-- The same of numerals that may not be there.
abbrev pub taken_from : {A : Type 0} → (List ℕ → Option (Taken A)) → Option (List ℕ) → Option (Taken A)
taken_from take None = None
taken_from take (Some numerals) = take numerals

-- A value, and the numerals behind it where they could be read.
abbrev pub taken_before : {A : Type 0} → A → Option (List ℕ) → Option (Taken A)
taken_before value None = None
taken_before value (Some rest) = Some (record { value = value; rest = rest })

-- What comes of the value and of the rest.
abbrev pub after_taken : {A B : Type 0} → Option (Taken A) → (A → List ℕ → Option B) → Option B
after_taken None next = None
after_taken (Some taken) next = next taken.value taken.rest

-- The mask of the node that a predecessor names; the dummy 0 and numbers past the 32 nodes name none.
unfoldable pub bit_named : ℕ → ℕ
bit_named p = cond (within 1 32 p) (2 ^ (p - 1)) 0

-- A node with one predecessor more, as entry v.
unfoldable pub with_named : ℕ → Node → ℕ → Node
with_named v node p =
    record { time = node.time; mask = bit_or node.mask (bit_named p); rising = node.rising && ltb p v }

-- A node with so many predecessors more.
unfoldable pub named_from : ℕ → ℕ → Node → List ℕ → Option (Taken Node)
named_from v zero node numerals = Some (record { value = node; rest = numerals })
named_from v (suc many) node [] = None
named_from v (suc many) node (p ∷ numerals) = named_from v many (with_named v node p) numerals

-- A node of this time, without a predecessor.
abbrev pub node_with : ℕ → Node
node_with time = record { time = time; mask = 0; rising = true }

-- Entry v from the front of some numerals.
abbrev pub entry_from : ℕ → ℕ → List ℕ → Option (Taken Node)
entry_from count v [] = None
entry_from count v (number ∷ []) = None
entry_from count v (number ∷ time ∷ []) = None
entry_from count v (number ∷ time ∷ many ∷ rest) =
    cond (eqb number v && time_lawful count v time) (named_from v many (node_with time) rest) None

-- What a reading tells of the numerals of a text, old, and of those that are left, new: what was taken, or that it can't be.
abbrev pub Reads : {A : Type 0} → (List ℕ → Option (Taken A)) → Option (List ℕ) → Option (List ℕ) → Result A BadFormat → Type 0
Reads take old new (Ok value) = taken_from take old ≡ taken_before value new
Reads take old new (Err e) = taken_from take old ≡ None

-- Nothing held.
abbrev pub none_held : ℕ → NodeGraph
none_held count = record { times = replicate 32 0; masks = replicate 32 0; count = count; rising = true }

-- S14.5: whether entry v is one of the first 32 nodes.
unfoldable pub is_node : ℕ → ℕ → Bool
is_node count v = within 1 (min count 32) v

-- A number for entry v, held where the entry is a node.
unfoldable pub stored_at : ℕ → ℕ → ℕ → List ℕ → List ℕ
stored_at count v x held = cond (is_node count v) (set held (v - 1) x) held

-- One entry more, number v.
unfoldable pub held_with : ℕ → ℕ → Node → NodeGraph → NodeGraph
held_with count v node held =
    record {
      times = stored_at count v node.time held.times;
      masks = stored_at count v node.mask held.masks;
      count = count;
      rising = held.rising && node.rising;
    }

-- So many entries more, from number v on, and no numeral behind them.
unfoldable pub held_from : ℕ → ℕ → ℕ → NodeGraph → List ℕ → Option NodeGraph
held_from count v zero held [] = Some held
held_from count v zero held (n ∷ numerals) = None
held_from count v (suc more) held numerals =
    after_taken (entry_from count v numerals) (λ node rest. held_from count (suc v) more (held_with count v node held) rest)

-- The same of numerals that may not be there.
abbrev pub held_of : ℕ → ℕ → ℕ → NodeGraph → Option (List ℕ) → Option NodeGraph
held_of count v more held None = None
held_of count v more held (Some numerals) = held_from count v more held numerals

-- The graph that is held, if one is.
abbrev pub held_graph : Option NodeGraph → Result NodeGraph BadFormat
held_graph held = ok_or held (record {})
