-- S14.2 to S14.5: the graph that a text says, its entries and its nodes.
use Rattle.std.specs.Prelude.{ℕ, zero, suc, ◌+◌, Bool, true, cond, ◌&&◌, ◌||◌, List, [], ◌∷◌, eqb, leb, ltb, length, take, drop, get_or, Option, None, Some, filter}
use Rattle.std.specs.List.{list_all}
use Rattle.basics.specs.Lists.{range, is_in, cells}
use Rattle.nodes.specs.Sets.{set_of}
use Rattle.graph_text.specs.Text.{numerals_of}

-- S14.2: an entry of a graph: its time, and the numbers of the entries before it, as they are listed.
pub record Entry : Type 0 where
  pub time : ℕ
  pub predecessors : List ℕ

-- S14.2: a graph: the count, and its entries in the order of their numbers, from 0 on.
pub record Graph : Type 0 where
  pub count : ℕ
  pub entries : List Entry

-- S14.3: whether entry v of a graph with this count may have this time: the first and the last entry are dummies of time 0, and every
-- other time is at least 1.
unfoldable pub time_lawful : ℕ → ℕ → ℕ → Bool
time_lawful count v time = cond (eqb v 0 || eqb v (count + 1)) (eqb time 0) (leb 1 time)

-- An entry in front of others, where these could be read.
abbrev pub entry_before : Entry → Option (List Entry) → Option (List Entry)
entry_before e None = None
entry_before e (Some entries) = Some (e ∷ entries)

-- S14.2: some entries, from number v on, that numerals say: for each its number, its time, how many predecessors it has, and their
-- numbers. No numeral follows the last.
unfoldable pub entries_from : ℕ → ℕ → ℕ → List ℕ → Option (List Entry)
entries_from count v zero [] = Some []
entries_from count v zero (n ∷ numerals) = None
entries_from count v (suc more) [] = None
entries_from count v (suc more) (number ∷ []) = None
entries_from count v (suc more) (number ∷ time ∷ []) = None
entries_from count v (suc more) (number ∷ time ∷ many ∷ rest) =
    cond (eqb number v && time_lawful count v time && leb many (length rest))
    (entry_before (record { time = time; predecessors = take many rest }) (entries_from count (suc v) more (drop many rest)))
    None

-- A graph of these entries, where they could be read.
abbrev pub graph_with : ℕ → Option (List Entry) → Option Graph
graph_with count None = None
graph_with count (Some entries) = Some (record { count = count; entries = entries })

-- S14.2: the graph that numerals say, or none: the count, and then two entries more than the count.
abbrev pub graph_from : Option (List ℕ) → Option Graph
graph_from None = None
graph_from (Some []) = None
graph_from (Some (count ∷ numerals)) = graph_with count (entries_from count 0 (suc (suc count)) numerals)

-- S14.1, S14.2: the graph that a text says, or none where it is not of the format.
unfoldable pub graph_of : List ℕ → Option Graph
graph_of text = graph_from (numerals_of text)

-- S14.4: whether each entry, from number v on, names only lower numbers as its predecessors.
abbrev pub rising_from : ℕ → List Entry → Bool
rising_from v [] = true
rising_from v (e ∷ entries) = list_all (λ p. ltb p v) e.predecessors && rising_from (suc v) entries

-- S14.4, of all entries.
unfoldable pub is_rising : Graph → Bool
is_rising g = rising_from 0 g.entries

-- What stands for an entry that is not there.
abbrev pub no_entry : Entry
no_entry = record { time = 0; predecessors = [] }

-- S14.5: entry v + 1 is node v.
unfoldable pub node_of : Graph → ℕ → Entry
node_of g v = get_or g.entries (suc v) no_entry

-- S14.5: the time of node v.
unfoldable pub time_of : Graph → ℕ → ℕ
time_of g v = (node_of g v).time

-- S14.5: the mask of a node with these predecessors: the nodes whose entries are named. The dummy 0 is no node.
unfoldable pub mask_of : List ℕ → ℕ
mask_of predecessors = set_of (filter (λ j. is_in (suc j) predecessors) (range 0 32))

-- The numbers of the first 32 nodes of a graph, and 0 where there are fewer.
abbrev pub node_cells : Graph → (Entry → ℕ) → List ℕ
node_cells g f = cells 32 (λ v. f (node_of g v)) 0 g.count

-- S14.5: the masks of the nodes.
unfoldable pub masks_of : Graph → List ℕ
masks_of g = node_cells g (λ e. mask_of e.predecessors)

-- Their times.
unfoldable pub times_of : Graph → List ℕ
times_of g = node_cells g (λ e. e.time)
