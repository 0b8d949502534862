-- What is held of all entries is the graph by its nodes: entry v + 1 stands at place v, and the dummies stand nowhere.
use Prim.Native.Nat.{ℕ, zero, suc, ◌+◌, ◌-◌, ◌≤◌, ◌<◌, min}
use mathlib.Core.Bool.{Bool, true, false, cond, ◌&&◌, and_assoc, and-true}
use mathlib.Core.List.{List, [], ◌∷◌}
use Rattle.std.specs.List.{list_all}
use Rattle.std.specs.Prelude.{Option, None, Some}
use mathlib.Core.Path.{◌≡◌, refl, sym, ap, ◌∙◌}
use native.Mathlib.Decide.{dec_le}
use native.Mathlib.Omega.{arith}
use lib.Dec.{eqb, leb, ltb}
use lib.ListN.{length, take, drop, get_or, set, replicate}
use borrow.Author.Tests.{leb-true, leb-false, le-leb}
use Rattle.basics.specs.Lists.{cells}
use Rattle.basics.proofs.Cells.{cells_none, cells_store, cells_full}
use Rattle.graph_text.specs.declared.graph.NodeGraph.{NodeGraph}
use Rattle.graph_text.specs.Graph.{Entry, Graph, time_lawful, entry_before, entries_from, graph_with, graph_from, rising_from, is_rising, no_entry, node_of, mask_of, masks_of, times_of}
use Rattle.graph_text.specs.Read.{node_graph}
use Rattle.graph_text.specs.means.Scan.{number_before, has_first}
use Rattle.graph_text.specs.means.Entries.{none_held, is_node, stored_at, held_with, held_of, held_graph}
use Rattle.graph_text.proofs.Entries.{node_as, held_all, held_for, held_entries}

-- As many entries are read as were asked for.
abbrev OfLength : ℕ → Option (List Entry) → Type 0
OfLength more None = Unit
OfLength more (Some entries) = length entries ≡ more

length_before : (more : ℕ) (e : Entry) (entries : Option (List Entry)) → OfLength more entries → OfLength (suc more) (entry_before e entries)
length_before more e None h = tt
length_before more e (Some entries) h = ap suc h

entries_length : (count v more : ℕ) (numerals : List ℕ) → OfLength more (entries_from count v more numerals)
unfolding entries_from
entries_length count v zero [] = refl
entries_length count v zero (n ∷ numerals) = tt
entries_length count v (suc more) [] = tt
entries_length count v (suc more) (number ∷ []) = tt
entries_length count v (suc more) (number ∷ time ∷ []) = tt
entries_length count v (suc more) (number ∷ time ∷ many ∷ rest) =
    go (eqb number v && time_lawful count v time && leb many (length rest)) (entries_length count (suc v) more (drop many rest))
  where
    e : Entry
    e = record { time = time; predecessors = take many rest }

    go : (t : Bool) → OfLength more (entries_from count (suc v) more (drop many rest)) →
        OfLength (suc more) (cond t (entry_before e (entries_from count (suc v) more (drop many rest))) None)
    go true h = length_before more e (entries_from count (suc v) more (drop many rest)) h
    go false h = tt

-- The entry at a place of a list, and those behind it.
drop_head : (list : List Entry) (v : ℕ) (e : Entry) (entries : List Entry) → drop v list ≡ e ∷ entries →
    (get_or list v no_entry ≡ e) × (drop (suc v) list ≡ entries)
drop_head [] zero e entries h = absurd (omega (arith, ap length h))
drop_head [] (suc v) e entries h = absurd (omega (arith, ap length h))
drop_head (x ∷ list) zero e entries h = (ap (λ (l : List Entry). get_or l 0 no_entry) h, ap (drop 1) h)
drop_head (x ∷ list) (suc v) e entries h = drop_head list v e entries h

-- A number of each node, stored entry by entry.
module _ (count : ℕ) (x : Entry → ℕ) where
  abbrev stored_all : ℕ → List ℕ → List Entry → List ℕ
  stored_all v held [] = held
  stored_all v held (e ∷ entries) = stored_all (suc v) (stored_at count v (x e) held) entries

  module _ (whole : List Entry) where
    abbrev number_of : ℕ → ℕ
    number_of u = x (get_or whole (suc u) no_entry)

    -- One entry more: at its place where it is a node, and else nothing changes.
    store_node : (u : ℕ) (e : Entry) → get_or whole (suc u) no_entry ≡ e → suc u ≤ min count 32 →
        set (cells 32 number_of 0 (min u count)) u (x e) ≡ cells 32 number_of 0 (min (suc u) count)
    store_node u e here h =
        let before : min u count ≡ u = omega arith in
        let behind : min (suc u) count ≡ u + 1 = omega arith in
        rw (before, behind, ← here) (cells_store number_of 0 32 u (omega arith))

    store_none : (u : ℕ) → min count 32 < suc u → cells 32 number_of 0 (min u count) ≡ cells 32 number_of 0 (min (suc u) count)
    store_none u h = go (dec_le count u)
      where
        go : Dec (count ≤ u) → cells 32 number_of 0 (min u count) ≡ cells 32 number_of 0 (min (suc u) count)
        go (yes few) = let same : min u count ≡ min (suc u) count = omega arith in rw same
        go (no more) = cells_full number_of 0 0 32 (min u count) (omega arith) ∙ sym (cells_full number_of 0 0 32 (min (suc u) count) (omega arith))

    store_one : (v : ℕ) (e : Entry) → get_or whole v no_entry ≡ e →
        stored_at count v (x e) (cells 32 number_of 0 (min (v - 1) count)) ≡ cells 32 number_of 0 (min v count)
    unfolding stored_at is_node
    store_one zero e here = refl
    store_one (suc u) e here =
        let before : suc u - 1 ≡ u = omega arith in
        rw (before, le-leb 1 (suc u) (omega arith)) (go (leb (suc u) (min count 32)) refl)
      where
        go : (t : Bool) → leb (suc u) (min count 32) ≡ t →
            cond t (set (cells 32 number_of 0 (min u count)) u (x e)) (cells 32 number_of 0 (min u count)) ≡ cells 32 number_of 0 (min (suc u) count)
        go true h = store_node u e here (leb-true (suc u) (min count 32) h)
        go false h = store_none u (leb-false (suc u) (min count 32) h)

    stored_all_lem : (v : ℕ) (entries : List Entry) → drop v whole ≡ entries →
        stored_all v (cells 32 number_of 0 (min (v - 1) count)) entries ≡ cells 32 number_of 0 (min (v + length entries - 1) count)
    stored_all_lem v [] h = let e : v + 0 - 1 ≡ v - 1 = omega arith in rw e
    stored_all_lem v (e ∷ entries) h =
        let at = drop_head whole v e entries h in
        let places : suc v + length entries - 1 ≡ v + suc (length entries) - 1 = omega arith in
        let before : suc v - 1 ≡ v = omega arith in
        ap (λ (held : List ℕ). stored_all (suc v) held entries)
        (store_one v e at.0 ∙ ap (λ (n : ℕ). cells 32 number_of 0 (min n count)) (sym before))
        ∙ stored_all_lem (suc v) entries at.1
        ∙ ap (λ (n : ℕ). cells 32 number_of 0 (min n count)) places

-- The three parts of what is held.
held_times : (count v : ℕ) (held : NodeGraph) (entries : List Entry) →
    (held_all count v held entries).times ≡ stored_all count (λ e. e.time) v held.times entries
unfolding held_with
held_times count v held [] = refl
held_times count v held (e ∷ entries) = held_times count (suc v) (held_with count v (node_as v e) held) entries

held_masks : (count v : ℕ) (held : NodeGraph) (entries : List Entry) →
    (held_all count v held entries).masks ≡ stored_all count (λ e. mask_of e.predecessors) v held.masks entries
unfolding held_with
held_masks count v held [] = refl
held_masks count v held (e ∷ entries) = held_masks count (suc v) (held_with count v (node_as v e) held) entries

held_rising : (count v : ℕ) (held : NodeGraph) (entries : List Entry) →
    (held_all count v held entries).rising ≡ (held.rising && rising_from v entries)
unfolding held_with
held_rising count v held [] = sym (and-true held.rising)
held_rising count v held (e ∷ entries) =
    held_rising count (suc v) (held_with count v (node_as v e) held) entries
    ∙ and_assoc held.rising (list_all (λ p. ltb p v) e.predecessors) (rising_from (suc v) entries)

held_count : (count v : ℕ) (held : NodeGraph) (entries : List Entry) → held.count ≡ count → (held_all count v held entries).count ≡ count
unfolding held_with
held_count count v held [] e = e
held_count count v held (e ∷ entries) _ = held_count count (suc v) (held_with count v (node_as v e) held) entries refl

-- A number of each node, of all entries of a graph.
stored_whole : (count : ℕ) (x : Entry → ℕ) (entries : List Entry) → length entries ≡ suc (suc count) →
    stored_all count x 0 (replicate 32 0) entries ≡ cells 32 (λ u. x (get_or entries (suc u) no_entry)) 0 count
stored_whole count x entries long =
    let first : min (0 - 1) count ≡ 0 = omega arith in
    let last : min (0 + length entries - 1) count ≡ count = omega arith in
    ap (λ (held : List ℕ). stored_all count x 0 held entries)
    (sym (cells_none (number_of count x entries) 0 0 32 0 (omega arith)) ∙ ap (cells 32 (number_of count x entries) 0) (sym first))
    ∙ stored_all_lem count x entries 0 entries refl
    ∙ ap (cells 32 (number_of count x entries) 0) last

-- What is held of the numerals behind the count is the graph that they say.
held_whole : (count : ℕ) (entries : Option (List Entry)) → OfLength (suc (suc count)) entries →
    held_graph (held_for count 0 (none_held count) entries) ≡ node_graph (graph_with count entries)
unfolding times_of masks_of node_of is_rising
held_whole count None long = refl
held_whole count (Some entries) long =
    fields (held_times count 0 (none_held count) entries ∙ stored_whole count (λ e. e.time) entries long)
    (held_masks count 0 (none_held count) entries ∙ stored_whole count (λ e. mask_of e.predecessors) entries long)
    (held_rising count 0 (none_held count) entries)
    (held_count count 0 (none_held count) entries refl)
  where
    g : Graph
    g = record { count = count; entries = entries }

    fields : {times masks : List ℕ} {rising : Bool} {n : ℕ} → times ≡ times_of g → masks ≡ masks_of g → rising ≡ is_rising g → n ≡ count →
        held_graph (Some (record { times = times; masks = masks; rising = rising; count = n })) ≡ node_graph (Some g)
    fields a b c d = rw (a, b, c, d)

pub graph_held : (count : ℕ) (numerals : Option (List ℕ)) →
    held_graph (held_of count 0 (suc (suc count)) (none_held count) numerals) ≡ node_graph (graph_from (number_before count numerals))
graph_held count None = refl
graph_held count (Some numerals) =
    ap held_graph (held_entries count 0 (suc (suc count)) (none_held count) numerals)
    ∙ held_whole count (entries_from count 0 (suc (suc count)) numerals) (entries_length count 0 (suc (suc count)) numerals)

-- A text with no numeral in front says no graph.
pub graph_none : (numerals : Option (List ℕ)) → has_first numerals ≡ false → graph_from numerals ≡ None
graph_none None none-first = refl
graph_none (Some []) none-first = refl
graph_none (Some (n ∷ numerals)) none-first = absurd (cc)
