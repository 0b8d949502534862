-- Entries read one after the other are the definition's: each node with the predecessors that its numerals name, and all of them held
-- at their places.
use Prim.Native.Nat.{ℕ, zero, suc, ◌-◌, ◌≤◌, ◌<◌, ◌^◌, min}
use mathlib.Core.Bool.{Bool, true, false, cond, ◌&&◌, and_assoc, or_assoc, and-true, true≢false}
use mathlib.Core.List.{List, [], ◌∷◌}
use Rattle.std.specs.List.{list_all}
use Rattle.std.specs.Prelude.{Option, None, Some}
use mathlib.Core.Path.{◌≡◌, refl, sym, ap, ap₂, ◌∙◌}
use native.Mathlib.Omega.{arith}
use lib.Bits.{bit_or, or_zero_r, or_zero_l, or_lt}
use lib.Dec.{eqb, leb, ltb, leb-suc-suc}
use lib.ListN.{length, take, drop}
use borrow.Author.Tests.{eqb-true, eq-eqb, le-leb, lt-leb, lt-ltb, ne_eqb}
use Rattle.std.specs.Cmp.{both_ways}
use Rattle.basics.specs.Lists.{range, is_in}
use Rattle.basics.specs.Numbers.{within}
use Rattle.basics.proofs.Logic.{within_bounds}
use Rattle.basics.proofs.Lists.{filter_none}
use Rattle.nodes.specs.Sets.{has, set_of}
use Rattle.nodes.proofs.Bits.{has_or, has_power, has_zero, has_ext, below_of_has, within_antisymm}
use Rattle.nodes.proofs.Members.{set_of-filter_lt, has-set_of-filter}
use Rattle.graph_text.specs.declared.graph.Node.{Node}
use Rattle.graph_text.specs.declared.graph.NodeGraph.{NodeGraph}
use Rattle.graph_text.specs.Graph.{Entry, time_lawful, entry_before, entries_from, mask_of}
use Rattle.graph_text.specs.means.Entries.{after_taken, bit_named, with_named, named_from, node_with, is_node, held_with, held_from}

-- A node is none of the dummies, and one of the first 32.
pub node_bounds : (count v : ℕ) → is_node count v ≡ true → (1 ≤ v) × (v ≤ 32)
unfolding is_node
node_bounds count v h = let b = within_bounds 1 (min count 32) v h in (b.0, omega (arith, b.1))

-- The mask of one predecessor more.
bit-has : (p v : ℕ) → v < 32 → has (bit_named p) v ≡ eqb (suc v) p
unfolding bit_named
bit-has p v h = go (within 1 32 p) refl
  where
    go : (t : Bool) → within 1 32 p ≡ t → has (cond t (2 ^ (p - 1)) 0) v ≡ eqb (suc v) p
    go true e =
        let b = within_bounds 1 32 p e in
        has_power (p - 1) v
        ∙ both_ways (eqb v (p - 1)) (eqb (suc v) p)
        (λ k. let same = eqb-true v (p - 1) k in eq-eqb (suc v) p (omega arith))
        (λ k. let same = eqb-true (suc v) p k in eq-eqb v (p - 1) (omega arith))
    go false e =
        has_zero v
        ∙ sym (ne_eqb (suc v) p (λ k. true≢false (sym (rw (le-leb 1 p (omega arith), le-leb p 32 (omega arith))) ∙ e)))

bit_lt : (p : ℕ) → bit_named p < 2 ^ 32
unfolding bit_named
bit_lt p = go (within 1 32 p) refl
  where
    go : (t : Bool) → within 1 32 p ≡ t → cond t (2 ^ (p - 1)) 0 < 2 ^ 32
    go true e =
        let b = within_bounds 1 32 p e in
        below_of_has 32 (2 ^ (p - 1)) (λ v m. let same = eqb-true v (p - 1) (sym (has_power (p - 1) v) ∙ m) in omega arith)
    go false e = omega arith

pub mask_more : (p : ℕ) (ps : List ℕ) → mask_of (p ∷ ps) ≡ bit_or (bit_named p) (mask_of ps)
unfolding mask_of
mask_more p ps =
    has_ext 32 (mask_of (p ∷ ps)) (bit_or (bit_named p) (mask_of ps))
    (set_of-filter_lt (λ j. is_in (suc j) (p ∷ ps)) 32)
    (or_lt 32 (bit_named p) (mask_of ps) (bit_lt p) (set_of-filter_lt (λ j. is_in (suc j) ps) 32))
    (λ v h.
    has-set_of-filter (λ j. is_in (suc j) (p ∷ ps)) 32 v
    ∙ rw (has_or (bit_named p) (mask_of ps) v, bit-has p v h, has-set_of-filter (λ j. is_in (suc j) ps) 32 v, lt-ltb v 32 h))

pub mask_none : mask_of [] ≡ 0
unfolding mask_of
mask_none = ap set_of (filter_none (λ j. false) (range 0 32) (λ v m. refl))

or_chain : (a b c : ℕ) → bit_or (bit_or a b) c ≡ bit_or a (bit_or b c)
or_chain a b c = within_antisymm (bit_or (bit_or a b) c) (bit_or a (bit_or b c)) (λ v m. sym (same v) ∙ m) (λ v m. same v ∙ m)
  where
    same : (v : ℕ) → has (bit_or (bit_or a b) c) v ≡ has (bit_or a (bit_or b c)) v
    same v = rw (has_or (bit_or a b) c v, has_or a b v, has_or a (bit_or b c) v, has_or b c v) (or_assoc (has a v) (has b v) (has c v))

-- A node with these predecessors more.
abbrev node_named : ℕ → Node → List ℕ → Node
node_named v node ps =
    record { time = node.time; mask = bit_or node.mask (mask_of ps); rising = node.rising && list_all (λ p. ltb p v) ps }

named_none : (v : ℕ) (node : Node) → node_named v node [] ≡ node
named_none v node = rw (mask_none, or_zero_r node.mask, and-true node.rising)

named_more : (v : ℕ) (node : Node) (p : ℕ) (ps : List ℕ) → node_named v (with_named v node p) ps ≡ node_named v node (p ∷ ps)
unfolding with_named
named_more v node p ps =
    ap₂ (λ (mask : ℕ) (rising : Bool). record { time = node.time; mask = mask; rising = rising })
    (or_chain node.mask (bit_named p) (mask_of ps) ∙ ap (bit_or node.mask) (sym (mask_more p ps)))
    (and_assoc node.rising (ltb p v) (list_all (λ q. ltb q v) ps))

named_all : (v many : ℕ) (node : Node) (numerals : List ℕ) →
    named_from v many node numerals
    ≡ cond (leb many (length numerals)) (Some (record { value = node_named v node (take many numerals); rest = drop many numerals })) None
unfolding named_from
named_all v zero node numerals = rw (le-leb 0 (length numerals) (omega arith), named_none v node)
named_all v (suc many) node [] = rw (lt-leb (suc many) 0 (omega arith))
named_all v (suc many) node (p ∷ numerals) =
    named_all v many (with_named v node p) numerals
    ∙ rw (named_more v node p (take many numerals), leb-suc-suc many (length numerals))

-- An entry, number v, as a node.
abbrev pub node_as : ℕ → Entry → Node
node_as v e =
    record { time = e.time; mask = mask_of e.predecessors; rising = list_all (λ p. ltb p v) e.predecessors }

node_begun : (v time : ℕ) (ps : List ℕ) → node_named v (node_with time) ps ≡ node_as v (record { time = time; predecessors = ps })
node_begun v time ps = rw (or_zero_l (mask_of ps))

-- What is held of some entries, from number v on.
abbrev pub held_all : ℕ → ℕ → NodeGraph → List Entry → NodeGraph
held_all count v held [] = held
held_all count v held (e ∷ entries) = held_all count (suc v) (held_with count v (node_as v e) held) entries

abbrev pub held_for : ℕ → ℕ → NodeGraph → Option (List Entry) → Option NodeGraph
held_for count v held None = None
held_for count v held (Some entries) = Some (held_all count v held entries)

held_before : (count v : ℕ) (held : NodeGraph) (e : Entry) (entries : Option (List Entry)) →
    held_for count (suc v) (held_with count v (node_as v e) held) entries ≡ held_for count v held (entry_before e entries)
held_before count v held e None = refl
held_before count v held e (Some entries) = refl

-- Entries read one after the other are those of the definition.
pub held_entries : (count v more : ℕ) (held : NodeGraph) (numerals : List ℕ) →
    held_from count v more held numerals ≡ held_for count v held (entries_from count v more numerals)
unfolding held_from entries_from
held_entries count v zero held [] = refl
held_entries count v zero held (n ∷ numerals) = refl
held_entries count v (suc more) held [] = refl
held_entries count v (suc more) held (number ∷ []) = refl
held_entries count v (suc more) held (number ∷ time ∷ []) = refl
held_entries count v (suc more) held (number ∷ time ∷ many ∷ rest) =
    rw (named_all v many (node_with time) rest, node_begun v time (take many rest))
    (go (eqb number v && time_lawful count v time) (leb many (length rest))
    (held_entries count (suc v) more (held_with count v (node_as v (record { time = time; predecessors = take many rest })) held) (drop many rest)))
  where
    e : Entry
    e = record { time = time; predecessors = take many rest }

    go : (lawful enough : Bool) →
        held_from count (suc v) more (held_with count v (node_as v e) held) (drop many rest)
        ≡ held_for count (suc v) (held_with count v (node_as v e) held) (entries_from count (suc v) more (drop many rest)) →
        after_taken (cond lawful (cond enough (Some (record { value = node_as v e; rest = drop many rest })) None) None)
        (λ node others. held_from count (suc v) more (held_with count v node held) others)
        ≡ held_for count v held (cond (lawful && enough) (entry_before e (entries_from count (suc v) more (drop many rest))) None)
    go true true others = others ∙ held_before count v held e (entries_from count (suc v) more (drop many rest))
    go true false others = refl
    go false enough others = refl
