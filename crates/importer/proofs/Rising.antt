-- S14.4 and S2.12: where each entry names only lower ones, the mask of node v lies below 2 ^ v.
use Prim.Native.Nat.{ℕ, zero, suc, ◌+◌, ◌<◌, ◌^◌}
use mathlib.Core.Bool.{true}
use mathlib.Core.List.{List, [], ◌∷◌}
use mathlib.Core.Path.{◌≡◌, refl, sym, ◌∙◌}
use native.Mathlib.Omega.{arith}
use lib.Dec.{ltb}
use lib.ListN.{get_or}
use lib.Pow.{pow_pos}
use borrow.Author.Tests.{ltb-true}
use Rattle.std.specs.List.{list_all}
use Rattle.basics.specs.Lists.{is_in}
use Rattle.basics.proofs.Cells.{cells-keep}
use Rattle.std.proofs.lemmas.Bool.{and_parts}
use Rattle.basics.proofs.Members.{all_member, is_in_lem}
use Rattle.nodes.proofs.Bits.{below_of_has}
use Rattle.nodes.proofs.Members.{has-set_of-filter}
use Rattle.model.specs.Row.{predecessors_of}
use Rattle.chains.specs.Laws.{LowerOnly}
use Rattle.graph_text.specs.Graph.{Entry, Graph, rising_from, is_rising, no_entry, node_of, mask_of, masks_of}

-- The mask of a node whose entry, number v + 1, names only lower ones.
mask_below : (v : ℕ) (predecessors : List ℕ) → list_all (λ p. ltb p (suc v)) predecessors ≡ true → mask_of predecessors < 2 ^ v
unfolding mask_of
mask_below v predecessors h =
    below_of_has v (mask_of predecessors)
    (λ j m.
    let named = (and_parts (ltb j 32) (is_in (suc j) predecessors) (sym (has-set_of-filter (λ i. is_in (suc i) predecessors) 32 j) ∙ m)).1 in
    let lower = ltb-true (suc j) (suc v) (all_member (λ p. ltb p (suc v)) predecessors (suc j) h (is_in_lem (suc j) predecessors named)) in
    omega arith)

-- The entry at place n of entries from number v on.
rising_at : (entries : List Entry) (v n number : ℕ) → number ≡ v + n → rising_from v entries ≡ true →
    list_all (λ p. ltb p number) (get_or entries n no_entry).predecessors ≡ true
rising_at [] v n number e h = refl
rising_at (entry ∷ entries) v zero number e h =
    let same : number ≡ v = omega arith in
    rw same (and_parts (list_all (λ p. ltb p v) entry.predecessors) (rising_from (suc v) entries) h).0
rising_at (entry ∷ entries) v (suc n) number e h =
    rising_at entries (suc v) n number (omega arith)
    (and_parts (list_all (λ p. ltb p v) entry.predecessors) (rising_from (suc v) entries) h).1

pub rising_lower : (g : Graph) → is_rising g ≡ true → LowerOnly (masks_of g) g.count
unfolding LowerOnly predecessors_of masks_of is_rising node_of
rising_lower g h v l =
    let mask = mask_below v (node_of g v).predecessors (rising_at g.entries 0 (suc v) (suc v) (omega arith) h) in
    cells-keep (λ u. mask_of (node_of g u).predecessors) 0 (λ x. x < 2 ^ v) 32 g.count v (pow_pos v) mask
