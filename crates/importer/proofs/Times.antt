-- S14.3: every time of a node is at least 1, since each entry of a text was tested for it.
use Prim.Native.Nat.{ℕ, zero, suc, ◌+◌, ◌≤◌, ◌<◌}
use mathlib.Core.Bool.{Bool, true, false, cond, ◌&&◌}
use mathlib.Core.List.{List, [], ◌∷◌}
use Rattle.std.specs.Prelude.{Option, None, Some}
use mathlib.Core.Path.{◌≡◌, refl}
use native.Mathlib.Omega.{arith}
use lib.Dec.{eqb, leb}
use lib.ListN.{length, take, drop, get_or}
use borrow.Author.Tests.{leb-true, ne_eqb}
use Rattle.graph_text.specs.Graph.{Entry, Graph, time_lawful, entry_before, entries_from, graph_with, graph_from, graph_of, no_entry, node_of, time_of}
use Rattle.graph_text.specs.Text.{numerals_of}

-- Whether an entry that is no dummy has a time of at least 1.
abbrev Timed : ℕ → ℕ → ℕ → Type 0
Timed count number time = 1 ≤ number → number ≤ count → 1 ≤ time

lawful_timed : (count number time : ℕ) → time_lawful count number time ≡ true → Timed count number time
unfolding time_lawful
lawful_timed count number time h from to =
    leb-true 1 time
    (rw (ne_eqb number 0 (λ e. absurd (omega arith)), ne_eqb number (count + 1) (λ e. absurd (omega arith))) at h)

-- The same of some entries from number v on.
abbrev TimedEntries : ℕ → ℕ → ℕ → Option (List Entry) → Type 0
TimedEntries count v more None = Unit
TimedEntries count v more (Some entries) =
    (n number : ℕ) → n < more → number ≡ v + n → Timed count number (get_or entries n no_entry).time

timed_before : (count v more : ℕ) (e : Entry) (entries : Option (List Entry)) → Timed count v e.time →
    TimedEntries count (suc v) more entries → TimedEntries count v (suc more) (entry_before e entries)
timed_before count v more e None here others = tt
timed_before count v more e (Some entries) here others = go
  where
    go : (n number : ℕ) → n < suc more → number ≡ v + n → Timed count number (get_or (e ∷ entries) n no_entry).time
    go zero number l same from to = here (omega arith) (omega arith)
    go (suc n) number l same from to = others n number (omega arith) (omega arith) from to

entries_timed : (count v more : ℕ) (numerals : List ℕ) → TimedEntries count v more (entries_from count v more numerals)
unfolding entries_from
entries_timed count v zero [] = λ n number l same from to. absurd (omega arith)
entries_timed count v zero (n ∷ numerals) = tt
entries_timed count v (suc more) [] = tt
entries_timed count v (suc more) (number ∷ []) = tt
entries_timed count v (suc more) (number ∷ time ∷ []) = tt
entries_timed count v (suc more) (number ∷ time ∷ many ∷ rest) =
    go (eqb number v) (time_lawful count v time) refl (leb many (length rest)) (entries_timed count (suc v) more (drop many rest))
  where
    e : Entry
    e = record { time = time; predecessors = take many rest }

    go : (named lawful : Bool) → time_lawful count v time ≡ lawful → (enough : Bool) →
        TimedEntries count (suc v) more (entries_from count (suc v) more (drop many rest)) →
        TimedEntries count v (suc more)
        (cond (named && lawful && enough) (entry_before e (entries_from count (suc v) more (drop many rest))) None)
    go true true h true others =
        timed_before count v more e (entries_from count (suc v) more (drop many rest)) (lawful_timed count v time h) others
    go true true h false others = tt
    go true false h enough others = tt
    go false lawful h enough others = tt

abbrev TimedGraph : Option Graph → Type 0
TimedGraph None = Unit
TimedGraph (Some g) = (v : ℕ) → v < g.count → 1 ≤ time_of g v

with_timed : (count : ℕ) (entries : Option (List Entry)) → TimedEntries count 0 (suc (suc count)) entries →
    TimedGraph (graph_with count entries)
unfolding time_of node_of
with_timed count None h = tt
with_timed count (Some entries) h = λ v l. h (suc v) (suc v) (omega arith) (omega arith) (omega arith) (omega arith)

from_timed : (numerals : Option (List ℕ)) → TimedGraph (graph_from numerals)
from_timed None = tt
from_timed (Some []) = tt
from_timed (Some (count ∷ numerals)) =
    with_timed count (entries_from count 0 (suc (suc count)) numerals) (entries_timed count 0 (suc (suc count)) numerals)

text_timed : (text : List ℕ) → TimedGraph (graph_of text)
unfolding graph_of
text_timed text = from_timed (numerals_of text)

pub times_positive : (text : List ℕ) (g : Graph) → graph_of text ≡ Some g → (v : ℕ) → v < g.count → 1 ≤ time_of g v
times_positive text g e = rw e at (text_timed text)
