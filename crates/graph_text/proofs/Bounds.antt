-- No number that is read of a text exceeds a numeral.
use Prim.Native.Nat.{ℕ, zero, suc, ◌≤◌}
use mathlib.Core.Bool.{Bool, true, false, cond, ◌&&◌, and-eq-true_iff}
use mathlib.Core.List.{List, [], ◌∷◌, map}
use Rattle.std.specs.Prelude.{Option, None, Some}
use mathlib.Core.Path.{◌≡◌, refl}
use native.Mathlib.Omega.{arith}
use lib.Dec.{eqb, leb}
use lib.ListN.{length, take, drop, get_or}
use borrow.Author.Tests.{leb-true}
use Rattle.std.specs.List.{list_all}
use Rattle.basics.specs.Digits.{is_digit, value_of}
use Rattle.graph_text.specs.Text.{words_of, before_mark, numeral_limit, is_numeral, numbers_of, numerals_of}
use Rattle.graph_text.specs.Graph.{Entry, Graph, time_lawful, entry_before, entries_from, graph_with, graph_from, graph_of, no_entry, node_of, time_of}

-- Whether no number of a list exceeds a numeral.
abbrev all_small : List ℕ → Bool
all_small numbers = list_all (λ n. leb n numeral_limit) numbers

abbrev SmallNumbers : Option (List ℕ) → Type 0
SmallNumbers None = Unit
SmallNumbers (Some numbers) = all_small numbers ≡ true

values_small : (words : List (List ℕ)) → list_all is_numeral words ≡ true → all_small (map value_of words) ≡ true
unfolding is_numeral
values_small [] h = refl
values_small (word ∷ words) h =
    let both = (and-eq-true_iff (is_numeral word) (list_all is_numeral words)).0 h in
    let word_small = ((and-eq-true_iff (list_all is_digit word) (leb (value_of word) numeral_limit)).0 both.0).1 in
    (and-eq-true_iff (leb (value_of word) numeral_limit) (all_small (map value_of words))).1 (word_small, values_small words both.1)

numbers_small : (words : List (List ℕ)) → SmallNumbers (numbers_of words)
unfolding numbers_of
numbers_small words = go (list_all is_numeral words) refl
  where
    go : (t : Bool) → list_all is_numeral words ≡ t → SmallNumbers (cond t (Some (map value_of words)) None)
    go true h = values_small words h
    go false h = tt

drop-small : (n : ℕ) (numbers : List ℕ) → all_small numbers ≡ true → all_small (drop n numbers) ≡ true
drop-small zero numbers h = h
drop-small (suc n) [] h = refl
drop-small (suc n) (x ∷ numbers) h =
    drop-small n numbers ((and-eq-true_iff (leb x numeral_limit) (all_small numbers)).0 h).1

-- Entries, none of whose times exceeds a numeral.
abbrev SmallEntries : Option (List Entry) → Type 0
SmallEntries None = Unit
SmallEntries (Some entries) = (v : ℕ) → (get_or entries v no_entry).time ≤ numeral_limit

small_before : (e : Entry) (entries : Option (List Entry)) → e.time ≤ numeral_limit → SmallEntries entries → SmallEntries (entry_before e entries)
small_before e None h others = tt
small_before e (Some entries) h others = go
  where
    go : (v : ℕ) → (get_or (e ∷ entries) v no_entry).time ≤ numeral_limit
    go zero = h
    go (suc v) = others v

entries_small : (count v more : ℕ) (numerals : List ℕ) → all_small numerals ≡ true → SmallEntries (entries_from count v more numerals)
unfolding entries_from
entries_small count v zero [] h = λ u. omega arith
entries_small count v zero (n ∷ numerals) h = tt
entries_small count v (suc more) [] h = tt
entries_small count v (suc more) (number ∷ []) h = tt
entries_small count v (suc more) (number ∷ time ∷ []) h = tt
entries_small count v (suc more) (number ∷ time ∷ many ∷ rest) h =
    let behind-number = ((and-eq-true_iff (leb number numeral_limit) (all_small (time ∷ many ∷ rest))).0 h).1 in
    let behind-time = (and-eq-true_iff (leb time numeral_limit) (all_small (many ∷ rest))).0 behind-number in
    let behind-many = ((and-eq-true_iff (leb many numeral_limit) (all_small rest)).0 behind-time.1).1 in
    go (eqb number v && time_lawful count v time && leb many (length rest)) (leb-true time numeral_limit behind-time.0)
    (entries_small count (suc v) more (drop many rest) (drop-small many rest behind-many))
  where
    e : Entry
    e = record { time = time; predecessors = take many rest }

    go : (t : Bool) → time ≤ numeral_limit → SmallEntries (entries_from count (suc v) more (drop many rest)) →
        SmallEntries (cond t (entry_before e (entries_from count (suc v) more (drop many rest))) None)
    go true small others = small_before e (entries_from count (suc v) more (drop many rest)) small others
    go false small others = tt

-- A graph whose count and times numerals say.
pub record SmallGraph (g : Graph) : Type 0 where
  pub count : g.count ≤ numeral_limit
  pub times : (v : ℕ) → time_of g v ≤ numeral_limit

abbrev pub SmallIfThere : Option Graph → Type 0
SmallIfThere None = Unit
SmallIfThere (Some g) = SmallGraph g

with_small : (count : ℕ) (entries : Option (List Entry)) → count ≤ numeral_limit → SmallEntries entries → SmallIfThere (graph_with count entries)
unfolding time_of node_of
with_small count None h small = tt
with_small count (Some entries) h small = record { count = h; times = λ v. small (suc v) }

from_small : (numerals : Option (List ℕ)) → SmallNumbers numerals → SmallIfThere (graph_from numerals)
from_small None h = tt
from_small (Some []) h = tt
from_small (Some (count ∷ numerals)) h =
    let both = (and-eq-true_iff (leb count numeral_limit) (all_small numerals)).0 h in
    with_small count (entries_from count 0 (suc (suc count)) numerals) (leb-true count numeral_limit both.0)
    (entries_small count 0 (suc (suc count)) numerals both.1)

pub graph_small : (text : List ℕ) → SmallIfThere (graph_of text)
unfolding graph_of numerals_of
graph_small text = from_small (numerals_of text) (numbers_small (words_of (before_mark text)))
