-- One step of a reading: a numeral more, or none, and what is then left to take.
use Prim.Native.Nat.{ℕ, zero, suc, ◌-◌, ◌<◌}
use mathlib.Core.Bool.{Bool, true, false, cond, ◌&&◌}
use mathlib.Core.List.{List, [], ◌∷◌}
use mathlib.Core.Path.{◌≡◌, refl, sym, ◌∙◌}
use native.Mathlib.Omega.{arith}
use lib.Dec.{eqb}
use Rattle.std.specs.Prelude.{Option, None, Some, Result, Ok, Err}
use Rattle.graph_text.specs.declared.text.BadFormat.{BadFormat}
use Rattle.graph_text.specs.declared.graph.Node.{Node}
use Rattle.graph_text.specs.declared.graph.NodeGraph.{NodeGraph}
use Rattle.graph_text.specs.Graph.{time_lawful}
use Rattle.graph_text.specs.means.Scan.{number_before, has_first}
use Rattle.graph_text.specs.means.Entries.{Taken, taken_from, taken_before, Reads, after_taken, with_named, named_from, node_with, entry_from, held_with, held_from, held_of}

-- Where no numeral was told, there is nothing to take for what needs one.
pub no_numeral : {A : Type 0} (take : List ℕ → Option (Taken A)) (old : Option (List ℕ)) → has_first old ≡ false → take [] ≡ None →
    taken_from take old ≡ None
no_numeral take None none-first needed = refl
no_numeral take (Some []) none-first needed = needed
no_numeral take (Some (n ∷ numerals)) none-first needed = absurd (cc)

-- One predecessor more.
pub named_empty : (v left : ℕ) (node : Node) → 0 < left → named_from v left node [] ≡ None
unfolding named_from
named_empty v zero node h = absurd (omega arith)
named_empty v (suc left) node h = refl

pub named_step : (v left p : ℕ) (node : Node) (numerals : Option (List ℕ)) → 0 < left →
    taken_from (named_from v left node) (number_before p numerals) ≡ taken_from (named_from v (left - 1) (with_named v node p)) numerals
unfolding named_from
named_step v zero p node numerals h = absurd (omega arith)
named_step v (suc left) p node None h = refl
named_step v (suc left) p node (Some numerals) h = let e : suc left - 1 ≡ left = omega arith in rw e

pub named_all_taken : (v left : ℕ) (node : Node) (numerals : Option (List ℕ)) → left ≡ 0 →
    taken_from (named_from v left node) numerals ≡ taken_before node numerals
unfolding named_from
named_all_taken v left node None e = refl
named_all_taken v left node (Some numerals) e = rw e

-- The same of a rest behind a number.
pub taken_behind : {A : Type 0} (take : List ℕ → Option (Taken A)) (n : ℕ) (numerals : Option (List ℕ)) →
    taken_from take (number_before n numerals) ≡ taken_from (λ rest. take (n ∷ rest)) numerals
taken_behind take n None = refl
taken_behind take n (Some rest) = refl

-- An entry whose three first numerals are read.
pub entry_behind : (count v number time many : ℕ) (numerals : Option (List ℕ)) →
    taken_from (entry_from count v) (number_before number (number_before time (number_before many numerals)))
    ≡ cond (eqb number v && time_lawful count v time) (taken_from (named_from v many (node_with time)) numerals) None
entry_behind count v number time many None = sym (both (eqb number v && time_lawful count v time))
  where
    both : (t : Bool) → cond t (taken_from (named_from v many (node_with time)) None) None ≡ None
    both true = refl
    both false = refl
entry_behind count v number time many (Some rest) = refl

-- What is told of a reading is told of another that takes the same.
pub reads_same : (take other : List ℕ → Option (Taken Node)) (from at new : Option (List ℕ)) (r : Result Node BadFormat) →
    taken_from take from ≡ taken_from other at → Reads other at new r → Reads take from new r
reads_same take other from at new (Ok node) same told = same ∙ told
reads_same take other from at new (Err e) same told = same ∙ told

-- One entry more is held, or none could be.
module _ (count v more : ℕ) (held : NodeGraph) where
  held_open : (numerals : Option (List ℕ)) → held_of count v (suc more) held numerals
      ≡ after_taken (taken_from (entry_from count v) numerals) (λ node rest. held_from count (suc v) more (held_with count v node held) rest)
  unfolding held_from
  held_open None = refl
  held_open (Some numerals) = refl

  pub held_step : (node : Node) (numerals rest : Option (List ℕ)) →
      taken_from (entry_from count v) numerals ≡ taken_before node rest →
      held_of count v (suc more) held numerals ≡ held_of count (suc v) more (held_with count v node held) rest
  held_step node numerals rest told = held_open numerals ∙ rw told (go rest)
    where
      go : (others : Option (List ℕ)) →
          after_taken (taken_before node others) (λ node rest. held_from count (suc v) more (held_with count v node held) rest)
          ≡ held_of count (suc v) more (held_with count v node held) others
      go None = refl
      go (Some others) = refl

  pub held_unread : (numerals : Option (List ℕ)) → taken_from (entry_from count v) numerals ≡ None → held_of count v (suc more) held numerals ≡ None
  held_unread numerals told = held_open numerals ∙ rw told

-- Behind the last entry stands no numeral.
pub held_end : (count v : ℕ) (held : NodeGraph) (old : Option (List ℕ)) → old ≡ Some [] → held_of count v 0 held old ≡ Some held
unfolding held_from
held_end count v held old none-left = rw none-left

pub held_past : (count v n : ℕ) (held : NodeGraph) (old rest : Option (List ℕ)) → old ≡ number_before n rest → held_of count v 0 held old ≡ None
unfolding held_from
held_past count v n held old None e = rw e
held_past count v n held old (Some numerals) e = rw e
