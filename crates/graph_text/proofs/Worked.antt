-- Worked facts by computation: texts by their bytes, the numerals that they say, and the graph of the two nodes in `2 0 0 0 1 3 1 0 2 4 2 1 1 3 0 1 2`.
use Prim.Native.Nat.{ℕ}
use mathlib.Core.Bool.{true, false}
use mathlib.Core.List.{List, [], ◌∷◌}
use Rattle.std.specs.Prelude.{None, Some}
use mathlib.Core.Path.{◌≡◌, refl}
use Rattle.basics.specs.Digits.{is_digit}
use Rattle.basics.specs.Lists.{range}
use Rattle.graph_text.specs.Text.{is_blank, is_numeral, numbers_of, numerals_of}
use Rattle.graph_text.specs.Graph.{Graph, time_lawful, entries_from, graph_from, is_rising, node_of, time_of, mask_of}

-- The numerals of the graph.
abbrev pub two : List ℕ
two = 2 ∷ 0 ∷ 0 ∷ 0 ∷ 1 ∷ 3 ∷ 1 ∷ 0 ∷ 2 ∷ 4 ∷ 2 ∷ 1 ∷ 1 ∷ 3 ∷ 0 ∷ 1 ∷ 2 ∷ []

-- The graph that they say.
abbrev pub two_nodes : Graph
two_nodes =
    record {
      count = 2;
      entries =
          record { time = 0; predecessors = [] }
          ∷ record { time = 3; predecessors = 0 ∷ [] }
          ∷ record { time = 4; predecessors = 1 ∷ 1 ∷ [] }
          ∷ record { time = 0; predecessors = 2 ∷ [] }
          ∷ [];
    }

pub record Worked : Type 0 where
  -- S14.1: `12`, a tab, `007`, a carriage return and a line feed, and a comment: 12 and 7.
  pub numerals : numerals_of (49 ∷ 50 ∷ 9 ∷ 48 ∷ 48 ∷ 55 ∷ 13 ∷ 10 ∷ 35 ∷ 120 ∷ []) ≡ Some (12 ∷ 7 ∷ [])
  -- S14.1: an empty text, and one that is a comment, have none.
  pub empty : numerals_of [] ≡ Some []
  pub comment : numerals_of (35 ∷ 49 ∷ []) ≡ Some []
  -- S14.1: `1-`, `x`, and byte 11 are not of the format; nor is `1,2`.
  pub sign : numerals_of (49 ∷ 45 ∷ []) ≡ None
  pub letter : numerals_of (120 ∷ []) ≡ None
  pub other_blank : numerals_of (49 ∷ 11 ∷ 50 ∷ []) ≡ None
  pub comma : numerals_of (49 ∷ 44 ∷ 50 ∷ []) ≡ None
  -- S14.1: 65,535 is a numeral, 65,536 is none.
  pub greatest : numerals_of (54 ∷ 53 ∷ 53 ∷ 51 ∷ 53 ∷ []) ≡ Some (65535 ∷ [])
  pub past : numerals_of (54 ∷ 53 ∷ 53 ∷ 51 ∷ 54 ∷ []) ≡ None
  -- S14.2: the graph; and none where a numeral is missing, where one follows, and where an entry has another number.
  pub graph : graph_from (Some two) ≡ Some two_nodes
  pub cut : graph_from (Some (1 ∷ 0 ∷ 0 ∷ 0 ∷ 1 ∷ 3 ∷ 0 ∷ 2 ∷ 0 ∷ [])) ≡ None
  pub followed : graph_from (Some (0 ∷ 0 ∷ 0 ∷ 0 ∷ 1 ∷ 0 ∷ 0 ∷ 7 ∷ [])) ≡ None
  pub number : graph_from (Some (1 ∷ 0 ∷ 0 ∷ 0 ∷ 2 ∷ 3 ∷ 0 ∷ 2 ∷ 0 ∷ 0 ∷ [])) ≡ None
  pub nothing : graph_from (Some []) ≡ None
  -- S14.3: a dummy with a time, and a node without one.
  pub dummy_time : time_lawful 2 3 1 ≡ false
  pub node_time : time_lawful 2 2 0 ≡ false
  pub last_time : time_lawful 2 3 0 ≡ true
  -- S14.4: entry 2 names entry 1, which is lower; named by itself it is not.
  pub rising : is_rising two_nodes ≡ true
  pub itself : is_rising (record { count = 0; entries = record { time = 0; predecessors = 0 ∷ [] } ∷ [] }) ≡ false
  -- S14.5: entries 1 and 3 are the nodes 0 and 2; the dummy 0 is none, and a repeat is no more.
  pub mask : mask_of (3 ∷ 1 ∷ 0 ∷ 3 ∷ []) ≡ 5
  pub node_one : time_of two_nodes 1 ≡ 4
  pub mask_one : mask_of (node_of two_nodes 1).predecessors ≡ 1

pub worked : Worked
unfolding is_blank is_digit is_numeral numbers_of numerals_of entries_from time_lawful is_rising node_of time_of mask_of range
worked =
    record {
      numerals = refl;
      empty = refl;
      comment = refl;
      sign = refl;
      letter = refl;
      other_blank = refl;
      comma = refl;
      greatest = refl;
      past = refl;
      graph = refl;
      cut = refl;
      followed = refl;
      number = refl;
      nothing = refl;
      dummy_time = refl;
      node_time = refl;
      last_time = refl;
      rising = refl;
      itself = refl;
      mask = refl;
      node_one = refl;
      mask_one = refl;
    }
