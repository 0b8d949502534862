-- Worked facts by computation: soundness at the edge of each range, and which jobs a switch leaves.
use Prim.Native.Nat.{ℕ}
use mathlib.Core.Bool.{Bool, true, false}
use mathlib.Core.List.{List, [], ◌∷◌}
use mathlib.Core.Path.{◌≡◌, refl}
use lib.ListN.{replicate}
use Rattle.basics.specs.Lists.{range, all_below}
use Rattle.nodes.specs.Sets.{has}
use Rattle.sheet.specs.Level.{level_lawful, is_high, is_low, figure_limit, is_wide}
use Rattle.sheet.specs.Rules.{mask_lawful, masks_lawful}
use Rattle.shares.specs.declared.share.Share.{Share}
use Rattle.shares.specs.Low.{is_kept}
use Rattle.model.specs.Row.{Fixed, all_ended, survives}
use Rattle.entries.specs.declared.state.TaskState.{TaskState}
use Rattle.entries.specs.Entry.{fixed_of}
use Rattle.entries.specs.Sound.{entry_sound}

-- An entry: shares, level, k, masks, D, V, age, ended set, alive.
abbrev entry_with : Share → ℕ → ℕ → List ℕ → ℕ → ℕ → ℕ → ℕ → Bool → TaskState
entry_with share level nodes masks deadline virtual age ended alive =
    record {
      level = level;
      nodes = nodes;
      predecessors = masks;
      deadline = deadline;
      virtual_deadline = virtual;
      share = share;
      age = age;
      job = record { ended = ended; alive = alive };
    }

-- One with the shares (1, 2).
abbrev entry : ℕ → ℕ → List ℕ → ℕ → ℕ → ℕ → ℕ → Bool → TaskState
entry = entry_with (record { typical = 1; critical = 2 })

-- Node 1 waits for node 0.
abbrev chain : List ℕ
chain = 0 ∷ 1 ∷ []

-- What is fixed of a task of this level with these shares.
abbrev sharing : ℕ → ℕ → ℕ → Fixed
sharing level typical critical = fixed_of (entry_with (record { typical = typical; critical = critical }) level 2 chain 45 0 45 0 false)

pub record Worked : Type 0 where
  -- S7.2: V is at most D.
  pub virtual_below : entry_sound (entry 1 2 chain 45 9 45 0 false) ≡ true
  pub virtual_equal : entry_sound (entry 1 2 chain 45 45 45 0 false) ≡ true
  pub virtual_above : entry_sound (entry 1 2 chain 45 46 45 0 false) ≡ false
  -- S7.2: the age is at most D.
  pub age_zero : entry_sound (entry 1 2 chain 45 9 0 0 true) ≡ true
  pub age_above : entry_sound (entry 1 2 chain 45 9 46 0 false) ≡ false
  -- S7.2: D is from 1 to 10,000.
  pub deadline_highest : entry_sound (entry 1 2 chain 10000 9 45 0 false) ≡ true
  pub deadline_above : entry_sound (entry 1 2 chain 10001 9 45 0 false) ≡ false
  pub deadline_lowest : entry_sound (entry 1 2 chain 1 0 1 0 false) ≡ true
  pub deadline_zero : entry_sound (entry 1 2 chain 0 0 0 0 false) ≡ false
  -- S7.2: D is from 1 to 1,000,000 in the wide form, and V and the age go with it.
  pub wide_deadline_highest : entry_sound (entry 17 2 chain 1000000 1000000 1000000 0 false) ≡ true
  pub wide_low_highest : entry_sound (entry 16 2 chain 1000000 0 1000000 0 false) ≡ true
  pub wide_deadline_above : entry_sound (entry 17 2 chain 1000001 9 45 0 false) ≡ false
  pub wide_virtual_above : entry_sound (entry 17 2 chain 400000 400001 45 0 false) ≡ false
  pub wide_age_above : entry_sound (entry 17 2 chain 400000 9 400001 0 false) ≡ false
  -- S2.7: the level is 0, 1, 16 or 17.
  pub level_low : entry_sound (entry 0 2 chain 45 0 45 0 false) ≡ true
  pub level_two : entry_sound (entry 2 2 chain 45 9 45 0 false) ≡ false
  pub level_fifteen : entry_sound (entry 15 2 chain 45 9 45 0 false) ≡ false
  pub level_wide : entry_sound (entry 16 2 chain 45 0 45 0 false) ≡ true
  pub level_eighteen : entry_sound (entry 18 2 chain 45 9 45 0 false) ≡ false
  -- S2.7: k is from 1 to 32.
  pub nodes_none : entry_sound (entry 1 0 chain 45 9 45 0 false) ≡ false
  pub nodes_most : entry_sound (entry 1 32 (replicate 32 0) 45 9 45 0 false) ≡ true
  pub nodes_above : entry_sound (entry 1 33 (replicate 33 0) 45 9 45 0 false) ≡ false
  -- S2.12: no node is its own predecessor, and none has a later one. S7.3: a mask behind the k nodes is not read.
  pub mask_own : entry_sound (entry 1 2 (0 ∷ 2 ∷ []) 45 9 45 0 false) ≡ false
  pub mask_first : entry_sound (entry 1 2 (1 ∷ 0 ∷ []) 45 9 45 0 false) ≡ false
  pub mask_later : entry_sound (entry 1 2 (2 ∷ 0 ∷ []) 45 9 45 0 false) ≡ false
  pub mask_unread : entry_sound (entry 1 2 (0 ∷ 1 ∷ 255 ∷ []) 45 9 45 0 false) ≡ true
  -- S7.2: the ended set has nodes below k only.
  pub ended_all : entry_sound (entry 1 2 chain 45 9 45 3 false) ≡ true
  pub ended_beyond : entry_sound (entry 1 2 chain 45 9 45 4 false) ≡ false
  -- S7.2: an alive job has a node that has not ended.
  pub alive_some : entry_sound (entry 1 2 chain 45 9 5 1 true) ≡ true
  pub alive_none : entry_sound (entry 1 2 chain 45 9 5 3 true) ≡ false
  -- S7.4, S8.6: a switch leaves the jobs of a high task and of a low one that is kept; the least critical share keeps
  -- it.
  pub stays_high : survives (sharing 1 2 2) ≡ true
  pub stays_kept : survives (sharing 0 2 2) ≡ true
  pub stays_least : survives (sharing 0 2 1) ≡ true
  pub dropped_low : survives (sharing 0 2 0) ≡ false
  pub stays_wide_high : survives (sharing 17 2 0) ≡ true
  pub dropped_wide_low : survives (sharing 16 2 0) ≡ false

worked : Worked
unfolding has range level_lawful mask_lawful all_below masks_lawful all_ended entry_sound figure_limit is_high is_low is_kept survives fixed_of is_wide
worked =
    record {
      virtual_below = refl;
      virtual_equal = refl;
      virtual_above = refl;
      age_zero = refl;
      age_above = refl;
      deadline_highest = refl;
      deadline_above = refl;
      deadline_lowest = refl;
      deadline_zero = refl;
      wide_deadline_highest = refl;
      wide_low_highest = refl;
      wide_deadline_above = refl;
      wide_virtual_above = refl;
      wide_age_above = refl;
      level_low = refl;
      level_two = refl;
      level_fifteen = refl;
      level_wide = refl;
      level_eighteen = refl;
      nodes_none = refl;
      nodes_most = refl;
      nodes_above = refl;
      mask_own = refl;
      mask_first = refl;
      mask_later = refl;
      mask_unread = refl;
      ended_all = refl;
      ended_beyond = refl;
      alive_some = refl;
      alive_none = refl;
      stays_high = refl;
      stays_kept = refl;
      stays_least = refl;
      dropped_low = refl;
      stays_wide_high = refl;
      dropped_wide_low = refl;
    }
