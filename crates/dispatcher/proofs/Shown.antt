-- What the board shows (S8.8): each running node once, in its task's block, and 255, 255 elsewhere. Pair by pair, block
-- by block.
use Prim.Native.Nat.{ℕ, zero, suc, ◌+◌, ◌-◌, ◌*◌, ◌≤◌, ◌<◌}
use mathlib.Core.Path.{◌≡◌, refl, sym, ap, ◌∙◌}
use mathlib.Core.Bool.{Bool, true}
use mathlib.Core.List.{List, [], ◌∷◌, ◌++◌}
use native.Mathlib.Nat.{zero-add}
use native.Mathlib.Omega.{arith}
use lib.ListN.{length, get_or, take, get_or-replicate, get_or-append}
use lib.Seq.{get_or-append-add}
use Rattle.nodes.proofs.Rising.{Rising, rising_weaken}
use Rattle.shares.specs.Totals.{share_in}
use Rattle.model.specs.Row.{Row, running}
use Rattle.model.specs.Step.{no_row, row_at, granted, running_at}
use Rattle.model.proofs.Capacity.{running-count}
use Rattle.dispatcher.specs.declared.state.State.{State}
use Rattle.dispatcher.specs.Holds.{model_of}
use Rattle.dispatcher.specs.Sound.{is_sound}
use Rattle.dispatcher.specs.Board.{unused, idle, pairs_of, block, board_bytes}
use Rattle.dispatcher.specs.Laws.{Shows, BoardsShow}
use Rattle.dispatcher.proofs.Soundness.{shares_in}
use Rattle.entries.proofs.NodeSets.{running_rises}
use Rattle.dispatcher.proofs.Boards.{pairs_length, grant_in, block_in, blocks_in, blocks-granted, block-length, blocks-length, shares_more, shares_part, shares_fit, board_length, board_whole}
use Rattle.dispatcher.proofs.Rows.{model_length}

-- A pair of two lists of bytes, one behind the other.
shows_front : (xs ys : List ℕ) (n p task node : ℕ) → length xs ≡ 2 * n → p < n → Shows xs p task node → Shows (xs ++ ys) p task node
shows_front xs ys n p task node size h s =
    record {
      first = get_or-append xs ys 0 (2 * p) (omega arith) ∙ s.first;
      second = get_or-append xs ys 0 (2 * p + 1) (omega arith) ∙ s.second;
    }

shows_behind : (xs ys : List ℕ) (n p task node : ℕ) → length xs ≡ 2 * n → Shows ys p task node → Shows (xs ++ ys) (n + p) task node
shows_behind xs ys n p task node size s =
    let one : 2 * (n + p) ≡ length xs + 2 * p = omega arith in
    let two : 2 * (n + p) + 1 ≡ length xs + (2 * p + 1) = omega arith in
    record {
      first = rw one (get_or-append-add xs ys (2 * p) 0 ∙ s.first);
      second = rw two (get_or-append-add xs ys (2 * p + 1) 0 ∙ s.second);
    }

shows_idle : (n p : ℕ) → p < n → Shows (idle n) p unused unused
unfolding idle
shows_idle n p h =
    record {
      first = get_or-replicate (2 * n) (2 * p) unused 0 (omega arith);
      second = get_or-replicate (2 * n) (2 * p + 1) unused 0 (omega arith);
    }

shows_pairs : (task : ℕ) (nodes : List ℕ) (j : ℕ) → j < length nodes → Shows (pairs_of task nodes) j task (get_or nodes j 0)
shows_pairs task [] j h = absurd (omega arith)
shows_pairs task (v ∷ nodes) zero h = record { first = refl; second = refl }
shows_pairs task (v ∷ nodes) (suc j) h =
    let one : 2 * suc j ≡ suc (suc (2 * j)) = omega arith in
    let two : 2 * suc j + 1 ≡ suc (suc (2 * j + 1)) = omega arith in
    let rest = shows_pairs task nodes j (omega arith) in
    record { first = rw one rest.first; second = rw two rest.second }

-- One block: the running nodes from the front, and then nothing.
module _ (grant task : ℕ) (r : Row) where
  block-running : (j : ℕ) → j < length (running grant r) → Shows (block grant task r) j task (get_or (running grant r) j 0)
  unfolding block
  block-running j h =
      shows_front (pairs_of task (running grant r)) _ (length (running grant r)) j task _ (pairs_length task (running grant r)) h
      (shows_pairs task (running grant r) j h)

  block_rest : (j : ℕ) → length (running grant r) ≤ j → j < grant → Shows (block grant task r) j unused unused
  unfolding block
  block_rest j low high =
      let place : length (running grant r) + (j - length (running grant r)) ≡ j = omega arith in
      rw place at
      (shows_behind (pairs_of task (running grant r)) _ (length (running grant r)) (j - length (running grant r)) unused unused
      (pairs_length task (running grant r)) (shows_idle (grant - length (running grant r)) (j - length (running grant r)) (omega arith)))

-- A block among the blocks: it starts at the sum of the shares before it.
blocks_show : (critical : Bool) (first : ℕ) (rows : List Row) (i j task node : ℕ) → i < length rows → j < share_in critical (get_or rows i no_row).fixed.share
    → Shows (block_in critical (first + i) (get_or rows i no_row)) j task node
    → Shows (blocks_in critical first rows) (shares_in critical (take i rows) + j) task node
blocks_show critical first [] i j task node h k s = absurd (omega arith)
blocks_show critical first (r ∷ rows) zero j task node h k s =
    let here : first + 0 ≡ first = omega arith in
    let shown : Shows (block_in critical first r) j task node = rw here at s in
    rw (zero-add j) (shows_front (block_in critical first r) (blocks_in critical (suc first) rows) (share_in critical r.fixed.share) j task node (block-length (grant_in critical r) first r) k shown)
blocks_show critical first (r ∷ rows) (suc i) j task node h k s =
    let next : first + suc i ≡ suc first + i = omega arith in
    let shown : Shows (block_in critical (suc first + i) (get_or rows i no_row)) j task node = rw next at s in
    let place : (share_in critical r.fixed.share + shares_in critical (take i rows)) + j ≡ share_in critical r.fixed.share + (shares_in critical (take i rows) + j) = omega arith in
    rw place
    (shows_behind (block_in critical first r) (blocks_in critical (suc first) rows) (share_in critical r.fixed.share) (shares_in critical (take i rows) + j) task node
    (block-length (grant_in critical r) first r) (blocks_show critical (suc first) rows i j task node (omega arith) k shown))

-- A rising list has each of its numbers once.
rises_at : (vs : List ℕ) (low k j : ℕ) → Rising low k vs → j < length vs → low ≤ get_or vs j 0
rises_at [] low k j r h = absurd (omega arith)
rises_at (v ∷ vs) low k zero r h = r.0
rises_at (v ∷ vs) low k (suc j) r h = rises_at vs low k j (rising_weaken (suc v) low k vs (omega arith) r.2) (omega arith)

rises_between : (vs : List ℕ) (low k j l : ℕ) → Rising low k vs → j < l → l < length vs → get_or vs j 0 < get_or vs l 0
rises_between [] low k j l r h b = absurd (omega arith)
rises_between (v ∷ vs) low k j zero r h b = absurd (omega arith)
rises_between (v ∷ vs) low k zero (suc l) r h b = rises_at vs (suc v) k l r.2 (omega arith)
rises_between (v ∷ vs) low k (suc j) (suc l) r h b = rises_between vs (suc v) k j l r.2 (omega arith) (omega arith)

module _ (s : State) (sound : is_sound s ≡ true) (long : s.count ≤ length s.entries) where
  -- The board, with its blocks by the mode.
  bytes_are : board_bytes s.processors (model_of s)
      ≡ blocks_in s.critical 0 (model_of s).rows ++ idle (s.processors - shares_in s.critical (model_of s).rows)
  unfolding board_bytes model_of
  bytes_are = ap (λ (xs : List ℕ). xs ++ idle (s.processors - shares_in s.critical (model_of s).rows)) (blocks-granted (model_of s))

  in_block : (i j task node : ℕ) → i < s.count → j < granted (model_of s) i
      → Shows (block (granted (model_of s) i) i (row_at (model_of s) i)) j task node
      → Shows (board_bytes s.processors (model_of s)) (shares_in s.critical (take i (model_of s).rows) + j) task node
  unfolding granted model_of row_at
  in_block i j task node h k shown =
      let rows = (model_of s).rows in
      let inside : i < length rows = omega (arith, model_length s long) in
      let here : i ≡ 0 + i = omega arith in
      let block_shown : Shows (block_in s.critical (0 + i) (get_or rows i no_row)) j task node = rw (← here) shown in
      rw bytes_are
      (shows_front (blocks_in s.critical 0 rows) _ (shares_in s.critical rows) (shares_in s.critical (take i rows) + j) task node
      (blocks-length s.critical 0 rows)
      (omega (arith, shares_more s.critical rows i inside, shares_part s.critical rows (suc i)))
      (blocks_show s.critical 0 rows i j task node inside k block_shown))

  out_of_blocks : (p : ℕ) → shares_in s.critical (model_of s).rows ≤ p → p < s.processors → Shows (board_bytes s.processors (model_of s)) p unused unused
  out_of_blocks p low high =
      let total = shares_in s.critical (model_of s).rows in
      let place : total + (p - total) ≡ p = omega arith in
      rw bytes_are
      (rw place at
      (shows_behind (blocks_in s.critical 0 (model_of s).rows) _ total (p - total) unused unused (blocks-length s.critical 0 (model_of s).rows)
      (shows_idle (s.processors - total) (p - total) (omega arith))))

  whole_size : length (board_bytes s.processors (model_of s)) ≡ 2 * s.processors
  whole_size =
      ap length bytes_are
      ∙ ap length (sym (board_whole s.processors s.critical (model_of s).rows (shares_fit s sound) (length (model_of s).rows) (omega arith)))
      ∙ board_length s.processors s.critical (model_of s).rows (shares_fit s sound) (length (model_of s).rows)

-- The board of a sound state shows each running node once, in its task's block, and 255, 255 elsewhere.
pub board_shows : BoardsShow
unfolding BoardsShow running_at
board_shows s sound long =
    record {
      size = whole_size s sound long;
      nodes = λ i j h k.
          in_block s sound long i j i (get_or (running_at (model_of s) i) j 0) h
          (omega (arith, running-count (granted (model_of s) i) (row_at (model_of s) i)))
          (block-running (granted (model_of s) i) i (row_at (model_of s) i) j k);
      once = λ i j l low high.
          rises_between (running_at (model_of s) i) 0 (row_at (model_of s) i).fixed.nodes j l
          (running_rises (granted (model_of s) i) (row_at (model_of s) i) (row_at (model_of s) i).fixed.nodes (omega arith)) (omega arith) high;
      rest = λ i j h low high. in_block s sound long i j unused unused h high (block_rest (granted (model_of s) i) i (row_at (model_of s) i) j low high);
      behind = out_of_blocks s sound long;
    }
