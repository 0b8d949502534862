-- The board's bytes, written one after the other: a task's pairs, and the tasks' blocks.
use Prim.Native.Nat.{ℕ, zero, suc, ◌+◌, ◌-◌, ◌*◌, ◌≤◌, ◌<◌}
use mathlib.Core.Path.{◌≡◌, refl, sym, ap, ap₂, ◌∙◌}
use mathlib.Core.Bool.{Bool, true, false}
use mathlib.Core.List.{List, [], ◌∷◌, ◌++◌, Memᴰ, append_assoc, append-nil}
use native.Mathlib.Nat.{add-zero}
use native.Mathlib.Omega.{arith}
use native.Mathlib.Numerals.{add-one}
use borrow.Author.Tests.{eq-eqb, ne_eqb}
use lib.ListN.{length, get_or, set, take, drop, replicate, length-append, length-replicate, length-set, replicate-append-replicate}
use lib.Seq.{sets, sets-eq, drop_at, take-append_seam, drop-append-add, take_all}
use Rattle.std.specs.Prelude.{Ok, Err}
use Rattle.sheet.specs.declared.refusal.Refusal.TheVariants.{NotSound, WrongLength}
use Rattle.nodes.specs.Sets.{members}
use Rattle.nodes.proofs.Members.{members_mem}
use Rattle.shares.specs.Totals.{share_in}
use Rattle.model.specs.Row.{Row, running, running_set}
use Rattle.model.specs.Step.{Model, no_row, row_at, granted}
use Rattle.model.proofs.Capacity.{running-count}
use Rattle.dispatcher.specs.declared.state.State.{State}
use Rattle.entries.specs.Entry.{fixed_of, row_of}
use Rattle.dispatcher.specs.Holds.{model_of}
use Rattle.dispatcher.specs.Sound.{is_sound}
use Rattle.dispatcher.specs.Board.{unused, idle, pairs_of, block, blocks, board_bytes, board_answer}
use Rattle.entries.proofs.NodeSets.{running-members}
use Rattle.entries.proofs.Soundness.{few_nodes}
use Rattle.dispatcher.proofs.Soundness.{shares_in, state_facts}
use Rattle.dispatcher.proofs.Entries.{entry_at, sound_at}
use Rattle.dispatcher.proofs.Rows.{model_length, row_here}

-- A task's pairs, written from a place on: what is written, with what is left to write, is the whole.
pub record Written (whole : List ℕ) (bytes task : ℕ) (buffer : List ℕ) (place : ℕ) (left : List ℕ) : Type 0 where
  pub nodes : (v : ℕ) → Memᴰ v left → v < 32
  pub size : length buffer ≡ bytes
  pub room : place + 2 * length left ≤ bytes
  pub rest : sets buffer place (pairs_of task left) ≡ whole

pub written_none : (task set : ℕ) (buffer : List ℕ) (place : ℕ) (left : List ℕ) → left ≡ members 32 set →
    place + 2 * length (members 32 set) ≤ length buffer →
    Written (sets buffer place (pairs_of task (members 32 set))) (length buffer) task buffer place left
written_none task set buffer place left all room =
    rw all (record { nodes = λ v m. (members_mem 32 set v m).1; size = refl; room = room; rest = refl })

module _ (whole : List ℕ) (bytes task : ℕ) (buffer : List ℕ) (place : ℕ) (left : List ℕ) (w : Written whole bytes task buffer place left) where
  module _ (v : ℕ) (more : List ℕ) (first : left ≡ v ∷ more) where
    -- The next node is one of a word.
    pub pair_node : v < 32
    pair_node = w.nodes v (rw first (Memᴰ.head refl))

    pub written_pair : Written whole bytes task (set (set buffer place task) (place + 1) v) (place + 2) more
    written_pair =
        let next : place + 2 ≡ suc (suc place) = omega arith in
        let rest : sets buffer place (pairs_of task (v ∷ more)) ≡ whole = rw first at w.rest in
        record {
          nodes = λ u m. w.nodes u (rw first (Memᴰ.tail m));
          size = length-set (set buffer place task) (place + 1) v ∙ length-set buffer place task ∙ w.size;
          room = omega (arith, w.room, ap length first);
          rest = rw (next, add-one place) rest;
        }

  -- With none left to write, what is written is the whole.
  pub written_whole : left ≡ [] → buffer ≡ whole
  written_whole none =
      let done : sets buffer place (pairs_of task []) ≡ whole = rw none at w.rest in
      done

-- The lengths of pairs and of a block.
pub pairs_length : (task : ℕ) (nodes : List ℕ) → length (pairs_of task nodes) ≡ 2 * length nodes
pairs_length task [] = refl
pairs_length task (v ∷ nodes) = omega (arith, pairs_length task nodes)

pub block-length : (grant task : ℕ) (r : Row) → length (block grant task r) ≡ 2 * grant
unfolding block idle
block-length grant task r =
    simp (length-append, pairs_length, length-replicate) (omega (arith, running-count grant r))

-- What a row's task is granted: its share in the mode.
abbrev pub grant_in : Bool → Row → ℕ
grant_in critical r = share_in critical r.fixed.share

-- What runs of it.
abbrev pub running_in : Bool → Row → List ℕ
running_in critical r = running (grant_in critical r) r

-- Its block.
abbrev pub block_in : Bool → ℕ → Row → List ℕ
block_in critical task r = block (grant_in critical r) task r

-- The blocks of rows by the mode.
abbrev pub blocks_in : Bool → ℕ → List Row → List ℕ
blocks_in critical i [] = []
blocks_in critical i (r ∷ rows) = block_in critical i r ++ blocks_in critical (suc i) rows

-- The model's blocks are these: each task is granted its share.
blocks_by_mode : (grants : ℕ → ℕ) (critical : Bool) (first : ℕ) (rows : List Row)
    → ((i : ℕ) → grants (first + i) ≡ grant_in critical (get_or rows i no_row)) → blocks grants first rows ≡ blocks_in critical first rows
blocks_by_mode grants critical first [] same = refl
blocks_by_mode grants critical first (r ∷ rows) same =
    let here : first + 0 ≡ first = omega arith in
    ap₂ (λ (n : ℕ) (xs : List ℕ). block n first r ++ xs)
    (rw here at (same 0))
    (blocks_by_mode grants critical (suc first) rows (λ i. let next : suc first + i ≡ first + suc i = omega arith in rw next (same (suc i))))

pub blocks-granted : (m : Model) → blocks (granted m) 0 m.rows ≡ blocks_in m.critical 0 m.rows
unfolding granted row_at
blocks-granted m =
    blocks_by_mode (granted m) m.critical 0 m.rows (λ i. let here : 0 + i ≡ i = omega arith in rw here)

pub blocks-length : (critical : Bool) (i : ℕ) (rows : List Row) → length (blocks_in critical i rows) ≡ 2 * shares_in critical rows
blocks-length critical i [] = refl
blocks-length critical i (r ∷ rows) = simp (length-append, block-length) (omega (arith, blocks-length critical (suc i) rows))

drop-idle : (n m : ℕ) → n ≤ m → drop n (replicate m unused) ≡ replicate (m - n) unused
drop-idle n m h =
    let all : n + (m - n) ≡ m = omega arith in
    ap (λ (k : ℕ). drop n (replicate k unused)) (sym all)
    ∙ ap (drop n) (sym (replicate-append-replicate n (m - n) unused))
    ∙ drop_at (replicate n unused) (replicate (m - n) unused) n (length-replicate n unused)

-- A block written on a board that shows nothing from its start on.
module _ (before pairs : List ℕ) (running share left : ℕ) (long : length pairs ≡ 2 * running) (few : running ≤ share) (room : share ≤ left) where
  pub block_put : sets (before ++ idle left) (length before) pairs ≡ (before ++ (pairs ++ idle (share - running))) ++ idle (left - share)
  unfolding idle
  block_put =
      let size : length (before ++ replicate (2 * left) unused) ≡ length before + 2 * left =
      length-append before (replicate (2 * left) unused) ∙ ap (λ (n : ℕ). length before + n) (length-replicate (2 * left) unused) in
      let behind : drop (length before + length pairs) (before ++ replicate (2 * left) unused) ≡ replicate (2 * left - length pairs) unused =
      drop-append-add before (replicate (2 * left) unused) (length pairs) ∙ drop-idle (length pairs) (2 * left) (omega arith) in
      let sum : 2 * left - length pairs ≡ 2 * (share - running) + 2 * (left - share) = omega arith in
      sets-eq pairs (before ++ replicate (2 * left) unused) (length before) (omega arith)
      ∙ ap₂ (λ (xs ys : List ℕ). xs ++ pairs ++ ys) (take-append_seam before (replicate (2 * left) unused)) (behind ∙ ap (λ (n : ℕ). replicate n unused) sum)
      ∙ ap (λ (xs : List ℕ). before ++ pairs ++ xs) (sym (replicate-append-replicate (2 * (share - running)) (2 * (left - share)) unused))
      ∙ sym (append_assoc (before ++ pairs) (replicate (2 * (share - running)) unused) (replicate (2 * (left - share)) unused))
      ∙ ap (λ (xs : List ℕ). xs ++ replicate (2 * (left - share)) unused) (append_assoc before pairs (replicate (2 * (share - running)) unused))

-- The blocks of one task more.
pub blocks_more : (critical : Bool) (first : ℕ) (rows : List Row) (i : ℕ) → i < length rows
    → blocks_in critical first (take (suc i) rows) ≡ blocks_in critical first (take i rows) ++ block_in critical (first + i) (get_or rows i no_row)
blocks_more critical first [] i h = absurd (omega arith)
blocks_more critical first (r ∷ rows) zero h = rw (add-zero first) (append-nil (block_in critical first r))
blocks_more critical first (r ∷ rows) (suc i) h =
    let place : suc first + i ≡ first + suc i = omega arith in
    ap (λ (xs : List ℕ). block_in critical first r ++ xs) (blocks_more critical (suc first) rows i (omega arith) ∙ ap (λ (n : ℕ). blocks_in critical (suc first) (take i rows) ++ block_in critical n (get_or rows i no_row)) place)
    ∙ sym (append_assoc (block_in critical first r) (blocks_in critical (suc first) (take i rows)) (block_in critical (first + suc i) (get_or rows i no_row)))

pub shares_more : (critical : Bool) (rows : List Row) (i : ℕ) → i < length rows
    → shares_in critical (take (suc i) rows) ≡ shares_in critical (take i rows) + share_in critical (get_or rows i no_row).fixed.share
shares_more critical [] i h = absurd (omega arith)
shares_more critical (r ∷ rows) zero h = omega arith
shares_more critical (r ∷ rows) (suc i) h = omega (arith, shares_more critical rows i (omega arith))

pub shares_part : (critical : Bool) (rows : List Row) (i : ℕ) → shares_in critical (take i rows) ≤ shares_in critical rows
shares_part critical [] zero = omega arith
shares_part critical [] (suc i) = omega arith
shares_part critical (r ∷ rows) zero = omega arith
shares_part critical (r ∷ rows) (suc i) = omega (arith, shares_part critical rows i)

-- The shares of a sound state fit, in either mode.
pub shares_fit : (s : State) → is_sound s ≡ true → shares_in s.critical (model_of s).rows ≤ s.processors
shares_fit s t = go s.critical
  where
    go : (critical : Bool) → shares_in critical (model_of s).rows ≤ s.processors
    go true = (state_facts s t).critical
    go false = (state_facts s t).typical

-- The board with the blocks of the first i tasks.
abbrev pub board_to : ℕ → Bool → List Row → ℕ → List ℕ
board_to processors critical rows i = blocks_in critical 0 (take i rows) ++ idle (processors - shares_in critical (take i rows))

module _ (processors : ℕ) (critical : Bool) (rows : List Row) (fit : shares_in critical rows ≤ processors) where
  pub board_length : (i : ℕ) → length (board_to processors critical rows i) ≡ 2 * processors
  unfolding idle
  board_length i =
      omega (
        arith,
        length-append (blocks_in critical 0 (take i rows)) (replicate (2 * (processors - shares_in critical (take i rows))) unused),
        blocks-length critical 0 (take i rows),
        length-replicate (2 * (processors - shares_in critical (take i rows))) unused,
        shares_part critical rows i,
      )

  -- The next task's block lies within the board.
  pub board_room : (i : ℕ) → i < length rows
      → 2 * shares_in critical (take i rows) + 2 * share_in critical (get_or rows i no_row).fixed.share ≤ 2 * processors
  board_room i h = omega (arith, shares_more critical rows i h, shares_part critical rows (suc i))

  pub board_more : (i : ℕ) → i < length rows
      → sets (board_to processors critical rows i) (2 * shares_in critical (take i rows)) (pairs_of i (running_in critical (get_or rows i no_row)))
      ≡ board_to processors critical rows (i + 1)
  unfolding block
  board_more i h =
      let r = get_or rows i no_row in
      let before = blocks_in critical 0 (take i rows) in
      let left = processors - shares_in critical (take i rows) in
      let share = share_in critical r.fixed.share in
      let place : 2 * shares_in critical (take i rows) ≡ length before = sym (blocks-length critical 0 (take i rows)) in
      let task : 0 + i ≡ i = omega arith in
      let behind : left - share ≡ processors - shares_in critical (take (suc i) rows) = omega (arith, shares_more critical rows i h) in
      ap (λ (n : ℕ). sets (board_to processors critical rows i) n (pairs_of i (running_in critical r))) place
      ∙ block_put before (pairs_of i (running_in critical r)) (length (running_in critical r)) share left
      (pairs_length i (running_in critical r)) (running-count (grant_in critical r) r) (omega (arith, shares_more critical rows i h, shares_part critical rows (suc i)))
      ∙ ap₂ (λ (xs : List ℕ) (n : ℕ). xs ++ idle n)
      (sym (blocks_more critical 0 rows i h ∙ ap (λ (n : ℕ). blocks_in critical 0 (take i rows) ++ block_in critical n r) task)) behind
      ∙ ap (board_to processors critical rows) (sym (add-one i))

  pub board_whole : (i : ℕ) → length rows ≤ i
      → board_to processors critical rows i ≡ blocks_in critical 0 rows ++ idle (processors - shares_in critical rows)
  board_whole i h = rw (take_all i rows h)

-- On the way through the tasks of a state: the next block's place, and the board so far.
pub record Boarding (s : State) (buffer : List ℕ) (at i : ℕ) : Type 0 where
  pub place : at ≡ 2 * shares_in s.critical (take i (model_of s).rows)
  pub bytes : buffer ≡ board_to s.processors s.critical (model_of s).rows i

module _ (s : State) (long : s.count ≤ length s.entries) (sound : is_sound s ≡ true) where
  share_here : (i : ℕ) → i < s.count → share_in s.critical (get_or (model_of s).rows i no_row).fixed.share ≡ share_in s.critical (entry_at s i).share
  unfolding row_of fixed_of
  share_here i h = ap (λ (r : Row). share_in s.critical r.fixed.share) (row_here s long i h)

  nodes_here : (i : ℕ) → i < s.count → members 32 (running_set (share_in s.critical (entry_at s i).share) (row_of (entry_at s i))) ≡ running_in s.critical (get_or (model_of s).rows i no_row)
  unfolding row_of fixed_of
  nodes_here i h =
      running-members (share_in s.critical (entry_at s i).share) (row_of (entry_at s i)) (few_nodes (entry_at s i) (sound_at s long sound i h))
      ∙ ap (running_in s.critical) (sym (row_here s long i h))

  pub boarding_size : (buffer : List ℕ) (at i : ℕ) → Boarding s buffer at i → length buffer ≡ 2 * s.processors
  boarding_size buffer at i b = ap length b.bytes ∙ board_length s.processors s.critical (model_of s).rows (shares_fit s sound) i

  pub boarding_room : (buffer : List ℕ) (at i : ℕ) → i < s.count → Boarding s buffer at i
      → at + 2 * share_in s.critical (entry_at s i).share ≤ 2 * s.processors
  boarding_room buffer at i h b =
      omega (
        arith,
        b.place,
        share_here i h,
        board_room s.processors s.critical (model_of s).rows (shares_fit s sound) i (omega (arith, model_length s long)),
      )

  pub boarding_fits : (buffer : List ℕ) (at i : ℕ) → i < s.count → Boarding s buffer at i
      → at + 2 * length (members 32 (running_set (share_in s.critical (entry_at s i).share) (row_of (entry_at s i)))) ≤ length buffer
  boarding_fits buffer at i h b =
      omega (
        arith,
        boarding_size buffer at i b,
        boarding_room buffer at i h b,
        ap length (nodes_here i h),
        share_here i h,
        running-count (grant_in s.critical (get_or (model_of s).rows i no_row)) (get_or (model_of s).rows i no_row),
      )

  pub boarding_more : (buffer : List ℕ) (at i : ℕ) → i < s.count → Boarding s buffer at i
      → Boarding s (sets buffer at (pairs_of i (members 32 (running_set (share_in s.critical (entry_at s i).share) (row_of (entry_at s i)))))) (at + 2 * share_in s.critical (entry_at s i).share) (i + 1)
  boarding_more buffer at i h b =
      let inside : i < length (model_of s).rows = omega (arith, model_length s long) in
      record {
        place =
            rw (add-one i)
            (omega (arith, b.place, share_here i h, shares_more s.critical (model_of s).rows i inside));
        bytes =
            rw (b.bytes, b.place, nodes_here i h)
            (board_more s.processors s.critical (model_of s).rows (shares_fit s sound) i inside);
      }

  pub boarding_all : (buffer : List ℕ) (at i : ℕ) → s.count ≤ i → Boarding s buffer at i → buffer ≡ board_bytes s.processors (model_of s)
  unfolding board_bytes model_of
  boarding_all buffer at i h b =
      b.bytes
      ∙ board_whole s.processors s.critical (model_of s).rows (shares_fit s sound) i (omega (arith, model_length s long))
      ∙ ap (λ (xs : List ℕ). xs ++ idle (s.processors - shares_in s.critical (model_of s).rows)) (sym (blocks-granted (model_of s)))

-- Board by its answer: refusal 10, refusal 16, or acceptance.
module _ (s : State) (bytes : ℕ) where
  pub answer_unsound : is_sound s ≡ false → board_answer s bytes ≡ Err NotSound
  unfolding board_answer
  answer_unsound e = rw e

  pub answer_length : is_sound s ≡ true → (bytes ≡ 2 * s.processors → ⊥) → board_answer s bytes ≡ Err WrongLength
  unfolding board_answer
  answer_length e other = rw (e, ne_eqb bytes (2 * s.processors) other)

  pub answer_accepted : is_sound s ≡ true → bytes ≡ 2 * s.processors → board_answer s bytes ≡ Ok tt
  unfolding board_answer
  answer_accepted e same = rw (e, eq-eqb bytes (2 * s.processors) same)
