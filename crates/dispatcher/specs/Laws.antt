-- What Release and Tick keep and what a board shows, as laws that functions of `promise` promise. Each is proved in
-- proofs/.
use Rattle.std.specs.Prelude.{ℕ, ◌+◌, ◌*◌, ◌≤◌, ◌<◌, true, List, ◌≡◌, length, get_or, take, Err}
use Rattle.sheet.specs.declared.refusal.Refusal.{Refusal}
use Rattle.shares.specs.Totals.{share_total}
use Rattle.model.specs.Step.{step, release, tick, granted, running_at}
use Rattle.dispatcher.specs.declared.state.State.{State}
use Rattle.dispatcher.specs.declared.tick.TickAnswer.TheVariants.{Refused as TickRefused}
use Rattle.dispatcher.specs.Holds.{model_of, row_shares}
use Rattle.dispatcher.specs.Sound.{is_sound}
use Rattle.dispatcher.specs.Calls.{release_of, tick_of}
use Rattle.dispatcher.specs.Board.{unused, board_bytes}

-- S7.2: a sound state stays sound under Release.
abbrev pub ReleaseSound : Type 0
ReleaseSound = (s : State) (i : ℕ) → is_sound s ≡ true → is_sound (release_of s i).state ≡ true

-- S7.2: and under Tick.
abbrev pub TickSound : Type 0
TickSound = (s : State) (reports : List ℕ) → is_sound s ≡ true → is_sound (tick_of s reports).state ≡ true

-- S10.3: the state after a release holds the model after its step.
abbrev pub ReleaseModel : Type 0
ReleaseModel =
    (s : State) (i : ℕ) → is_sound s ≡ true → model_of (release_of s i).state ≡ (step (model_of s) (release i)).model

-- S10.3: and so does the state after a tick.
abbrev pub TickModel : Type 0
TickModel =
    (s : State) (reports : List ℕ) → is_sound s ≡ true →
    model_of (tick_of s reports).state ≡ (step (model_of s) (tick reports)).model

-- S3.4: a refused release hands back an equal state.
abbrev pub ReleaseBack : Type 0
ReleaseBack = (s : State) (i : ℕ) (r : Refusal) → (release_of s i).answer ≡ Err r → (release_of s i).state ≡ s

-- S3.4: and so does a refused tick.
abbrev pub TickBack : Type 0
TickBack =
    (s : State) (reports : List ℕ) (r : Refusal) → (tick_of s reports).answer ≡ TickRefused r → (tick_of s reports).state ≡ s

-- The pair of processor p, in bytes.
pub record Shows (bytes : List ℕ) (p task node : ℕ) : Type 0 where
  pub first : get_or bytes (2 * p) 0 ≡ task
  pub second : get_or bytes (2 * p + 1) 0 ≡ node

-- S8.8: what the board of a state shows.
pub record BoardShows (s : State) (bytes : List ℕ) : Type 0 where
  -- It has M pairs.
  pub size : length bytes ≡ 2 * s.processors
  -- A task's running nodes fill its block from the front,
  pub nodes : (i j : ℕ) → i < s.count → j < length (running_at (model_of s) i)
      → Shows bytes (share_total s.critical (row_shares (take i (model_of s).rows)) + j) i (get_or (running_at (model_of s) i) j 0)
  -- each of them once, lowest first;
  pub once : (i j l : ℕ) → j < l → l < length (running_at (model_of s) i)
      → get_or (running_at (model_of s) i) j 0 < get_or (running_at (model_of s) i) l 0
  -- what is left of the block is 255, 255,
  pub rest : (i j : ℕ) → i < s.count → length (running_at (model_of s) i) ≤ j
      → j < granted (model_of s) i
      → Shows bytes (share_total s.critical (row_shares (take i (model_of s).rows)) + j) unused unused
  -- and so is all behind the blocks.
  pub behind : (p : ℕ) → share_total s.critical (row_shares (model_of s).rows) ≤ p → p < s.processors → Shows bytes p unused unused

-- S8.8: the board of a sound state shows each running node once, in its task's block, and 255, 255 elsewhere.
unfoldable pub BoardsShow : Type 0
BoardsShow =
    (s : State) → is_sound s ≡ true → s.count ≤ length s.entries → BoardShows s (board_bytes s.processors (model_of s))
