-- Calls repeated: one of those that are left, and then the others.
use Prim.Native.Nat.{ℕ, zero, suc, ◌%◌, ◌+◌, ◌-◌, ◌≤◌, ◌<◌}
use mathlib.Core.Path.{◌≡◌, refl, ap, ◌∙◌}
use mathlib.Core.Bool.{true, false}
use mathlib.Core.List.{List, [], ◌∷◌}
use lib.ListN.{length, get_or}
use native.Mathlib.Numerals.{add-one}
use native.Mathlib.Omega.{arith}
use Rattle.dispatcher.specs.declared.state.State.{State}
use Rattle.dispatcher.specs.Answers.{Ticked}
use Rattle.dispatcher.specs.Calls.{release_of, tick_of}
use Rattle.dispatcher.specs.Board.{boarded_of, board_of}
use Rattle.sheet.specs.Refusal.{answer_word}
use Rattle.exports.specs.Ticks.{accepted_word, tick_word}
use Rattle.exports.specs.Words.{state_from, is_state}
use Rattle.exports.specs.Repeats.{ticks_word, last_word, boards_of, ticks_call, releases_call, boards_call}
use Rattle.exports.proofs.Called.{Does}

-- Of two copies each is the state.
pub by_turns : (s other : State) (i : ℕ) → get_or (s ∷ s ∷ []) (i % 2) other ≡ s
by_turns s other i = go (i % 2) (omega arith)
  where
    go : (k : ℕ) → k < 2 → get_or (s ∷ s ∷ []) k other ≡ s
    go zero h = refl
    go (suc zero) h = refl
    go (suc (suc k)) h = absurd (omega arith)

module _ (count i word : ℕ) (s : State) (reports : List ℕ) where
  pub ticks_next : i < count → (next : ℕ) (t : Ticked) → next ≡ tick_word t.answer → t ≡ tick_of s reports →
      ticks_word (count - (i + 1)) next t.state reports ≡ ticks_word (count - i) word s reports
  unfolding ticks_word
  ticks_next more next t told ticked =
      let left : count - i ≡ suc (count - (i + 1)) = omega arith in
      rw (told, ticked, left)

  pub ticks_none : count ≤ i → word ≡ ticks_word (count - i) word s reports
  unfolding ticks_word
  ticks_none done = let none : count - i ≡ 0 = omega arith in rw none

pub last_next : (i x word : ℕ) → x ≡ word → x ≡ last_word (i + 1) word
unfolding last_word
last_next i x word told = rw (add-one i) told

pub boards_next : (i : ℕ) (s : State) (old mid out : List ℕ) → mid ≡ boards_of i s old → out ≡ board_of s mid → out ≡ boards_of (i + 1) s old
unfolding boards_of
boards_next i s old mid out so_far next = rw (add-one i) (next ∙ ap (board_of s) so_far)

-- Of a line that is no state, and of one that is.
module _ (count : ℕ) (line reports : List ℕ) where
  pub ticks_no_state : is_state line ≡ false → 65380 ≡ (ticks_call count line reports).word
  unfolding ticks_call
  ticks_no_state none = rw none

  pub ticks_of_state : is_state line ≡ true → ticks_word count accepted_word (state_from line) reports ≡ (ticks_call count line reports).word
  unfolding ticks_call
  ticks_of_state is = rw is

module _ (count : ℕ) (line : List ℕ) (task : ℕ) where
  pub releases_no_state : is_state line ≡ false → 65380 ≡ (releases_call count line task).word
  unfolding releases_call
  releases_no_state none = rw none

  pub releases_of_state : is_state line ≡ true → last_word count (answer_word (release_of (state_from line) task).answer) ≡ (releases_call count line task).word
  unfolding releases_call
  releases_of_state is = rw is

module _ (count : ℕ) (line buffer : List ℕ) where
  pub boards_no_state : is_state line ≡ false → Does (boards_call count line buffer) 65380 buffer
  unfolding boards_call
  boards_no_state none = rw none (refl, refl)

  pub boards_of_state : is_state line ≡ true →
      Does (boards_call count line buffer) (last_word count (answer_word (boarded_of (state_from line) (length buffer)).answer)) (boards_of count (state_from line) buffer)
  unfolding boards_call
  boards_of_state is = rw is (refl, refl)
