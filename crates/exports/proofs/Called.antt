-- The calls case by case: no state, a state whose call is refused, and one whose call is accepted. A refused call
-- hands the state back, and the words of what a line says are the line's.
use Prim.Native.Nat.{ℕ}
use mathlib.Core.Path.{◌≡◌, refl, sym, ap, ◌∙◌}
use mathlib.Core.Bool.{true, false}
use mathlib.Core.List.{List}
use native.Mathlib.Omega.{arith}
use lib.ListN.{length}
use borrow.Author.Tests.{eq-eqb, ne_eqb}
use Rattle.sheet.specs.Refusal.{Answer}
use Rattle.std.specs.Prelude.{Ok, Err}
use Rattle.sheet.specs.declared.refusal.Refusal.{Refusal}
use Rattle.dispatcher.specs.declared.state.State.{State}
use Rattle.dispatcher.specs.Answers.{Released}
use Rattle.dispatcher.specs.Answers.{Ticked}
use Rattle.dispatcher.specs.declared.tick.TickAnswer.TheVariants.{Refused as TickRefused}
use Rattle.dispatcher.specs.Answers.{Boarded}
use Rattle.dispatcher.specs.Calls.{release_of, tick_of}
use Rattle.dispatcher.specs.Board.{boarded_of, board_of}
use Rattle.dispatcher.proofs.Laws.{release_back, tick_back}
use Rattle.start.specs.Start.{Started}
use Rattle.start.specs.Start.{start_of}
use Rattle.sheet.specs.Refusal.{answer_word}
use Rattle.exports.specs.Ticks.{tick_word}
use Rattle.exports.specs.Words.{state_size, state_words, state_from, is_state, StateHeld}
use Rattle.exports.specs.Calls.{Called, no_state, start_left, start_call, release_call, tick_call, board_call, StartTaken}
use Rattle.exports.proofs.Codec.{same_said}

-- What a call answers and leaves, as the code knows it.
abbrev pub Does : Called → ℕ → List ℕ → Type 0
Does called word left = (word ≡ called.word) × (left ≡ called.left)

does : {called : Called} (word : ℕ) (left : List ℕ) → called ≡ record { word = word; left = left } → Does called word left
does word left e = (sym (ap (λ (c : Called). c.word) e), sym (ap (λ (c : Called). c.left) e))

-- Start.
module _ (sheet line : List ℕ) where
  pub start-length : (length line ≡ state_size → ⊥) → Does (start_call sheet line) 65380 line
  unfolding start_call
  start-length short = rw (ne_eqb (length line) state_size short) (refl, refl)

  -- What is not written is a state, where it has to be: it never has to.
  pub start_short : (length line ≡ state_size → ⊥) → (left : List ℕ) → StartTaken sheet line left
  unfolding StartTaken
  start_short short left long accepted = absurd (short long)

  pub start_untaken : (s : Started) → s ≡ start_of sheet → {r : Refusal} → s.answer ≡ Err r → (left : List ℕ) → StartTaken sheet line left
  unfolding StartTaken
  start_untaken s started {r} refused left long accepted = absurd (never (sym accepted ∙ ap (λ (s : Started). s.answer) (sym started) ∙ refused))
    where
      never : ◌≡◌ {A = Answer} (Ok tt) (Err r) → ⊥
      never e = let z : ◌≡◌ {A = ℕ} 0 1 = ap told e in omega arith
        where
          told : Answer → ℕ
          told (Ok x) = 0
          told (Err r) = 1

  pub start_taken : (s : State) → StateHeld s → (left : List ℕ) → left ≡ state_words s → StartTaken sheet line left
  unfolding StartTaken
  start_taken s held left written long accepted = rw written (same_said.taken s held)

  module _ (long : length line ≡ state_size) (s : Started) (started : s ≡ start_of sheet) where
    start_answered : (a : Answer) → s.answer ≡ a → start_call sheet line ≡ record { word = answer_word a; left = start_left a s.state line }
    unfolding start_call
    start_answered a answered =
        rw (eq-eqb (length line) state_size long)
        (ap (λ (s : Started). record { word = answer_word s.answer; left = start_left s.answer s.state line }) (sym started)
        ∙ ap (λ (a : Answer). record { word = answer_word a; left = start_left a s.state line }) answered)

    pub start_refused : (word : ℕ) {r : Refusal} → word ≡ answer_word (Err r) → s.answer ≡ Err r → Does (start_call sheet line) word line
    start_refused word {r} said refused = rw said (does _ line (start_answered (Err r) refused))

    pub start_accepted : (word : ℕ) (out : List ℕ) → word ≡ answer_word s.answer → out ≡ state_words s.state → s.answer ≡ Ok tt → Does (start_call sheet line) word out
    start_accepted word out said written accepted =
        rw (said, written, accepted) (does (answer_word (Ok tt)) (state_words s.state) (start_answered (Ok tt) accepted))

-- A call on a line that is a state: the state that was read, and what the call on it returned, an answer's word and a
-- state.
module _
    {R : Type 0}
    (word : R → ℕ)
    (state : R → State)
    (of : State → R)
    (line : List ℕ)
    {called : Called}
    (called_is : called ≡ record { word = word (of (state_from line)); left = state_words (state (of (state_from line))) })
    (s : State)
    (read : s ≡ state_from line)
    (r : R)
    (returned : r ≡ of s)
  where
    answered : called ≡ record { word = word r; left = state_words (state r) }
    answered = called_is ∙ ap (λ (r : R). record { word = word r; left = state_words (state r) }) (sym (returned ∙ ap of read))

    -- The state comes back, and so the line stays.
    handed_back : is_state line ≡ true → (said : ℕ) → said ≡ word r → state r ≡ s → Does called said line
    handed_back is said e back =
        rw e (does _ line (answered ∙ ap (λ (l : List ℕ). record { word = word r; left = l }) (ap state_words (back ∙ read) ∙ same_said.words line is)))

    written_over : (said : ℕ) (out : List ℕ) → said ≡ word r → out ≡ state_words (state r) → Does called said out
    written_over said out e written = rw (e, written) (does _ (state_words (state r)) answered)

-- Release.
module _ (line : List ℕ) (task : ℕ) where
  pub release_none : is_state line ≡ false → release_call line task ≡ no_state line
  unfolding release_call
  release_none none = rw none

  release_called : is_state line ≡ true →
      release_call line task ≡ record { word = answer_word (release_of (state_from line) task).answer; left = state_words (release_of (state_from line) task).state }
  unfolding release_call
  release_called is = rw is

  module _ (is : is_state line ≡ true) (s : State) (read : s ≡ state_from line) (r : Released) (released : r ≡ release_of s task) where
    pub release_refused : (word : ℕ) {refusal : Refusal} → word ≡ answer_word (Err refusal) → r.answer ≡ Err refusal → Does (release_call line task) word line
    release_refused word {refusal} said refused =
        handed_back (λ (r : Released). answer_word r.answer) (λ (r : Released). r.state) (λ (s : State). release_of s task) line (release_called is) s read r released is word (said ∙ sym (ap answer_word refused))
        (ap (λ (r : Released). r.state) released
        ∙ release_back s task (sym (ap (λ (r : Released). r.answer) released) ∙ refused))

    pub release_accepted : (word : ℕ) (out : List ℕ) → word ≡ answer_word r.answer → out ≡ state_words r.state → Does (release_call line task) word out
    release_accepted word out said written =
        written_over (λ (r : Released). answer_word r.answer) (λ (r : Released). r.state) (λ (s : State). release_of s task) line (release_called is) s read r released word out said written

-- Tick.
module _ (line reports : List ℕ) where
  pub tick_none : is_state line ≡ false → tick_call line reports ≡ no_state line
  unfolding tick_call
  tick_none none = rw none

  tick_called : is_state line ≡ true →
      tick_call line reports ≡ record { word = tick_word (tick_of (state_from line) reports).answer; left = state_words (tick_of (state_from line) reports).state }
  unfolding tick_call
  tick_called is = rw is

  module _ (is : is_state line ≡ true) (s : State) (read : s ≡ state_from line) (t : Ticked) (ticked : t ≡ tick_of s reports) where
    pub tick_refused : (word : ℕ) {refusal : Refusal} → word ≡ answer_word (Err refusal) → t.answer ≡ TickRefused refusal → Does (tick_call line reports) word line
    unfolding tick_word
    tick_refused word {refusal} said refused =
        handed_back (λ (t : Ticked). tick_word t.answer) (λ (t : Ticked). t.state) (λ (s : State). tick_of s reports) line (tick_called is) s read t ticked is word (said ∙ sym (ap tick_word refused))
        (ap (λ (t : Ticked). t.state) ticked
        ∙ tick_back s reports (sym (ap (λ (t : Ticked). t.answer) ticked) ∙ refused))

    pub tick_accepted : (word : ℕ) (out : List ℕ) → word ≡ tick_word t.answer → out ≡ state_words t.state → Does (tick_call line reports) word out
    tick_accepted word out said written =
        written_over (λ (t : Ticked). tick_word t.answer) (λ (t : Ticked). t.state) (λ (s : State). tick_of s reports) line (tick_called is) s read t ticked word out said written

-- Board.
module _ (line buffer : List ℕ) where
  pub board_none : is_state line ≡ false → board_call line buffer ≡ no_state buffer
  unfolding board_call
  board_none none = rw none

  pub board_called : is_state line ≡ true → (s : State) → s ≡ state_from line → (b : Boarded) → b ≡ boarded_of s (length buffer) →
      (word : ℕ) (out : List ℕ) → word ≡ answer_word b.answer → out ≡ board_of s buffer → Does (board_call line buffer) word out
  unfolding board_call
  board_called is s read b boarded word out said written =
      rw (is, said, written, boarded, read) (refl, refl)

-- The answer to what is no state, as the code gives it.
pub says_none : {called : Called} (left : List ℕ) → called ≡ no_state left → Does called 65380 left
says_none left e = does 65380 left e
