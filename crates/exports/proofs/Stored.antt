-- Words stored one behind the other: what is done, with what is left, is the whole.
use Prim.Native.Nat.{ℕ, suc, ◌+◌, ◌-◌, ◌≤◌, ◌<◌}
use mathlib.Core.Path.{◌≡◌, refl, sym, subst, ◌∙◌}
use mathlib.Core.Bool.{Bool, true, false}
use mathlib.Core.List.{List, [], ◌∷◌, ◌++◌, append-nil, append_assoc}
use mir.Val.{bool_byte}
use borrow.Rule.Slice.PartMut.{put_mid}
use native.Mathlib.Numerals.{add-one}
use native.Mathlib.Omega.{arith}
use native.Mathlib.Decide.{dec_lt}
use lib.ListN.{length, get_or, take, drop, set, length-drop, drop_of_length-le}
use lib.Seq.{drop-cons, drop-drop, sets, length-sets, sets-eq}
use Rattle.std.proofs.lemmas.List.{take_rest, get_or_default}
use Rattle.basics.specs.Lists.{bit}
use Rattle.basics.proofs.Bytes.{sets-append}
use Rattle.entries.specs.declared.state.TaskState.{TaskState}
use Rattle.start.specs.Fresh.{zero_entry}
use Rattle.dispatcher.specs.declared.state.State.{State}
use Rattle.exports.specs.Words.{entry_start, state_size, entry_words, entries_words, state_words, EntryHeld, StateHeld}
use Rattle.exports.proofs.Codec.{entry_long, same_said}

-- A mark in a word.
pub mark_word : (b : Bool) → bool_byte b ≡ bit b
mark_word true = refl
mark_word false = refl

-- Words written over the front of a line's rest are written over the line.
pub rest_written : (line words : List ℕ) (at : ℕ) → at + length words ≤ length line →
    put_mid at (length line - at) line (sets (take (length line - at) (drop at line)) 0 words) ≡ sets line at words
rest_written line words at inside =
    let none : drop (length line - at) (drop at line) ≡ [] =
    drop_of_length-le (drop at line) {i = length line - at} (omega (arith, length-drop at line)) in
    let front : 0 + length words ≡ length words = omega arith in
    rw (take_rest line at, none, append-nil (sets (drop at line) 0 words))
    (rw (sets-eq words (drop at line) 0 (omega (arith, length-drop at line)), sets-eq words line at inside, front, drop-drop (length words) at line, append_assoc (take at line) words (drop (at + length words) line)))

pub entry_written : (line : List ℕ) (e : TaskState) (i : ℕ) → EntryHeld e → i < 16 → length line ≡ state_size →
    put_mid (entry_start i) (length line - entry_start i) line
    (sets (take (length line - entry_start i) (drop (entry_start i) line)) 0 (entry_words e))
    ≡ sets line (entry_start i) (entry_words e)
entry_written line e i held inside long =
    rest_written line (entry_words e) (entry_start i) (omega (arith, entry_long e held.masks, long))

-- Two words, the masks and seven words are an entry's.
module _ (line : List ℕ) (at : ℕ) (e : TaskState) (masks : length e.predecessors ≡ 32) where
  pub entry_stored : (mid : List ℕ) (alive : ℕ) → mid ≡ sets (set (set line at e.level) (at + 1) e.nodes) (at + 2) e.predecessors →
      alive ≡ bit e.job.alive →
      set
      (set
      (set (set (set (set (set mid (at + 34) e.deadline) (at + 35) e.virtual_deadline) (at + 36) e.share.typical) (at + 37) e.share.critical) (at + 38) e.age)
      (at + 39)
      e.job.ended)
      (at + 40)
      alive
      ≡ sets line at (entry_words e)
  unfolding entry_words
  entry_stored mid alive so_far last =
      let one : at + 1 ≡ suc at = omega arith in
      let two : at + 2 ≡ suc (suc at) = omega arith in
      let p0 : at + 34 ≡ suc (suc at) + length e.predecessors = omega arith in
      let p1 : at + 35 ≡ suc (suc (suc at) + length e.predecessors) = omega arith in
      let p2 : at + 36 ≡ suc (suc (suc (suc at) + length e.predecessors)) = omega arith in
      let p3 : at + 37 ≡ suc (suc (suc (suc (suc at) + length e.predecessors))) = omega arith in
      let p4 : at + 38 ≡ suc (suc (suc (suc (suc (suc at) + length e.predecessors)))) = omega arith in
      let p5 : at + 39 ≡ suc (suc (suc (suc (suc (suc (suc at) + length e.predecessors))))) = omega arith in
      let p6 : at + 40 ≡ suc (suc (suc (suc (suc (suc (suc (suc at) + length e.predecessors)))))) = omega arith in
      rw (so_far, last, p0, p1, p2, p3, p4, p5, p6, two, one)
      (sym (sets-append (set (set line at e.level) (suc at) e.nodes) (suc (suc at)) e.predecessors _))

-- On the way through a state's entries: what is written, with what is left to write, is the whole, and the values of
-- the entries passed fit.
pub record Storing (entries : List TaskState) (whole line : List ℕ) (i : ℕ) : Type 0 where
  pub upto : i ≤ 16
  pub size : length line ≡ state_size
  pub left : sets line (entry_start i) (entries_words (drop i entries)) ≡ whole
  pub held : (j : ℕ) → j < i → EntryHeld (get_or entries j zero_entry)

module _ (entries : List TaskState) (sixteen : length entries ≡ 16) where
  pub storing_more : (whole line : List ℕ) (i : ℕ) (none : TaskState) → i < 16 → EntryHeld (get_or entries i none) → Storing entries whole line i →
      Storing entries whole (sets line (entry_start i) (entry_words (get_or entries i none))) (i + 1)
  storing_more whole line i none inside fits so_far =
      let e = get_or entries i none in
      let rest = entries_words (drop (suc i) entries) in
      let open_one : drop i entries ≡ e ∷ drop (suc i) entries = drop-cons entries i none (omega arith) in
      let next : entry_start (i + 1) ≡ entry_start i + length (entry_words e) = omega (arith, entry_long e fits.masks) in
      let left : sets line (entry_start i) (entry_words e ++ rest) ≡ whole = rw open_one at so_far.left in
      record {
        upto = omega arith;
        size = length-sets line (entry_start i) (entry_words e) ∙ so_far.size;
        left = rw (next, add-one i) (sym (sets-append line (entry_start i) (entry_words e) rest) ∙ left);
        held = λ j h. go j h (dec_lt j i);
      }
    where
      go : (j : ℕ) → j < i + 1 → Dec (j < i) → EntryHeld (get_or entries j zero_entry)
      go j h (yes before) = so_far.held j before
      go j h (no last) =
          let same : i ≡ j = omega arith in
          subst (λ (n : ℕ). EntryHeld (get_or entries n zero_entry)) same
          (subst EntryHeld (get_or_default entries i none zero_entry (omega arith)) fits)

  pub storing_all : (whole line : List ℕ) (i : ℕ) → 16 ≤ i → Storing entries whole line i → (line ≡ whole) × ((j : ℕ) → j < 16 → EntryHeld (get_or entries j zero_entry))
  storing_all whole line i done so_far =
      (rw (drop_of_length-le entries {i = i} (omega arith)) at so_far.left, λ j h. so_far.held j (omega arith))

-- Three words in front of the entries', over a line of the same length, are a state's.
pub state_stored : (s : State) (line : List ℕ) (mode : ℕ) → length line ≡ state_size → StateHeld s → mode ≡ bit s.critical →
    sets (set (set (set line 0 s.processors) 1 s.count) 2 mode) 3 (entries_words s.entries) ≡ state_words s
unfolding state_words
state_stored s line mode long held last =
    let words = s.processors ∷ s.count ∷ mode ∷ entries_words s.entries in
    let none : drop (0 + length words) line ≡ [] = drop_of_length-le line {i = 0 + length words} (omega (arith, same_said.long s held)) in
    sets-eq words line 0 (omega (arith, same_said.long s held)) ∙ (rw (none, append-nil words, last))
