-- The entries that are read, passed one after the other: what is left of them, and their soundness and shares so far.
use Prim.Native.Nat.{ℕ, zero, suc, ◌+◌, ◌*◌, ◌≤◌, ◌<◌}
use mathlib.Core.Path.{◌≡◌, refl, sym, ap, ◌∙◌}
use mathlib.Core.Bool.{true, false, ◌&&◌, and-eq-true_iff}
use mathlib.Core.List.{List, [], ◌∷◌, map}
use native.Mathlib.Nat.{zero-add, add-zero}
use native.Mathlib.Numerals.{add-one}
use native.Mathlib.Omega.{arith}
use lib.Dec.{leb}
use lib.ListN.{length, get_or, take, drop, drop_of_length-le}
use lib.Seq.{length-take-le, drop-cons, get_or-take}
use Rattle.entries.specs.declared.state.TaskState.{TaskState}
use Rattle.dispatcher.specs.declared.state.State.{State}
use Rattle.entries.specs.Entry.{fixed_of, row_of}
use Rattle.dispatcher.specs.Holds.{entries_of, model_of}
use Rattle.entries.specs.Sound.{entry_sound}
use Rattle.dispatcher.specs.Sound.{entries_sound, is_sound}
use Rattle.dispatcher.proofs.Soundness.{shares_in, state_facts}

-- What a read past the line would give.
abbrev pub no_entry : TaskState
no_entry =
    record {
      level = 0;
      nodes = 0;
      predecessors = [];
      deadline = 0;
      virtual_deadline = 0;
      share = record { typical = 0; critical = 0 };
      age = 0;
      job = record { ended = 0; alive = false };
    }

-- Entry i of the line.
abbrev pub entry_at : State → ℕ → TaskState
entry_at s i = get_or s.entries i no_entry

module _ (s : State) (long : s.count ≤ length s.entries) where
  pub entries_length : length (entries_of s) ≡ s.count
  unfolding entries_of
  entries_length = length-take-le s.count s.entries long

  pub entries_at : (i : ℕ) → i < s.count → get_or (entries_of s) i no_entry ≡ entry_at s i
  unfolding entries_of
  entries_at i h = get_or-take s.count s.entries i no_entry h

  pub left_next : (i : ℕ) → i < s.count → drop i (entries_of s) ≡ entry_at s i ∷ drop (suc i) (entries_of s)
  left_next i h =
      drop-cons (entries_of s) i no_entry (omega (arith, entries_length))
      ∙ ap (λ (e : TaskState). e ∷ drop (suc i) (entries_of s)) (entries_at i h)

  pub left_none : (i : ℕ) → s.count ≤ i → drop i (entries_of s) ≡ []
  left_none i h = drop_of_length-le (entries_of s) {i = i} (omega (arith, entries_length))

-- The entry that a pass over the first entries comes to.
pub turn_entry : (s : State) (n i : ℕ) → n ≡ s.count → i < s.count → get_or (take n s.entries) i no_entry ≡ entry_at s i
turn_entry s n i count h = rw count (get_or-take s.count s.entries i no_entry h)

-- So far every entry is sound, and these are the shares: what is passed, with what is left, is the whole.
pub record Passed (s : State) (i typical critical : ℕ) : Type 0 where
  pub sound : entries_sound (drop i (entries_of s)) ≡ entries_sound (entries_of s)
  pub typicals : typical + shares_in false (map row_of (drop i (entries_of s))) ≡ shares_in false (model_of s).rows
  pub criticals : critical + shares_in true (map row_of (drop i (entries_of s))) ≡ shares_in true (model_of s).rows
  pub typical_small : typical ≤ 255 * i
  pub critical_small : critical ≤ 255 * i

module _ (s : State) (long : s.count ≤ length s.entries) where
  pub passed_none : Passed s 0 0 0
  unfolding model_of
  passed_none =
      record {
        sound = refl;
        typicals = zero-add (shares_in false (model_of s).rows);
        criticals = zero-add (shares_in true (model_of s).rows);
        typical_small = omega arith;
        critical_small = omega arith;
      }

  pub passed_broken : (i typical critical : ℕ) → i < s.count → entry_sound (entry_at s i) ≡ false → Passed s i typical critical
      → entries_sound (entries_of s) ≡ false
  passed_broken i typical critical h e p = sym p.sound ∙ rw (left_next s long i h, e)

  pub passed_more : (i typical critical : ℕ) → i < s.count → entry_sound (entry_at s i) ≡ true
      → (entry_at s i).share.typical < 256 → (entry_at s i).share.critical < 256 → Passed s i typical critical
      → Passed s (i + 1) (typical + (entry_at s i).share.typical) (critical + (entry_at s i).share.critical)
  unfolding row_of fixed_of
  passed_more i typical critical h e a b p =
      let sounds : (entry_sound (entry_at s i) && entries_sound (drop (suc i) (entries_of s))) ≡ entries_sound (entries_of s) = rw (left_next s long i h) at p.sound in
      let ts : typical + ((entry_at s i).share.typical + shares_in false (map row_of (drop (suc i) (entries_of s)))) ≡ shares_in false (model_of s).rows = rw (left_next s long i h) at p.typicals in
      let cs : critical + ((entry_at s i).share.critical + shares_in true (map row_of (drop (suc i) (entries_of s)))) ≡ shares_in true (model_of s).rows = rw (left_next s long i h) at p.criticals in
      let small : typical ≤ 255 * i = p.typical_small in
      let few : critical ≤ 255 * i = p.critical_small in
      rw (add-one i)
      (record {
        sound = rw e at sounds;
        typicals = omega arith;
        criticals = omega arith;
        typical_small = omega arith;
        critical_small = omega arith;
      })

  pub passed_all : (i typical critical : ℕ) → s.count ≤ i → Passed s i typical critical
      → (leb typical s.processors && leb critical s.processors)
      ≡ (entries_sound (entries_of s) && leb (shares_in false (model_of s).rows) s.processors && leb (shares_in true (model_of s).rows) s.processors)
  passed_all i typical critical h p =
      let none = left_none s long i h in
      let sound : true ≡ entries_sound (entries_of s) = rw none at p.sound in
      let ts : typical + 0 ≡ shares_in false (model_of s).rows = rw none at p.typicals in
      let cs : critical + 0 ≡ shares_in true (model_of s).rows = rw none at p.criticals in
      rw (← sound, ← ts, ← cs, add-zero typical, add-zero critical)

-- Nothing is left past the entries that are read.
module _ (s : State) (i : ℕ) (past : length (take s.count s.entries) ≤ i) where
  nothing_past : drop i (entries_of s) ≡ []
  unfolding entries_of
  nothing_past = drop_of_length-le (take s.count s.entries) {i = i} past

  pub left_sound : entries_sound (drop i (entries_of s)) ≡ true
  left_sound = rw nothing_past refl

  pub left_typical : shares_in false (map row_of (drop i (entries_of s))) ≡ 0
  left_typical = rw nothing_past refl

  pub left_critical : shares_in true (map row_of (drop i (entries_of s))) ≡ 0
  left_critical = rw nothing_past refl

-- Every entry that is read of a sound state is sound.
pub sound_in : (es : List TaskState) (i : ℕ) → entries_sound es ≡ true → i < length es → entry_sound (get_or es i no_entry) ≡ true
sound_in [] i t h = absurd (omega arith)
sound_in (e ∷ es) zero t h = ((and-eq-true_iff (entry_sound e) (entries_sound es)).0 t).0
sound_in (e ∷ es) (suc i) t h = sound_in es i ((and-eq-true_iff (entry_sound e) (entries_sound es)).0 t).1 (omega arith)

pub sound_at : (s : State) (long : s.count ≤ length s.entries) → is_sound s ≡ true → (i : ℕ) → i < s.count → entry_sound (entry_at s i) ≡ true
sound_at s long t i h =
    rw (entries_at s long i h) at (sound_in (entries_of s) i (state_facts s t).entries (omega (arith, entries_length s long)))
