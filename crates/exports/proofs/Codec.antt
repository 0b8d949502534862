-- S13.1, S13.2: words and states say the same, with nothing lost either way (`same_said`). An entry's words are taken
-- apart at the masks, which are 32; a state's words entry by entry, each 41 behind the one before.
use Prim.Native.Nat.{ℕ, zero, suc, ◌+◌, ◌*◌, ◌≤◌, ◌<◌}
use mathlib.Core.Path.{◌≡◌, refl, sym, ap, ap₂, subst⁻¹, ◌∙◌}
use mathlib.Core.Bool.{Bool, true, false}
use mathlib.Core.List.{List, [], ◌∷◌, ◌++◌, map, append_assoc}
use native.Mathlib.Omega.{arith}
use lib.ListN.{length, get_or, take, drop, length-append, length-drop, length-map, take-append-drop, drop_of_length-le}
use lib.Seq.{take_at, drop_at, take-add, drop-drop, drop-cons, get_or-append-add, length-take-le}
use Rattle.std.proofs.lemmas.List.{at_drop_more}
use native.Mathlib.Nat.{zero-add}
use Rattle.basics.specs.Lists.{range, bit}
use Rattle.basics.proofs.Lists.{length-range, get_or-map_range}
use Rattle.entries.specs.declared.state.TaskState.{TaskState}
use Rattle.start.specs.Fresh.{zero_entry}
use Rattle.dispatcher.specs.declared.state.State.{State}
use Rattle.exports.specs.Words.{entry_size, entry_start, state_size, entry_words, entries_words, state_words, is_set, entry_from, entry_at, state_from, entry_fits, is_state, EntryHeld, StateHeld, SameSaid}
use Rattle.exports.proofs.Lines.{Fitting, entry_fitting, fitting_entry, StateLine, state_line, line_state}

mark_said : (b : Bool) → is_set (bit b) ≡ b
unfolding is_set
mark_said true = refl
mark_said false = refl

mark-small : (b : Bool) → bit b < 2
mark-small true = omega arith
mark-small false = omega arith

mark_word : (w : ℕ) → w < 2 → bit (is_set w) ≡ w
unfolding is_set
mark_word zero h = refl
mark_word (suc zero) h = refl
mark_word (suc (suc w)) h = absurd (omega arith)

-- Words of an entry with others behind them.
module _ (e : TaskState) (held : EntryHeld e) (rest : List ℕ) where
  -- The seven words behind the masks.
  tail : List ℕ
  tail =
      e.deadline
      ∷ e.virtual_deadline
      ∷ e.share.typical
      ∷ e.share.critical
      ∷ e.age
      ∷ e.job.ended
      ∷ bit e.job.alive
      ∷ []

  apart : entry_words e ++ rest ≡ e.level ∷ e.nodes ∷ e.predecessors ++ (tail ++ rest)
  unfolding entry_words tail
  apart = ap (λ (l : List ℕ). e.level ∷ e.nodes ∷ l) (append_assoc e.predecessors tail rest)

  behind : (j : ℕ) → get_or (e.predecessors ++ (tail ++ rest)) (32 + j) 0 ≡ get_or (tail ++ rest) j 0
  behind j =
      ap (λ (n : ℕ). get_or (e.predecessors ++ (tail ++ rest)) (n + j) 0) (sym held.masks)
      ∙ get_or-append-add e.predecessors (tail ++ rest) j 0

  pub entry_said : entry_from (entry_words e ++ rest) ≡ e
  unfolding entry_from tail
  entry_said =
      ap entry_from apart
      ∙ rw (
        take_at e.predecessors (tail ++ rest) 32 held.masks,
        behind 0,
        behind 1,
        behind 2,
        behind 3,
        behind 4,
        behind 5,
        behind 6,
        mark_said e.job.alive,
      )

  pub entry_taken : Fitting (entry_words e ++ rest)
  unfolding tail
  entry_taken =
      rw apart
      (record {
        level = held.level;
        nodes = held.nodes;
        typical = rw (behind 2) held.typical;
        critical = rw (behind 3) held.critical;
        alive = rw (behind 6) (mark-small e.job.alive);
      })

pub entry_long : (e : TaskState) → length e.predecessors ≡ 32 → length (entry_words e) ≡ entry_size
unfolding entry_words
entry_long e masks =
    let tail =
    e.deadline ∷ e.virtual_deadline ∷ e.share.typical ∷ e.share.critical ∷ e.age ∷ e.job.ended ∷ bit e.job.alive ∷ [] in
    omega (arith, length-append e.predecessors tail)

-- The values of each of these entries fit.
abbrev AllHeld : List TaskState → Type 0
AllHeld entries = (i : ℕ) → i < length entries → EntryHeld (get_or entries i zero_entry)

later_held : (e : TaskState) (entries : List TaskState) → AllHeld (e ∷ entries) → AllHeld entries
later_held e entries held i h = held (suc i) (omega arith)

entries_long : (entries : List TaskState) → AllHeld entries → length (entries_words entries) ≡ entry_size * length entries
entries_long [] held = refl
entries_long (e ∷ entries) held =
    omega (
      arith,
      length-append (entry_words e) (entries_words entries),
      entry_long e (held 0 (omega arith)).masks,
      entries_long entries (later_held e entries held),
    )

-- Entries behind so many words as stand before entry k, read from there on.
entries_said : (entries : List TaskState) → AllHeld entries → (k : ℕ) (front : List ℕ) → length front ≡ entry_start k →
    map (entry_at (front ++ entries_words entries)) (range k (length entries)) ≡ entries
unfolding range
entries_said [] held k front long = refl
entries_said (e ∷ entries) held k front long =
    let first : EntryHeld e = held 0 (omega arith) in
    let behind : length (front ++ entry_words e) ≡ entry_start (suc k) =
    omega (arith, length-append front (entry_words e), entry_long e first.masks) in
    ap₂ (λ (x : TaskState) (l : List TaskState). x ∷ l)
    (ap entry_from (drop_at front (entry_words e ++ entries_words entries) (entry_start k) long) ∙ entry_said e first (entries_words entries))
    (ap (λ (l : List ℕ). map (entry_at l) (range (suc k) (length entries))) (sym (append_assoc front (entry_words e) (entries_words entries)))
    ∙ entries_said entries (later_held e entries held) (suc k) (front ++ entry_words e) behind)

-- Where entry i begins, its words stand.
entry_found : (entries : List TaskState) → AllHeld entries → (i at : ℕ) (front : List ℕ) → i < length entries → at ≡ length front + entry_size * i →
    drop at (front ++ entries_words entries) ≡ entry_words (get_or entries i zero_entry) ++ entries_words (drop (suc i) entries)
entry_found [] held i at front h place = absurd (omega arith)
entry_found (e ∷ entries) held zero at front h place = drop_at front (entry_words e ++ entries_words entries) at (omega arith)
entry_found (e ∷ entries) held (suc i) at front h place =
    let behind : at ≡ length (front ++ entry_words e) + entry_size * i =
    omega (arith, length-append front (entry_words e), entry_long e (held 0 (omega arith)).masks) in
    ap (drop at) (sym (append_assoc front (entry_words e) (entries_words entries)))
    ∙ entry_found entries (later_held e entries held) i at (front ++ entry_words e) (omega arith) behind

-- A state that a line can hold.
module _ (s : State) (held : StateHeld s) where
  all_held : AllHeld s.entries
  all_held i h = held.entries i (omega (arith, held.sixteen))

  -- The three words in front.
  front : List ℕ
  front = s.processors ∷ s.count ∷ bit s.critical ∷ []

  state_long : length (state_words s) ≡ state_size
  unfolding state_words
  state_long = omega (arith, entries_long s.entries all_held, held.sixteen)

  state_said : state_from (state_words s) ≡ s
  unfolding state_from state_words front
  state_said =
      let entries : map (entry_at (front ++ entries_words s.entries)) (range 0 16) ≡ s.entries =
      ap (λ (n : ℕ). map (entry_at (front ++ entries_words s.entries)) (range 0 n)) (sym held.sixteen)
      ∙ entries_said s.entries all_held 0 front refl in
      ap₂ (λ (c : Bool) (l : List TaskState). record { processors = s.processors; count = s.count; critical = c; entries = l })
      (mark_said s.critical)
      entries

  state_taken : is_state (state_words s) ≡ true
  unfolding state_words front
  state_taken =
      line_state (state_words s)
      (record {
        long = state_long;
        processors = held.processors;
        count = held.count;
        mode = mark-small s.critical;
        entries =
            λ i h.
            ap entry_fits (entry_found s.entries all_held i (entry_start i) front (omega (arith, held.sixteen)) (omega arith))
            ∙ fitting_entry (entry_words (get_or s.entries i zero_entry) ++ entries_words (drop (suc i) s.entries))
            (entry_taken (get_or s.entries i zero_entry) (held.entries i h) (entries_words (drop (suc i) s.entries)));
      })

-- An entry's words, as they were read.
module _ (words : List ℕ) (fits : Fitting words) (room : entry_size ≤ length words) where
  seven : take 7 (drop 34 words)
      ≡ get_or words 34 0 ∷ get_or words 35 0 ∷ get_or words 36 0 ∷ get_or words 37 0 ∷ get_or words 38 0 ∷ get_or words 39 0 ∷ get_or words 40 0 ∷ []
  seven =
      at_drop_more (take 7) words 34 0 (omega arith)
      ∙ ap (λ (l : List ℕ). get_or words 34 0 ∷ l)
      (at_drop_more (take 6) words 35 0 (omega arith)
      ∙ ap (λ (l : List ℕ). get_or words 35 0 ∷ l)
      (at_drop_more (take 5) words 36 0 (omega arith)
      ∙ ap (λ (l : List ℕ). get_or words 36 0 ∷ l)
      (at_drop_more (take 4) words 37 0 (omega arith)
      ∙ ap (λ (l : List ℕ). get_or words 37 0 ∷ l)
      (at_drop_more (take 3) words 38 0 (omega arith)
      ∙ ap (λ (l : List ℕ). get_or words 38 0 ∷ l)
      (at_drop_more (take 2) words 39 0 (omega arith) ∙ ap (λ (l : List ℕ). get_or words 39 0 ∷ l) (at_drop_more (take 1) words 40 0 (omega arith)))))))

  entry_words_lem : entry_words (entry_from words) ≡ take entry_size words
  unfolding entry_words entry_from
  entry_words_lem =
      rw (mark_word (get_or words 40 0) fits.alive, sym seven)
      (sym
      (at_drop_more (take 41) words 0 0 (omega arith)
      ∙ ap (λ (l : List ℕ). get_or words 0 0 ∷ l)
      (at_drop_more (take 40) words 1 0 (omega arith)
      ∙ ap (λ (l : List ℕ). get_or words 1 0 ∷ l)
      (take-add 32 7 (drop 2 words) ∙ ap (λ (l : List ℕ). take 32 (drop 2 words) ++ take 7 l) (drop-drop 32 2 words)))))

  entry_held : EntryHeld (entry_from words)
  unfolding entry_from
  entry_held =
      record {
        level = fits.level;
        nodes = fits.nodes;
        masks = length-take-le 32 (drop 2 words) (omega (arith, length-drop 2 words));
        typical = fits.typical;
        critical = fits.critical;
      }

-- A line that is a state.
module _ (line : List ℕ) (facts : StateLine line) where
  fits_at : (i : ℕ) → i < 16 → Fitting (drop (entry_start i) line)
  fits_at i h = entry_fitting (drop (entry_start i) line) (facts.entries i h)

  room_at : (i : ℕ) → i < 16 → entry_size ≤ length (drop (entry_start i) line)
  room_at i h = omega (arith, length-drop (entry_start i) line, facts.long)

  entries_words_lem : (n k : ℕ) → k + n ≡ 16 → entries_words (map (entry_at line) (range k n)) ≡ drop (entry_start k) line
  unfolding range
  entries_words_lem zero k all = sym (drop_of_length-le line {i = entry_start k} (omega (arith, facts.long)))
  entries_words_lem (suc n) k all =
      let behind : entry_start (suc k) ≡ entry_start k + entry_size = omega arith in
      ap₂ (λ (a b : List ℕ). a ++ b)
      (entry_words_lem (drop (entry_start k) line) (fits_at k (omega arith)) (room_at k (omega arith)))
      (entries_words_lem n (suc k) (omega arith) ∙ ap (λ (n : ℕ). drop n line) behind ∙ sym (drop-drop entry_size (entry_start k) line))
      ∙ take-append-drop entry_size (drop (entry_start k) line)

  line_words : state_words (state_from line) ≡ line
  unfolding state_words state_from
  line_words =
      rw (mark_word (get_or line 2 0) facts.mode, entries_words_lem 16 0 refl)
      (sym
      (drop-cons line 0 0 (omega (arith, facts.long))
      ∙ ap (λ (l : List ℕ). get_or line 0 0 ∷ l)
      (drop-cons line 1 0 (omega (arith, facts.long))
      ∙ ap (λ (l : List ℕ). get_or line 1 0 ∷ l) (drop-cons line 2 0 (omega (arith, facts.long))))))

  line_held : StateHeld (state_from line)
  unfolding state_from
  line_held =
      record {
        processors = facts.processors;
        count = facts.count;
        sixteen = length-map (range 0 16) (entry_at line) ∙ length-range 0 16;
        entries = λ i h. subst⁻¹ EntryHeld (get_or-map_range (entry_at line) 0 16 i zero_entry h ∙ ap (entry_at line) (zero-add i)) (entry_held (drop (entry_start i) line) (fits_at i h) (room_at i h));
      }

pub same_said : SameSaid
same_said =
    record {
      long = state_long;
      taken = state_taken;
      said = state_said;
      words = λ line t. line_words line (state_line line t);
      held = λ line t. line_held line (state_line line t);
    }
