-- S13.1, S13.2: a state (S7.1) as a line of words, one for each field in the order of the struct, and which lines are
-- states.
use Rattle.std.specs.Prelude.{ℕ, ◌+◌, ◌*◌, ◌<◌, Bool, true, not, ◌&&◌, List, [], ◌∷◌, ◌++◌, map, ◌≡◌, ltb, eqb, length, get_or, take, drop, flat_map}
use Rattle.basics.specs.Lists.{range, all_below, bit}
use Rattle.entries.specs.declared.state.TaskState.{TaskState}
use Rattle.start.specs.Fresh.{zero_entry}
use Rattle.dispatcher.specs.declared.state.State.{State}

-- S13.1: the words of an entry: two, the masks, and seven.
abbrev pub entry_size : ℕ
entry_size = 2 + 32 + 7

-- S13.1: where entry i begins: behind three words and the entries before it.
abbrev pub entry_start : ℕ → ℕ
entry_start i = 3 + entry_size * i

-- S13.1: the words of a state, 659: it ends where a seventeenth entry would begin.
abbrev pub state_size : ℕ
state_size = entry_start 16

-- S13.1: the words of an entry: level, k, the masks, D, V, the typical and the critical share, age, ended set, alive.
unfoldable pub entry_words : TaskState → List ℕ
entry_words e =
    e.level
    ∷ e.nodes
    ∷ e.predecessors
    ++ e.deadline
    ∷ e.virtual_deadline
    ∷ e.share.typical
    ∷ e.share.critical
    ∷ e.age
    ∷ e.job.ended
    ∷ bit e.job.alive
    ∷ []

-- S13.1: the words of entries, one behind the other.
abbrev pub entries_words : List TaskState → List ℕ
entries_words entries = flat_map entry_words entries

-- S13.1: the words of a state: M, n, the mode, the entries.
unfoldable pub state_words : State → List ℕ
state_words s = s.processors ∷ s.count ∷ bit s.critical ∷ entries_words s.entries

-- A word as a truth value: any but 0 is true.
unfoldable pub is_set : ℕ → Bool
is_set word = not (eqb word 0)

-- S13.1: the entry that the words say, field by field.
unfoldable pub entry_from : List ℕ → TaskState
entry_from words =
    record {
      level = get_or words 0 0;
      nodes = get_or words 1 0;
      predecessors = take 32 (drop 2 words);
      deadline = get_or words 34 0;
      virtual_deadline = get_or words 35 0;
      share = record { typical = get_or words 36 0; critical = get_or words 37 0 };
      age = get_or words 38 0;
      job = record { ended = get_or words 39 0; alive = is_set (get_or words 40 0) };
    }

-- S13.1: entry i of a line.
abbrev pub entry_at : List ℕ → ℕ → TaskState
entry_at words i = entry_from (drop (entry_start i) words)

-- S13.1: the state that a line says.
unfoldable pub state_from : List ℕ → State
state_from words =
    record {
      processors = get_or words 0 0;
      count = get_or words 1 0;
      critical = is_set (get_or words 2 0);
      entries = map (entry_at words) (range 0 16);
    }

-- S13.2: a field of one byte holds this word.
abbrev pub is_byte : ℕ → Bool
is_byte word = ltb word 256

-- S13.2: a mark holds this word.
abbrev pub is_mark : ℕ → Bool
is_mark word = ltb word 2

-- S13.2: whether each word of an entry fits its field; the fields of four bytes hold every word.
unfoldable pub entry_fits : List ℕ → Bool
entry_fits words =
    is_byte (get_or words 0 0)
    && is_byte (get_or words 1 0)
    && is_byte (get_or words 36 0)
    && is_byte (get_or words 37 0)
    && is_mark (get_or words 40 0)

-- S13.2: whether a line is a state: its length, and each word by its field.
unfoldable pub is_state : List ℕ → Bool
is_state words =
    eqb (length words) state_size
    && is_byte (get_or words 0 0)
    && is_byte (get_or words 1 0)
    && is_mark (get_or words 2 0)
    && all_below 16 (λ i. entry_fits (drop (entry_start i) words))

-- S13.2: the values of an entry fit its fields.
pub record EntryHeld (e : TaskState) : Type 0 where
  pub level : e.level < 256
  pub nodes : e.nodes < 256
  pub masks : length e.predecessors ≡ 32
  pub typical : e.share.typical < 256
  pub critical : e.share.critical < 256

-- S13.2: the values of a state fit its fields: it is one that a line can hold.
pub record StateHeld (s : State) : Type 0 where
  pub processors : s.processors < 256
  pub count : s.count < 256
  pub sixteen : length s.entries ≡ 16
  pub entries : (i : ℕ) → i < 16 → EntryHeld (get_or s.entries i zero_entry)

-- S13.1, S13.2: words and states say the same, with nothing lost either way.
pub record SameSaid : Type 0 where
  -- The line of each state that a line can hold has the exported length, is a state, and says that state.
  pub long : (s : State) → StateHeld s → length (state_words s) ≡ state_size
  pub taken : (s : State) → StateHeld s → is_state (state_words s) ≡ true
  pub said : (s : State) → StateHeld s → state_from (state_words s) ≡ s
  -- Each line that is a state has the words of what it says, and a line can hold that.
  pub words : (words : List ℕ) → is_state words ≡ true → state_words (state_from words) ≡ words
  pub held : (words : List ℕ) → is_state words ≡ true → StateHeld (state_from words)
