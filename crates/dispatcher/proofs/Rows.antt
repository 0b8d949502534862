-- Entries as rows and back: what is read of a state, and what is written back, one entry after the other.
use Prim.Native.Nat.{ℕ, zero, suc, ◌≤◌, ◌<◌}
use mathlib.Core.Path.{◌≡◌, refl, sym, ap, ap₂, ◌∙◌}
use mathlib.Core.Bool.{Bool}
use mathlib.Core.List.{List, [], ◌∷◌, ◌++◌, map}
use native.Mathlib.Omega.{arith}
use lib.ListN.{length, get_or, set, take, drop, length-map, get_or-map}
use Rattle.model.specs.Row.{Fixed, Row, fixed_part as row_fixed}
use Rattle.shares.specs.Totals.{share_in}
use Rattle.model.specs.Step.{Model, no_row, row_at, granted}
use Rattle.entries.specs.declared.state.TaskState.{TaskState}
use Rattle.dispatcher.specs.declared.state.State.{State}
use Rattle.entries.specs.Entry.{fixed_of, job_of, row_of, with_row}
use Rattle.dispatcher.specs.Holds.{entries_of, model_of, with_rows, with_model}
use Rattle.dispatcher.proofs.Entries.{no_entry, entry_at, entries_length, entries_at}

-- One entry: its own row put back changes nothing, a row put back is read again, and the last one counts.
pub row_own : (e : TaskState) → with_row e (row_of e) ≡ e
unfolding with_row row_of job_of
row_own e = refl

pub row_with : (e : TaskState) (r : Row) → r.fixed ≡ fixed_of e → row_of (with_row e r) ≡ r
unfolding row_of fixed_of job_of with_row
row_with e r same = ap (λ (f : Fixed). record { fixed = f; age = r.age; job = r.job }) (sym same)

pub row_again : (e : TaskState) (a b : Row) → with_row (with_row e a) b ≡ with_row e b
unfolding with_row
row_again e a b = refl

pub no_entry_row : row_of no_entry ≡ no_row
unfolding row_of fixed_of job_of
no_entry_row = refl

-- All entries: the same three laws.
pub rows_own : (n : ℕ) (es : List TaskState) → with_rows es (map row_of (take n es)) ≡ es
rows_own zero [] = refl
rows_own zero (e ∷ es) = refl
rows_own (suc n) [] = refl
rows_own (suc n) (e ∷ es) = ap₂ (λ (x : TaskState) (xs : List TaskState). x ∷ xs) (row_own e) (rows_own n es)

pub rows_with : (n : ℕ) (es : List TaskState) (rows : List Row) → map row_fixed rows ≡ map row_fixed (map row_of (take n es))
    → map row_of (take n (with_rows es rows)) ≡ rows
unfolding row_of
rows_with zero [] [] same = refl
rows_with zero [] (r ∷ rows) same = let never : ◌≡◌ {A = ℕ} 0 1 = cc in absurd (omega arith)
rows_with zero (e ∷ es) [] same = refl
rows_with zero (e ∷ es) (r ∷ rows) same = let never : ◌≡◌ {A = ℕ} 0 1 = cc in absurd (omega arith)
rows_with (suc n) [] [] same = refl
rows_with (suc n) [] (r ∷ rows) same = let never : ◌≡◌ {A = ℕ} 0 1 = cc in absurd (omega arith)
rows_with (suc n) (e ∷ es) [] same = let never : ◌≡◌ {A = ℕ} 0 1 = cc in absurd (omega arith)
rows_with (suc n) (e ∷ es) (r ∷ rows) same =
    ap₂ (λ (x : Row) (xs : List Row). x ∷ xs) (row_with e r (cc)) (rows_with n es rows (cc))

pub rows_again : (es : List TaskState) (rows others : List Row) → length rows ≡ length others → with_rows (with_rows es rows) others ≡ with_rows es others
rows_again [] rows others same = refl
rows_again (e ∷ es) [] [] same = refl
rows_again (e ∷ es) [] (r ∷ others) same = absurd (omega arith)
rows_again (e ∷ es) (r ∷ rows) [] same = absurd (omega arith)
rows_again (e ∷ es) (r ∷ rows) (o ∷ others) same =
    ap₂ (λ (x : TaskState) (xs : List TaskState). x ∷ xs) (row_again e r o) (rows_again es rows others (omega arith))

pub rows_length : (es : List TaskState) (rows : List Row) → length (with_rows es rows) ≡ length es
rows_length [] rows = refl
rows_length (e ∷ es) [] = refl
rows_length (e ∷ es) (r ∷ rows) = ap suc (rows_length es rows)

-- Rows written back one after the other: the entry behind the last row is as it came, and a store there adds a row.
pub rows_behind : (es : List TaskState) (rows : List Row) (i : ℕ) → length rows ≡ i → get_or (with_rows es rows) i no_entry ≡ get_or es i no_entry
rows_behind [] rows i same = refl
rows_behind (e ∷ es) [] i same = refl
rows_behind (e ∷ es) (r ∷ rows) zero same = absurd (omega arith)
rows_behind (e ∷ es) (r ∷ rows) (suc i) same = rows_behind es rows i (omega arith)

pub rows_more : (es : List TaskState) (rows : List Row) (r : Row) (i : ℕ) → length rows ≡ i → i < length es
    → set (with_rows es rows) i (with_row (get_or es i no_entry) r) ≡ with_rows es (rows ++ r ∷ [])
rows_more [] rows r i same h = absurd (omega arith)
rows_more (e ∷ []) [] r zero same h = refl
rows_more (e ∷ x ∷ es) [] r zero same h = refl
rows_more (e ∷ es) [] r (suc i) same h = absurd (omega arith)
rows_more (e ∷ es) (o ∷ rows) r zero same h = absurd (omega arith)
rows_more (e ∷ es) (o ∷ rows) r (suc i) same h =
    ap (λ (xs : List TaskState). with_row e o ∷ xs) (rows_more es rows r i (omega arith) (omega arith))

pub rows_none : (es : List TaskState) → with_rows es [] ≡ es
rows_none [] = refl
rows_none (e ∷ es) = refl

-- Entries that no row stands for are handed back.
pub rows_rest : (n : ℕ) (es : List TaskState) (rows : List Row) → length rows ≤ n → drop n (with_rows es rows) ≡ drop n es
rows_rest n [] rows h = refl
rows_rest n (e ∷ es) [] h = refl
rows_rest zero (e ∷ es) (r ∷ rows) h = absurd (omega arith)
rows_rest (suc n) (e ∷ es) (r ∷ rows) h = rows_rest n es rows (omega arith)

-- One row set among those of the state.
pub rows_set : (n : ℕ) (es : List TaskState) (r : Row) (i : ℕ) → i < n → n ≤ length es
    → with_rows es (set (map row_of (take n es)) i r) ≡ set es i (with_row (get_or es i no_entry) r)
rows_set zero es r i h long = absurd (omega arith)
rows_set (suc n) [] r i h long = absurd (omega arith)
rows_set (suc n) (e ∷ es) r zero h long = ap (λ (xs : List TaskState). with_row e r ∷ xs) (rows_own n es)
rows_set (suc n) (e ∷ es) r (suc i) h long =
    ap₂ (λ (x : TaskState) (xs : List TaskState). x ∷ xs) (row_own e) (rows_set n es r i (omega arith) (omega arith))

-- The whole state.
module _ (s : State) where
  pub model_own : with_model s (model_of s) ≡ s
  unfolding with_model model_of entries_of
  model_own = ap (λ (es : List TaskState). record { processors = s.processors; count = s.count; critical = s.critical; entries = es }) (rows_own s.count s.entries)

  pub model_with : (m : Model) → map row_fixed m.rows ≡ map row_fixed (model_of s).rows → model_of (with_model s m) ≡ m
  unfolding with_model model_of entries_of
  model_with m same = ap (λ (rows : List Row). record { critical = m.critical; rows = rows }) (rows_with s.count s.entries m.rows same)

  pub model_again : (m o : Model) → length m.rows ≡ length o.rows → with_model (with_model s m) o ≡ with_model s o
  unfolding with_model
  model_again m o same =
      ap (λ (es : List TaskState). record { processors = s.processors; count = s.count; critical = o.critical; entries = es })
      (rows_again s.entries m.rows o.rows same)

module _ (s : State) (long : s.count ≤ length s.entries) where
  pub model_length : length (model_of s).rows ≡ s.count
  unfolding model_of
  model_length = length-map (entries_of s) row_of ∙ entries_length s long

  pub row_here : (i : ℕ) → i < s.count → get_or (model_of s).rows i no_row ≡ row_of (entry_at s i)
  unfolding model_of
  row_here i h =
      ap (get_or (map row_of (entries_of s)) i) (sym no_entry_row)
      ∙ get_or-map row_of (entries_of s) i no_entry
      ∙ ap row_of (entries_at s long i h)

  pub model_row : (i : ℕ) → i < s.count → row_at (model_of s) i ≡ row_of (entry_at s i)
  unfolding row_at
  model_row i h = row_here i h

  entry_share : (i : ℕ) → i < s.count → (row_at (model_of s) i).fixed.share ≡ (entry_at s i).share
  unfolding row_of fixed_of
  entry_share i h = ap (λ (r : Row). r.fixed.share) (model_row i h)

  -- S8.3: what the model grants a task is its entry's share in the mode.
  pub granted_entry : (i : ℕ) → i < s.count → granted (model_of s) i ≡ share_in s.critical (entry_at s i).share
  unfolding granted model_of
  granted_entry i h = ap (share_in s.critical) (entry_share i h)

-- A state written back row by row.
module _ (s : State) (critical : Bool) (rows : List Row) where
  -- The state with these rows written.
  abbrev pub written_to : State
  written_to = with_model s (record { critical = critical; rows = rows })

  pub written_at : (next : State) (i : ℕ) → next ≡ written_to → length rows ≡ i → get_or next.entries i no_entry ≡ entry_at s i
  unfolding with_model
  written_at next i same h = ap (λ (t : State). get_or t.entries i no_entry) same ∙ rows_behind s.entries rows i h

  pub written_more : (next : State) (i : ℕ) (r : Row) (e : TaskState) → next ≡ written_to → length rows ≡ i → i < length s.entries
      → e ≡ with_row (entry_at s i) r
      → ◌≡◌ {A = State} (record { processors = next.processors; count = next.count; critical = next.critical; entries = set next.entries i e })
      (with_model s (record { critical = critical; rows = rows ++ r ∷ [] }))
  unfolding with_model
  written_more next i r e same h inside entry =
      rw (same, entry)
      (ap (λ (es : List TaskState). record { processors = s.processors; count = s.count; critical = critical; entries = es })
      (rows_more s.entries rows r i h inside))
