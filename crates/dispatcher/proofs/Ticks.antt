-- Tick on a state: what one pass over the tasks finds and writes, and the tick's answer and state by it.
use Prim.Native.Nat.{ℕ, zero, suc, ◌+◌, ◌≤◌, ◌<◌}
use mathlib.Core.Path.{◌≡◌, refl, sym, ap, ap₂, ◌∙◌}
use mathlib.Core.Bool.{Bool, true, false, cond, not, ◌&&◌, ◌||◌, or-false, or_assoc}
use mathlib.Core.List.{List, [], ◌∷◌, ◌++◌, map}
use Rattle.std.specs.Prelude.{Option, Some, None, Result, Ok, Err, ⊤}
use Rattle.std.specs.Bool.{then_some}
use Rattle.std.specs.Option.{option_or}
use native.Mathlib.Omega.{arith}
use native.Mathlib.Numerals.{add-one}
use borrow.Author.Tests.{eq-eqb, ne_eqb}
use lib.Dec.{leb}
use lib.ListN.{length, get_or, set, take, drop, length-map}
use lib.Seq.{drop-cons, take_all, length-take-le}
use Rattle.std.specs.List.{list_any}
use Rattle.sheet.specs.declared.refusal.Refusal.{Refusal}
use Rattle.sheet.specs.declared.refusal.Refusal.TheVariants.{NotSound, WrongCount, NotRunning}
use Rattle.sheet.specs.Refusal.{refused_if, ◌or_else◌}
use Rattle.basics.specs.Numbers.{within}
use Rattle.model.specs.Row.{Fixed, Row, is_subset, running_set, ticked_row, has_high_job, is_late, switched_row, fixed_part as row_fixed}
use Rattle.model.specs.Step.{Model, step, ticked, no_row, granted, report_refusal, tick_refusal, ticked_rows, lowest_late, switched_to, returned_to, turning}
use Rattle.model.proofs.Steps.{length-ticked}
use Rattle.entries.specs.declared.pass.Pass.{Pass}
use Rattle.entries.specs.declared.state.TaskState.{TaskState}
use Rattle.dispatcher.specs.declared.state.State.{State}
use Rattle.dispatcher.specs.declared.tick.TickAnswer.TheVariants.{Refused as TickRefused}
use Rattle.entries.specs.Entry.{row_of, with_row}
use Rattle.dispatcher.specs.Holds.{entries_of, model_of, with_model}
use Rattle.entries.specs.Sound.{entry_sound}
use Rattle.dispatcher.specs.Sound.{is_sound}
use Rattle.dispatcher.specs.Answers.{tick_answer}
use Rattle.dispatcher.specs.Calls.{tick_of}
use Rattle.dispatcher.specs.means.Passed.{with_parts, HasPassed}
use Rattle.dispatcher.proofs.Soundness.{ranges_kept, few_entries}
use Rattle.dispatcher.proofs.Entries.{no_entry, entry_at, left_next, left_none, Passed, passed_none, passed_broken, passed_more, passed_all}
use Rattle.dispatcher.proofs.Rows.{rows_own, row_with, model_own, model_with, model_again, model_length, rows_none, written_to, written_at, written_more, row_here}

-- A search by steps: the task found, or else what is left to look at.
abbrev pub found_or : {A : Type 0} → (ℕ → A) → Option ℕ → A → A
found_or make None left = left
found_or make (Some i) left = make i

-- One step: task i is found where the test holds there and no task was found before it.
found_more : {A : Type 0} (make : ℕ → A) (found : Option ℕ) (i : ℕ) (holds : Bool) (left rest whole : A) → left ≡ cond holds (make i) rest
    → found_or make found left ≡ whole → found_or make (option_or found (then_some holds i)) rest ≡ whole
found_more make (Some j) i holds left rest whole by so_far = so_far
found_more make None i true left rest whole by so_far = sym by ∙ so_far
found_more make None i false left rest whole by so_far = sym by ∙ so_far

-- A cause in front of the rest.
cause_first : (holds : Bool) (r : Refusal) (rest : Result ⊤ Refusal) → (refused_if holds r or_else rest) ≡ cond holds (Err r) rest
cause_first true r rest = refl
cause_first false r rest = refl

-- Refusal 15 put to the tasks from i on.
unfoldable pub reports_from : State → List ℕ → ℕ → Result ⊤ Refusal
reports_from s reports i = report_refusal (granted (model_of s)) i (map row_of (drop i (entries_of s))) (drop i reports)

-- The lowest late task from i on, after the tasks' parts of the tick.
unfoldable pub late_from : State → List ℕ → ℕ → Option ℕ
late_from s reports i = lowest_late i (ticked_rows (map row_of (drop i (entries_of s))) (drop i reports))

-- Whether a task from i on has a high job after the tasks' parts of the tick.
unfoldable pub high_from : State → List ℕ → ℕ → Bool
high_from s reports i = list_any has_high_job (ticked_rows (map row_of (drop i (entries_of s))) (drop i reports))

-- All three over the tasks, one after the other.
module _ (s : State) (reports : List ℕ) (long : s.count ≤ length s.entries) (same : length reports ≡ s.count) where
  reports_open : (i : ℕ) → i < s.count
      → reports_from s reports i
      ≡ cond (not (is_subset (get_or reports i 0) (running_set (granted (model_of s) i) (row_of (entry_at s i))))) (Err (NotRunning i)) (reports_from s reports (i + 1))
  unfolding reports_from
  reports_open i h =
      rw (add-one i, left_next s long i h, drop-cons reports i 0 (omega arith))
      (cause_first (not (is_subset (get_or reports i 0) (running_set (granted (model_of s) i) (row_of (entry_at s i))))) _ _)

  late_open : (i : ℕ) → i < s.count
      → late_from s reports i ≡ cond (is_late (ticked_row (row_of (entry_at s i)) (get_or reports i 0))) (Some i) (late_from s reports (i + 1))
  unfolding late_from
  late_open i h = rw (add-one i, left_next s long i h, drop-cons reports i 0 (omega arith))

  high_open : (i : ℕ) → i < s.count
      → high_from s reports i ≡ (has_high_job (ticked_row (row_of (entry_at s i)) (get_or reports i 0)) || high_from s reports (i + 1))
  unfolding high_from
  high_open i h = rw (add-one i, left_next s long i h, drop-cons reports i 0 (omega arith))

  reports_end : (i : ℕ) → s.count ≤ i → reports_from s reports i ≡ Ok tt
  unfolding reports_from
  reports_end i h = rw (left_none s long i h)

  late_end : (i : ℕ) → s.count ≤ i → late_from s reports i ≡ None
  unfolding late_from
  late_end i h = rw (left_none s long i h)

  high_end : (i : ℕ) → s.count ≤ i → high_from s reports i ≡ false
  unfolding high_from
  high_end i h = rw (left_none s long i h)

-- Rows ticked one after the other.
ticked_more : (rows : List Row) (reports : List ℕ) (i : ℕ) → i < length rows → i < length reports
    → ticked_rows (take (suc i) rows) reports ≡ ticked_rows (take i rows) reports ++ ticked_row (get_or rows i no_row) (get_or reports i 0) ∷ []
ticked_more [] reports i h k = absurd (omega arith)
ticked_more (r ∷ rows) [] i h k = absurd (omega arith)
ticked_more (r ∷ rows) (x ∷ reports) zero h k = refl
ticked_more (r ∷ rows) (x ∷ reports) (suc i) h k =
    ap (λ (xs : List Row). ticked_row r x ∷ xs) (ticked_more rows reports i (omega arith) (omega arith))

-- No part of a tick changes what is fixed.
ticked_fixed : (rows : List Row) (reports : List ℕ) → map row_fixed (ticked_rows rows reports) ≡ map row_fixed rows
unfolding ticked_row
ticked_fixed [] reports = refl
ticked_fixed (r ∷ rows) [] = refl
ticked_fixed (r ∷ rows) (x ∷ reports) = ap (λ (fs : List Fixed). r.fixed ∷ fs) (ticked_fixed rows reports)

-- After its part of the tick an entry passes the tests that its row passes.
pub test_after : (test : Row → Bool) (e : TaskState) (report : ℕ) (after : TaskState) → after ≡ with_row e (ticked_row (row_of e) report)
    → test (row_of after) ≡ test (ticked_row (row_of e) report)
unfolding ticked_row row_of
test_after test e report after stored = ap (λ (x : TaskState). test (row_of x)) stored ∙ ap test (row_with e (ticked_row (row_of e) report) refl)

-- The rows of the first i tasks, ticked.
abbrev pub ticked_below : State → List ℕ → ℕ → List Row
ticked_below s reports i = ticked_rows (take i (model_of s).rows) reports

module _ (s : State) (long : s.count ≤ length s.entries) where
  rows_taken : (i : ℕ) → i ≤ s.count → length (take i (model_of s).rows) ≡ i
  rows_taken i h = length-take-le i (model_of s).rows (omega (arith, model_length s long))

  pub written_none : written_to s s.critical [] ≡ s
  unfolding with_model
  written_none =
      ap (λ (es : List TaskState). record { processors = s.processors; count = s.count; critical = s.critical; entries = es }) (rows_none s.entries)

  pub ticked_below_lem : (reports : List ℕ) (i : ℕ) → i ≤ s.count → length (ticked_below s reports i) ≡ i
  ticked_below_lem reports i h = length-ticked (take i (model_of s).rows) reports ∙ rows_taken i h

  pub ticked_next : (reports : List ℕ) (i : ℕ) → length reports ≡ s.count → i < s.count
      → ticked_below s reports i ++ ticked_row (row_of (entry_at s i)) (get_or reports i 0) ∷ [] ≡ ticked_below s reports (i + 1)
  ticked_next reports i same h =
      rw (add-one i, ← (row_here s long i h)) (sym (ticked_more (model_of s).rows reports i (omega (arith, model_length s long)) (omega arith)))

  pub ticked_whole : (reports : List ℕ) (i : ℕ) → s.count ≤ i → ticked_below s reports i ≡ ticked_rows (model_of s).rows reports
  ticked_whole reports i h =
      ap (λ (rows : List Row). ticked_rows rows reports) (take_all i (model_of s).rows (omega (arith, model_length s long)))

-- The first i tasks are passed: they are sound, these are the sums of their shares, the task that reported wrongly, the
-- late one, whether one of them has a high job, and the state with their parts of the tick.
pub record Scanned (s : State) (reports : List ℕ) (i typical critical : ℕ) (wrong late : Option ℕ) (high : Bool) (next : State) : Type 0 where
  pub shares : Passed s i typical critical
  pub wrongs : found_or (λ (i : ℕ). Err (NotRunning i)) wrong (reports_from s reports i) ≡ reports_from s reports 0
  pub lates : found_or Some late (late_from s reports i) ≡ late_from s reports 0
  pub highs : (high || high_from s reports i) ≡ high_from s reports 0
  pub written : next ≡ written_to s s.critical (ticked_below s reports i)

module _ (s : State) (reports : List ℕ) (long : s.count ≤ length s.entries) where
  pub scanned_none : Scanned s reports 0 0 0 None None false s
  scanned_none =
      record {
        shares = passed_none s long;
        wrongs = refl;
        lates = refl;
        highs = refl;
        written = sym (written_none s long);
      }

  -- The number of tasks is kept.
  pub scanned_count : (i typical critical : ℕ) (wrong late : Option ℕ) (high : Bool) (next : State) → Scanned s reports i typical critical wrong late high next
      → next.count ≡ s.count
  unfolding with_model
  scanned_count i typical critical wrong late high next p = ap (λ (t : State). t.count) p.written

  -- The entry of the turn is as it came.
  pub scanned_entry : (i typical critical : ℕ) (wrong late : Option ℕ) (high : Bool) (next : State) (at : ℕ)
      → Scanned s reports i typical critical wrong late high next → i ≤ s.count → at ≡ i → get_or next.entries at no_entry ≡ entry_at s i
  scanned_entry i typical critical wrong late high next at p h same =
      rw same (written_at s s.critical (ticked_below s reports i) next i p.written (ticked_below_lem s long reports i h))

  pub scanned_broken : (i typical critical : ℕ) (wrong late : Option ℕ) (high : Bool) (next : State) → Scanned s reports i typical critical wrong late high next
      → (within 1 64 s.processors && within 1 16 s.count) ≡ true → i < s.count → entry_sound (entry_at s i) ≡ false → is_sound s ≡ false
  scanned_broken i typical critical wrong late high next p ranges h broken =
      sym (ranges_kept s ranges) ∙ rw (passed_broken s long i typical critical h broken p.shares)

  pub scanned_more : (i typical critical : ℕ) (wrong late : Option ℕ) (high : Bool) (next : State) (typical' critical' : ℕ) (wrong' late' : Option ℕ) (high' missing reached busy : Bool) (after : TaskState)
      → Scanned s reports i typical critical wrong late high next → length reports ≡ s.count → i < s.count
      → entry_sound (entry_at s i) ≡ true → (entry_at s i).share.typical < 256 → (entry_at s i).share.critical < 256
      → typical' ≡ typical + (entry_at s i).share.typical → critical' ≡ critical + (entry_at s i).share.critical
      → wrong' ≡ option_or wrong (then_some missing i) → late' ≡ option_or late (then_some reached i)
      → high' ≡ (high || busy)
      → missing ≡ not (is_subset (get_or reports i 0) (running_set (granted (model_of s) i) (row_of (entry_at s i))))
      → reached ≡ is_late (ticked_row (row_of (entry_at s i)) (get_or reports i 0))
      → busy ≡ has_high_job (ticked_row (row_of (entry_at s i)) (get_or reports i 0))
      → after ≡ with_row (entry_at s i) (ticked_row (row_of (entry_at s i)) (get_or reports i 0))
      → Scanned s reports (i + 1) typical' critical' wrong' late' high'
      (record { processors = next.processors; count = next.count; critical = next.critical; entries = set next.entries i after })
  scanned_more i typical critical wrong late high next typical' critical' wrong' late' high' missing reached busy after p same h sound a b ts cs ws ls hs m r j stored =
      record {
        shares = rw (ts, cs) (passed_more s long i typical critical h sound a b p.shares);
        wrongs = rw ws (found_more (λ (i : ℕ). Err (NotRunning i)) wrong i missing _ _ _ (rw m (reports_open s reports long same i h)) p.wrongs);
        lates = rw ls (found_more Some late i reached _ _ _ (rw r (late_open s reports long same i h)) p.lates);
        highs =
            rw (hs, j)
            (or_assoc high _ (high_from s reports (i + 1)) ∙ ap (λ (t : Bool). high || t) (sym (high_open s reports long same i h)) ∙ p.highs);
        written =
            written_more s s.critical (ticked_below s reports i) next i (ticked_row (row_of (entry_at s i)) (get_or reports i 0)) after p.written
            (ticked_below_lem s long reports i (omega arith))
            (omega arith)
            stored
            ∙ ap (written_to s s.critical) (ticked_next s long reports i same h);
      }

-- Tick by its answer.
module _ (s : State) (reports : List ℕ) where
  pub tick_unsound : is_sound s ≡ false → tick_of s reports ≡ record { state = s; answer = TickRefused NotSound }
  unfolding tick_of
  tick_unsound e = rw e

  pub tick_refused : {r : Refusal} → is_sound s ≡ true → tick_refusal (model_of s) reports ≡ Err r
      → tick_of s reports ≡ record { state = s; answer = TickRefused r }
  unfolding tick_of step
  tick_refused sound refused = rw (sound, refused, model_own s)

  -- Refusal 14.
  pub tick_miscounted : length s.entries ≡ 16 → (length reports ≡ s.count → ⊥)
      → tick_of s reports ≡ record { state = s; answer = TickRefused (cond (is_sound s) WrongCount NotSound) }
  unfolding tick_refusal
  tick_miscounted sixteen other = go (is_sound s) refl
    where
      counts : is_sound s ≡ true → tick_refusal (model_of s) reports ≡ Err WrongCount
      counts sound =
          let n : length (model_of s).rows ≡ s.count = model_length s (omega (arith, few_entries s sound)) in
          rw (n, ne_eqb (length reports) s.count other)

      go : (t : Bool) → is_sound s ≡ t → tick_of s reports ≡ record { state = s; answer = TickRefused (cond t WrongCount NotSound) }
      go true sound = tick_refused sound (counts sound)
      go false unsound = tick_unsound unsound

own_find : (o : Option ℕ) → found_or Some o None ≡ o
own_find None = refl
own_find (Some i) = refl

-- All tasks are passed: what the pass found.
module _ (s : State) (reports : List ℕ) (long : s.count ≤ length s.entries) (same : length reports ≡ s.count)
    (i : ℕ) (p : Pass) (next : State) (scanned : Scanned s reports i p.typical p.critical p.wrong p.late p.high next) (all : s.count ≤ i)
    (ranges : (within 1 64 s.processors && within 1 16 s.count) ≡ true) where
  scanned_sound : is_sound s ≡ (leb p.typical s.processors && leb p.critical s.processors)
  scanned_sound = sym (passed_all s long i p.typical p.critical all scanned.shares ∙ ranges_kept s ranges)

  pub scanned_unfit : (leb p.typical s.processors && leb p.critical s.processors) ≡ false
      → tick_of s reports ≡ record { state = s; answer = TickRefused NotSound }
  scanned_unfit unfit = tick_unsound s reports (scanned_sound ∙ unfit)

  reported : tick_refusal (model_of s) reports ≡ found_or (λ (i : ℕ). Err (NotRunning i)) p.wrong (Ok tt)
  unfolding tick_refusal model_of reports_from
  reported =
      rw (eq-eqb (length reports) (length (model_of s).rows) (same ∙ sym (model_length s long)))
      (sym (ap (found_or (λ (i : ℕ). Err (NotRunning i)) p.wrong) (sym (reports_end s reports long same i all)) ∙ scanned.wrongs))

  lowest : p.late ≡ lowest_late 0 (ticked_rows (model_of s).rows reports)
  unfolding model_of late_from
  lowest = sym (own_find p.late) ∙ ap (found_or Some p.late) (sym (late_end s reports long same i all)) ∙ scanned.lates

  alive : p.high ≡ list_any has_high_job (ticked_rows (model_of s).rows reports)
  unfolding model_of high_from
  alive = sym (or-false p.high) ∙ ap (λ (t : Bool). p.high || t) (sym (high_end s reports long same i all)) ∙ scanned.highs

  -- Each task has had its part of the tick.
  pub scanned_parts : next ≡ with_parts s reports
  scanned_parts = scanned.written ∙ ap (written_to s s.critical) (ticked_whole s long reports i all)

  module _ (fit : (leb p.typical s.processors && leb p.critical s.processors) ≡ true) where
    pub scanned_wrong : {task : ℕ} → p.wrong ≡ Some task → tick_of s reports ≡ record { state = s; answer = TickRefused (NotRunning task) }
    scanned_wrong found =
        tick_refused s reports (scanned_sound ∙ fit) (reported ∙ ap (λ (o : Option ℕ). found_or (λ (i : ℕ). Err (NotRunning i)) o (Ok tt)) found)

    pub scanned_passed : p.wrong ≡ None → HasPassed s reports p next
    scanned_passed none =
        record {
          sound = scanned_sound ∙ fit;
          accepted = reported ∙ ap (λ (o : Option ℕ). found_or (λ (i : ℕ). Err (NotRunning i)) o (Ok tt)) none;
          written = scanned_parts;
          late = lowest;
          high = alive;
        }

-- How the mode turns.
mode_set : (s : State) (critical : Bool)
    → with_model s (record { critical = critical; rows = (model_of s).rows })
    ≡ record { processors = s.processors; count = s.count; critical = critical; entries = s.entries }
unfolding with_model model_of entries_of
mode_set s critical =
    ap (λ (es : List TaskState). record { processors = s.processors; count = s.count; critical = critical; entries = es }) (rows_own s.count s.entries)

pub turn_critical : (s : State) (high : Bool) → s.critical ≡ true → high ≡ list_any has_high_job (model_of s).rows
    → record { processors = s.processors; count = s.count; critical = high; entries = s.entries } ≡ with_model s (turning s.critical (model_of s).rows).model
turn_critical s high mode e =
    go high
    ∙ ap (λ (t : Bool). with_model s (returned_to (model_of s).rows t).model) e
    ∙ ap (λ (t : Bool). with_model s (turning t (model_of s).rows).model) (sym mode)
  where
    go : (high : Bool)
        → record { processors = s.processors; count = s.count; critical = high; entries = s.entries } ≡ with_model s (returned_to (model_of s).rows high).model
    go true = sym (mode_set s true)
    go false = sym (mode_set s false)

pub turn_ran : (s : State) → s.critical ≡ false → None ≡ lowest_late 0 (model_of s).rows → s ≡ with_model s (turning s.critical (model_of s).rows).model
turn_ran s mode e =
    ap (λ (t : Bool). record { processors = s.processors; count = s.count; critical = t; entries = s.entries }) mode
    ∙ sym (mode_set s false)
    ∙ ap (λ (o : Option ℕ). with_model s (switched_to (model_of s).rows o).model) e
    ∙ ap (λ (t : Bool). with_model s (turning t (model_of s).rows).model) (sym mode)

-- The mode turns the rows of what the pass has written.
module _ (s : State) (reports : List ℕ) (p : Pass) (next : State) (passed : HasPassed s reports p next) where
  abbrev rows : List Row
  rows = ticked_rows (model_of s).rows reports

  pub passed_count : next.count ≡ s.count
  unfolding with_model
  passed_count = ap (λ (t : State). t.count) passed.written

  pub passed_model : model_of next ≡ record { critical = s.critical; rows = ticked_rows (model_of s).rows reports }
  passed_model =
      ap model_of passed.written
      ∙ model_with s (record { critical = s.critical; rows = ticked_rows (model_of s).rows reports }) (ticked_fixed (model_of s).rows reports)

  turned_length : (t : Bool) (rows : List Row) → length (turning t rows).model.rows ≡ length rows
  turned_length true rows = go (list_any has_high_job rows)
    where
      go : (u : Bool) → length (returned_to rows u).model.rows ≡ length rows
      go true = refl
      go false = refl
  turned_length false rows = go (lowest_late 0 rows)
    where
      go : (o : Option ℕ) → length (switched_to rows o).model.rows ≡ length rows
      go None = refl
      go (Some j) = length-map rows switched_row

  -- The tick is the pass and the turn.
  pub passed_tick : tick_of s reports ≡ record { state = with_model s (turning s.critical rows).model; answer = tick_answer (turning s.critical rows).answer }
  unfolding tick_of step ticked model_of
  passed_tick = rw (passed.sound, passed.accepted)

  pub passed_state : with_model next (turning next.critical (model_of next).rows).model ≡ with_model s (turning s.critical rows).model
  unfolding model_of
  passed_state =
      ap₂ (λ (t : State) (m : Model). with_model t (turning m.critical m.rows).model) passed.written passed_model
      ∙ model_again s (record { critical = s.critical; rows = rows }) (turning s.critical rows).model (sym (turned_length s.critical rows))

  pub passed_answer : tick_answer (turning next.critical (model_of next).rows).answer ≡ tick_answer (turning s.critical rows).answer
  unfolding model_of
  passed_answer = ap (λ (m : Model). tick_answer (turning m.critical m.rows).answer) passed_model
