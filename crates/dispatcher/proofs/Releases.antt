-- Release on a state, refusal by refusal, and the state that it leaves.
use Prim.Native.Nat.{ℕ, ◌≤◌, ◌<◌}
use mathlib.Core.Path.{◌≡◌, refl, sym, ap, ◌∙◌}
use mathlib.Core.Bool.{Bool, true, false, not, ◌&&◌, ◌||◌}
use mathlib.Core.List.{List}
use native.Mathlib.Decide.{dec_lt}
use native.Mathlib.Omega.{arith}
use borrow.Author.Tests.{le-leb, lt-leb}
use lib.Dec.{ltb}
use lib.ListN.{length, set}
use Rattle.std.specs.Prelude.{Result, Ok, Err, ⊤}
use Rattle.sheet.specs.declared.refusal.Refusal.{Refusal}
use Rattle.sheet.specs.declared.refusal.Refusal.TheVariants.{NotSound, UnknownTask, LowInCritical, TooEarly}
use Rattle.sheet.specs.Refusal.{refused_if, ◌or_else◌}
use Rattle.model.specs.Row.{released_row, survives}
use Rattle.model.specs.Step.{step, released, release_refusal}
use Rattle.entries.specs.declared.state.TaskState.{TaskState}
use Rattle.dispatcher.specs.declared.state.State.{State}
use Rattle.dispatcher.specs.Answers.{Released}
use Rattle.entries.specs.Entry.{fixed_of, job_of, row_of, with_row}
use Rattle.dispatcher.specs.Holds.{entries_of, model_of, with_model}
use Rattle.dispatcher.specs.Sound.{is_sound}
use Rattle.dispatcher.specs.Calls.{release_of}
use Rattle.dispatcher.proofs.Entries.{entry_at}
use Rattle.dispatcher.proofs.Rows.{model_own, model_length, model_row, rows_set}

-- Release by its answer.
module _ (s : State) (i : ℕ) where
  pub release_unsound : is_sound s ≡ false → record { state = s; answer = Err NotSound } ≡ release_of s i
  unfolding release_of
  release_unsound e = rw e

  pub release_refused : {r : Refusal} → is_sound s ≡ true → release_refusal (model_of s) i ≡ Err r → record { state = s; answer = Err r } ≡ release_of s i
  unfolding release_of step
  release_refused sound refused = rw (sound, refused, model_own s)

  module _ (long : s.count ≤ length s.entries) where
    -- Refusal 11.
    pub unknown : s.count ≤ i → release_refusal (model_of s) i ≡ Err UnknownTask
    unfolding release_refusal
    unknown h = rw (model_length s long, le-leb s.count i h)

    pub accepted_known : release_refusal (model_of s) i ≡ Ok tt → i < s.count
    accepted_known e = go (dec_lt i s.count)
      where
        go : Dec (i < s.count) → i < s.count
        go (yes h) = h
        go (no h) = let r = unknown (omega arith) in absurd (cc)

    entry_rows : (e : TaskState)
        → (refused_if ((model_of s).critical && not (survives (row_of e).fixed)) (LowInCritical i)
        or_else refused_if ((row_of e).job.alive || ltb (row_of e).age (row_of e).fixed.deadline) (TooEarly i))
        ≡ (refused_if (s.critical && not (survives (fixed_of e))) (LowInCritical i) or_else refused_if (e.job.alive || ltb e.age e.deadline) (TooEarly i))
    unfolding model_of row_of fixed_of job_of
    entry_rows e = refl

    -- Refusals 12 and 13.
    pub known : i < s.count
        → release_refusal (model_of s) i
        ≡ (refused_if (s.critical && not (survives (fixed_of (entry_at s i)))) (LowInCritical i)
        or_else refused_if ((entry_at s i).job.alive || ltb (entry_at s i).age (entry_at s i).deadline) (TooEarly i))
    unfolding release_refusal
    known h = rw (model_length s long, lt-leb s.count i h, model_row s long i h) (entry_rows (entry_at s i))

    -- The state with the job of task i released.
    released_entry : i < s.count
        → with_model s (record { critical = (model_of s).critical; rows = set (model_of s).rows i (released_row (row_of (entry_at s i))) })
        ≡ record {
          processors = s.processors;
          count = s.count;
          critical = s.critical;
          entries = set s.entries i (with_row (entry_at s i) (released_row (row_of (entry_at s i))));
        }
    unfolding model_of with_model entries_of
    released_entry h =
        ap (λ (es : List TaskState). record { processors = s.processors; count = s.count; critical = s.critical; entries = es })
        (rows_set s.count s.entries (released_row (row_of (entry_at s i))) i h long)

    pub release_accepted : is_sound s ≡ true → i < s.count → release_refusal (model_of s) i ≡ Ok tt
        → ◌≡◌ {A = Released} (record {
          state =
              record {
                processors = s.processors;
                count = s.count;
                critical = s.critical;
                entries = set s.entries i (with_row (entry_at s i) (released_row (row_of (entry_at s i))));
              };
          answer = Ok tt;
        }) (release_of s i)
    unfolding release_of step released
    release_accepted sound h accepted =
        rw (sound, accepted, model_row s long i h)
        (ap (λ (t : State). record { state = t; answer = Ok tt }) (sym (released_entry h)))

-- The first refusal of 10 to 13, as the code tests it.
pub refused_whole : (s : State) (i : ℕ) {r : Refusal} → (refused_if (not (is_sound s)) NotSound or_else release_refusal (model_of s) i) ≡ Err r
    → record { state = s; answer = Err r } ≡ release_of s i
refused_whole s i {r} e = go (is_sound s) refl e
  where
    go : (t : Bool) → is_sound s ≡ t → (refused_if (not t) NotSound or_else release_refusal (model_of s) i) ≡ Err r
        → record { state = s; answer = Err r } ≡ release_of s i
    go true sound e = release_refused s i sound e
    go false unsound e = ap (λ (a : Result ⊤ Refusal). record { state = s; answer = a }) (sym e) ∙ release_unsound s i unsound
