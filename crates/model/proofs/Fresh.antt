-- The rows of the fresh model, and what lasts of them whatever is called.
use Prim.Native.Nat.{ℕ, zero, suc, ◌<◌, min}
use mathlib.Core.Path.{◌≡◌, refl, sym, ap, subst, ◌∙◌}
use mathlib.Core.Bool.{false≢true}
use mathlib.Core.List.{List, [], ◌∷◌}
use native.Mathlib.Nat.{le_refl}
use native.Mathlib.Omega.{arith}
use native.Mathlib.Decide.{dec_lt}
use lib.ListN.{length, get_or, take, length-take}
use lib.Pow.{pow_pos}
use lib.Seq.{get_or-take}
use Rattle.sheet.specs.declared.task.Task.{Task}
use Rattle.sheet.specs.declared.task.TaskSet.{TaskSet}
use Rattle.shares.specs.declared.share.Share.{Share}
use Rattle.model.specs.Row.{Row}
use Rattle.model.specs.Step.{Call, row_at, no_row}
use Rattle.model.specs.Run.{after}
use Rattle.shares.specs.Totals.{no_processors, share_at}
use Rattle.sheet.specs.Format.{missing_task, task_in}
use Rattle.model.specs.Plan.{fresh_row, fresh_rows, fresh, Planned}
use Rattle.model.specs.Beside.{SoundRow, Lasting}
use Rattle.model.proofs.Lasting.{fixed_after, same_fixed, length-after, no_row_lem, KeptSound, sound_after, sound_no_row}

length-fresh : (tasks : List Task) (shares : List Share) → length (fresh_rows tasks shares) ≡ min (length tasks) (length shares)
length-fresh [] shares = omega arith
length-fresh (t ∷ tasks) [] = omega arith
length-fresh (t ∷ tasks) (s ∷ shares) = omega (arith, length-fresh tasks shares)

get_fresh : (tasks : List Task) (shares : List Share) (i : ℕ) → i < length tasks → i < length shares →
    get_or (fresh_rows tasks shares) i no_row ≡ fresh_row (get_or tasks i missing_task) (get_or shares i no_processors)
get_fresh [] shares i h l = absurd (omega arith)
get_fresh (t ∷ tasks) [] i h l = absurd (omega arith)
get_fresh (t ∷ tasks) (s ∷ shares) zero h l = refl
get_fresh (t ∷ tasks) (s ∷ shares) (suc i) h l = get_fresh tasks shares i (omega arith) (omega arith)

module _ (ts : TaskSet) (shares : List Share) (planned : Planned ts shares) where
  -- There is a row for each task.
  pub fresh-length : length (fresh ts shares).rows ≡ ts.count
  unfolding fresh
  fresh-length =
      omega (
        arith,
        length-fresh (take ts.count ts.tasks) shares,
        length-take ts.count ts.tasks,
        planned.tasks,
        planned.each,
      )

  pub fresh_row_lem : (i : ℕ) → i < ts.count → row_at (fresh ts shares) i ≡ fresh_row (task_in ts i) (share_at shares i)
  unfolding row_at fresh task_in share_at
  fresh_row_lem i h =
      get_fresh (take ts.count ts.tasks) shares i
      (omega (arith, length-take ts.count ts.tasks, planned.tasks)) (omega (arith, planned.each))
      ∙ ap (λ (t : Task). fresh_row t (get_or shares i no_processors)) (get_or-take ts.count ts.tasks i missing_task h)

  pub rows_after : (calls : List Call) → length (after (fresh ts shares) calls).rows ≡ ts.count
  rows_after calls = length-after (fresh ts shares) calls ∙ fresh-length

  -- What is fixed of a task, whatever was called.
  pub fixed_at : (calls : List Call) (i : ℕ) → i < ts.count →
      (row_at (after (fresh ts shares) calls) i).fixed ≡ (fresh_row (task_in ts i) (share_at shares i)).fixed
  fixed_at calls i h =
      same_fixed (after (fresh ts shares) calls) (fresh ts shares) (fixed_after (fresh ts shares) calls) i
      ∙ ap (λ (r : Row). r.fixed) (fresh_row_lem i h)

  sound_fresh : (i : ℕ) → i < ts.count → KeptSound (fresh_row (task_in ts i) (share_at shares i))
  unfolding fresh_row
  sound_fresh i h =
      record {
        some = (planned.lawful i h).nodes;
        sound = record {
          age = le_refl (task_in ts i).figures.deadline;
          ended = pow_pos (task_in ts i).nodes;
          alive = λ e. absurd (false≢true e);
        };
      }

  pub kept_sound : (calls : List Call) (i : ℕ) → i < ts.count → KeptSound (row_at (after (fresh ts shares) calls) i)
  kept_sound calls i h =
      sound_after (fresh ts shares) calls i (rw fresh-length h) (subst KeptSound (sym (fresh_row_lem i h)) (sound_fresh i h))

  -- S10.10: what is fixed stays, and every row stays sound.
  pub lasting : (calls : List Call) → Lasting ts shares (after (fresh ts shares) calls)
  lasting calls =
      record { fixed = fixed_after (fresh ts shares) calls; sound = λ i. go i (dec_lt i ts.count) }
    where
      go : (i : ℕ) → Dec (i < ts.count) → SoundRow (row_at (after (fresh ts shares) calls) i)
      go i (yes h) = (kept_sound calls i h).sound
      go i (no h) =
          subst SoundRow (sym (no_row_lem (after (fresh ts shares) calls) i (omega (arith, rows_after calls)))) sound_no_row
