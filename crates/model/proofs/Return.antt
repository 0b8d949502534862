-- S10.12: a tick returns just where it finds the mode critical and leaves no high job alive; then every task may be
-- released.
use Prim.Native.Nat.{ℕ, ◌≤◌, ◌<◌}
use mathlib.Core.Path.{◌≡◌, refl, sym, ap, ◌∙◌}
use mathlib.Core.Bool.{Bool, true, false, not, ◌&&◌, ◌||◌, false≢true}
use mathlib.Core.List.{List}
use Rattle.std.specs.Prelude.{Option, Some, None}
use native.Mathlib.Omega.{arith}
use native.Mathlib.Decide.{dec_lt, dec_le}
use borrow.Author.Tests.{le-leb, lt-leb, lt-ltb, le-ltb}
use lib.Dec.{leb, ltb}
use lib.ListN.{length, get_or}
use Rattle.std.specs.Prelude.{Result, Ok, Err, ⊤, is_ok}
use Rattle.sheet.specs.declared.refusal.Refusal.{Refusal}
use Rattle.sheet.specs.declared.refusal.Refusal.TheVariants.{TooEarly}
use Rattle.sheet.specs.Refusal.{refused_if}
use Rattle.std.specs.List.{list_any}
use Rattle.basics.proofs.Lists.{any_none, none_any}
use Rattle.sheet.specs.Level.{is_high}
use Rattle.model.specs.Row.{Row, has_high_job}
use Rattle.model.specs.Step.{Model, tick, Step, step, step_by, returned, row_at, no_row, release_refusal, refusal_of, ticked_rows, lowest_late, switched_to, returned_to, turning, ticked}
use Rattle.model.specs.Run.{is_accepted}
use Rattle.model.specs.Claim.{is_returned}
use Rattle.model.specs.Return.{MayReturn, OpenToAll, ReturnLaw}
use Rattle.model.proofs.Steps.{next, accepted_step_lem, length-ticked, returned_rows}
use Rattle.model.proofs.Lasting.{fixed_step, same_fixed, no_row_lem}

-- A high task without an alive job, and a task that is not high, have no high job.
high_gone : (r : Row) → (is_high r.fixed.level ≡ true → r.job.alive ≡ false) → has_high_job r ≡ false
unfolding has_high_job
high_gone r h = go (is_high r.fixed.level) refl
  where
    go : (t : Bool) → is_high r.fixed.level ≡ t → (t && r.job.alive) ≡ false
    go true e = h e
    go false e = refl

gone_high : (r : Row) → has_high_job r ≡ false → is_high r.fixed.level ≡ true → r.job.alive ≡ false
unfolding has_high_job
gone_high r gone high = sym (ap (λ (t : Bool). t && r.job.alive) high) ∙ gone

-- A tick that answers that it returned, by the tests of its definition.
pub record Returning (m : Model) (reports : List ℕ) : Type 0 where
  pub accepted : is_accepted m (tick reports) ≡ true
  pub critical : m.critical ≡ true
  pub none : list_any has_high_job (ticked_rows m.rows reports) ≡ false

pub returning : (m : Model) (reports : List ℕ) → is_returned (step m (tick reports)).answer ≡ true → Returning m reports
unfolding step is_accepted ticked
returning m reports said = go (refusal_of m (tick reports)) refl said
  where
    rows : List Row
    rows = ticked_rows m.rows reports

    late : (o : Option ℕ) → is_returned (switched_to rows o).answer ≡ true → ⊥
    late None e = false≢true e
    late (Some i) e = false≢true e

    high : (t : Bool) → is_returned (returned_to rows t).answer ≡ true → t ≡ false
    high true e = absurd (false≢true e)
    high false e = refl

    mode : (t : Bool) → is_returned (turning t rows).answer ≡ true → (t ≡ true) × (list_any has_high_job rows ≡ false)
    mode true e = (refl, high (list_any has_high_job rows) e)
    mode false e = absurd (late (lowest_late 0 rows) e)

    go : (o : Result ⊤ Refusal) → refusal_of m (tick reports) ≡ o → is_returned (step_by o m (tick reports)).answer ≡ true →
        Returning m reports
    go (Ok x) o e = let both = mode m.critical e in record { accepted = ap is_ok o; critical = both.0; none = both.1 }
    go (Err r) o e = absurd (false≢true e)

-- What an accepted tick in critical mode does.
pub critical_tick : (m : Model) (reports : List ℕ) → is_accepted m (tick reports) ≡ true → m.critical ≡ true →
    step m (tick reports) ≡ returned_to (ticked_rows m.rows reports) (list_any has_high_job (ticked_rows m.rows reports))
unfolding ticked
critical_tick m reports accepted critical =
    accepted_step_lem m (tick reports) accepted ∙ ap (λ (t : Bool). turning t (ticked_rows m.rows reports)) critical

-- Its rows are those of the tick, whether it returns or not.
critical_rows : (m : Model) (reports : List ℕ) → is_accepted m (tick reports) ≡ true → m.critical ≡ true →
    (step m (tick reports)).model.rows ≡ ticked_rows m.rows reports
critical_rows m reports accepted critical =
    ap (λ (s : Step). s.model.rows) (critical_tick m reports accepted critical)
    ∙ go (list_any has_high_job (ticked_rows m.rows reports))
  where
    go : (t : Bool) → (returned_to (ticked_rows m.rows reports) t).model.rows ≡ ticked_rows m.rows reports
    go true = refl
    go false = returned_rows (ticked_rows m.rows reports)

may_return : (m : Model) (reports : List ℕ) → Returning m reports → MayReturn m reports
unfolding row_at
may_return m reports r =
    record { accepted = r.accepted; critical = r.critical; over = λ i high. at i high (dec_lt i (length m.rows)) }
  where
    after : Model
    after = (step m (tick reports)).model

    fixed : (i : ℕ) → (row_at after i).fixed ≡ (row_at m i).fixed
    fixed i = same_fixed after m (fixed_step m (tick reports)) i

    at : (i : ℕ) → is_high (row_at m i).fixed.level ≡ true → Dec (i < length m.rows) → (row_at after i).job.alive ≡ false
    at i high (yes h) =
        gone_high (row_at after i)
        (ap (λ (rows : List Row). has_high_job (get_or rows i no_row)) (critical_rows m reports r.accepted r.critical)
        ∙ any_none has_high_job no_row (ticked_rows m.rows reports) i r.none (rw (length-ticked m.rows reports) h))
        (rw (fixed i) high)
    at i high (no h) =
        ap (λ (row : Row). row.job.alive)
        (no_row_lem after i (rw (critical_rows m reports r.accepted r.critical, length-ticked m.rows reports) (omega arith)))

from_may : (m : Model) (reports : List ℕ) → MayReturn m reports → Returning m reports
unfolding row_at
from_may m reports r =
    record {
      accepted = r.accepted;
      critical = r.critical;
      none =
          none_any has_high_job no_row (ticked_rows m.rows reports)
          (λ i h.
          ap (λ (rows : List Row). has_high_job (get_or rows i no_row)) (sym (critical_rows m reports r.accepted r.critical))
          ∙ high_gone (row_at after i) (λ high. r.over i (rw (same_fixed after m (fixed_step m (tick reports)) i) at high)));
    }
  where
    after : Model
    after = (step m (tick reports)).model

-- In typical mode a Release of a task is refused for 13 alone.
open_typical : (m : Model) → m.critical ≡ false → OpenToAll m
unfolding is_accepted release_refusal row_at
open_typical m typical =
    record {
      typical = typical;
      release = λ i h.
          rw (lt-leb (length m.rows) i h, typical)
          (go i (row_at m i).job.alive (dec_le (row_at m i).fixed.deadline (row_at m i).age));
    }
  where
    go : (i : ℕ) (alive : Bool) → Dec ((row_at m i).fixed.deadline ≤ (row_at m i).age) →
        is_ok (refused_if (alive || ltb (row_at m i).age (row_at m i).fixed.deadline) (TooEarly i))
        ≡ (not alive && leb (row_at m i).fixed.deadline (row_at m i).age)
    go i true d = refl
    go i false (yes h) = rw (le-leb (row_at m i).fixed.deadline (row_at m i).age h, le-ltb (row_at m i).age (row_at m i).fixed.deadline h)
    go i false (no h) =
        rw (lt-leb (row_at m i).fixed.deadline (row_at m i).age (omega arith), lt-ltb (row_at m i).age (row_at m i).fixed.deadline (omega arith))

returned_step : (m : Model) (reports : List ℕ) → Returning m reports →
    step m (tick reports) ≡ returned_to (ticked_rows m.rows reports) false
returned_step m reports r =
    critical_tick m reports r.accepted r.critical ∙ ap (returned_to (ticked_rows m.rows reports)) r.none

-- S10.12.
pub return_law : (m : Model) (reports : List ℕ) → ReturnLaw m reports
return_law m reports =
    record {
      only = λ e. may_return m reports (by e);
      always = λ r. ap (λ (s : Step). s.answer) (returned_step m reports (from_may m reports r));
      rows = λ e. critical_rows m reports (by e).accepted (by e).critical;
      opens = λ e. open_typical (next m (tick reports)) (ap (λ (s : Step). s.model.critical) (returned_step m reports (by e)));
    }
  where
    by : (step m (tick reports)).answer ≡ returned → Returning m reports
    by e = returning m reports (ap is_returned e)
