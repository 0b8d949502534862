-- S10.10, a low job under its budget: as long as the mode is typical, all its full ticks are typical ones, so that
-- while it is alive fewer than D have passed; and a tick that drops it would be the D-th or a later one.
use Prim.Native.Nat.{ℕ, ◌+◌, ◌<◌}
use mathlib.Core.Path.{◌≡◌, refl, sym, ap, subst, ◌∙◌}
use mathlib.Core.Bool.{Bool, true, false, cond, true≢false}
use mathlib.Core.List.{List, [], ◌∷◌, ◌++◌}
use native.Mathlib.Omega.{arith}
use Rattle.sheet.specs.declared.task.Budget.{Budget}
use Rattle.sheet.specs.declared.task.TaskSet.{TaskSet}
use Rattle.shares.specs.declared.share.Share.{Share}
use Rattle.shares.specs.Low.{low_share}
use Rattle.shares.proofs.Ends.{low_ends, low_positive}
use Rattle.model.specs.Row.{Fixed, Row}
use Rattle.model.specs.Step.{Model, Call}
use Rattle.model.specs.Run.{after, is_tick, ticks_in}
use Rattle.sheet.specs.Format.{task_in}
use Rattle.shares.specs.Totals.{share_at}
use Rattle.sheet.specs.Level.{is_low}
use Rattle.model.specs.Plan.{fresh_row, Planned}
use Rattle.model.specs.Beside.{TypicalUntil, LowDeadline}
use Rattle.model.proofs.Steps.{next}
use Rattle.model.proofs.Job.{Live, OneMore, TypicalBelow, typical_below}
use Rattle.model.proofs.Released.{planned_fixed}
use Rattle.model.proofs.Ending.{Moment, Dropped, Invariant, ended_by_deadline}

-- While a job that keeps the budget is alive in typical mode, fewer than D ticks have passed.
abbrev pub Ends : ℕ → ℕ → Fixed → Type 0
Ends work span f = TypicalBelow work span f f.deadline

-- No full tick was a critical one, and until the D-th tick none will be.
record StillTypical (len : ℕ → ℕ) (work span i : ℕ) (f : Fixed) (now : Moment len work span i f) (calls : List Call) : Type 0 where
  pub none : now.live.full₂ ≡ 0
  pub typical : (before rest : List Call) → calls ≡ before ++ rest → now.ticks + ticks_in now.model before < f.deadline →
      (after now.model before).critical ≡ false

module _ (len : ℕ → ℕ) (work span i : ℕ) (f : Fixed) (ends : Ends work span f) where
  -- The job's row or its part of a tick, with no critical full tick: fewer than D ticks have passed.
  below : {r : Row} {c : ℕ → ℕ} {n : ℕ} (live : Live len work span r c n) → r.fixed ≡ f → live.full₂ ≡ 0 → n < f.deadline
  below live fixed none =
      typical_below live none (subst (λ (g : Fixed). TypicalBelow work span g f.deadline) (sym fixed) ends)

  module _ (now : Moment len work span i f) (x : Call) (calls : List Call) (good : StillTypical len work span i f now (x ∷ calls)) where
    in_typical : now.model.critical ≡ false
    in_typical = good.typical [] (x ∷ calls) refl (omega (arith, below now.live now.fixed good.none))

    none_more : {g₁ g₂ : ℕ} → OneMore now.model.critical now.live.full₁ now.live.full₂ g₁ g₂ → g₂ ≡ 0
    none_more one = one.in_typical in_typical ∙ good.none

    -- What is known of the calls to come, one call later.
    typical_later : (m : Model) (n : ℕ) → m ≡ next now.model x → n ≡ now.ticks + cond (is_tick now.model x) 1 0 →
        (before rest : List Call) → calls ≡ before ++ rest → n + ticks_in m before < f.deadline → (after m before).critical ≡ false
    typical_later m n call ticks before rest e =
        subst (λ (o : Model). n + ticks_in o before < f.deadline → (after o before).critical ≡ false) (sym call)
        (λ few. good.typical (x ∷ before) rest (ap (λ (l : List Call). x ∷ l) e) (omega (arith, few, ticks)))

    -- A tick that drops the job is the D-th, but an alive job has fewer behind it.
    not_dropped : Dropped len work span i f now x → ⊥
    not_dropped d =
        let early : now.ticks + 1 < f.deadline = below d.live d.fixed (none_more d.full) in
        true≢false
        (sym d.switched
        ∙ good.typical (x ∷ []) calls refl (omega (arith, early, ap {B = ℕ} (λ (b : Bool). cond b 1 0) d.accepted)))

  typical_invariant : Invariant len work span i f (StillTypical len work span i f)
  typical_invariant =
      record {
        in_time = λ now calls good. below now.live now.fixed good.none;
        on_rest = λ now later x calls good r.
            record {
              none = r.full₂ ∙ good.none;
              typical =
                  typical_later now x calls good later.model later.ticks r.call
                  (omega (arith, r.ticks, ap {B = ℕ} (λ (b : Bool). cond b 1 0) r.idle));
            };
        on_tick = λ now later x calls good t.
            record {
              none = none_more now x calls good t.full;
              typical =
                  typical_later now x calls good later.model later.ticks t.call
                  (omega (arith, t.ticks, ap {B = ℕ} (λ (b : Bool). cond b 1 0) t.accepted));
            };
        undropped = λ now x calls good d. not_dropped now x calls good d;
      }

module _ (ts : TaskSet) (shares : List Share) (planned : Planned ts shares) where
  -- A low task's typical share is enough for its budget.
  pub ends_low : (i : ℕ) → i < ts.count → is_low (task_in ts i).level ≡ true →
      Ends (task_in ts i).figures.nominal.work (task_in ts i).figures.nominal.span (planned_fixed ts shares i)
  unfolding fresh_row
  ends_low i h level full p span work =
      let pair = planned.low i h level in
      let task = planned.lawful i h in
      let figures = (task_in ts i).figures in
      let share : (share_at shares i).typical ≡ low_share figures = pair.typical in
      low_ends figures full p pair.room
      (low_positive figures (omega (arith, pair.room, task.heavy, task.low level)) pair.room)
      span (rw share at work)

  -- S10.10: a low job has ended with the D-th accepted tick after its release, if the mode was typical until then.
  pub low_deadline : (calls : List Call) → LowDeadline ts shares calls
  unfolding LowDeadline TypicalUntil fresh_row
  low_deadline calls i job lengths level keeps reports typical passed =
      ended_by_deadline ts shares planned calls i job lengths b
      {Good = StillTypical lengths b.work b.span i (planned_fixed ts shares i)}
      (λ known. typical_invariant lengths b.work b.span i (planned_fixed ts shares i) (ends_low i known level))
      (λ known now start.
      record {
        none = start.full₂;
        typical = λ before rest e.
            subst (λ (m : Model). now.ticks + ticks_in m before < (task_in ts i).figures.deadline → (after m before).critical ≡ false)
            (sym start.model) (λ few. typical before rest e (omega (arith, few)));
      })
      keeps reports passed
    where
      b : Budget
      b = (task_in ts i).figures.nominal
