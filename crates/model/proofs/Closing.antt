-- The deadline theorem over any bound on the full ticks in typical mode. Of a task's job it asks that (a) it survives a
-- switch; (b) while it is alive, so many of the ticks behind it at most were full ones in typical mode; (c) with so few
-- it is alive only below D. Who shows (b) and (c), and for which bound, is left open.
use Prim.Native.Nat.{ℕ, ◌+◌, ◌*◌, ◌≤◌, ◌<◌}
use mathlib.Core.Path.{◌≡◌, sym, ap, subst, ◌∙◌}
use mathlib.Core.Bool.{true, true≢false}
use mathlib.Core.List.{List, ◌∷◌}
use native.Mathlib.Omega.{arith}
use Rattle.model.specs.Row.{Fixed, survives}
use Rattle.model.specs.Step.{Call, row_at}
use Rattle.model.proofs.Job.{pace, live_bounds}
use Rattle.model.proofs.Ending.{Moment, Rested, Ticked, Invariant}

-- (c): a job that keeps the budget, with at most `bound` full ticks in typical mode behind it, is alive only below D.
abbrev pub Closes : ℕ → ℕ → ℕ → Fixed → Type 0
Closes work span bound f =
    (f₁ f₂ p : ℕ) → f₁ ≤ bound → p + 1 ≤ span → (pace f).typical * f₁ + (pace f).critical * f₂ + p + 1 ≤ work →
    f₁ + f₂ + p + 1 ≤ f.deadline

module _ (len : ℕ → ℕ) (work span i : ℕ) (f : Fixed) where
  -- (b): something that every call keeps, and under which an alive job has at most `bound` of them behind it.
  pub record Bounded (bound : ℕ) (Good : Moment len work span i f → List Call → Type 0) : Type 1 where
    pub few : (now : Moment len work span i f) (calls : List Call) → Good now calls → now.live.full₁ ≤ bound
    pub on_rest : (now later : Moment len work span i f) (x : Call) (calls : List Call) → Good now (x ∷ calls) →
        Rested len work span i f now later x → Good later calls
    pub on_tick : (now later : Moment len work span i f) (x : Call) (calls : List Call) → Good now (x ∷ calls) →
        Ticked len work span i f now later x → Good later calls

  -- (c) at one moment of the job.
  pub below_deadline : {bound : ℕ} → Closes work span bound f → (now : Moment len work span i f) → now.live.full₁ ≤ bound →
      now.ticks < f.deadline
  below_deadline {bound} closes now few =
      let here : Closes work span bound (row_at now.model i).fixed = subst (Closes work span bound) (sym now.fixed) closes in
      let b = live_bounds now.live in
      omega (
        arith,
        here now.live.full₁ now.live.full₂ now.live.partial few b.0 b.1,
        now.live.ticks,
        ap (λ (g : Fixed). g.deadline) now.fixed,
      )

  pub closing : {bound : ℕ} {Good : Moment len work span i f → List Call → Type 0} →
      survives f ≡ true → Bounded bound Good → Closes work span bound f → Invariant len work span i f Good
  closing stays bounded closes =
      record {
        in_time = λ now calls good. below_deadline closes now (bounded.few now calls good);
        on_rest = bounded.on_rest;
        on_tick = bounded.on_tick;
        undropped = λ now x calls good d. true≢false (sym stays ∙ d.lost);
      }
