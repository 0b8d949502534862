-- S10.11, a job of a kept low task under its budget: it has the same share in both modes, so that a full tick in
-- critical mode counts as one in typical mode, and while it is alive fewer than D have passed; and no switch drops it.
use Prim.Native.Nat.{ℕ, ◌+◌, ◌*◌, ◌<◌}
use mathlib.Core.Path.{◌≡◌, refl, sym, ap, ◌∙◌}
use mathlib.Core.Bool.{Bool, true, false, ◌||◌, true≢false, and-eq-true_iff}
use mathlib.Core.List.{List}
use native.Mathlib.Omega.{arith}
use borrow.Author.Tests.{ltb-true}
use lib.Dec.{ltb}
use Rattle.sheet.specs.declared.task.Budget.{Budget}
use Rattle.sheet.specs.declared.task.TaskSet.{TaskSet}
use Rattle.sheet.specs.Format.{task_in}
use Rattle.sheet.specs.Level.{is_high, is_low}
use Rattle.shares.specs.declared.share.Share.{Share}
use Rattle.shares.specs.Low.{is_kept}
use Rattle.shares.specs.Totals.{share_at}
use Rattle.model.specs.Row.{Fixed, survives}
use Rattle.model.specs.Step.{Call}
use Rattle.model.specs.Plan.{fresh_row, Planned}
use Rattle.model.specs.Claim.{KeptDeadline}
use Rattle.model.proofs.Released.{planned_fixed}
use Rattle.model.proofs.Ending.{Invariant, ended_by_deadline}
use Rattle.model.proofs.Closing.{Closes, below_deadline}
use Rattle.model.proofs.Low.{ends_low}

-- S8.6: the job of a kept task survives a switch.
kept_survives : (f : Fixed) → is_kept f.level f.share ≡ true → survives f ≡ true
unfolding survives
kept_survives f kept = go (is_high f.level)
  where
    go : (high : Bool) → (high || is_kept f.level f.share) ≡ true
    go true = refl
    go false = kept

-- S7.4: a kept task is low, with a critical share.
kept_facts : (level : ℕ) (s : Share) → is_kept level s ≡ true → (is_low level ≡ true) × (0 < s.critical)
unfolding is_kept
kept_facts level s kept =
    let both = (and-eq-true_iff (is_low level) (ltb 0 s.critical)).0 kept in (both.0, ltb-true 0 s.critical both.1)

-- A job that survives the switch, and whose budget is closed whatever the full ticks in typical mode: nothing else is
-- asked.
always : (len : ℕ → ℕ) (work span i : ℕ) (f : Fixed) → survives f ≡ true → ((bound : ℕ) → Closes work span bound f) →
    Invariant len work span i f (λ now calls. Unit {0})
always len work span i f stays closes =
    record {
      in_time = λ now calls _. below_deadline len work span i f (closes now.live.full₁) now (omega arith);
      on_rest = λ now later x calls _ r. tt;
      on_tick = λ now later x calls _ t. tt;
      undropped = λ now x calls _ d. true≢false (sym stays ∙ d.lost);
    }

module _ (ts : TaskSet) (shares : List Share) (planned : Planned ts shares) where
  -- With the same share in both modes the full ticks of both count together.
  closes : (i : ℕ) → i < ts.count → is_kept (task_in ts i).level (share_at shares i) ≡ true → (bound : ℕ) →
      Closes (task_in ts i).figures.nominal.work (task_in ts i).figures.nominal.span bound (planned_fixed ts shares i)
  unfolding fresh_row
  closes i known kept bound f₁ f₂ p few span work =
      let facts = kept_facts (task_in ts i).level (share_at shares i) kept in
      let same : (share_at shares i).critical ≡ (share_at shares i).typical =
      (planned.low i known facts.0).critical (omega (arith, facts.1)) in
      ends_low ts shares planned i known facts.0 (f₁ + f₂) p span (omega (arith, work, ap (λ (b : ℕ). b * f₂) same))

  -- S10.11: a job of a kept low task has ended with the D-th accepted tick after its release, whatever the modes.
  pub kept_deadline : (calls : List Call) → KeptDeadline ts shares calls
  unfolding KeptDeadline fresh_row
  kept_deadline calls i job lengths kept keeps reports passed =
      ended_by_deadline ts shares planned calls i job lengths b
      (λ known.
      always lengths b.work b.span i (planned_fixed ts shares i) (kept_survives (planned_fixed ts shares i) kept)
      (closes i known kept))
      (λ known now start. tt) keeps reports passed
    where
      b : Budget
      b = (task_in ts i).figures.nominal
