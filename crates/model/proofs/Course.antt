-- A job over a list of calls: true reports carried from call to call, one call of an alive job, and a job that has
-- ended.
use Prim.Native.Nat.{ℕ, ◌+◌, ◌<◌}
use mathlib.Core.Path.{◌≡◌, refl, sym, ap, subst, subst₃, fun_ext, ◌∙◌}
use mathlib.Core.Bool.{Bool, true, false, cond, ◌&&◌, ◌||◌, true≢false, and-true}
use mathlib.Core.List.{List, [], ◌∷◌, ◌++◌}
use native.Mathlib.Nat.{add-zero, zero-add, add_assoc}
use native.Mathlib.Omega.{arith}
use lib.Bits.{bit_or}
use lib.ListN.{length, get_or}
use Rattle.std.proofs.lemmas.Bool.{and_left}
use Rattle.basics.specs.Lists.{bit}
use Rattle.nodes.specs.Sets.{has}
use Rattle.nodes.proofs.Bits.{has_or}
use Rattle.shares.specs.Totals.{share_in}
use Rattle.model.specs.Row.{Row, running_set, joined, ticked_row, is_late, survives, switched_row}
use Rattle.model.specs.Step.{Model, Call, tick, row_at, granted, running_at}
use Rattle.model.specs.Run.{after, is_accepted, is_tick, is_release_of, releases_in, is_running, runs_on, runs_in, is_due, TrueReports}
use Rattle.model.proofs.Nodes.{all_ended_at, all_ended_intro}
use Rattle.model.proofs.Steps.{next, Turn, same, begins, ticks, TickAt, Settled, in_critical, in_typical, turns, turn, release_of_lem, count_zero}
use Rattle.model.proofs.Lasting.{length-step, kept_by_call}
use Rattle.model.proofs.Job.{pace, Live, Over, OneMore, AfterTick, goes_on, ends, live_tick}

-- The reports of task i are true over the calls, where each node v ran on c v ticks before them.
unfoldable pub TrueFrom : ℕ → (ℕ → ℕ) → (ℕ → ℕ) → Model → List Call → Type 0
TrueFrom i len c m calls =
    (before : List Call) (reports : List ℕ) (rest : List Call) →
    calls ≡ before ++ tick reports ∷ rest →
    releases_in i m before ≡ 0 →
    is_accepted (after m before) (tick reports) ≡ true →
    (v : ℕ) → has (get_or reports i 0) v ≡ is_due (is_running i v (after m before)) (c v + runs_in i v m before) (len v)

pub true_from_start : (i : ℕ) (len : ℕ → ℕ) (m : Model) (calls : List Call) → TrueReports i len m calls →
    TrueFrom i len (λ _. 0) m calls
unfolding TrueReports TrueFrom
true_from_start i len m calls h before reports rest e z a v =
    h before reports rest e z a v
    ∙ ap (λ (n : ℕ). is_due (is_running i v (after m before)) n (len v)) (sym (zero-add (runs_in i v m before)))

-- What each node has run after one more call.
abbrev pub ran_after : ℕ → Model → Call → (ℕ → ℕ) → ℕ → ℕ
ran_after i m x c v = c v + cond (runs_on i v m x) 1 0

pub true_from_next : (i : ℕ) (len c : ℕ → ℕ) (m : Model) (x : Call) (calls : List Call) → is_release_of i m x ≡ false →
    TrueFrom i len c m (x ∷ calls) → TrueFrom i len (ran_after i m x c) (next m x) calls
unfolding TrueFrom
true_from_next i len c m x calls none h before reports rest e z a v =
    h (x ∷ before) reports rest (ap (λ (l : List Call). x ∷ l) e)
    (ap (λ (t : Bool). cond t 1 0 + releases_in i (next m x) before) none ∙ omega (arith, z)) a v
    ∙ ap (λ (n : ℕ). is_due (is_running i v (after (next m x) before)) n (len v))
    (sym (add_assoc (c v) (cond (runs_on i v m x) 1 0) (runs_in i v (next m x) before)))

-- S8.3: what task i is granted is its pace in the mode. Only here does the proof of a job learn what decides the grant.
granted_paced : (m : Model) (i : ℕ) → granted m i ≡ share_in m.critical (pace (row_at m i).fixed)
unfolding granted
granted_paced m i = refl

-- The switch leaves a row whose job survives it.
pub survivor_switched : (r : Row) → survives r.fixed ≡ true → switched_row r ≡ r
unfolding switched_row
survivor_switched r h =
    ap (λ (b : Bool). record { fixed = r.fixed; age = r.age; job = record { ended = r.job.ended; alive = b } })
    (ap (λ (t : Bool). r.job.alive && t) h ∙ and-true r.job.alive)

ticked_fixed : (r : Row) (report : ℕ) → (ticked_row r report).fixed ≡ r.fixed
unfolding ticked_row
ticked_fixed r report = refl

-- A job that has ended stays so until the next Release of its task.
over_ticked : (r : Row) (report : ℕ) → Over r → Over (ticked_row r report)
unfolding ticked_row joined
over_ticked r report o =
    record {
      nodes =
          all_ended_intro r.fixed.nodes (bit_or r.job.ended report)
          (λ v l. has_or r.job.ended report v
          ∙ ap (λ (t : Bool). t || has report v) (all_ended_at r.fixed.nodes r.job.ended v o.nodes l));
      gone = and_left r.job.alive _ o.gone;
    }

over_switched : (r : Row) → Over r → Over (switched_row r)
unfolding switched_row
over_switched r o = record { nodes = o.nodes; gone = and_left r.job.alive _ o.gone }

over_step : (m : Model) (x : Call) (i : ℕ) → i < length m.rows → is_release_of i m x ≡ false → Over (row_at m i) →
    Over (row_at (next m x) i)
over_step m x i h none o =
    kept_by_call Over (λ r grant report named. over_ticked r report) over_switched m x i h (λ e. absurd (true≢false (sym e ∙ none))) o

-- A job that is not alive stays so until the next Release of its task.
abbrev Dead : Row → Type 0
Dead r = r.job.alive ≡ false

dead_ticked : (r : Row) (report : ℕ) → Dead r → Dead (ticked_row r report)
unfolding ticked_row
dead_ticked r report e = and_left r.job.alive _ e

dead_switched : (r : Row) → Dead r → Dead (switched_row r)
unfolding switched_row
dead_switched r e = and_left r.job.alive _ e

pub dead_step : (m : Model) (x : Call) (i : ℕ) → i < length m.rows → is_release_of i m x ≡ false →
    (row_at m i).job.alive ≡ false → (row_at (next m x) i).job.alive ≡ false
dead_step m x i h none e =
    kept_by_call Dead (λ r grant report named. dead_ticked r report) dead_switched m x i h (λ t. absurd (true≢false (sym t ∙ none))) e

pub over_after : (m : Model) (calls : List Call) (i : ℕ) → i < length m.rows → releases_in i m calls ≡ 0 → Over (row_at m i) →
    Over (row_at (after m calls) i)
over_after m [] i h none o = o
over_after m (x ∷ calls) i h none o =
    let z = count_zero (is_release_of i m x) (releases_in i (next m x) calls) none in
    over_after (next m x) calls i (rw (length-step m x) h) z.1 (over_step m x i h z.0 o)

-- What a call that is no Release of its task makes of an alive job: it is no accepted tick and nothing happens; or a
-- tick runs, and the job goes on, is dropped by a switch that it does not survive, or ends.
module _ {len : ℕ → ℕ} {work span : ℕ} {r : Row} {c : ℕ → ℕ} {n : ℕ} (live : Live len work span r c n) where
  pub data Moved (critical worked : Bool) (r' : Row) (critical' : Bool) (d : ℕ → ℕ) : Type 0 where
    rests : worked ≡ false → critical' ≡ critical → r' ≡ r → d ≡ c → (l : Live len work span r' d n) →
        l.full₁ ≡ live.full₁ → l.full₂ ≡ live.full₂ → Moved critical worked r' critical' d
    works : worked ≡ true → (l : Live len work span r' d (n + 1)) →
        OneMore critical live.full₁ live.full₂ l.full₁ l.full₂ → (critical' ≡ false → is_late r' ≡ false) →
        Moved critical worked r' critical' d
    dropped : worked ≡ true → survives r.fixed ≡ false → critical' ≡ true → (part : Row) → part.fixed ≡ r.fixed →
        (l : Live len work span part d (n + 1)) → OneMore critical live.full₁ live.full₂ l.full₁ l.full₂ →
        Moved critical worked r' critical' d
    ended : Over r' → Moved critical worked r' critical' d

module _ {len : ℕ → ℕ} {work span : ℕ} (i : ℕ) (m : Model) {c : ℕ → ℕ} {n : ℕ} (live : Live len work span (row_at m i) c n) where
  -- What a call makes of the job of task i.
  abbrev MovedBy : Call → Type 0
  MovedBy x = Moved live m.critical (is_tick m x) (row_at (next m x) i) (next m x).critical (ran_after i m x c)

  idle-step : (x : Call) → is_tick m x ≡ false → (next m x).critical ≡ m.critical → row_at (next m x) i ≡ row_at m i → MovedBy x
  idle-step x t mode e =
      subst₃ (λ (r' : Row) (critical' : Bool) (d : ℕ → ℕ). Moved live m.critical (is_tick m x) r' critical' d) (sym e) (sym mode)
      (fun_ext (λ v. sym (ap (λ (b : Bool). c v + cond (b && is_running i v m) 1 0) t ∙ add-zero (c v))))
      (rests t refl refl refl live refl refl)

  pub true_head : (reports : List ℕ) (calls : List Call) → is_accepted m (tick reports) ≡ true →
      TrueFrom i len c m (tick reports ∷ calls) →
      (v : ℕ) → has (get_or reports i 0) v ≡ is_due (has (running_set (granted m i) (row_at m i)) v) (c v) (len v)
  unfolding TrueFrom is_running running_at running_set
  true_head reports calls a h v =
      h [] reports calls refl refl a v
      ∙ ap (λ (z : ℕ). is_due (has (running_set (granted m i) (row_at m i)) v) z (len v)) (add-zero (c v))

  pub ran_head : (reports : List ℕ) → is_accepted m (tick reports) ≡ true →
      (v : ℕ) → ran_after i m (tick reports) c v ≡ c v + bit (has (running_set (granted m i) (row_at m i)) v)
  unfolding is_running running_at running_set
  ran_head reports a v =
      ap (λ (b : Bool). c v + cond (b && has (running_set (granted m i) (row_at m i)) v) 1 0) a
      ∙ ap (λ (z : ℕ). c v + z) (one (has (running_set (granted m i) (row_at m i)) v))
    where
      one : (t : Bool) → cond t 1 0 ≡ bit t
      one true = refl
      one false = refl

  -- The job after its part of an accepted tick with true reports, whatever the tick makes of the mode.
  pub part_step : (reports : List ℕ) (calls : List Call) → is_accepted m (tick reports) ≡ true → TickAt m i reports →
      TrueFrom i len c m (tick reports ∷ calls) →
      AfterTick live m.critical (ticked_row (row_at m i) (get_or reports i 0)) (ran_after i m (tick reports) c)
  part_step reports calls a at h =
      live_tick live m.critical (granted m i) (granted_paced m i) (ran_after i m (tick reports) c) (get_or reports i 0) at.named
      (ran_head reports a) (true_head reports calls a h)

  tick_step : (reports : List ℕ) (calls : List Call) → is_accepted m (tick reports) ≡ true → TickAt m i reports →
      TrueFrom i len c m (tick reports ∷ calls) → MovedBy (tick reports)
  tick_step reports calls a at h = go (part_step reports calls a at h) at.settled
    where
      part : Row
      part = ticked_row (row_at m i) (get_or reports i 0)

      -- The row is what its part of the tick makes of it.
      on : row_at (next m (tick reports)) i ≡ part → (l : Live len work span part (ran_after i m (tick reports) c) (n + 1)) →
          OneMore m.critical live.full₁ live.full₂ l.full₁ l.full₂ →
          ((next m (tick reports)).critical ≡ false → is_late part ≡ false) → MovedBy (tick reports)
      on e l one calm =
          subst (λ (r' : Row). Moved live m.critical (is_tick m (tick reports)) r' (next m (tick reports)).critical
          (ran_after i m (tick reports) c)) (sym e) (works a l one calm)

      -- The tick switches.
      by_switch : (t : Bool) → survives (row_at m i).fixed ≡ t → (next m (tick reports)).critical ≡ true →
          row_at (next m (tick reports)) i ≡ switched_row part → (l : Live len work span part (ran_after i m (tick reports) c) (n + 1)) →
          OneMore m.critical live.full₁ live.full₂ l.full₁ l.full₂ → MovedBy (tick reports)
      by_switch true s critical e l one =
          on (e ∙ survivor_switched part (ap survives (ticked_fixed (row_at m i) (get_or reports i 0)) ∙ s)) l one (λ f. absurd (true≢false (sym critical ∙ f)))
      by_switch false s critical e l one = dropped a s critical part (ticked_fixed (row_at m i) (get_or reports i 0)) l one

      go : AfterTick live m.critical part (ran_after i m (tick reports) c) → Settled (next m (tick reports)) i part →
          MovedBy (tick reports)
      go (goes_on l one) (in_critical critical e) = on e l one (λ f. absurd (true≢false (sym critical ∙ f)))
      go (goes_on l one) (in_typical typical e calm) = on e l one (λ _. calm)
      go (goes_on l one) (turns critical e) = by_switch (survives (row_at m i).fixed) refl critical e l one
      go (ends o) (in_critical critical e) = ended (subst Over (sym e) o)
      go (ends o) (in_typical typical e calm) = ended (subst Over (sym e) o)
      go (ends o) (turns critical e) = ended (subst Over (sym e) (over_switched part o))

  -- One call of an alive job.
  pub live_step : (x : Call) (calls : List Call) → i < length m.rows → is_release_of i m x ≡ false →
      TrueFrom i len c m (x ∷ calls) →
      Moved live m.critical (is_tick m x) (row_at (next m x) i) (next m x).critical (ran_after i m x c)
  live_step x calls known none h = go (turn m i x known)
    where
      go : Turn m i x → MovedBy x
      go (same t r mode e) = idle-step x t mode e
      go (begins e a at) = absurd (true≢false (sym (release_of_lem m i x e a) ∙ none))
      go (ticks reports e a at) =
          subst MovedBy (sym e)
          (tick_step reports calls (ap (is_accepted m) (sym e) ∙ a) at (subst (λ (y : Call). TrueFrom i len c m (y ∷ calls)) e h))
