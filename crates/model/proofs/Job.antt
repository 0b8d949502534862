-- One row through one tick, with a job whose reports are true: the model's sets are the tests of the job's mathematics,
-- and the ended nodes are those that have run their lengths.
use Prim.Native.Nat.{ℕ, ◌+◌, ◌*◌, ◌≤◌, ◌<◌, ◌^◌, min}
use mathlib.Core.Path.{◌≡◌, refl, sym, ap, ap₂, ◌∙◌}
use mathlib.Core.Bool.{Bool, true, false, not, ◌&&◌, ◌||◌, true≢false}
use native.Mathlib.Nat.{lt_of_lt_of_le, lt_of_le_of_lt}
use native.Mathlib.Omega.{arith}
use native.Mathlib.Decide.{dec_lt}
use borrow.Author.Tests.{eqb-true, eqb-false, eq-eqb, ne_eqb, lt-ltb}
use lib.Bits.{bit_and, and_le_l}
use lib.Dec.{eqb, ltb}
use lib.Pow.{pow_mono}
use Rattle.std.specs.Cmp.{both_ways}
use Rattle.basics.specs.Lists.{bit, count, all_below}
use Rattle.nodes.specs.Sets.{has}
use Rattle.nodes.proofs.Bits.{has_zero, has_above, has_and, has_or, has_ext}
use Rattle.model.specs.Budget.{Keeps}
use Rattle.shares.specs.declared.share.Share.{Share}
use Rattle.shares.specs.Totals.{share_in}
use Rattle.model.specs.Row.{Fixed, Row, is_subset, all_ended, predecessors_of, precedes, is_ready, running_set, released_row, joined, ticked_row}
use Rattle.model.specs.Run.{is_due}
use Rattle.basics.proofs.Below.{all_at, all_intro}
use Rattle.model.proofs.Sums.{lowest, lowest_same}
use Rattle.model.proofs.JobTick.{ended, ready, runs, Alive, alive_some, alive_same, runs_same, ended_next, ended_same, next}
use Rattle.model.proofs.Progress.{Progress, Ticked, begin, begin_unended, bounds, tick_as}
use Rattle.model.proofs.Nodes.{runs_test, all_ended_at, all_ended_intro}
use Rattle.model.proofs.Lasting.{KeptSound, sound_released, sound_ticked}

-- A node is due just where the tick brings what it ran to its length.
due_last : (t : Bool) (ran length : ℕ) → is_due t ran length ≡ (t && eqb (ran + bit t) length)
unfolding is_due
due_last true ran length = go (is_due true ran length) refl
  where
    go : (t : Bool) → is_due true ran length ≡ t → t ≡ eqb (ran + 1) length
    go true e = sym (eq-eqb (ran + 1) length (omega (arith, eqb-true)))
    go false e = sym (ne_eqb (ran + 1) length (λ same. absurd (omega (arith, eqb-false))))
due_last false ran length = refl

-- A subset, as a test of each node below k.
subset_test : (k a b : ℕ) → a < 2 ^ k → is_subset a b ≡ all_below k (λ u. not (has a u) || has b u)
unfolding is_subset
subset_test k a b h =
    both_ways (eqb (bit_and a b) a) (all_below k (λ u. not (has a u) || has b u))
    (λ e. all_intro k (λ u. not (has a u) || has b u)
    (λ u l. within (has a u) (has b u) (sym (has_and a b u) ∙ ap (λ (n : ℕ). has n u) (eqb-true (bit_and a b) a e))))
    (λ e. eq-eqb (bit_and a b) a (has_ext k (bit_and a b) a (lt_of_le_of_lt (and_le_l a b) h) h
    (λ u l. has_and a b u ∙ both (has a u) (has b u) (all_at k (λ u. not (has a u) || has b u) e u l))))
  where
    within : (x y : Bool) → (x && y) ≡ x → (not x || y) ≡ true
    within true y e = e
    within false y e = refl

    both : (x y : Bool) → (not x || y) ≡ true → (x && y) ≡ x
    both true y e = e
    both false y e = refl

-- Each node's predecessors come before it.
abbrev pub Downwards : Fixed → Type 0
Downwards f = (v : ℕ) → v < f.nodes → predecessors_of f.predecessors v < 2 ^ v

downwards_test : (f : Fixed) → Downwards f → (u v : ℕ) → v < f.nodes → precedes f.predecessors u v ≡ true → u < v
unfolding precedes
downwards_test f d u v l e = go (dec_lt u v)
  where
    go : Dec (u < v) → u < v
    go (yes h) = h
    go (no h) = absurd (true≢false (sym e ∙ has_above v (predecessors_of f.predecessors v) u (d v l) (omega arith)))

-- Of an alive job, the model's ready nodes are those of the job's mathematics.
ready_test : (r : Row) → Downwards r.fixed → r.job.alive ≡ true → (v : ℕ) → v < r.fixed.nodes →
    is_ready r v ≡ ready r.fixed.nodes (precedes r.fixed.predecessors) (has r.job.ended) v
unfolding is_ready ready precedes
ready_test r d alive v l =
    let mask = predecessors_of r.fixed.predecessors v in
    ap₂ (λ (x y : Bool). x && not (has r.job.ended v) && y) alive
    (subset_test r.fixed.nodes mask r.job.ended (lt_of_lt_of_le (d v l) (pow_mono (omega arith))))

-- So are the running ones.
runs_is : (grant : ℕ) (r : Row) → Downwards r.fixed → r.job.alive ≡ true → (v : ℕ) → v < r.fixed.nodes →
    has (running_set grant r) v ≡ runs grant r.fixed.nodes (precedes r.fixed.predecessors) (has r.job.ended) v
unfolding lowest
runs_is grant r d alive v l =
    runs_test grant r v
    ∙ ap (λ (x : Bool). x && (is_ready r v && ltb (count (is_ready r) v) grant)) (lt-ltb v r.fixed.nodes l)
    ∙ lowest_same grant v (is_ready r)
    (ready r.fixed.nodes (precedes r.fixed.predecessors) (has r.job.ended))
    (λ u b. ready_test r d alive u (omega arith))

-- All nodes ended, as a test of each.
all_ended_test : (k set : ℕ) → all_ended k set ≡ all_below k (has set)
all_ended_test k set =
    both_ways (all_ended k set) (all_below k (has set))
    (λ e. all_intro k (has set) (λ v l. all_ended_at k set v e l))
    (λ e. all_ended_intro k set (all_at k (has set) e))

-- What a task is granted while a job of it is alive: so much in typical and so much in critical mode.
abbrev pub pace : Fixed → Share
pace f = f.share

-- The job of a row is alive, n accepted ticks after its release: each node v ran on c v of them and has ended if that
-- is its length. Of these ticks full₁ were full in typical and full₂ in critical mode, and partial ones were not full.
pub record Live (len : ℕ → ℕ) (work span : ℕ) (r : Row) (c : ℕ → ℕ) (n : ℕ) : Type 0 where
  pub alive : r.job.alive ≡ true
  pub sound : KeptSound r
  pub downwards : Downwards r.fixed
  pub keeps : Keeps r.fixed.nodes (precedes r.fixed.predecessors) work span len
  pub full₁ : ℕ
  pub full₂ : ℕ
  pub partial : ℕ
  pub ticks : full₁ + full₂ + partial ≡ n
  pub age : r.age ≡ min n r.fixed.deadline
  pub done : (v : ℕ) → v < r.fixed.nodes → has r.job.ended v ≡ ended len c v
  pub progress : Progress r.fixed.nodes (precedes r.fixed.predecessors) len (pace r.fixed).typical
      (pace r.fixed).critical span c full₁ full₂ partial

-- A job that has ended.
pub record Over (r : Row) : Type 0 where
  pub nodes : all_ended r.fixed.nodes r.job.ended ≡ true
  pub gone : r.job.alive ≡ false

-- At its release.
pub begun_live : {len : ℕ → ℕ} {work span : ℕ} (r : Row) → KeptSound r → Downwards r.fixed →
    Keeps r.fixed.nodes (precedes r.fixed.predecessors) work span len →
    Live len work span (released_row r) (λ _. 0) 0
unfolding released_row
begun_live r sound down keeps =
    record {
      alive = refl;
      sound = sound_released r sound;
      downwards = down;
      keeps = keeps;
      full₁ = 0;
      full₂ = 0;
      partial = 0;
      ticks = refl;
      age = omega arith;
      done = λ v l. has_zero v ∙ sym (begin_unended keeps v l);
      progress = begin (pace r.fixed).typical (pace r.fixed).critical keeps;
    }

-- A job that keeps the budget and had full ticks only in typical mode is alive only below the bound.
abbrev pub TypicalBelow : ℕ → ℕ → Fixed → ℕ → Type 0
TypicalBelow work span f bound =
    (full p : ℕ) → p + 1 ≤ span → (pace f).typical * full + p + 1 ≤ work → full + p + 1 ≤ bound

-- What one more tick in a mode makes of the numbers of full ticks in typical and in critical mode, f₁ and f₂.
pub record OneMore (critical : Bool) (f₁ f₂ g₁ g₂ : ℕ) : Type 0 where
  pub most : g₁ ≤ f₁ + 1
  pub in_critical : critical ≡ true → g₁ ≡ f₁
  pub in_typical : critical ≡ false → g₂ ≡ f₂

module _ {len : ℕ → ℕ} {work span : ℕ} {r : Row} {c : ℕ → ℕ} {n : ℕ} (live : Live len work span r c n) where
  some_left : Alive r.fixed.nodes (has r.job.ended)
  some_left =
      alive_some (sym (all_ended_test r.fixed.nodes r.job.ended) ∙ live.sound.sound.alive live.alive)

  -- While a job is alive, a tick is left of the span and of the work.
  pub live_bounds : (live.partial + 1 ≤ span)
      × ((pace r.fixed).typical * live.full₁ + (pace r.fixed).critical * live.full₂ + live.partial + 1 ≤ work)
  live_bounds = bounds live.keeps live.progress (alive_same live.done some_left)

  -- Where no full tick was a critical one, a bound on what such a job can have behind it holds for n.
  pub typical_below : {bound : ℕ} → live.full₂ ≡ 0 → TypicalBelow work span r.fixed bound → n < bound
  typical_below none below =
      let spent : (pace r.fixed).critical * live.full₂ ≡ 0 = rw none (omega arith) in
      omega (arith, below live.full₁ live.partial live_bounds.0 (omega (arith, live_bounds.1)), live.ticks)

  runs_here : ℕ → ℕ → Bool
  runs_here grant v = runs grant r.fixed.nodes (precedes r.fixed.predecessors) (ended len c) v

  ran_is : (grant v : ℕ) → v < r.fixed.nodes → has (running_set grant r) v ≡ runs_here grant v
  unfolding runs_here
  ran_is grant v l =
      runs_is grant r live.downwards live.alive v l
      ∙ runs_same r.fixed.nodes (precedes r.fixed.predecessors) grant (has r.job.ended) (ended len c) live.done v l

  -- With a true report the ended nodes are again those that have run their lengths.
  done_next : (grant : ℕ) (d : ℕ → ℕ) (report : ℕ) →
      ((v : ℕ) → d v ≡ c v + bit (has (running_set grant r) v)) →
      ((v : ℕ) → has report v ≡ is_due (has (running_set grant r) v) (c v) (len v)) →
      (v : ℕ) → v < r.fixed.nodes → has (joined r report) v ≡ ended len d v
  unfolding joined runs_here
  done_next grant d report counts true-report v l =
      has_or r.job.ended report v
      ∙ ap₂ (λ (x y : Bool). x || y) (live.done v l)
      (true-report v ∙ ap (λ (t : Bool). is_due t (c v) (len v)) (ran_is grant v l) ∙ due_last (runs_here grant v) (c v) (len v))
      ∙ sym (ended_next grant r.fixed.nodes (precedes r.fixed.predecessors) len c v)
      ∙ sym (ended_same len d (next grant r.fixed.nodes (precedes r.fixed.predecessors) len c) v
      (counts v ∙ ap (λ (t : Bool). c v + bit t) (ran_is grant v l)))

  -- What an accepted tick with a true report makes of an alive job. The grant is the pace in the mode, whoever decided
  -- it.
  pub data AfterTick (critical : Bool) (r' : Row) (d : ℕ → ℕ) : Type 0 where
    goes_on : (l : Live len work span r' d (n + 1)) → OneMore critical live.full₁ live.full₂ l.full₁ l.full₂ →
        AfterTick critical r' d
    ends : Over r' → AfterTick critical r' d

  pub live_tick : (critical : Bool) (grant : ℕ) → grant ≡ share_in critical (pace r.fixed) → (d : ℕ → ℕ) (report : ℕ) →
      is_subset report (running_set grant r) ≡ true →
      ((v : ℕ) → d v ≡ c v + bit (has (running_set grant r) v)) →
      ((v : ℕ) → has report v ≡ is_due (has (running_set grant r) v) (c v) (len v)) →
      AfterTick critical (ticked_row r report) d
  unfolding ticked_row
  live_tick critical grant paced d report named counts true-report = go (all_ended r.fixed.nodes (joined r report)) refl
    where
      ticked : Ticked r.fixed.nodes (precedes r.fixed.predecessors) len (pace r.fixed).typical
          (pace r.fixed).critical span critical d live.full₁ live.full₂ live.partial
      ticked =
          tick_as grant live.progress (has r.job.ended) d live.done
          (λ v l. counts v ∙ ap (λ (t : Bool). c v + bit t) (runs_is grant r live.downwards live.alive v l))
          (downwards_test r.fixed live.downwards) critical paced some_left

      go : (t : Bool) → all_ended r.fixed.nodes (joined r report) ≡ t → AfterTick critical (ticked_row r report) d
      go true e = ends (record { nodes = e; gone = ap₂ (λ (x y : Bool). x && not y) live.alive e })
      go false e =
          goes_on
          (record {
            alive = ap₂ (λ (x y : Bool). x && not y) live.alive e;
            sound = sound_ticked r grant report named live.sound;
            downwards = live.downwards;
            keeps = live.keeps;
            full₁ = ticked.full₁;
            full₂ = ticked.full₂;
            partial = ticked.partial;
            ticks = omega (arith, ticked.one_more, live.ticks);
            age = omega (arith, live.age);
            done = done_next grant d report counts true-report;
            progress = ticked.progress;
          })
          (record { most = ticked.full₁_most; in_critical = ticked.if_critical; in_typical = ticked.if_typical })
