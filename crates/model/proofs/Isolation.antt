-- S10.14 and S10.15: one task seen by itself. What a tick leaves of a task is told by its row at the tick count before,
-- how often it was released since, the tick's report, and the modes before and after. So two tasks whose rows differ in
-- their shares alone go on together while they are given the same and have the same share in each mode that stands.
use Prim.Native.Nat.{ℕ, zero, suc, ◌+◌, ◌≤◌, ◌<◌}
use mathlib.Core.Path.{◌≡◌, refl, sym, ap, ap₂, ◌∙◌}
use mathlib.Core.Bool.{Bool, true, false, cond, ◌&&◌, ◌||◌, true≢false}
use mathlib.Core.List.{List, [], ◌∷◌, ◌++◌}
use Rattle.std.specs.Prelude.{Option, Some, None}
use native.Mathlib.Omega.{arith}
use lib.Dec.{ltb}
use lib.ListN.{length}
use Rattle.std.proofs.lemmas.Bool.{or_parts}
use Rattle.std.specs.List.{list_any}
use Rattle.sheet.specs.declared.task.Task.{Task}
use Rattle.shares.specs.declared.share.Share.{Share}
use Rattle.sheet.specs.Level.{is_high, is_low}
use Rattle.shares.specs.Low.{is_kept}
use Rattle.shares.specs.Totals.{share_in}
use Rattle.model.specs.Row.{Row, is_ready, ready, running, released_row, joined, ticked_row, survives, switched_row}
use Rattle.model.specs.Step.{Model, Call, release, tick, Step, step, row_at, granted, running_at, ticked_rows, lowest_late, switched_to, turning, ticked}
use Rattle.model.specs.Run.{after, answers, is_accepted, is_tick, is_release_of, ticks_in, releases_in}
use Rattle.model.specs.Plan.{fresh_row, fresh, Planned}
use Rattle.model.specs.Claim.{is_switched}
use Rattle.model.specs.Isolation.{until_tick, calls_at, report_at, TickCounted, TaskRun, start, task_of, share_of, until_in, before_in, mode_at, releases_at, SameRecord, SameGiven, SameModes, Alike, AlikeUntil, Isolated, Unswitched, IsolatedTypical}
use Rattle.model.proofs.Steps.{next, after-append, count_zero, accepted_step_lem, refused_step, turned_row, tick_row, release_mode, Turn, same, begins, ticks, turn, release_of_lem}
use Rattle.model.proofs.Lasting.{length-step, length-after}
use Rattle.model.proofs.Fresh.{fresh-length, fresh_row_lem, fixed_at}
use Rattle.model.proofs.TickCounts.{left, left_le, until_none, tick_counted}

-- A row after so many releases.
abbrev released_times : ℕ → Row → Row
released_times zero r = r
released_times (suc n) r = released_times n (released_row r)

-- Calls without an accepted tick leave the mode, and of task i what its releases make of it.
record Waited (m : Model) (i : ℕ) (calls : List Call) : Type 0 where
  pub mode : (after m calls).critical ≡ m.critical
  pub row : row_at (after m calls) i ≡ released_times (releases_in i m calls) (row_at m i)

waited : (m : Model) (i : ℕ) (calls : List Call) → i < length m.rows → ticks_in m calls ≡ 0 → Waited m i calls
waited m i [] h quiet = record { mode = refl; row = refl }
waited m i (c ∷ calls) h quiet =
    go (turn m i c h) (waited (next m c) i calls (rw (length-step m c) h) (count_zero (is_tick m c) _ quiet).1)
  where
    -- The releases to come, and this call if it is one.
    more : (t : Bool) → is_release_of i m c ≡ t → (n : ℕ) → n ≡ cond t 1 0 + releases_in i (next m c) calls →
        released_times n (row_at m i) ≡ released_times (releases_in i m (c ∷ calls)) (row_at m i)
    more t e n sum =
        ap (λ (k : ℕ). released_times k (row_at m i)) (sum ∙ ap (λ (b : Bool). cond b 1 0 + releases_in i (next m c) calls) (sym e))

    go : Turn m i c → Waited (next m c) i calls → Waited m i (c ∷ calls)
    go (same t r mode e) rest =
        record {
          mode = rest.mode ∙ mode;
          row = rest.row ∙ ap (released_times (releases_in i (next m c) calls)) e ∙ more false r (releases_in i (next m c) calls) (omega arith);
        }
    go (begins e a at) rest =
        record {
          mode = rest.mode ∙ ap (λ (x : Call). (next m x).critical) e ∙ release_mode m i (ap (is_accepted m) (sym e) ∙ a);
          row =
              rest.row
              ∙ ap (λ (x : Call). released_times (releases_in i (next m c) calls) (row_at (next m x) i)) e
              ∙ ap (released_times (releases_in i (next m c) calls)) at.row
              ∙ more true (release_of_lem m i c e a) (suc (releases_in i (next m c) calls)) (omega arith);
        }
    go (ticks reports e a at) rest =
        absurd (true≢false (sym (ap (is_tick m) e ∙ ap (is_accepted m) (sym e) ∙ a) ∙ (count_zero (is_tick m c) _ quiet).0))

-- What a tick leaves of task i, between the model at the tick count before it and the one that it leaves.
abbrev Told : ℕ → ℕ → ℕ → Model → Model → Type 0
Told i releases report m n =
    row_at n i ≡ turned_row m.critical n.critical (ticked_row (released_times releases (row_at m i)) report)

told_by : (b b' c c' : Bool) (r r' : Row) (x x' : ℕ) → b ≡ b' → c ≡ c' → r ≡ r' → x ≡ x' →
    turned_row b c (ticked_row r x) ≡ turned_row b' c' (ticked_row r' x')
told_by b b' c c' r r' x x' eb ec er ex = cc

module _ (m : Model) (i : ℕ) (calls : List Call) (known : i < length m.rows) where
  -- The calls at a tick count, from the tick on that begins it.
  waits_at : (t : ℕ) → t < ticks_in m calls → Waited (after m (until_tick t m calls)) i (calls_at t m calls)
  waits_at t h =
      waited (after m (until_tick t m calls)) i (calls_at t m calls) (rw (length-after m (until_tick t m calls)) known)
      (tick_counted t m calls h).waits

  told_at : (t : ℕ) → t < ticks_in m calls →
      Told i (releases_in i (after m (until_tick t m calls)) (calls_at t m calls)) (report_at i t m calls)
      (after m (until_tick t m calls)) (after m (until_tick (suc t) m calls))
  told_at t h =
      ap (λ (n : Model). row_at n i) next_is
      ∙ tick_row waiting i counted.reports counted.accepted (rw (length-after m (until_tick t m calls ++ calls_at t m calls)) known)
      ∙ told_by _ _ _ _ _ _ _ _ (ap (λ (n : Model). n.critical) waiting_is ∙ waits.mode) (ap (λ (n : Model). n.critical) (sym next_is))
      (ap (λ (n : Model). row_at n i) waiting_is ∙ waits.row) (sym (counted.report i))
    where
      counted : TickCounted t m calls
      counted = tick_counted t m calls h

      waits : Waited (after m (until_tick t m calls)) i (calls_at t m calls)
      waits = waits_at t h

      waiting : Model
      waiting = after m (until_tick t m calls ++ calls_at t m calls)

      waiting_is : waiting ≡ after (after m (until_tick t m calls)) (calls_at t m calls)
      waiting_is = after-append m (until_tick t m calls) (calls_at t m calls)

      next_is : after m (until_tick (suc t) m calls) ≡ next waiting (tick counted.reports)
      next_is =
          ap (after m) counted.next
          ∙ after-append m (until_tick t m calls ++ calls_at t m calls) (tick counted.reports ∷ [])

-- A row with other shares.
abbrev with_share : Share → Row → Row
with_share w r =
    record {
      fixed =
          record {
            level = r.fixed.level;
            nodes = r.fixed.nodes;
            predecessors = r.fixed.predecessors;
            deadline = r.fixed.deadline;
            virtual_deadline = r.fixed.virtual_deadline;
            share = w;
          };
      age = r.age;
      job = r.job;
    }

share_released : (w : Share) (n : ℕ) (r : Row) → released_times n (with_share w r) ≡ with_share w (released_times n r)
unfolding released_row
share_released w zero r = refl
share_released w (suc n) r = share_released w n (released_row r)

share_ticked : (w : Share) (r : Row) (report : ℕ) → ticked_row (with_share w r) report ≡ with_share w (ticked_row r report)
unfolding ticked_row joined
share_ticked w r report = refl

-- Where the critical shares are the same, a switch leaves both jobs or neither.
survives_alike : (w : Share) (r : Row) → r.fixed.share.critical ≡ w.critical → survives (with_share w r).fixed ≡ survives r.fixed
unfolding survives is_kept
survives_alike w r e = ap (λ (n : ℕ). is_high r.fixed.level || (is_low r.fixed.level && ltb 0 n)) (sym e)

share_turned : (w : Share) (b c : Bool) (r : Row) → share_in c r.fixed.share ≡ share_in c w → turned_row b c (with_share w r) ≡ with_share w (turned_row b c r)
unfolding switched_row
share_turned w true c r e = refl
share_turned w false true r e =
    ap (λ (stays : Bool). with_share w (record { fixed = r.fixed; age = r.age; job = record { ended = r.job.ended; alive = r.job.alive && stays } }))
    (survives_alike w r e)
share_turned w false false r e = refl

fixed_told : (n : ℕ) (r : Row) (report : ℕ) → (ticked_row (released_times n r) report).fixed ≡ r.fixed
unfolding ticked_row released_row
fixed_told zero r report = refl
fixed_told (suc n) r report = fixed_told n (released_row r) report

-- A tick that tells two rows the same leaves them together, if they have the same share in the mode after it.
share_told : (w : Share) (b c : Bool) (n report : ℕ) (r : Row) → share_in c r.fixed.share ≡ share_in c w →
    turned_row b c (ticked_row (released_times n (with_share w r)) report) ≡ with_share w (turned_row b c (ticked_row (released_times n r) report))
share_told w b c n report r e =
    ap (λ (x : Row). turned_row b c (ticked_row x report)) (share_released w n r)
    ∙ ap (turned_row b c) (share_ticked w (released_times n r) report)
    ∙ share_turned w b c (ticked_row (released_times n r) report)
    (ap (λ f. share_in c f.share) (fixed_told n r report) ∙ e)

-- Two such rows have the same running nodes where they have the same share in the mode.
alike_rows : (m : Model) (i : ℕ) (n : Model) (j : ℕ) (w : Share) → row_at n j ≡ with_share w (row_at m i) → m.critical ≡ n.critical →
    share_in m.critical (row_at m i).fixed.share ≡ share_in m.critical w → Alike m i n j
unfolding running_at granted running ready is_ready
alike_rows m i n j w row mode grant =
    record {
      running =
          ap (λ (g : ℕ). running g (row_at m i)) (grant ∙ ap (λ (b : Bool). share_in b w) mode)
          ∙ ap (λ (r : Row). running (share_in n.critical r.fixed.share) r) (sym row);
      ended = ap (λ (r : Row). r.job.ended) (sym row);
      alive = ap (λ (r : Row). r.job.alive) (sym row);
      age = ap (λ (r : Row). r.age) (sym row);
    }

-- What is known of one task of a run whose shares are planned.
module _ (r : TaskRun) (planned : Planned r.tasks r.shares) (known : r.number < r.tasks.count) where
  row_known : r.number < length (start r).rows
  row_known = rw (fresh-length r.tasks r.shares planned) known

  share_is : (calls : List Call) → (row_at (after (start r) calls) r.number).fixed.share ≡ share_of r
  unfolding fresh_row
  share_is calls = ap (λ f. f.share) (fixed_at r.tasks r.shares planned calls r.number known)

  row_first : row_at (after (start r) (until_in r 0)) r.number ≡ fresh_row (task_of r) (share_of r)
  row_first =
      ap (λ (l : List Call). row_at (after (start r) l) r.number) (until_none (start r) r.calls)
      ∙ fresh_row_lem r.tasks r.shares planned r.number known

-- The task just before a tick, by what it was at the tick count.
record Before (r : TaskRun) (s : ℕ) : Type 0 where
  pub mode : (after (start r) (before_in r s)).critical ≡ mode_at r s
  pub row : row_at (after (start r) (before_in r s)) r.number ≡ released_times (releases_at r s) (row_at (after (start r) (until_in r s)) r.number)

before_at : (r : TaskRun) → Planned r.tasks r.shares → r.number < r.tasks.count → (s : ℕ) → s < ticks_in (start r) r.calls → Before r s
before_at r planned known s h =
    let waits = waits_at (start r) r.number r.calls (row_known r planned known) s h in
    let all = after-append (start r) (until_in r s) (calls_at s (start r) r.calls) in
    record {
      mode = ap (λ (n : Model). n.critical) all ∙ waits.mode;
      row = ap (λ (n : Model). row_at n r.number) all ∙ waits.row;
    }

-- At tick count 0 the mode is typical.
mode_first : (r : TaskRun) → mode_at r 0 ≡ false
unfolding fresh
mode_first r = ap (λ (l : List Call). (after (start r) l).critical) (until_none (start r) r.calls)

-- Fresh rows of the same record differ in their shares alone where the typical ones are the same, since V is.
fresh_shares : (t : Task) (v w : Share) → v.typical ≡ w.typical → fresh_row t w ≡ with_share w (fresh_row t v)
unfolding fresh_row
fresh_shares t v w e = ap (λ (a : ℕ). with_share w (fresh_row t (record { typical = a; critical = v.critical }))) (sym e)

module _ (t : ℕ) (r q : TaskRun) (planned : Planned r.tasks r.shares) (other_planned : Planned q.tasks q.shares)
    (task : SameRecord r q) (given : SameGiven t r q) (modes : SameModes t r q)
    (grants : (s : ℕ) → s ≤ t → share_in (mode_at r s) (share_of r) ≡ share_in (mode_at r s) (share_of q)) where
  -- The tasks at a tick count.
  abbrev row_of : ℕ → Row
  row_of s = row_at (after (start r) (until_in r s)) r.number

  abbrev other_row : ℕ → Row
  other_row s = row_at (after (start q) (until_in q s)) q.number

  granted_at : (s : ℕ) → s ≤ t → (calls : List Call) →
      share_in (mode_at r s) (row_at (after (start r) calls) r.number).fixed.share ≡ share_in (mode_at r s) (share_of q)
  granted_at s h calls = ap (share_in (mode_at r s)) (share_is r planned task.known calls) ∙ grants s h

  mode_at_lem : (s : ℕ) → s ≤ t → mode_at r s ≡ mode_at q s
  unfolding SameModes
  mode_at_lem s h = modes s (omega (arith, h))

  released_at : (s : ℕ) → s < t → releases_at r s ≡ releases_at q s
  released_at s h = given.releases s (omega (arith, h))

  reported_at : (s : ℕ) → s < t → report_at r.number s (start r) r.calls ≡ report_at q.number s (start q) q.calls
  reported_at s h = given.reports s (omega (arith, h))

  together : (s : ℕ) → s ≤ t → other_row s ≡ with_share (share_of q) (row_of s)
  unfolding fresh
  together zero h =
      row_first q other_planned task.other_known
      ∙ ap (λ (x : Task). fresh_row x (share_of q)) (sym task.says)
      ∙ fresh_shares (task_of r) (share_of r) (share_of q)
      (rw (mode_first r) at (grants 0 h))
      ∙ ap (with_share (share_of q)) (sym (row_first r planned task.known))
  together (suc s) h =
      told_at (start q) q.number q.calls (row_known q other_planned task.other_known) s (omega (arith, given.other_ticks))
      ∙ told_by _ _ _ _ _ _ _ _ (sym (mode_at_lem s (omega arith))) (sym (mode_at_lem (suc s) h))
      (ap₂ released_times (sym (released_at s (omega arith))) (together s (omega arith))) (sym (reported_at s (omega arith)))
      ∙ share_told (share_of q) (mode_at r s) (mode_at r (suc s)) (releases_at r s) (report_at r.number s (start r) r.calls) (row_of s) (granted_at (suc s) h (until_in r s))
      ∙ ap (with_share (share_of q))
      (sym (told_at (start r) r.number r.calls (row_known r planned task.known) s (omega (arith, given.ticks))))

  alike_after : (s : ℕ) → s ≤ t → Alike (after (start r) (until_in r s)) r.number (after (start q) (until_in q s)) q.number
  alike_after s h =
      alike_rows _ r.number _ q.number (share_of q) (together s h) (mode_at_lem s h) (granted_at s h (until_in r s))

  -- Just before a tick the releases since the tick before it have been made, and the mode stands.
  alike_before : (s : ℕ) → s < t → Alike (after (start r) (before_in r s)) r.number (after (start q) (before_in q s)) q.number
  alike_before s h =
      alike_rows _ r.number _ q.number (share_of q) row mode
      (ap (λ (b : Bool). share_in b (row_at (after (start r) (before_in r s)) r.number).fixed.share) mine.mode
      ∙ granted_at s (omega arith) (before_in r s)
      ∙ ap (λ (b : Bool). share_in b (share_of q)) (sym mine.mode))
    where
      mine : Before r s
      mine = before_at r planned task.known s (omega (arith, given.ticks))

      its : Before q s
      its = before_at q other_planned task.other_known s (omega (arith, given.other_ticks))

      row : row_at (after (start q) (before_in q s)) q.number ≡ with_share (share_of q) (row_at (after (start r) (before_in r s)) r.number)
      row =
          its.row
          ∙ ap₂ released_times (sym (released_at s h)) (together s (omega arith))
          ∙ share_released (share_of q) (releases_at r s) (row_of s)
          ∙ ap (with_share (share_of q)) (sym mine.row)

      mode : (after (start r) (before_in r s)).critical ≡ (after (start q) (before_in q s)).critical
      mode = mine.mode ∙ mode_at_lem s (omega arith) ∙ sym its.mode

  alike_until : AlikeUntil t r (after (start r)) q (after (start q))
  alike_until = record { after_tick = alike_after; before_tick = alike_before }

-- S10.14.
pub isolated : (t : ℕ) (r q : TaskRun) → Planned r.tasks r.shares → Planned q.tasks q.shares → Isolated t r q
unfolding Isolated
isolated t r q planned other_planned task shares given modes =
    alike_until t r q planned other_planned task given modes (λ s h. ap (share_in (mode_at r s)) shares)

-- A call that does not switch leaves the typical mode.
stays_typical : (m : Model) (c : Call) → m.critical ≡ false → is_switched (step m c).answer ≡ false → (next m c).critical ≡ false
unfolding ticked
stays_typical m c e unswitched = go c (is_accepted m c) refl unswitched
  where
    late : (rows : List Row) (o : Option ℕ) → is_switched (switched_to rows o).answer ≡ false → (switched_to rows o).model.critical ≡ false
    late rows None u = refl
    late rows (Some j) u = absurd (true≢false u)

    go : (c : Call) (t : Bool) → is_accepted m c ≡ t → is_switched (step m c).answer ≡ false → (next m c).critical ≡ false
    go c false a u = ap (λ (n : Model). n.critical) (refused_step m c a) ∙ e
    go (release i) true a u = release_mode m i a ∙ e
    go (tick reports) true a u =
        let rows = ticked_rows m.rows reports in
        let is : step m (tick reports) ≡ switched_to rows (lowest_late 0 rows) =
        accepted_step_lem m (tick reports) a ∙ ap (λ (b : Bool). turning b rows) e in
        ap (λ (s : Step). s.model.critical) is
        ∙ late rows (lowest_late 0 rows) (sym (ap (λ (s : Step). is_switched s.answer) is) ∙ u)

-- Where no tick up to the t-th switches, the mode is typical after each of them.
typical_while : (t s : ℕ) (m : Model) (calls : List Call) → s ≤ t → m.critical ≡ false →
    list_any is_switched (answers m (until_tick t m calls)) ≡ false → (after m (until_tick s m calls)).critical ≡ false
typical_while t s m [] h e u = e
typical_while t zero m (c ∷ calls) h e u = e
typical_while zero (suc s) m (c ∷ calls) h e u = absurd (omega arith)
typical_while (suc t) (suc s) m (c ∷ calls) h e u =
    typical_while (left (is_tick m c) t) (left (is_tick m c) s) (next m c) calls (left_le (is_tick m c) s t h)
    (stays_typical m c e (or_parts (is_switched (step m c).answer) _ u).0) (or_parts (is_switched (step m c).answer) _ u).1

-- S10.15: the mode is typical throughout, and so is the share that counts.
pub isolated_typical : (t : ℕ) (r q : TaskRun) → Planned r.tasks r.shares → Planned q.tasks q.shares → IsolatedTypical t r q
unfolding IsolatedTypical Unswitched SameModes fresh
isolated_typical t r q planned other_planned task shares given unswitched other_unswitched =
    alike_until t r q planned other_planned task given (λ s h. mine s (omega (arith, h)) ∙ sym (its s (omega (arith, h))))
    (λ s h. ap (λ (b : Bool). share_in b (share_of r)) (mine s h) ∙ shares ∙ ap (λ (b : Bool). share_in b (share_of q)) (sym (mine s h)))
  where
    mine : (s : ℕ) → s ≤ t → mode_at r s ≡ false
    mine s h = typical_while t s (start r) r.calls h refl unswitched

    its : (s : ℕ) → s ≤ t → mode_at q s ≡ false
    its s h = typical_while t s (start q) q.calls h refl other_unswitched
