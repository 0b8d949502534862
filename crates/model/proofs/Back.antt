-- S10.13, back in time: after a switch every task grows older with each tick, and an alive high job is younger than D.
-- So as long as no high task is released, fewer ticks pass than the longest deadline has until no high job is alive,
-- and the tick with which that is so returns.
use Prim.Native.Nat.{ℕ, ◌+◌, ◌-◌, ◌≤◌, ◌<◌, min}
use mathlib.Core.Path.{◌≡◌, refl, sym, ap, ap₂, subst, ◌∙◌}
use mathlib.Core.Bool.{Bool, true, false, cond, not, ◌&&◌, ◌||◌, true≢false, false≢true, and-eq-true_iff, or-true}
use mathlib.Core.List.{List, [], ◌∷◌, ◌++◌, map, append_assoc}
use Rattle.std.specs.Prelude.{Option, Some, None}
use native.Mathlib.Omega.{arith}
use lib.ListN.{length}
use Rattle.std.specs.Prelude.{Result, Ok, Err, ⊤, is_ok}
use Rattle.std.proofs.lemmas.Option.{none-some}
use Rattle.std.proofs.lemmas.Bool.{false_from_ne_true}
use Rattle.sheet.specs.declared.refusal.Refusal.{Refusal}
use Rattle.std.specs.List.{list_any}
use Rattle.basics.proofs.Lists.{any_some}
use Rattle.sheet.specs.declared.task.TaskSet.{TaskSet}
use Rattle.sheet.specs.Level.{is_high}
use Rattle.shares.specs.declared.share.Share.{Share}
use Rattle.model.specs.Row.{Fixed, Row, has_high_job, is_late, switched_row}
use Rattle.model.specs.Step.{Model, Call, release, tick, Step, step, step_by, row_at, no_row, refusal_of, released, ticked_rows, lowest_late, switched_to, returned_to, turning, ticked}
use Rattle.model.specs.Run.{after, is_accepted, is_tick, ticks_in}
use Rattle.model.specs.Plan.{fresh, Planned}
use Rattle.model.specs.Claim.{is_switched, is_returned}
use Rattle.model.specs.Return.{longest_deadline, turned, is_high_release, waits_for_return, ReturnWithin, BackInTime}
use Rattle.model.proofs.Steps.{next, after-append, accepted_step_lem, tick_at, Turn, same, begins, ticks, turn}
use Rattle.model.proofs.Lasting.{fixed_step, same_fixed, length-step}
use Rattle.model.proofs.Apart.{age_tick}
use Rattle.model.proofs.Course.{survivor_switched}
use Rattle.model.proofs.Deadline.{high_survives}
use Rattle.model.proofs.Return.{returning, critical_tick}
use Rattle.model.proofs.Alive.{within_prefix, Young, high_parts, young_at}

-- A high job that is alive.
record SomeHigh (m : Model) : Type 0 where
  pub task : ℕ
  pub known : task < length m.rows
  pub job : has_high_job (row_at m task) ≡ true

-- The mode is critical, n ticks after the switch: a high job is alive, and each high task is older than n, or as old as
-- D.
record Waiting (m : Model) (n : ℕ) : Type 0 where
  pub critical : m.critical ≡ true
  pub some : SomeHigh m
  pub aged : (i : ℕ) → i < length m.rows → is_high (row_at m i).fixed.level ≡ true →
      min (row_at m i).fixed.deadline (n + 1) ≤ (row_at m i).age

-- As long as it waits, a tick more than these is still before the limit.
few_ticks : (m : Model) (n limit : ℕ) → Waiting m n → Young limit m → n + 1 < limit
few_ticks m n limit w all-young =
    let i = w.some.task in
    let early = all-young i w.some.known w.some.job in
    omega (arith, early.0, early.1, w.aged i w.some.known (high_parts (row_at m i) w.some.job).0)

-- A call that is no accepted tick does not return.
idle_answer : (m : Model) (x : Call) → is_tick m x ≡ false → is_returned (step m x).answer ≡ false
unfolding released step
idle_answer m (tick reports) idle = false_from_ne_true _ (λ e. true≢false (sym (returning m reports e).accepted ∙ idle))
idle_answer m (release i) idle = go (refusal_of m (release i))
  where
    go : (o : Result ⊤ Refusal) → is_returned (step_by o m (release i)).answer ≡ false
    go (Ok x) = refl
    go (Err r) = refl

-- A Release of task i in a list that waits for the return: the task is not high.
not_high : (m : Model) (i : ℕ) (x : Call) → x ≡ release i → is_accepted m x ≡ true → is_high_release m x ≡ false →
    is_high (row_at m i).fixed.level ≡ true → ⊥
not_high m i x e a low high =
    let seen : is_high_release m (release i) ≡ true = ap₂ ◌&&◌ high (ap (is_accepted m) (sym e) ∙ a) in
    true≢false (sym (ap (is_high_release m) e ∙ seen) ∙ low)

waiting_idle : (m : Model) (n : ℕ) (x : Call) → Waiting m n → is_tick m x ≡ false → is_high_release m x ≡ false → Waiting (next m x) n
waiting_idle m n x w idle low =
    record {
      critical = at.0 ∙ w.critical;
      some = record { task = w.some.task; known = rw (length-step m x) w.some.known; job = ap has_high_job at.1 ∙ w.some.job };
      aged = λ i h high.
          let known : i < length m.rows = rw (length-step m x) at h in
          let was = rw (same_fixed (next m x) m (fixed_step m x) i) at high in
          let row = (stays i known was (turn m i x known)).1 in
          omega (arith, w.aged i known was, ap (λ (r : Row). r.age) row, ap (λ (r : Row). r.fixed.deadline) row);
    }
  where
    stays : (i : ℕ) → i < length m.rows → is_high (row_at m i).fixed.level ≡ true → Turn m i x →
        ((next m x).critical ≡ m.critical) × (row_at (next m x) i ≡ row_at m i)
    stays i h high (same t r mode e) = (mode, e)
    stays i h high (begins e a at) = absurd (not_high m i x e a low high)
    stays i h high (ticks reports e a at) = absurd (true≢false (sym (ap (is_tick m) e ∙ ap (is_accepted m) (sym e) ∙ a) ∙ idle))

    at : ((next m x).critical ≡ m.critical) × (row_at (next m x) w.some.task ≡ row_at m w.some.task)
    at = stays w.some.task w.some.known (high_parts (row_at m w.some.task) w.some.job).0 (turn m w.some.task x w.some.known)

some_high : (rows : List Row) (critical : Bool) → list_any has_high_job rows ≡ true → SomeHigh (record { critical = critical; rows = rows })
unfolding row_at
some_high rows critical e = let found = any_some has_high_job no_row rows e in record { task = found.0; known = found.1.0; job = found.1.1 }

-- A tick makes every high task older.
aged_tick : (m : Model) (n : ℕ) (reports : List ℕ) → is_accepted m (tick reports) ≡ true →
    ((i : ℕ) → i < length m.rows → is_high (row_at m i).fixed.level ≡ true → min (row_at m i).fixed.deadline n ≤ (row_at m i).age) →
    (i : ℕ) → i < length (next m (tick reports)).rows → is_high (row_at (next m (tick reports)) i).fixed.level ≡ true →
    min (row_at (next m (tick reports)) i).fixed.deadline (n + 1) ≤ (row_at (next m (tick reports)) i).age
aged_tick m n reports a aged i h high =
    let x = tick reports in
    let known : i < length m.rows = rw (length-step m x) at h in
    let fixed = same_fixed (next m x) m (fixed_step m x) i in
    let before = aged i known (rw fixed at high) in
    omega (arith, before, age_tick m i reports (tick_at m i reports a known), ap (λ (f : Fixed). f.deadline) fixed)

waiting_tick : (m : Model) (n : ℕ) (reports : List ℕ) → Waiting m n → is_accepted m (tick reports) ≡ true →
    list_any has_high_job (ticked_rows m.rows reports) ≡ true → Waiting (next m (tick reports)) (n + 1)
waiting_tick m n reports w a high =
    record {
      critical = ap (λ (s : Step). s.model.critical) e;
      some = subst SomeHigh (sym (ap (λ (s : Step). s.model) e)) (some_high (ticked_rows m.rows reports) true high);
      aged = aged_tick m (n + 1) reports a w.aged;
    }
  where
    e : step m (tick reports) ≡ returned_to (ticked_rows m.rows reports) true
    e = critical_tick m reports a w.critical ∙ ap (returned_to (ticked_rows m.rows reports)) high

-- One call more in front: where n ticks of the limit had passed, k have.
one_more : (limit n k : ℕ) (m : Model) (x : Call) (calls : List Call) → k ≡ n + cond (is_tick m x) 1 0 →
    ReturnWithin (limit - k) (next m x) calls → ReturnWithin (limit - n) m (x ∷ calls)
one_more limit n k m x calls e b =
    record {
      before = x ∷ b.before;
      reports = b.reports;
      later = b.later;
      list = ap (λ (l : List Call). x ∷ l) b.list;
      answer = b.answer;
      soon = omega (arith, e, b.soon);
    }

waits_rest : (h r w : Bool) → (not h && (r || w)) ≡ true → (h ≡ false) × (r ≡ false → w ≡ true)
waits_rest true r w e = absurd (false≢true e)
waits_rest false true w e = (refl, λ n. absurd (true≢false n))
waits_rest false false w e = (refl, λ _. e)

back : (limit : ℕ) (calls : List Call) (m : Model) (n : ℕ) → Waiting m n →
    ((front rest : List Call) → calls ≡ front ++ rest → Young limit (after m front)) →
    waits_for_return m calls ≡ true → limit ≤ n + ticks_in m calls + 1 → ReturnWithin (limit - n) m calls
back limit [] m n w early waits enough = absurd (omega (arith, few_ticks m n limit w (early [] [] refl)))
back limit (x ∷ calls) m n w early waits enough =
    go x refl (is_tick m x) refl
    (λ k now said more.
    back limit calls (next m x) k now (λ front rest l. early (x ∷ front) rest (ap (λ (c : List Call). x ∷ c) l)) said more)
  where
    parts : (is_high_release m x ≡ false) × (is_returned (step m x).answer ≡ false → waits_for_return (next m x) calls ≡ true)
    parts = waits_rest (is_high_release m x) (is_returned (step m x).answer) (waits_for_return (next m x) calls) waits

    -- What the rest of the calls gives.
    Rest : Type 0
    Rest =
        (k : ℕ) → Waiting (next m x) k → waits_for_return (next m x) calls ≡ true → limit ≤ k + ticks_in (next m x) calls + 1 →
        ReturnWithin (limit - k) (next m x) calls

    then : (k : ℕ) → k ≡ n + cond (is_tick m x) 1 0 → Waiting (next m x) k → is_returned (step m x).answer ≡ false → Rest →
        ReturnWithin (limit - n) m (x ∷ calls)
    then k e now silent rest = one_more limit n k m x calls e (rest k now (parts.1 silent) (omega (arith, enough, e)))

    on_tick : (reports : List ℕ) → x ≡ tick reports → is_accepted m (tick reports) ≡ true → (t : Bool) →
        list_any has_high_job (ticked_rows m.rows reports) ≡ t → Rest → ReturnWithin (limit - n) m (x ∷ calls)
    on_tick reports e a false gone rest =
        record {
          before = [];
          reports = reports;
          later = calls;
          list = ap (λ (y : Call). y ∷ calls) e;
          answer = ap (λ (s : Step). s.answer) (critical_tick m reports a w.critical ∙ ap (returned_to (ticked_rows m.rows reports)) gone);
          soon = omega (arith, few_ticks m n limit w (early [] (x ∷ calls) refl));
        }
    on_tick reports e a true high rest =
        then (n + 1) (omega (arith, ap {B = ℕ} (λ (b : Bool). cond b 1 0) (ap (is_tick m) e ∙ a)))
        (subst (λ (y : Call). Waiting (next m y) (n + 1)) (sym e) (waiting_tick m n reports w a high))
        (ap (λ (y : Call). is_returned (step m y).answer) e
        ∙ ap (λ (s : Step). is_returned s.answer)
        (critical_tick m reports a w.critical ∙ ap (returned_to (ticked_rows m.rows reports)) high))
        rest

    go : (y : Call) → x ≡ y → (t : Bool) → is_tick m x ≡ t → Rest → ReturnWithin (limit - n) m (x ∷ calls)
    go (tick reports) e true is rest = on_tick reports e (ap (is_tick m) (sym e) ∙ is) (list_any has_high_job (ticked_rows m.rows reports)) refl rest
    go (release i) e true is rest = absurd (false≢true (ap (is_tick m) (sym e) ∙ is))
    go y e false is rest =
        then n (omega (arith, ap {B = ℕ} (λ (b : Bool). cond b 1 0) is)) (waiting_idle m n x w is parts.0) (idle_answer m x is) rest

-- Where a lowest late task is found, some task is late.
late_found : (j : ℕ) (rows : List Row) (i : ℕ) → lowest_late j rows ≡ Some i → list_any is_late rows ≡ true
late_found j [] i e = absurd (none-some i e)
late_found j (r ∷ rows) i e = go (is_late r) _ _ e (late_found _ rows i)
  where
    go : (t : Bool) (q : ℕ) (o : Option ℕ) → cond t (Some q) o ≡ Some i → (o ≡ Some i → list_any is_late rows ≡ true) →
        (t || list_any is_late rows) ≡ true
    go true q o e then = refl
    go false q o e then = then e

-- A late task has a high job, which the switch leaves.
late_high : (r : Row) → is_late r ≡ true → has_high_job (switched_row r) ≡ true
unfolding is_late
late_high r e =
    let job = ((and-eq-true_iff (has_high_job r) _).0 e).0 in
    ap has_high_job (survivor_switched r (high_survives r.fixed (high_parts r job).0)) ∙ job

any_switched : (rows : List Row) → list_any is_late rows ≡ true → list_any has_high_job (map switched_row rows) ≡ true
any_switched [] e = e
any_switched (r ∷ rows) e = go (is_late r) refl e (any_switched rows)
  where
    go : (t : Bool) → is_late r ≡ t → (t || list_any is_late rows) ≡ true → (list_any is_late rows ≡ true → list_any has_high_job (map switched_row rows) ≡ true) →
        (has_high_job (switched_row r) || list_any has_high_job (map switched_row rows)) ≡ true
    go true late e then = ap (λ (t : Bool). t || list_any has_high_job (map switched_row rows)) (late_high r late)
    go false late e then = ap (λ (t : Bool). has_high_job (switched_row r) || t) (then e) ∙ or-true (has_high_job (switched_row r))

-- A tick that answers that it switched, by the tests of its definition.
record Switching (m : Model) (reports : List ℕ) : Type 0 where
  pub accepted : is_accepted m (tick reports) ≡ true
  pub typical : m.critical ≡ false
  pub task : ℕ
  pub lowest : lowest_late 0 (ticked_rows m.rows reports) ≡ Some task

switching : (m : Model) (reports : List ℕ) → is_switched (step m (tick reports)).answer ≡ true → Switching m reports
unfolding step is_accepted ticked
switching m reports said = go (refusal_of m (tick reports)) refl said
  where
    rows : List Row
    rows = ticked_rows m.rows reports

    late : (o : Option ℕ) → lowest_late 0 rows ≡ o → is_switched (switched_to rows o).answer ≡ true → (i : ℕ) × (lowest_late 0 rows ≡ Some i)
    late None found e = absurd (false≢true e)
    late (Some i) found e = (i, found)

    high : (t : Bool) → is_switched (returned_to rows t).answer ≡ true → ⊥
    high true e = false≢true e
    high false e = false≢true e

    mode : (t : Bool) → is_switched (turning t rows).answer ≡ true → (t ≡ false) × ((i : ℕ) × (lowest_late 0 rows ≡ Some i))
    mode true e = absurd (high (list_any has_high_job rows) e)
    mode false e = (refl, late (lowest_late 0 rows) refl e)

    go : (o : Result ⊤ Refusal) → refusal_of m (tick reports) ≡ o → is_switched (step_by o m (tick reports)).answer ≡ true → Switching m reports
    go (Ok x) o e =
        let found = mode m.critical e in
        record { accepted = ap is_ok o; typical = found.0; task = found.1.0; lowest = found.1.1 }
    go (Err r) o e = absurd (false≢true e)

-- Just after a switch a high job is alive, and one tick has passed since each release.
switch_waits : (m : Model) (reports : List ℕ) → Switching m reports → Waiting (next m (tick reports)) 0
unfolding ticked
switch_waits m reports s =
    record {
      critical = ap (λ (n : Model). n.critical) e;
      some = subst SomeHigh (sym e) (some_high (map switched_row rows) true (any_switched rows (late_found 0 rows s.task s.lowest)));
      aged = aged_tick m 0 reports s.accepted (λ i h high. omega arith);
    }
  where
    rows : List Row
    rows = ticked_rows m.rows reports

    e : next m (tick reports) ≡ record { critical = true; rows = map switched_row rows }
    e =
        ap (λ (s : Step). s.model)
        (accepted_step_lem m (tick reports) s.accepted ∙ ap (λ (t : Bool). turning t rows) s.typical ∙ ap (switched_to rows) s.lowest)

-- S10.13.
pub back_in_time : (ts : TaskSet) (shares : List Share) → Planned ts shares → (calls : List Call) → BackInTime ts shares calls
unfolding BackInTime turned
back_in_time ts shares planned calls s honest waits enough =
    let none_passed : longest_deadline ts - 0 ≡ longest_deadline ts = omega arith in
    rw none_passed at (back (longest_deadline ts) s.since (next m (tick s.reports)) 0 waiting early waits (omega (arith, enough)))
  where
    m : Model
    m = after (fresh ts shares) s.before

    waiting : Waiting (next m (tick s.reports)) 0
    waiting = switch_waits m s.reports (switching m s.reports (ap is_switched s.answer))

    early : (front rest : List Call) → s.since ≡ front ++ rest → Young (longest_deadline ts) (after (next m (tick s.reports)) front)
    early front rest e =
        subst (Young (longest_deadline ts)) (after-append (fresh ts shares) s.before (tick s.reports ∷ front))
        (young_at ts shares planned (s.before ++ tick s.reports ∷ front)
        (within_prefix (λ t. t.figures.overload) ts (fresh ts shares) calls (s.before ++ tick s.reports ∷ front) rest
        (s.list
        ∙ ap (λ (l : List Call). s.before ++ tick s.reports ∷ l) e
        ∙ sym (append_assoc s.before (tick s.reports ∷ front) rest))
        honest))
