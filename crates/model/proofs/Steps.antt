-- What one step does to one row: nothing, a release, or its part of a tick and perhaps the switch.
use Prim.Native.Nat.{ℕ, zero, suc, ◌+◌, ◌<◌}
use mathlib.Core.Path.{◌≡◌, refl, sym, ap, ap₂, subst₂, ◌∙◌}
use mathlib.Core.Bool.{Bool, true, false, cond, not, ◌&&◌, true≢false, false≢true, and-false}
use mathlib.Core.List.{List, [], ◌∷◌, ◌++◌, map}
use Rattle.std.specs.Prelude.{Option, Some, None}
use native.Mathlib.Omega.{arith}
use native.Mathlib.Decide.{ℕ_discrete}
use borrow.Author.Tests.{eqb-true, leb-false, eq-eqb, ne_eqb}
use lib.Dec.{eqb, leb}
use lib.ListN.{length, get_or, get_or-map}
use lib.Seq.{get_or-set_same, get_or-set_other}
use Rattle.basics.proofs.Lists.{any_none}
use Rattle.model.specs.Row.{Row, is_subset, running_set, released_row, ticked_row, has_high_job, is_late, switched_row}
use Rattle.std.specs.Prelude.{Result, Ok, Err, ⊤, is_ok}
use Rattle.std.proofs.lemmas.Bool.{and_left}
use Rattle.sheet.specs.declared.refusal.Refusal.{Refusal}
use Rattle.sheet.specs.declared.refusal.Refusal.TheVariants.{UnknownTask, WrongCount}
use Rattle.sheet.specs.Refusal.{refused_if, ◌or_else◌}
use Rattle.model.specs.Step.{Model, Call, release, tick, Step, step, step_by, row_at, no_row, granted, release_refusal, report_refusal, tick_refusal, refusal_of, released, ticked_rows, lowest_late, switched_to, returned_to, turning, ticked}
use Rattle.std.specs.List.{list_any}
use Rattle.model.specs.Run.{after, is_accepted, is_tick, is_release_of}

-- The model after one call.
abbrev pub next : Model → Call → Model
next m c = (step m c).model

pub after-append : (m : Model) (before rest : List Call) → after m (before ++ rest) ≡ after (after m before) rest
after-append m [] rest = refl
after-append m (c ∷ before) rest = after-append (next m c) before rest

-- A count of calls that is 0 has none of its calls, neither the first nor among the rest.
pub count_zero : (t : Bool) (n : ℕ) → cond t 1 0 + n ≡ 0 → (t ≡ false) × (n ≡ 0)
count_zero true n e = absurd (omega arith)
count_zero false n e = (refl, omega arith)

-- And the other way round.
pub zero_count : (t : Bool) (n : ℕ) → t ≡ false → n ≡ 0 → cond t 1 0 + n ≡ 0
zero_count true n e z = absurd (true≢false e)
zero_count false n e z = omega arith

ok_is : (o : Result ⊤ Refusal) → is_ok o ≡ true → o ≡ Ok tt
ok_is (Ok x) e = refl
ok_is (Err r) e = absurd (false≢true e)

pub length-ticked : (rows : List Row) (reports : List ℕ) → length (ticked_rows rows reports) ≡ length rows
length-ticked [] reports = refl
length-ticked (r ∷ rows) [] = refl
length-ticked (r ∷ rows) (x ∷ reports) = ap suc (length-ticked rows reports)

pub get_ticked : (rows : List Row) (reports : List ℕ) (i : ℕ) → length reports ≡ length rows → i < length rows →
    get_or (ticked_rows rows reports) i no_row ≡ ticked_row (get_or rows i no_row) (get_or reports i 0)
get_ticked [] reports i e h = absurd (omega arith)
get_ticked (r ∷ rows) [] i e h = absurd (omega arith)
get_ticked (r ∷ rows) (x ∷ reports) zero e h = refl
get_ticked (r ∷ rows) (x ∷ reports) (suc i) e h = get_ticked rows reports i (omega arith) (omega arith)

-- No report of an accepted tick has a node that is not running.
get_subset : (grants : ℕ → ℕ) (j : ℕ) (rows : List Row) (reports : List ℕ) (i : ℕ) →
    is_ok (report_refusal grants j rows reports) ≡ true → length reports ≡ length rows → i < length rows →
    is_subset (get_or reports i 0) (running_set (grants (j + i)) (get_or rows i no_row)) ≡ true
get_subset grants j [] reports i e l h = absurd (omega arith)
get_subset grants j (r ∷ rows) [] i e l h = absurd (omega arith)
get_subset grants j (r ∷ rows) (x ∷ reports) i e l h =
    go i h (is_subset x (running_set (grants j) r)) refl _ _ e (λ u n b. get_subset grants (suc j) rows reports u n (omega arith) b)
  where
    go : (i : ℕ) → i < suc (length rows) → (t : Bool) → is_subset x (running_set (grants j) r) ≡ t → (o : Result ⊤ Refusal) (q : Refusal) →
        is_ok (refused_if (not t) q or_else o) ≡ true →
        ((u : ℕ) → is_ok o ≡ true → u < length rows →
        is_subset (get_or reports u 0) (running_set (grants (suc j + u)) (get_or rows u no_row)) ≡ true) →
        is_subset (get_or (x ∷ reports) i 0) (running_set (grants (j + i)) (get_or (r ∷ rows) i no_row)) ≡ true
    go zero b true s o q n rest = let here : j + 0 ≡ j = omega arith in rw here s
    go (suc u) b true s o q n rest = let there : j + suc u ≡ suc j + u = omega arith in rw there (rest u n (omega arith))
    go u b false s o q n rest = absurd (false≢true n)

none_late : (j : ℕ) (rows : List Row) (i : ℕ) → lowest_late j rows ≡ None → i < length rows → is_late (get_or rows i no_row) ≡ false
none_late j [] i e h = absurd (omega arith)
none_late j (r ∷ rows) i e h = go i h (is_late r) refl _ _ e (none_late _ rows)
  where
    go : (i : ℕ) → i < suc (length rows) → (t : Bool) → is_late r ≡ t → (q : ℕ) (o : Option ℕ) → cond t (Some q) o ≡ None →
        ((u : ℕ) → o ≡ None → u < length rows → is_late (get_or rows u no_row) ≡ false) →
        is_late (get_or (r ∷ rows) i no_row) ≡ false
    go i b true s q o n rest = absurd (cc)
    go zero b false s q o n rest = s
    go (suc u) b false s q o n rest = rest u n (omega arith)

switched_no_row : switched_row no_row ≡ no_row
unfolding switched_row
switched_no_row = refl

get_switched : (rows : List Row) (i : ℕ) → get_or (map switched_row rows) i no_row ≡ switched_row (get_or rows i no_row)
get_switched rows i = ap (get_or (map switched_row rows) i) (sym switched_no_row) ∙ get_or-map switched_row rows i no_row

-- S8.9: a return leaves every row as it is.
pub returned_rows : (rows : List Row) → (returned_to rows false).model.rows ≡ rows
returned_rows [] = refl
returned_rows (r ∷ rows) = ap (λ (rs : List Row). r ∷ rs) (returned_rows rows)

-- Where no high job is alive, none is late.
early_none : (r : Row) → has_high_job r ≡ false → is_late r ≡ false
unfolding is_late
early_none r e = and_left (has_high_job r) _ e

-- What an accepted tick leaves of task i: its part of the tick, in critical or in typical mode, and in typical mode the
-- task is not late; or the tick switched.
pub data Settled (after : Model) (i : ℕ) (part : Row) : Type 0 where
  in_critical : after.critical ≡ true → row_at after i ≡ part → Settled after i part
  in_typical : after.critical ≡ false → row_at after i ≡ part → is_late part ≡ false → Settled after i part
  turns : after.critical ≡ true → row_at after i ≡ switched_row part → Settled after i part

settle : (critical : Bool) (rows : List Row) (i : ℕ) → i < length rows → Settled (turning critical rows).model i (get_or rows i no_row)
unfolding row_at
settle true rows i h = high (list_any has_high_job rows) refl
  where
    high : (t : Bool) → list_any has_high_job rows ≡ t → Settled (returned_to rows t).model i (get_or rows i no_row)
    high true e = in_critical refl refl
    high false e = in_typical refl (ap (λ (rs : List Row). get_or rs i no_row) (returned_rows rows)) (early_none (get_or rows i no_row) (any_none has_high_job no_row rows i e h))
settle false rows i h = late (lowest_late 0 rows) refl
  where
    late : (o : Option ℕ) → lowest_late 0 rows ≡ o → Settled (switched_to rows o).model i (get_or rows i no_row)
    late None e = in_typical refl refl (none_late 0 rows i e h)
    late (Some j) e = turns refl (get_switched rows i)

-- What a tick makes of a row by the mode before it and the mode after it: the switch is a turn from the typical to the
-- critical one.
abbrev pub turned_row : Bool → Bool → Row → Row
turned_row true after r = r
turned_row false true r = switched_row r
turned_row false false r = r

turned_row_lem : (critical : Bool) (rows : List Row) (i : ℕ) →
    row_at (turning critical rows).model i ≡ turned_row critical (turning critical rows).model.critical (get_or rows i no_row)
unfolding row_at
turned_row_lem true rows i = high (list_any has_high_job rows)
  where
    high : (t : Bool) → get_or (returned_to rows t).model.rows i no_row ≡ get_or rows i no_row
    high true = refl
    high false = ap (λ (rs : List Row). get_or rs i no_row) (returned_rows rows)
turned_row_lem false rows i = late (lowest_late 0 rows)
  where
    late : (o : Option ℕ) → get_or (switched_to rows o).model.rows i no_row ≡ turned_row false (switched_to rows o).model.critical (get_or rows i no_row)
    late None = refl
    late (Some j) = get_switched rows i

-- An accepted tick, as task i sees it.
pub record TickAt (m : Model) (i : ℕ) (reports : List ℕ) : Type 0 where
  pub named : is_subset (get_or reports i 0) (running_set (granted m i) (row_at m i)) ≡ true
  pub settled : Settled (next m (tick reports)) i (ticked_row (row_at m i) (get_or reports i 0))

-- An accepted Release of task i.
pub record ReleaseAt (m : Model) (i : ℕ) : Type 0 where
  pub known : i < length m.rows
  pub row : row_at (next m (release i)) i ≡ released_row (row_at m i)

-- A call as task i sees it: nothing happens to it, its job begins, or a tick.
pub data Turn (m : Model) (i : ℕ) (c : Call) : Type 0 where
  same : is_tick m c ≡ false → is_release_of i m c ≡ false → (next m c).critical ≡ m.critical → row_at (next m c) i ≡ row_at m i →
      Turn m i c
  begins : c ≡ release i → is_accepted m c ≡ true → ReleaseAt m i → Turn m i c
  ticks : (reports : List ℕ) → c ≡ tick reports → is_accepted m c ≡ true → TickAt m i reports → Turn m i c

pub accepted_step_lem : (m : Model) (c : Call) → is_accepted m c ≡ true → step m c ≡ step_by (Ok tt) m c
unfolding is_accepted step
accepted_step_lem m c e = ap (λ (o : Result ⊤ Refusal). step_by o m c) (ok_is (refusal_of m c) e)

pub refused_step : (m : Model) (c : Call) → is_accepted m c ≡ false → next m c ≡ m
unfolding is_accepted step
refused_step m c e = go (refusal_of m c) e
  where
    go : (o : Result ⊤ Refusal) → is_ok o ≡ false → (step_by o m c).model ≡ m
    go (Ok x) e = absurd (true≢false e)
    go (Err r) e = refl

-- An accepted Release names a task: refusal 11 does not hold.
release_known : (m : Model) (i : ℕ) → is_accepted m (release i) ≡ true → i < length m.rows
unfolding is_accepted release_refusal
release_known m i e = leb-false (length m.rows) i (go (leb (length m.rows) i) _ e)
  where
    go : (t : Bool) (o : Result ⊤ Refusal) → is_ok (refused_if t UnknownTask or_else o) ≡ true → t ≡ false
    go true o n = absurd (false≢true n)
    go false o n = refl

pub release_at : (m : Model) (i : ℕ) → is_accepted m (release i) ≡ true → ReleaseAt m i
unfolding row_at released
release_at m i e =
    let known : i < length m.rows = release_known m i e in
    record {
      known = known;
      row =
          ap (λ (s : Step). row_at s.model i) (accepted_step_lem m (release i) e)
          ∙ get_or-set_same m.rows i (released_row (row_at m i)) no_row known;
    }

-- What the refusals 14 and 15 leave of an accepted tick.
pub tick_tests : (m : Model) (reports : List ℕ) → is_accepted m (tick reports) ≡ true →
    (length reports ≡ length m.rows) × (is_ok (report_refusal (granted m) 0 m.rows reports) ≡ true)
unfolding is_accepted tick_refusal
tick_tests m reports e = go (eqb (length reports) (length m.rows)) refl e
  where
    go : (t : Bool) → eqb (length reports) (length m.rows) ≡ t →
        is_ok (refused_if (not t) WrongCount or_else report_refusal (granted m) 0 m.rows reports) ≡ true →
        (length reports ≡ length m.rows) × (is_ok (report_refusal (granted m) 0 m.rows reports) ≡ true)
    go true s n = (eqb-true (length reports) (length m.rows) s, n)
    go false s n = absurd (false≢true n)

pub tick_at : (m : Model) (i : ℕ) (reports : List ℕ) → is_accepted m (tick reports) ≡ true → i < length m.rows →
    TickAt m i reports
unfolding row_at ticked
tick_at m i reports e h =
    let tests = tick_tests m reports e in
    record {
      named =
          let here : 0 + i ≡ i = omega arith in
          rw here at (get_subset (granted m) 0 m.rows reports i tests.1 tests.0 h);
      settled =
          subst₂ (λ (n : Model) (r : Row). Settled n i r)
          (sym (ap (λ (s : Step). s.model) (accepted_step_lem m (tick reports) e)))
          (get_ticked m.rows reports i tests.0 h)
          (settle m.critical (ticked_rows m.rows reports) i (rw (length-ticked m.rows reports) h));
    }

-- What an accepted tick leaves of task i is told by its report and the modes before and after.
pub tick_row : (m : Model) (i : ℕ) (reports : List ℕ) → is_accepted m (tick reports) ≡ true → i < length m.rows →
    row_at (next m (tick reports)) i ≡ turned_row m.critical (next m (tick reports)).critical (ticked_row (row_at m i) (get_or reports i 0))
unfolding row_at ticked
tick_row m i reports e h =
    let tests = tick_tests m reports e in
    subst₂ (λ (n : Model) (r : Row). row_at n i ≡ turned_row m.critical n.critical r)
    (sym (ap (λ (s : Step). s.model) (accepted_step_lem m (tick reports) e)))
    (get_ticked m.rows reports i tests.0 h)
    (turned_row_lem m.critical (ticked_rows m.rows reports) i)

-- A Release leaves the mode.
pub release_mode : (m : Model) (i : ℕ) → is_accepted m (release i) ≡ true → (next m (release i)).critical ≡ m.critical
unfolding released
release_mode m i e = ap (λ (s : Step). s.model.critical) (accepted_step_lem m (release i) e)

-- A Release of another task leaves the row and the mode.
release_other : (m : Model) (i j : ℕ) → is_accepted m (release j) ≡ true → (i ≡ j → ⊥) →
    ((next m (release j)).critical ≡ m.critical) × (row_at (next m (release j)) i ≡ row_at m i)
unfolding row_at released
release_other m i j e other = (
  release_mode m j e,
  ap (λ (s : Step). row_at s.model i) (accepted_step_lem m (release j) e)
      ∙ get_or-set_other m.rows j i (released_row (row_at m j)) no_row other,
)

refused_turn_lem : (m : Model) (i : ℕ) (c : Call) → is_accepted m c ≡ false → is_tick m c ≡ false → is_release_of i m c ≡ false →
    Turn m i c
refused_turn_lem m i c e t r =
    same t r (ap (λ (n : Model). n.critical) (refused_step m c e)) (ap (λ (n : Model). row_at n i) (refused_step m c e))

-- Every call, as a task of the model sees it.
pub turn : (m : Model) (i : ℕ) (c : Call) → i < length m.rows → Turn m i c
turn m i (tick reports) h = go (is_accepted m (tick reports)) refl
  where
    go : (t : Bool) → is_accepted m (tick reports) ≡ t → Turn m i (tick reports)
    go true e = ticks reports refl e (tick_at m i reports e h)
    go false e = refused_turn_lem m i (tick reports) e e refl
turn m i (release j) h = go (is_accepted m (release j)) refl (ℕ_discrete i j)
  where
    go : (t : Bool) → is_accepted m (release j) ≡ t → Dec (i ≡ j) → Turn m i (release j)
    go true e (yes s) = begins (ap release (sym s)) e (release_at m i (ap (λ (u : ℕ). is_accepted m (release u)) s ∙ e))
    go true e (no s) =
        let kept = release_other m i j e s in
        same refl (ap (λ (t : Bool). t && is_accepted m (release j)) (ne_eqb i j s)) kept.0 kept.1
    go false e d = refused_turn_lem m i (release j) e refl (ap (λ (t : Bool). eqb i j && t) e ∙ and-false (eqb i j))

-- The Release by which a job begins counts as one of its task.
pub release_of_lem : (m : Model) (i : ℕ) (x : Call) → x ≡ release i → is_accepted m x ≡ true → is_release_of i m x ≡ true
release_of_lem m i x e a = ap (is_release_of i m) e ∙ ap₂ ◌&&◌ (eq-eqb i i refl) (ap (is_accepted m) (sym e) ∙ a)
