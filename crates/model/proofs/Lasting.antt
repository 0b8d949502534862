-- What no call changes, and what every call keeps: the fixed parts, the number of rows, and the soundness of each row.
-- Each is shown for one row, then for one step, then for a list of calls.
use Prim.Native.Nat.{ℕ, ◌≤◌, ◌<◌, ◌^◌}
use mathlib.Core.Path.{◌≡◌, refl, sym, ap, subst, ◌∙◌}
use mathlib.Core.Bool.{Bool, true, false, not, false≢true, and-eq-true_iff}
use mathlib.Core.List.{List, [], ◌∷◌, map}
use Rattle.std.specs.Prelude.{Option, Some, None}
use native.Mathlib.Omega.{arith}
use borrow.Author.Tests.{not-true}
use lib.Bits.{bit_or, or_lt}
use lib.ListN.{length, get_or, length-map, get_or-map, get_or-eq_default}
use lib.Pow.{pow_pos}
use lib.Seq.{map-set_same}
use Rattle.std.proofs.lemmas.Bool.{false_from_ne_true}
use Rattle.std.specs.List.{list_any}
use Rattle.nodes.proofs.Bits.{has_zero}
use Rattle.model.specs.Row.{Fixed, Row, is_subset, all_ended, running_set, released_row, joined, ticked_row, has_high_job, switched_row, fixed_part}
use Rattle.model.specs.Step.{Model, Call, release, tick, Step, row_at, no_row, granted, released, ticked_rows, lowest_late, switched_to, returned_to, turning, ticked}
use Rattle.model.specs.Run.{after, is_accepted, is_release_of}
use Rattle.model.specs.Beside.{SoundRow}
use Rattle.model.proofs.Nodes.{running_below, subset_below, all_ended_at}
use Rattle.model.proofs.Steps.{next, Turn, same, begins, ticks, Settled, in_critical, in_typical, turns, turn, release_of_lem, accepted_step_lem, refused_step, returned_rows}

fixed_ticked : (rows : List Row) (reports : List ℕ) → map fixed_part (ticked_rows rows reports) ≡ map fixed_part rows
unfolding ticked_row
fixed_ticked [] reports = refl
fixed_ticked (r ∷ rows) [] = refl
fixed_ticked (r ∷ rows) (x ∷ reports) = ap (λ (fs : List Fixed). r.fixed ∷ fs) (fixed_ticked rows reports)

fixed_switched : (rows : List Row) → map fixed_part (map switched_row rows) ≡ map fixed_part rows
unfolding switched_row
fixed_switched [] = refl
fixed_switched (r ∷ rows) = ap (λ (fs : List Fixed). r.fixed ∷ fs) (fixed_switched rows)

fixed_turning : (critical : Bool) (rows : List Row) → map fixed_part (turning critical rows).model.rows ≡ map fixed_part rows
fixed_turning true rows = go (list_any has_high_job rows)
  where
    go : (t : Bool) → map fixed_part (returned_to rows t).model.rows ≡ map fixed_part rows
    go true = refl
    go false = ap (map fixed_part) (returned_rows rows)
fixed_turning false rows = go (lowest_late 0 rows)
  where
    go : (o : Option ℕ) → map fixed_part (switched_to rows o).model.rows ≡ map fixed_part rows
    go None = refl
    go (Some j) = fixed_switched rows

fixed_accepted : (m : Model) (c : Call) → is_accepted m c ≡ true → map fixed_part (next m c).rows ≡ map fixed_part m.rows
unfolding released ticked released_row row_at
fixed_accepted m (release i) e =
    ap (λ (s : Step). map fixed_part s.model.rows) (accepted_step_lem m (release i) e)
    ∙ map-set_same fixed_part m.rows i (released_row (row_at m i)) no_row refl
fixed_accepted m (tick reports) e =
    ap (λ (s : Step). map fixed_part s.model.rows) (accepted_step_lem m (tick reports) e)
    ∙ fixed_turning m.critical (ticked_rows m.rows reports)
    ∙ fixed_ticked m.rows reports

-- No call changes what is fixed.
pub fixed_step : (m : Model) (c : Call) → map fixed_part (next m c).rows ≡ map fixed_part m.rows
fixed_step m c = go (is_accepted m c) refl
  where
    go : (t : Bool) → is_accepted m c ≡ t → map fixed_part (next m c).rows ≡ map fixed_part m.rows
    go true e = fixed_accepted m c e
    go false e = ap (λ (n : Model). map fixed_part n.rows) (refused_step m c e)

pub fixed_after : (m : Model) (calls : List Call) → map fixed_part (after m calls).rows ≡ map fixed_part m.rows
fixed_after m [] = refl
fixed_after m (c ∷ calls) = fixed_after (next m c) calls ∙ fixed_step m c

-- Rows with the same fixed parts: there are as many, and each has its own.
pub same_length : (m n : Model) → map fixed_part m.rows ≡ map fixed_part n.rows → length m.rows ≡ length n.rows
same_length m n e = sym (length-map m.rows fixed_part) ∙ ap length e ∙ length-map n.rows fixed_part

pub same_fixed : (m n : Model) → map fixed_part m.rows ≡ map fixed_part n.rows → (i : ℕ) → (row_at m i).fixed ≡ (row_at n i).fixed
unfolding row_at
same_fixed m n e i =
    sym (get_or-map fixed_part m.rows i no_row)
    ∙ ap (λ (fs : List Fixed). get_or fs i no_row.fixed) e
    ∙ get_or-map fixed_part n.rows i no_row

pub length-step : (m : Model) (c : Call) → length (next m c).rows ≡ length m.rows
length-step m c = same_length (next m c) m (fixed_step m c)

pub length-after : (m : Model) (calls : List Call) → length (after m calls).rows ≡ length m.rows
length-after m calls = same_length (after m calls) m (fixed_after m calls)

-- A row past the last is none.
pub no_row_lem : (m : Model) (i : ℕ) → length m.rows ≤ i → row_at m i ≡ no_row
unfolding row_at
no_row_lem m i h = get_or-eq_default m.rows no_row h

-- A property of a row that a tick's part and the switch keep is kept by every call, if a Release of the task brings it
-- too.
pub kept_by_call : (P : Row → Type 0) →
    ((r : Row) (grant report : ℕ) → is_subset report (running_set grant r) ≡ true → P r → P (ticked_row r report)) →
    ((r : Row) → P r → P (switched_row r)) →
    (m : Model) (c : Call) (i : ℕ) → i < length m.rows → (is_release_of i m c ≡ true → P (released_row (row_at m i))) →
    P (row_at m i) → P (row_at (next m c) i)
kept_by_call P on_tick on_switch m c i h on-release start = go (turn m i c h)
  where
    go : Turn m i c → P (row_at (next m c) i)
    go (same t r mode e) = subst P (sym e) start
    go (begins e a at) =
        subst P (sym (ap (λ (x : Call). row_at (next m x) i) e ∙ at.row)) (on-release (release_of_lem m i c e a))
    go (ticks reports e a at) = subst (λ (x : Call). P (row_at (next m x) i)) (sym e) (settled at.settled)
      where
        part : P (ticked_row (row_at m i) (get_or reports i 0))
        part = on_tick (row_at m i) (granted m i) (get_or reports i 0) at.named start

        settled : Settled (next m (tick reports)) i (ticked_row (row_at m i) (get_or reports i 0)) →
            P (row_at (next m (tick reports)) i)
        settled (in_critical n e) = subst P (sym e) part
        settled (in_typical n e l) = subst P (sym e) part
        settled (turns n e) = subst P (sym e) (on_switch (ticked_row (row_at m i) (get_or reports i 0)) part)

-- A sound row of a task with a node.
pub record KeptSound (r : Row) : Type 0 where
  pub some : 1 ≤ r.fixed.nodes
  pub sound : SoundRow r

none_ended : (k : ℕ) → 1 ≤ k → all_ended k 0 ≡ false
none_ended k h = false_from_ne_true _ (λ e. false≢true (sym (has_zero 0) ∙ all_ended_at k 0 0 e h))

pub sound_released : (r : Row) → KeptSound r → KeptSound (released_row r)
unfolding released_row
sound_released r s =
    record {
      some = s.some;
      sound = record {
        age = omega arith;
        ended = pow_pos r.fixed.nodes;
        alive = λ _. none_ended r.fixed.nodes s.some;
      };
    }

pub sound_ticked : (r : Row) (grant report : ℕ) → is_subset report (running_set grant r) ≡ true → KeptSound r →
    KeptSound (ticked_row r report)
unfolding ticked_row joined
sound_ticked r grant report named s =
    record {
      some = s.some;
      sound =
          record {
            age = omega arith;
            ended =
                or_lt r.fixed.nodes r.job.ended report s.sound.ended
                (subset_below report (running_set grant r) (2 ^ r.fixed.nodes) named (running_below grant r));
            alive = λ e.
                not-true (all_ended r.fixed.nodes (bit_or r.job.ended report))
                ((and-eq-true_iff r.job.alive (not (all_ended r.fixed.nodes (bit_or r.job.ended report)))).0 e).1;
          };
    }

sound_switched : (r : Row) → KeptSound r → KeptSound (switched_row r)
unfolding switched_row
sound_switched r s =
    record {
      some = s.some;
      sound =
          record {
            age = s.sound.age;
            ended = s.sound.ended;
            alive = λ e. s.sound.alive ((and-eq-true_iff r.job.alive _).0 e).0;
          };
    }

pub sound_step : (m : Model) (c : Call) (i : ℕ) → i < length m.rows → KeptSound (row_at m i) → KeptSound (row_at (next m c) i)
sound_step m c i h s = kept_by_call KeptSound sound_ticked sound_switched m c i h (λ _. sound_released (row_at m i) s) s

pub sound_after : (m : Model) (calls : List Call) (i : ℕ) → i < length m.rows → KeptSound (row_at m i) →
    KeptSound (row_at (after m calls) i)
sound_after m [] i h s = s
sound_after m (c ∷ calls) i h s =
    sound_after (next m c) calls i (rw (length-step m c) h) (sound_step m c i h s)

pub sound_no_row : SoundRow no_row
sound_no_row = record { age = omega arith; ended = omega arith; alive = λ e. absurd (false≢true e) }
