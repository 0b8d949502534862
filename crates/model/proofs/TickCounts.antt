-- S10.14: the functions of the tick count say what their names do. By induction on the calls: a call that is an
-- accepted tick takes one off the count, and any other leaves it.
use Prim.Native.Nat.{ℕ, zero, suc, ◌+◌, ◌≤◌, ◌<◌}
use mathlib.Core.Path.{◌≡◌, refl, ap, subst, ◌∙◌}
use mathlib.Core.Bool.{Bool, true, false, cond}
use mathlib.Core.List.{List, [], ◌∷◌, ◌++◌}
use native.Mathlib.Omega.{arith}
use Rattle.model.specs.Step.{Model, Call, release, tick}
use Rattle.model.specs.Run.{is_accepted, is_tick, ticks_in}
use Rattle.model.specs.Isolation.{until_tick, calls_at, TickCounted, TicksCounted}
use Rattle.model.proofs.Steps.{next, zero_count}

-- The count that is left behind a call, by whether this is an accepted tick.
abbrev pub left : Bool → ℕ → ℕ
left ticks t = cond ticks t (suc t)

pub left_le : (ticks : Bool) (s t : ℕ) → suc s ≤ suc t → left ticks s ≤ left ticks t
left_le true s t h = omega arith
left_le false s t h = omega arith

left_fewer : (ticks : Bool) (t n : ℕ) → suc t < cond ticks 1 0 + n → left ticks t < n
left_fewer true t n h = omega arith
left_fewer false t n h = omega arith

left_whole : (ticks : Bool) (t n : ℕ) → n ≡ left ticks t → cond ticks 1 0 + n ≡ suc t
left_whole true t n e = omega arith
left_whole false t n e = omega arith

left_suc : (ticks : Bool) (t : ℕ) → left ticks (suc t) ≡ suc (left ticks t)
left_suc true t = refl
left_suc false t = refl

-- No call comes up to tick count 0.
pub until_none : (m : Model) (calls : List Call) → until_tick 0 m calls ≡ []
until_none m [] = refl
until_none m (c ∷ calls) = refl

module _ (m : Model) (c : Call) (calls : List Call) where
  -- A call in front, of a later tick count.
  counted_later : (t : ℕ) → TickCounted (left (is_tick m c) t) (next m c) calls → TickCounted (suc t) m (c ∷ calls)
  counted_later t rest =
      record {
        reports = rest.reports;
        rest = rest.rest;
        list = ap (λ (l : List Call). c ∷ l) rest.list;
        counted = left_whole (is_tick m c) t _ rest.counted;
        waits = rest.waits;
        next =
            ap (λ (l : List Call). c ∷ l)
            (ap (λ (u : ℕ). until_tick u (next m c) calls) (left_suc (is_tick m c) t) ∙ rest.next);
        accepted = rest.accepted;
        report = rest.report;
      }

  -- A call in front that is no accepted tick, of tick count 0.
  counted_first : is_tick m c ≡ false → TickCounted 0 (next m c) calls → TickCounted 0 m (c ∷ calls)
  counted_first e rest =
      record {
        reports = rest.reports;
        rest = rest.rest;
        list =
            rw e (ap (λ (l : List Call). c ∷ l)
            (rest.list ∙ ap (λ (l : List Call). (l ++ calls_at 0 (next m c) calls) ++ tick rest.reports ∷ rest.rest) none));
        counted = refl;
        waits =
            ap (λ (ticks : Bool). ticks_in m (cond ticks [] (c ∷ calls_at 0 (next m c) calls))) e
            ∙ zero_count (is_tick m c) _ e (rw none at rest.waits);
        next =
            rw e (ap (λ (l : List Call). c ∷ l)
            (rest.next ∙ ap (λ (l : List Call). (l ++ calls_at 0 (next m c) calls) ++ tick rest.reports ∷ []) none));
        accepted = rw e (rw none at rest.accepted);
        report = λ i. rw e (rest.report i);
      }
    where
      none : until_tick 0 (next m c) calls ≡ []
      none = until_none (next m c) calls

-- An accepted tick in front, of tick count 0.
counted_here : (m : Model) (reports : List ℕ) (calls : List Call) → is_accepted m (tick reports) ≡ true → TickCounted 0 m (tick reports ∷ calls)
counted_here m reports calls e =
    record {
      reports = reports;
      rest = calls;
      list = rw e refl;
      counted = refl;
      waits = rw e refl;
      next = rw e (ap (λ (l : List Call). tick reports ∷ l) (until_none (next m (tick reports)) calls));
      accepted = rw e e;
      report = λ i. rw e refl;
    }

pub tick_counted : (t : ℕ) (m : Model) (calls : List Call) → t < ticks_in m calls → TickCounted t m calls
tick_counted t m [] h = absurd (omega arith)
tick_counted zero m (release j ∷ calls) h = counted_first m (release j) calls refl (tick_counted zero (next m (release j)) calls (omega (arith, h)))
tick_counted zero m (tick reports ∷ calls) h = go (is_accepted m (tick reports)) refl (tick_counted zero (next m (tick reports)) calls)
  where
    go : (t : Bool) → is_accepted m (tick reports) ≡ t →
        (0 < ticks_in (next m (tick reports)) calls → TickCounted 0 (next m (tick reports)) calls) → TickCounted 0 m (tick reports ∷ calls)
    go true e rest = counted_here m reports calls e
    go false e rest =
        let some : 0 < cond false 1 0 + ticks_in (next m (tick reports)) calls =
        subst (λ (t : Bool). 0 < cond t 1 0 + ticks_in (next m (tick reports)) calls) e h in
        counted_first m (tick reports) calls e (rest (omega (arith, some)))
tick_counted (suc t) m (c ∷ calls) h =
    counted_later m c calls t
    (tick_counted (left (is_tick m c) t) (next m c) calls (left_fewer (is_tick m c) t (ticks_in (next m c) calls) h))

-- Of every list of calls.
pub ticks_counted : TicksCounted
unfolding TicksCounted
ticks_counted t m calls h = tick_counted t m calls h
