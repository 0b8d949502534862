-- S10.14 and S10.15 of the states that the calls return: the model's laws, and the states hold what the model holds.
use Prim.Native.Nat.{ℕ}
use mathlib.Core.List.{List}
use mathlib.Core.Path.{◌≡◌, sym, subst₂}
use native.Mathlib.Omega.{arith}
use Rattle.std.specs.Prelude.{Ok}
use Rattle.model.specs.Step.{Model, Call}
use Rattle.model.specs.Run.{after}
use Rattle.model.specs.Isolation.{until_in, before_in, Isolated, IsolatedTypical, Alike, AlikeUntil}
use Rattle.model.proofs.Isolation.{isolated, isolated_typical}
use Rattle.start.specs.Start.{start_of}
use Rattle.guarantee.specs.Guarantee.{model_for, Guarantee}
use Rattle.guarantee.specs.Isolation.{task_run, held_after, IsolationGuarantee, UnswitchedGuarantee, CommissioningGuarantee}
use Rattle.guarantee.proofs.Theorem.{sheet_planned, guarantee}

module _ (sheet other : List ℕ) (accepted : (start_of sheet).answer ≡ Ok tt) (other_accepted : (start_of other).answer ≡ Ok tt) where
  held_alike : (i j : ℕ) (calls others : List Call) → Alike (after (model_for sheet) calls) i (after (model_for other) others) j →
      Alike (held_after sheet calls) i (held_after other others) j
  unfolding Guarantee
  held_alike i j calls others =
      subst₂ (λ (m n : Model). Alike m i n j) (sym (guarantee sheet accepted calls).states) (sym (guarantee other other_accepted others).states)

  held_until : (t : ℕ) (calls others : List Call) (i j : ℕ) →
      AlikeUntil t (task_run sheet calls i) (after (model_for sheet)) (task_run other others j) (after (model_for other)) →
      AlikeUntil t (task_run sheet calls i) (held_after sheet) (task_run other others j) (held_after other)
  held_until t calls others i j alike =
      record {
        after_tick = λ s h.
            held_alike i j (until_in (task_run sheet calls i) s) (until_in (task_run other others j) s) (alike.after_tick s h);
        before_tick = λ s h.
            held_alike i j (before_in (task_run sheet calls i) s) (before_in (task_run other others j) s) (alike.before_tick s h);
      }

pub isolation : IsolationGuarantee
unfolding IsolationGuarantee Isolated model_for
isolation sheet other accepted other_accepted calls others i j t same shares given modes =
    held_until sheet other accepted other_accepted t calls others i j
    (isolated t (task_run sheet calls i) (task_run other others j) (sheet_planned sheet accepted) (sheet_planned other other_accepted)
    same shares given modes)

pub isolation_unswitched : UnswitchedGuarantee
unfolding UnswitchedGuarantee IsolatedTypical model_for
isolation_unswitched sheet other accepted other_accepted calls others i j t same typical given unswitched other_unswitched =
    held_until sheet other accepted other_accepted t calls others i j
    (isolated_typical t (task_run sheet calls i) (task_run other others j) (sheet_planned sheet accepted) (sheet_planned other other_accepted)
    same typical given unswitched other_unswitched)

pub commissioning : CommissioningGuarantee
unfolding CommissioningGuarantee UnswitchedGuarantee
commissioning alone full accepted full-accepted single j known says typical calls others t =
    isolation_unswitched alone full accepted full-accepted calls others 0 j t
    (record { known = omega (arith, single); other_known = known; says = says }) typical
