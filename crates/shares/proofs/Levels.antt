-- What a task's level makes of its shares: a low task's one share, and the offer's numbers at either level.
use Prim.Native.Nat.{ℕ, ◌+◌, ◌-◌, ◌≤◌, ◌<◌}
use mathlib.Core.Path.{◌≡◌, refl, sym, ap, ◌∙◌, fun_ext}
use mathlib.Core.Bool.{Bool, true, false, cond, ◌&&◌, and-false}
use native.Mathlib.Decide.{dec_le}
use native.Mathlib.Omega.{arith}
use lib.Dec.{ltb, eqb}
use lib.ListN.{length, get_or, replicate, set, length-set, length-replicate, get_or-replicate}
use lib.Seq.{get_or-set_same, get_or-set_other}
use borrow.Author.Tests.{ltb-true, leb-true, eqb-true, eqb-false, eq-eqb, ne_eqb}
use Rattle.sheet.specs.declared.task.Figures.{Figures}
use Rattle.sheet.specs.declared.task.Task.{Task}
use Rattle.std.specs.Prelude.{Some, None}
use Rattle.std.proofs.lemmas.Bool.{and_parts}
use Rattle.sheet.specs.Level.{is_low}
use Rattle.shares.specs.Low.{low_share, has_low_share, low_answer}
use Rattle.shares.specs.Search.{least_critical}
use Rattle.shares.specs.Offer.{low_critical, critical_at, tabulate, offer_of}
use Rattle.shares.proofs.Least.{least_bound, least_from_lem}
use Rattle.shares.proofs.Offers.{tabulated}

module _ (M : ℕ) (f : Figures) where
  pub has_below : has_low_share M f ≡ true → f.nominal.span < f.deadline
  unfolding has_low_share
  has_below h = ltb-true _ _ (and_parts (ltb f.nominal.span f.deadline) _ h).0

  pub has_within : has_low_share M f ≡ true → low_share f ≤ M
  unfolding has_low_share
  has_within h = leb-true _ _ (and_parts (ltb f.nominal.span f.deadline) _ h).1

  -- A low task's number is 0 at its share.
  pub low_critical_own : has_low_share M f ≡ true → low_critical M f (low_share f) ≡ 0
  unfolding low_critical
  low_critical_own h = rw (h, eq-eqb (low_share f) (low_share f) refl)

  -- It is M + 1 at any other share, and where it has none.
  pub low_critical_other : (a : ℕ) → (a ≡ low_share f → ⊥) → low_critical M f a ≡ M + 1
  unfolding low_critical
  low_critical_other a other = rw (ne_eqb a (low_share f) other, and-false (has_low_share M f))

  pub low_critical_none : (a : ℕ) → has_low_share M f ≡ false → low_critical M f a ≡ M + 1
  unfolding low_critical
  low_critical_none a none = rw none

  -- It is never above M + 1.
  low_critical_bound : (a : ℕ) → low_critical M f a ≤ M + 1
  unfolding low_critical
  low_critical_bound a = go (has_low_share M f && eqb a (low_share f))
    where
      go : (own : Bool) → cond own 0 (M + 1) ≤ M + 1
      go true = omega arith
      go false = omega arith

  -- Where it is within M, the task has a share, and it is this one.
  pub low_critical_within : (a : ℕ) → low_critical M f a ≤ M → (has_low_share M f ≡ true) × (a ≡ low_share f)
  unfolding low_critical
  low_critical_within a within = go (has_low_share M f) (eqb a (low_share f)) refl refl within
    where
      go : (h e : Bool) → has_low_share M f ≡ h → eqb a (low_share f) ≡ e → cond (h && e) 0 (M + 1) ≤ M →
          (has_low_share M f ≡ true) × (a ≡ low_share f)
      go true true has own _ = (has, eqb-true a (low_share f) own)
      go true false has own past = absurd (omega arith)
      go false e has own past = absurd (omega arith)

  -- What the answer to the search for the share says.
  pub answer_share : (s : ℕ) → low_answer M f ≡ Some s → (has_low_share M f ≡ true) × (low_share f ≡ s)
  unfolding low_answer
  answer_share s = go (has_low_share M f) refl
    where
      go : (h : Bool) → has_low_share M f ≡ h → cond h (Some (low_share f)) None ≡ Some s →
          (has_low_share M f ≡ true) × (low_share f ≡ s)
      go true has e = (has, cc)
      go false has e = absurd (cc)

  pub answer_no_share : low_answer M f ≡ None → has_low_share M f ≡ false
  unfolding low_answer
  answer_no_share = go (has_low_share M f) refl
    where
      go : (h : Bool) → has_low_share M f ≡ h → cond h (Some (low_share f)) None ≡ None → has_low_share M f ≡ false
      go true has e = absurd (cc)
      go false has e = has

  -- The offer of a low task with no share in a cell.
  pub low_offer_none : (n : ℕ) → ((a : ℕ) → 1 ≤ a → low_critical M f a ≡ M + 1) →
      replicate n (M + 1) ≡ tabulate (low_critical M f) 1 n
  low_offer_none n none =
      tabulated (low_critical M f) _ 1 n (length-replicate n (M + 1))
      (λ i h. get_or-replicate n i (M + 1) 0 h ∙ sym (none (1 + i) (omega arith)))

  -- The offer of a low task with its share in cell s − 1.
  pub low_offer_at : (n s : ℕ) → has_low_share M f ≡ true → low_share f ≡ s → 1 ≤ s → s ≤ n →
      set (replicate n (M + 1)) (s - 1) 0 ≡ tabulate (low_critical M f) 1 n
  low_offer_at n s has own one within =
      tabulated (low_critical M f) _ 1 n (length-set (replicate n (M + 1)) (s - 1) 0 ∙ length-replicate n (M + 1))
      (λ i h. cell i h (eqb (1 + i) s) refl)
    where
      cell : (i : ℕ) → i < n → (t : Bool) → eqb (1 + i) s ≡ t →
          get_or (set (replicate n (M + 1)) (s - 1) 0) i 0 ≡ low_critical M f (1 + i)
      cell i h true e =
          let here : 1 + i ≡ s = eqb-true (1 + i) s e in
          let index : s - 1 ≡ i = omega arith in
          let share : 1 + i ≡ low_share f = here ∙ sym own in
          let inside : i < length (replicate n (M + 1)) = simp length-replicate h in
          rw (index, share) (get_or-set_same (replicate n (M + 1)) i 0 0 inside ∙ sym (low_critical_own has))
      cell i h false e =
          let apart = eqb-false (1 + i) s e in
          get_or-set_other (replicate n (M + 1)) (s - 1) i 0 0 (λ q. apart (omega arith))
          ∙ get_or-replicate n i (M + 1) 0 h
          ∙ sym (low_critical_other (1 + i) (λ q. apart (q ∙ own)))

module _ (M : ℕ) (t : Task) where
  pub critical_low : is_low t.level ≡ true → (a : ℕ) → critical_at M t a ≡ low_critical M t.figures a
  unfolding critical_at
  critical_low low a = rw low

  pub critical_high : is_low t.level ≡ false → (a : ℕ) → critical_at M t a ≡ least_critical M t.figures a
  unfolding critical_at
  critical_high high a = rw high

  -- No number of an offer is above M + 1.
  pub critical_bound : (a : ℕ) → critical_at M t a ≤ M + 1
  unfolding critical_at
  critical_bound a = go (is_low t.level)
    where
      go : (l : Bool) → cond l (low_critical M t.figures a) (least_critical M t.figures a) ≤ M + 1
      go true = low_critical_bound M t.figures a
      go false = least_bound M t.figures a

  -- Only typical shares within M have a critical share.
  pub critical_within : (a : ℕ) → critical_at M t a ≤ M → a ≤ M
  unfolding critical_at
  critical_within a = go (is_low t.level)
    where
      go : (l : Bool) → cond l (low_critical M t.figures a) (least_critical M t.figures a) ≤ M → a ≤ M
      go true within =
          let own = low_critical_within M t.figures a within in
          omega (arith, own.1, has_within M t.figures own.0)
      go false within = omega (arith, least_from_lem M t.figures a within)

  -- At the typical shares above M there is none.
  pub critical_past : (a : ℕ) → M < a → critical_at M t a ≡ M + 1
  critical_past a past = go (dec_le (critical_at M t a) M)
    where
      go : Dec (critical_at M t a ≤ M) → critical_at M t a ≡ M + 1
      go (yes within) = absurd (omega (arith, critical_within a within))
      go (no above) = omega (arith, critical_bound a)

  pub offer_low : is_low t.level ≡ true → offer_of M t ≡ tabulate (low_critical M t.figures) 1 64
  unfolding offer_of
  offer_low low = ap (λ (g : ℕ → ℕ). tabulate g 1 64) (fun_ext (critical_low low))

  pub offer_high : is_low t.level ≡ false → offer_of M t ≡ tabulate (least_critical M t.figures) 1 64
  unfolding offer_of
  offer_high high = ap (λ (g : ℕ → ℕ). tabulate g 1 64) (fun_ext (critical_high high))
