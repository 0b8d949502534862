-- S3.2, causes in order: where a rule is kept the next cause speaks, and the first refusal is the answer.
use Prim.Native.Nat.{ℕ, zero, suc, ◌≤◌, ◌<◌, ◌+◌, ◌-◌}
use mathlib.Core.Bool.{Bool, true, false, not}
use mathlib.Core.Path.{◌≡◌, refl, ap, ◌∙◌}
use native.Mathlib.Decide.{dec_lt}
use native.Mathlib.Omega.{arith}
use native.Mathlib.Numerals.{add-one}
use lib.Dec.{eqb}
use borrow.Author.Tests.{eq-eqb, ne_eqb}
use Rattle.std.specs.Prelude.{Result, Ok, Err}
use Rattle.sheet.specs.declared.refusal.Refusal.{Refusal}
use Rattle.sheet.specs.Refusal.{Answer, refused_if, first_over, ◌or_else◌}

pub after_accepted : {A : Type 0} (first : Answer) (later : Result A Refusal) → first ≡ Ok tt → (first or_else later) ≡ later
after_accepted first later e = rw e

pub after_refused : {A : Type 0} (first : Answer) (later : Result A Refusal) {r : Refusal} → first ≡ Err r → (first or_else later) ≡ Err r
after_refused first later e = rw e

-- A rule that is kept, and one that is broken.
pub kept : (rule : Bool) (r : Refusal) → rule ≡ true → refused_if (not rule) r ≡ Ok tt
kept rule r e = rw e

pub broken : (rule : Bool) (r : Refusal) → rule ≡ false → refused_if (not rule) r ≡ Err r
broken rule r e = rw e

-- Where causes let pass, each does, and a rule that is not refused is kept.
pub both_accepted : (first later : Answer) → (first or_else later) ≡ Ok tt → (first ≡ Ok tt) × (later ≡ Ok tt)
both_accepted (Ok u) later e = (refl, e)
both_accepted (Err r) later e = absurd (cc)

-- What a call answers whose causes are put first: it does what it was asked, or the causes refuse.
pub or_else_ok : {A : Type 0} (first : Answer) {x y : A} → (first or_else Ok x) ≡ Ok y → (first ≡ Ok tt) × (y ≡ x)
or_else_ok (Ok u) e = (refl, cc)
or_else_ok (Err r) e = absurd (cc)

pub or_else_err : {A : Type 0} (first : Answer) (x : A) {r : Refusal} → (first or_else Ok x) ≡ Err r → first ≡ Err r
or_else_err (Ok u) x e = absurd (cc)
or_else_err (Err r) x e = cc

pub rule_kept : (rule : Bool) (r : Refusal) → refused_if (not rule) r ≡ Ok tt → rule ≡ true
rule_kept true r e = refl
rule_kept false r e = absurd (cc)

-- A rule that two numbers are equal.
pub kept_equal : (x y : ℕ) (r : Refusal) → x ≡ y → refused_if (not (eqb x y)) r ≡ Ok tt
kept_equal x y r e = kept (eqb x y) r (eq-eqb x y e)

pub broken_equal : (x y : ℕ) (r : Refusal) → (x ≡ y → ⊥) → refused_if (not (eqb x y)) r ≡ Err r
broken_equal x y r n = broken (eqb x y) r (ne_eqb x y n)

-- A cause put to the tasks one after the other: on past a task that is accepted, and no further than the first that is
-- refused.
module _ (cause : ℕ → Answer) where
  pub over_next : (i n : ℕ) → i < n → cause i ≡ Ok tt → first_over cause (i + 1) (n - (i + 1)) ≡ first_over cause i (n - i)
  unfolding first_over
  over_next i n h e =
      let step : n - i ≡ suc (n - (i + 1)) = omega arith in
      rw (step, add-one i, e)

  pub over_stop : (i n : ℕ) {r : Refusal} → i < n → cause i ≡ Err r → first_over cause i (n - i) ≡ Err r
  unfolding first_over
  over_stop i n h e =
      let step : n - i ≡ suc (n - (i + 1)) = omega arith in
      rw (step, e)

  pub over_end : (i n : ℕ) → n ≤ i → first_over cause i (n - i) ≡ Ok tt
  unfolding first_over
  over_end i n h =
      let none : n - i ≡ 0 = omega arith in
      rw none

  pub over_all : (n : ℕ) → first_over cause 0 (n - 0) ≡ first_over cause 0 n
  over_all n =
      let all : n - 0 ≡ n = omega arith in
      rw all

-- A cause that lets all tasks pass lets each pass.
pub over_accepted : (cause : ℕ → Answer) (first count i : ℕ) → first_over cause first count ≡ Ok tt → first ≤ i → i < first + count →
    cause i ≡ Ok tt
unfolding first_over
over_accepted cause first zero i e from to = absurd (omega arith)
over_accepted cause first (suc count) i e from to =
    let both = both_accepted (cause first) (first_over cause (suc first) count) e in
    go (over_accepted cause (suc first) count i both.1) both.0 (dec_lt first i)
  where
    go : (suc first ≤ i → i < suc first + count → cause i ≡ Ok tt) → cause first ≡ Ok tt → Dec (first < i) → cause i ≡ Ok tt
    go rest here (yes later) = rest later (omega arith)
    go rest here (no not-later) = let same : i ≡ first = omega arith in ap cause same ∙ here

-- A cause that lets each task pass lets all pass.
pub all_pass : (cause : ℕ → Answer) (first count : ℕ) → ((i : ℕ) → first ≤ i → i < first + count → cause i ≡ Ok tt) →
    first_over cause first count ≡ Ok tt
unfolding first_over
all_pass cause first zero h = refl
all_pass cause first (suc count) h =
    rw (h first (omega arith) (omega arith), all_pass cause (suc first) count (λ i from to. h i (omega arith) (omega arith)))

-- A cause put to tasks on which two causes agree.
pub over_same : (f g : ℕ → Answer) (first count : ℕ) → ((i : ℕ) → first ≤ i → i < first + count → f i ≡ g i) →
    first_over f first count ≡ first_over g first count
unfolding first_over
over_same f g first zero same = refl
over_same f g first (suc count) same =
    rw (same first (omega arith) (omega arith), over_same f g (suc first) count (λ i from to. same i (omega arith) (omega arith)))
