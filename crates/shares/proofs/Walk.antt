-- One step of the search from b, within M, and the answers that it ends in.
use Prim.Native.Nat.{ℕ, suc, ◌+◌, ◌-◌, ◌*◌, ◌≤◌, ◌<◌, min}
use mathlib.Core.Path.{◌≡◌, refl, ap, sym, fun_ext}
use mathlib.Core.Bool.{Bool, true, false, cond}
use native.Mathlib.Numerals.{add-one}
use native.Mathlib.Omega.{arith}
use lib.Dec.{leb}
use borrow.Author.Tests.{leb-false, le-leb, lt-leb}
use Rattle.sheet.specs.declared.task.Figures.{Figures}
use Rattle.std.specs.Prelude.{Some, None, unwrap_or}
use Rattle.shares.specs.Test.{excess, demand, passes}
use Rattle.shares.specs.means.Terms.{terms_of, meets}
use Rattle.shares.specs.Search.{first, least_critical, found_of}

module _ (test : ℕ → Bool) (M b : ℕ) where
  pub search_past : M < b → first test (M + 1) b (M + 1 - b) ≡ M + 1
  unfolding first
  search_past past = let e : M + 1 - b ≡ 0 = omega arith in rw e

  pub search_here : b ≤ M → test b ≡ true → first test (M + 1) b (M + 1 - b) ≡ b
  unfolding first
  search_here within t = let e : M + 1 - b ≡ suc (M - b) = omega arith in rw (e, t)

  pub search_on : b ≤ M → test b ≡ false → first test (M + 1) b (M + 1 - b) ≡ first test (M + 1) (b + 1) (M + 1 - (b + 1))
  unfolding first
  search_on within t =
      let e : M + 1 - b ≡ suc (M - b) = omega arith in
      let e' : M + 1 - (b + 1) ≡ M - b = omega arith in
      rw (e, t, e', add-one b)

-- The terms say the same as the pair test.
meets-passes : (f : Figures) (a b : ℕ) → meets (terms_of f a) a b ≡ passes f a b
unfolding terms_of meets passes demand
meets-passes f a b =
    ap (λ z. leb z (f.deadline * a * b))
    (ring (f.nominal.work - f.nominal.span) f.overload.span (excess f) (min (f.nominal.span * a) (excess f)) (b - a))
  where
    ring : (n l w x d : ℕ) → (n + l * a) * b + w * a + x * d ≡ n * b + w * a + l * a * b + x * d
    ring n l w x d = omega arith

-- The search by terms gives the least critical share.
pub least_by_terms : (M : ℕ) (f : Figures) (a : ℕ) →
    least_critical M f a ≡ first (meets (terms_of f a) a) (M + 1) a (M + 1 - a)
unfolding least_critical
least_by_terms M f a = ap (λ (test : ℕ → Bool). first test (M + 1) a (M + 1 - a)) (fun_ext (λ b. sym (meets-passes f a b)))

pub answer_none : (M : ℕ) → found_of M (M + 1) ≡ None
unfolding found_of
answer_none M = rw (lt-leb (M + 1) M (omega arith))

pub answer_at : (M b : ℕ) → b ≤ M → found_of M b ≡ Some b
unfolding found_of
answer_at M b within = rw (le-leb b M within)

-- A number up to M + 1 is said by its answer.
pub number_answer : (M x : ℕ) → x ≤ M + 1 → unwrap_or (found_of M x) (M + 1) ≡ x
unfolding found_of
number_answer M x most = go (leb x M) refl
  where
    go : (t : Bool) → leb x M ≡ t → unwrap_or (cond t (Some x) None) (M + 1) ≡ x
    go true e = refl
    go false e = omega (arith, leb-false x M e)
