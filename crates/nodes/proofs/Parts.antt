-- One set within another: the spec's test, the bits, and the word's `a & b == a` say the same.
use Prim.Native.Nat.{ℕ, ◌^◌, ◌<◌}
use mathlib.Core.Path.{◌≡◌, sym, ap, ◌∙◌}
use mathlib.Core.Bool.{true, and-true, and-eq-true_iff}
use native.Mathlib.Nat.{lt_of_le_of_lt}
use borrow.Author.Tests.{eqb-true, eq-eqb}
use lib.Bits.{bit_and, and_le_l}
use lib.Dec.{eqb}
use Rattle.std.specs.Cmp.{both_ways}
use Rattle.basics.proofs.Logic.{under}
use Rattle.nodes.specs.Sets.{has, members, is_within}
use Rattle.nodes.proofs.Bits.{has_and, has_ext}
use Rattle.basics.proofs.Members.{all_member, all-members}
use Rattle.nodes.proofs.Members.{members_mem, mem_members}

-- The test by the bits.
pub is_within-has : (k a b v : ℕ) → is_within k a b ≡ true → v < k → has a v ≡ true → has b v ≡ true
unfolding is_within
is_within-has k a b v e h m = all_member (has b) (members k a) v e (mem_members k a v m h)

pub has-is_within : (k a b : ℕ) → ((v : ℕ) → v < k → has a v ≡ true → has b v ≡ true) → is_within k a b ≡ true
unfolding is_within
has-is_within k a b w = all-members (has b) (members k a) (λ v m. let i = members_mem k a v m in w v i.1 i.0)

-- The word's test.
pub and_eq_is_within : (k a b : ℕ) → a < 2 ^ k → eqb (bit_and a b) a ≡ is_within k a b
and_eq_is_within k a b below =
    both_ways (eqb (bit_and a b) a) (is_within k a b)
    (λ e. has-is_within k a b (λ v h m.
    ((and-eq-true_iff (has a v) (has b v)).0 (sym (has_and a b v) ∙ ap (λ (n : ℕ). has n v) (eqb-true (bit_and a b) a e) ∙ m)).1))
    (λ e. eq-eqb (bit_and a b) a
    (has_ext k (bit_and a b) a (lt_of_le_of_lt (and_le_l a b) below) below
    (λ v h. has_and a b v ∙ under (has a v) (is_within-has k a b v e h) ∙ and-true (has a v))))
