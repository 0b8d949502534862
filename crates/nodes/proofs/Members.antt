-- Sets and the lists of their members: `members` and `set_of` undo each other, and `members` of each operation on
-- words is a `filter` of the joined tests. Each law of `set_of` follows from one halving step, `set_of_next`, and the
-- rest from the bits.
use Prim.Native.Nat.{ℕ, zero, suc, ◌+◌, ◌-◌, ◌*◌, ◌/◌, ◌%◌, ◌^◌, ◌<◌}
use mathlib.Core.Path.{◌≡◌, refl, sym, ap, ap₂, ◌∙◌}
use mathlib.Core.Logic.{◌⊎◌, inl, inr}
use mathlib.Core.Bool.{Bool, true, false, ◌&&◌}
use mathlib.Core.List.{List, [], ◌∷◌, map, Memᴰ}
use native.Mathlib.Nat.{pow-suc}
use native.Mathlib.Omega.{arith}
use borrow.Author.Tests.{lt-ltb}
use lib.Arith.{lt-one}
use lib.Count.{ones, ones_step}
use lib.Dec.{eqb, ltb, leb-zero, leb-suc-zero, leb-suc-suc}
use lib.ListN.{length, length-map, take}
use lib.Pow.{ones_lt}
use Rattle.std.specs.Prelude.{filter}
use Rattle.basics.specs.Lists.{range, kept_if, bit, count}
use Rattle.nodes.specs.Sets.{has, members, set_of}
use Rattle.nodes.proofs.Bits.{digit_cases, has_first, has_next, has_zero, has_ones, has_ext}
use Rattle.basics.proofs.Members.{range-has, range-within, filter-has, filter_from}
use Rattle.basics.proofs.Lists.{filter_ext_below, filter_none, filter_all, filter_next}
use Rattle.basics.proofs.Counts.{length_kept_bit, filter_lowest}

-- The set of a list of successors is twice the list's.
set_of-map_suc : (vs : List ℕ) → set_of (map suc vs) ≡ set_of vs * 2
set_of-map_suc [] = refl
set_of-map_suc (v ∷ vs) = omega (arith, set_of-map_suc vs, pow-suc 2 v)

set_of_kept : (t : Bool) (vs : List ℕ) → set_of (kept_if t 0 (map suc vs)) ≡ bit t + set_of vs * 2
set_of_kept true vs = omega (arith, set_of-map_suc vs)
set_of_kept false vs = omega (arith, set_of-map_suc vs)

-- The set of the numbers that pass a test: its lowest digit and its half.
set_of_next : (p : ℕ → Bool) (k : ℕ) → set_of (filter p (range 0 (suc k))) ≡ bit (p 0) + set_of (filter (λ v. p (suc v)) (range 0 k)) * 2
set_of_next p k = ap set_of (filter_next p k) ∙ set_of_kept (p 0) (filter (λ v. p (suc v)) (range 0 k))

bit_lt : (t : Bool) → bit t < 2
bit_lt true = omega arith
bit_lt false = omega arith

eqb_bit : (t : Bool) → eqb (bit t) 1 ≡ t
eqb_bit true = refl
eqb_bit false = refl

-- The set of the numbers below k that pass a test lies below 2 ^ k and holds just these.
pub set_of-filter_lt : (p : ℕ → Bool) (k : ℕ) → set_of (filter p (range 0 k)) < 2 ^ k
unfolding range
set_of-filter_lt p zero = omega arith
set_of-filter_lt p (suc k) =
    rw (set_of_next p k) (omega (arith, pow-suc 2 k, bit_lt (p 0), set_of-filter_lt (λ v. p (suc v)) k))

pub has-set_of-filter : (p : ℕ → Bool) (k v : ℕ) → has (set_of (filter p (range 0 k))) v ≡ (ltb v k && p v)
unfolding range
has-set_of-filter p zero v = rw (has_zero v, leb-suc-zero v)
has-set_of-filter p (suc k) zero =
    let e : set_of (filter p (range 0 (suc k))) % 2 ≡ bit (p 0) = omega (arith, set_of_next p k, bit_lt (p 0)) in
    has_first (set_of (filter p (range 0 (suc k)))) ∙ ap (λ (n : ℕ). eqb n 1) e ∙ eqb_bit (p 0) ∙ rw (leb-suc-suc 0 k, leb-zero k)
has-set_of-filter p (suc k) (suc v) =
    let e : set_of (filter p (range 0 (suc k))) / 2 ≡ set_of (filter (λ v. p (suc v)) (range 0 k)) = omega (arith, set_of_next p k, bit_lt (p 0)) in
    has_next (set_of (filter p (range 0 (suc k)))) v ∙ ap (λ (n : ℕ). has n v) e ∙ has-set_of-filter (λ v. p (suc v)) k v
    ∙ ap (λ (t : Bool). t && p (suc v)) (sym (leb-suc-suc (suc v) k))

-- Below k the bound's test is true.
has-set_of_below : (p : ℕ → Bool) (k v : ℕ) → v < k → has (set_of (filter p (range 0 k))) v ≡ p v
has-set_of_below p k v h = has-set_of-filter p k v ∙ rw (lt-ltb v k h)

-- The members of a set below k are the numbers below k that it has.
pub members_mem : (k set v : ℕ) → Memᴰ v (members k set) → (has set v ≡ true) × (v < k)
unfolding members
members_mem k set v m =
    let i = filter_from (has set) (range 0 k) v m in
    let b = range-within 0 k v i.0 in
    (i.1, omega arith)

pub mem_members : (k set v : ℕ) → has set v ≡ true → v < k → Memᴰ v (members k set)
unfolding members
mem_members k set v e h = filter-has (has set) (range 0 k) v (range-has 0 k v (omega arith) (omega arith)) e

-- There and back.
pub set_of-members : (k set : ℕ) → set < 2 ^ k → set_of (members k set) ≡ set
unfolding members
set_of-members k set h =
    has_ext k (set_of (filter (has set) (range 0 k))) set (set_of-filter_lt (has set) k) h (has-set_of_below (has set) k)

pub members-set_of-filter : (p : ℕ → Bool) (k : ℕ) → members k (set_of (filter p (range 0 k))) ≡ filter p (range 0 k)
unfolding members
members-set_of-filter p k = filter_ext_below (has (set_of (filter p (range 0 k)))) p k (has-set_of_below p k)

-- The set of the nodes below k.
pub set_of-range : (k : ℕ) → set_of (range 0 k) ≡ 2 ^ k - 1
set_of-range k =
    ap set_of (sym (filter_all (λ v. true) (range 0 k) (λ v m. refl)))
    ∙ has_ext k (set_of (filter (λ v. true) (range 0 k))) (2 ^ k - 1) (set_of-filter_lt (λ v. true) k) (ones_lt k)
    (λ v h. has-set_of_below (λ v. true) k v h ∙ sym (has_ones k v ∙ lt-ltb v k h))

pub members_zero : (k : ℕ) → members k 0 ≡ []
unfolding members
members_zero k = filter_none (has 0) (range 0 k) (λ v m. has_zero v)

-- The members by the lowest digit and the half.
pub members_next : (k set : ℕ) → members (suc k) set ≡ kept_if (has set 0) 0 (map suc (members k (set / 2)))
unfolding members
members_next k set =
    filter_next (has set) k
    ∙ ap (λ (vs : List ℕ). kept_if (has set 0) 0 (map suc vs)) (filter_ext_below (λ v. has set (suc v)) (has (set / 2)) k (λ v h. has_next set v))

bit-first : (set : ℕ) → bit (has set 0) ≡ set % 2
bit-first set = ap bit (has_first set) ∙ go (digit_cases set)
  where
    go : (set % 2 ≡ 0) ⊎ (set % 2 ≡ 1) → bit (eqb (set % 2) 1) ≡ set % 2
    go (inl e) = rw e
    go (inr e) = rw e

-- The ones of a word count the members.
pub ones_members : (k set : ℕ) → set < 2 ^ k → ones set ≡ length (members k set)
unfolding ones members range
ones_members zero set h = rw (lt-one h)
ones_members (suc k) set h =
    ones_step set
    ∙ ap₂ (λ (d n : ℕ). d + n) (sym (bit-first set)) (ones_members k (set / 2) (omega (arith, pow-suc 2 k)) ∙ sym (length-map (members k (set / 2)) suc))
    ∙ sym (ap length (members_next k set) ∙ length_kept_bit (has set 0) 0 (map suc (members k (set / 2))))

-- The s lowest members: as a test, as a set which node it holds, its bound, and back as a list.
pub take-members : (k set s : ℕ) → take s (members k set) ≡ filter (λ v. has set v && ltb (count (has set) v) s) (range 0 k)
unfolding members
take-members k set s = sym (filter_lowest (has set) s k)

pub set_of_lowest_lt : (k set s : ℕ) → set_of (take s (members k set)) < 2 ^ k
set_of_lowest_lt k set s = rw (take-members k set s) (set_of-filter_lt (λ v. has set v && ltb (count (has set) v) s) k)
