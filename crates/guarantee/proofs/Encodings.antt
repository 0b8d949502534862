-- Laws of a log (S12.1): what stands at a place by its kind byte, and the calls from a place on, one at a time.
use Prim.Native.Nat.{ℕ, zero, suc, ◌+◌, ◌-◌, ◌*◌, ◌≤◌, ◌<◌}
use mathlib.Core.Path.{◌≡◌, refl, sym, ap, ap₂, ◌∙◌}
use mathlib.Core.Bool.{Bool, true, false, cond}
use lib.Dec.{eqb}
use mathlib.Core.List.{List, [], ◌∷◌, ◌++◌, map, map-append}
use native.Mathlib.Decide.{ℕ_discrete, dec_le}
use native.Mathlib.Numerals.{add-one}
use native.Mathlib.Omega.{arith}
use borrow.Author.Tests.{eq-eqb, ne_eqb, le-leb, lt-leb}
use lib.ListN.{length, take, drop, length-drop, get_or}
use Rattle.std.proofs.lemmas.List.{get_or-take, get_or-drop}
use Rattle.basics.specs.Numbers.{byte_at, u16_at, u32_at}
use Rattle.basics.specs.Lists.{range}
use Rattle.basics.proofs.Lists.{range-append}
use Rattle.std.specs.Prelude.{Option, Some, None}
use Rattle.model.specs.Step.{Call, release, tick}
use Rattle.guarantee.specs.declared.encoding.Kind.{Kind}
use Rattle.guarantee.specs.declared.encoding.Kind.TheVariants.{Release, Tick}
use Rattle.guarantee.specs.Encoding.{kind_of, asked_by, asked_at, size_at, reports_at, call_at, call_in, calls_from, calls_of}

module _ (b : List ℕ) (at : ℕ) where
  -- What is asked for, by the kind.
  pub asked_known : (k : Kind) → kind_of (byte_at b at) ≡ Some k → asked_at b at ≡ asked_by k (byte_at b (at + 1))
  unfolding kind_of asked_by asked_at
  asked_known k = go (eqb (byte_at b at) 0) (eqb (byte_at b at) 1)
    where
      go : (p q : Bool) → cond p (Some Release) (cond q (Some Tick) None) ≡ Some k →
          cond p 5 (cond q (2 + 4 * byte_at b (at + 1)) 0) ≡ asked_by k (byte_at b (at + 1))
      go true q e = let same : Release ≡ k = cc in ap (λ (j : Kind). asked_by j (byte_at b (at + 1))) same
      go false true e = let same : Tick ≡ k = cc in ap (λ (j : Kind). asked_by j (byte_at b (at + 1))) same
      go false false e = absurd (cc)

  pub asked_unknown : kind_of (byte_at b at) ≡ None → asked_at b at ≡ 0
  unfolding kind_of asked_at
  asked_unknown = go (eqb (byte_at b at) 0) (eqb (byte_at b at) 1)
    where
      go : (p q : Bool) → ◌≡◌ {A = Option Kind} (cond p (Some Release) (cond q (Some Tick) None)) None →
          cond p 5 (cond q (2 + 4 * byte_at b (at + 1)) 0) ≡ 0
      go true q e = absurd (cc)
      go false true e = absurd (cc)
      go false false e = refl

  pub asked_release : byte_at b at ≡ 0 → asked_at b at ≡ 5
  unfolding asked_at
  asked_release e = rw (eq-eqb (byte_at b at) 0 e)

  pub asked_tick : (byte_at b at ≡ 0 → ⊥) → byte_at b at ≡ 1 → asked_at b at ≡ 2 + 4 * byte_at b (at + 1)
  unfolding asked_at
  asked_tick n e = rw (ne_eqb (byte_at b at) 0 n, eq-eqb (byte_at b at) 1 e)

  pub asked_other : (byte_at b at ≡ 0 → ⊥) → (byte_at b at ≡ 1 → ⊥) → asked_at b at ≡ 0
  unfolding asked_at
  asked_other n m = rw (ne_eqb (byte_at b at) 0 n, ne_eqb (byte_at b at) 1 m)

  pub size_whole : at + asked_at b at ≤ length b → size_at b at ≡ asked_at b at
  unfolding size_at
  size_whole h = rw (le-leb (at + asked_at b at) (length b) h)

  pub size_cut : length b < at + asked_at b at → size_at b at ≡ 0
  unfolding size_at
  size_cut h = rw (lt-leb (at + asked_at b at) (length b) h)

  pub size_unknown : kind_of (byte_at b at) ≡ None → size_at b at ≡ 0
  size_unknown e = go (dec_le (at + asked_at b at) (length b))
    where
      go : Dec (at + asked_at b at ≤ length b) → size_at b at ≡ 0
      go (yes h) = size_whole h ∙ asked_unknown e
      go (no h) = size_cut (omega arith)

  -- A call that stands whole at a place ends within the log.
  pub whole_inside : 1 ≤ size_at b at → (1 ≤ asked_at b at) × (at + asked_at b at ≤ length b)
  whole_inside some = go (dec_le (at + asked_at b at) (length b))
    where
      go : Dec (at + asked_at b at ≤ length b) → (1 ≤ asked_at b at) × (at + asked_at b at ≤ length b)
      go (yes h) = (omega (arith, size_whole h), h)
      go (no h) = absurd (omega (arith, size_cut (omega arith)))

  pub call_released : kind_of (byte_at b at) ≡ Some Release → call_at b at ≡ release (u32_at b (at + 1))
  unfolding kind_of call_at
  call_released = go (eqb (byte_at b at) 0) (eqb (byte_at b at) 1)
    where
      go : (p q : Bool) → cond p (Some Release) (cond q (Some Tick) None) ≡ Some Release →
          cond p (release (u32_at b (at + 1))) (tick (reports_at b (at + 2) (byte_at b (at + 1)))) ≡ release (u32_at b (at + 1))
      go true q e = refl
      go false true e = absurd (cc)
      go false false e = absurd (cc)

  pub call_ticked : kind_of (byte_at b at) ≡ Some Tick → call_at b at ≡ tick (reports_at b (at + 2) (byte_at b (at + 1)))
  unfolding kind_of call_at
  call_ticked = go (eqb (byte_at b at) 0) (eqb (byte_at b at) 1)
    where
      go : (p q : Bool) → cond p (Some Release) (cond q (Some Tick) None) ≡ Some Tick →
          cond p (release (u32_at b (at + 1))) (tick (reports_at b (at + 2) (byte_at b (at + 1)))) ≡ tick (reports_at b (at + 2) (byte_at b (at + 1)))
      go true q e = absurd (cc)
      go false true e = refl
      go false false e = absurd (cc)

  -- Behind the last whole call there is none.
  pub size_past : length b ≤ at → size_at b at ≡ 0
  size_past h = go (ℕ_discrete (size_at b at) 0)
    where
      go : Dec (size_at b at ≡ 0) → size_at b at ≡ 0
      go (yes z) = z
      go (no n) = absurd (omega (arith, (whole_inside (omega arith)).0, (whole_inside (omega arith)).1))

  -- A Release ends within the log, and so does a Tick with its reports.
  pub release_inside : 1 ≤ size_at b at → byte_at b at ≡ 0 → at + 5 ≤ length b
  release_inside some e = omega (arith, (whole_inside some).1, asked_release e)

  pub tick_inside : 1 ≤ size_at b at → (byte_at b at ≡ 0 → ⊥) → at + 2 + 4 * byte_at b (at + 1) ≤ length b
  tick_inside some n = go (ℕ_discrete (byte_at b at) 1)
    where
      go : Dec (byte_at b at ≡ 1) → at + 2 + 4 * byte_at b (at + 1) ≤ length b
      go (yes e) = omega (arith, (whole_inside some).1, asked_tick n e)
      go (no m) = absurd (omega (arith, (whole_inside some).0, asked_other n m))

  pub call_release : byte_at b at ≡ 0 → call_at b at ≡ release (u32_at b (at + 1))
  unfolding call_at
  call_release e = rw (eq-eqb (byte_at b at) 0 e)

  pub call_tick : (byte_at b at ≡ 0 → ⊥) → call_at b at ≡ tick (reports_at b (at + 2) (byte_at b (at + 1)))
  unfolding call_at
  call_tick n = rw (ne_eqb (byte_at b at) 0 n)

  -- Where the log ends there are no calls, and else there is one more.
  pub calls_none : (most : ℕ) → size_at b at ≡ 0 → calls_from most b at ≡ []
  unfolding calls_from
  calls_none zero e = refl
  calls_none (suc most) e = rw (eq-eqb (size_at b at) 0 e)

  pub calls_next : (most : ℕ) → (size_at b at ≡ 0 → ⊥) → calls_from (suc most) b at ≡ call_at b at ∷ calls_from most b (at + size_at b at)
  unfolding calls_from
  calls_next most n = rw (ne_eqb (size_at b at) 0 n)

  -- Where calls are left, one stands whole.
  pub call_left : (most : ℕ) → length (calls_from (suc most) b at) ≡ suc most → 1 ≤ size_at b at
  call_left most e = go (ℕ_discrete (size_at b at) 0)
    where
      go : Dec (size_at b at ≡ 0) → 1 ≤ size_at b at
      go (yes z) = absurd (omega (arith, e, ap length (calls_none (suc most) z)))
      go (no n) = omega arith

-- As many calls as there are, are all.
pub calls_exact : (most : ℕ) (b : List ℕ) (at : ℕ) → calls_from (length (calls_from most b at)) b at ≡ calls_from most b at
unfolding calls_from
calls_exact zero b at = refl
calls_exact (suc most) b at = go (ℕ_discrete (size_at b at) 0) (calls_exact most b (at + size_at b at))
  where
    go : Dec (size_at b at ≡ 0) → calls_from (length (calls_from most b (at + size_at b at))) b (at + size_at b at) ≡ calls_from most b (at + size_at b at)
        → calls_from (length (calls_from (suc most) b at)) b at ≡ calls_from (suc most) b at
    go (yes z) rest = rw (calls_none b at (suc most) z)
    go (no n) rest =
        rw (calls_next b at most n)
        (calls_next b at (length (calls_from most b (at + size_at b at))) n ∙ ap (λ (l : List Call). call_at b at ∷ l) rest)

-- More calls than bytes are never asked for.
calls_enough : (m n : ℕ) (b : List ℕ) (at : ℕ) → length b ≤ at + m → length b ≤ at + n → calls_from m b at ≡ calls_from n b at
calls_enough zero n b at h k = calls_none b at 0 (size_past b at (omega arith)) ∙ sym (calls_none b at n (size_past b at (omega arith)))
calls_enough (suc m) zero b at h k = calls_none b at (suc m) (size_past b at (omega arith)) ∙ sym (calls_none b at 0 (size_past b at (omega arith)))
calls_enough (suc m) (suc n) b at h k =
    go (ℕ_discrete (size_at b at) 0) (λ some. calls_enough m n b (at + size_at b at) (omega arith) (omega arith))
  where
    go : Dec (size_at b at ≡ 0) → (1 ≤ size_at b at → calls_from m b (at + size_at b at) ≡ calls_from n b (at + size_at b at)) →
        calls_from (suc m) b at ≡ calls_from (suc n) b at
    go (yes z) rest = calls_none b at (suc m) z ∙ sym (calls_none b at (suc n) z)
    go (no z) rest =
        let some : 1 ≤ size_at b at = omega arith in
        calls_next b at m z ∙ ap (λ (l : List Call). call_at b at ∷ l) (rest some) ∙ sym (calls_next b at n z)

calls_few : (most : ℕ) (b : List ℕ) (at : ℕ) → length (calls_from most b at) ≤ most
unfolding calls_from
calls_few zero b at = omega arith
calls_few (suc most) b at = go (eqb (size_at b at) 0) (calls_few most b (at + size_at b at))
  where
    go : (t : Bool) → length (calls_from most b (at + size_at b at)) ≤ most →
        length (cond t [] (call_at b at ∷ calls_from most b (at + size_at b at))) ≤ suc most
    go true few = omega arith
    go false few = omega arith

-- A log has no more calls than bytes.
pub no_more_calls : (b : List ℕ) → length (calls_of b) ≤ length b
unfolding calls_of
no_more_calls b = calls_few (length b) b 0

-- One report more.
pub reports_more : (b : List ℕ) (at i : ℕ) → reports_at b at (i + 1) ≡ reports_at b at i ++ (u32_at b (at + 4 * i) ∷ [])
unfolding reports_at range
reports_more b at i =
    let e : 0 + i ≡ i = omega arith in
    ap (map (λ (j : ℕ). u32_at b (at + 4 * j))) (range-append 0 i 1)
    ∙ map-append (λ (j : ℕ). u32_at b (at + 4 * j)) (range 0 i) (range (0 + i) 1)
    ∙ ap (λ (j : ℕ). map (λ (j : ℕ). u32_at b (at + 4 * j)) (range 0 i) ++ (u32_at b (at + 4 * j) ∷ [])) e

reports_suc : (b : List ℕ) (at i : ℕ) → reports_at b at (suc i) ≡ reports_at b at i ++ (u32_at b (at + 4 * i) ∷ [])
reports_suc b at i = ap (reports_at b at) (sym (add-one i)) ∙ reports_more b at i

reports_none : (b : List ℕ) (at : ℕ) → reports_at b at 0 ≡ []
unfolding reports_at range
reports_none b at = refl

-- Two lists that have the same numbers have the same reports.
reports_same : (b d : List ℕ) (at to count : ℕ) → ((i : ℕ) → i < count → u32_at b (at + 4 * i) ≡ u32_at d (to + 4 * i)) →
    reports_at b at count ≡ reports_at d to count
reports_same b d at to zero same = reports_none b at ∙ sym (reports_none d to)
reports_same b d at to (suc count) same =
    reports_suc b at count
    ∙ ap₂ (λ (l : List ℕ) (x : ℕ). l ++ (x ∷ [])) (reports_same b d at to count (λ i h. same i (omega arith))) (same count (omega arith))
    ∙ sym (reports_suc d to count)

-- What stands in the front of a log.
module _ (b : List ℕ) (n : ℕ) where
  u32_taken : (i : ℕ) → i + 4 ≤ n → u32_at (take n b) i ≡ u32_at b i
  unfolding u32_at u16_at byte_at
  u32_taken i h =
      rw (
        get_or-take n b i 0 (omega arith),
        get_or-take n b (i + 1) 0 (omega arith),
        get_or-take n b (i + 2) 0 (omega arith),
        get_or-take n b (i + 2 + 1) 0 (omega arith),
      )

  byte_taken : (i : ℕ) → i < n → byte_at (take n b) i ≡ byte_at b i
  unfolding byte_at
  byte_taken i h = get_or-take n b i 0 h

  call_taken : (k : Kind) → kind_of (byte_at b 0) ≡ Some k → n ≡ asked_by k (byte_at b 1) → call_at b 0 ≡ call_in k (take n b)
  unfolding asked_by call_in
  call_taken Release e h = call_released b 0 e ∙ ap release (sym (u32_taken 1 (omega arith)))
  call_taken Tick e h =
      call_ticked b 0 e
      ∙ ap tick (
      sym (reports_same (take n b) b 2 2 (byte_at b 1) (λ i k. u32_taken (2 + 4 * i) (omega arith)))
      ∙ ap (reports_at (take n b) 2) (sym (byte_taken 1 (omega arith)))
      )

  -- A call has the bytes that it asks for.
  pub call_whole : (k : Kind) (front : List ℕ) → n ≡ asked_by k (byte_at b 1) → front ≡ take n b → length front ≡ n →
      asked_by k (byte_at front 1) ≤ length front
  unfolding asked_by byte_at
  call_whole Release front asked e long = omega arith
  call_whole Tick front asked e long =
      let same : get_or front 1 0 ≡ get_or b 1 0 = ap (λ (l : List ℕ). get_or l 1 0) e ∙ get_or-take n b 1 0 (omega arith) in
      omega arith

  -- What stands behind the front.
  byte_dropped : (at : ℕ) → byte_at (drop n b) at ≡ byte_at b (n + at)
  unfolding byte_at
  byte_dropped at = get_or-drop n b at 0

  u32_dropped : (at : ℕ) → u32_at (drop n b) at ≡ u32_at b (n + at)
  unfolding u32_at u16_at
  u32_dropped at =
      let one : n + (at + 1) ≡ n + at + 1 = omega arith in
      let two : n + (at + 2) ≡ n + at + 2 = omega arith in
      let three : n + (at + 2 + 1) ≡ n + at + 2 + 1 = omega arith in
      rw (byte_dropped at, byte_dropped (at + 1), byte_dropped (at + 2), byte_dropped (at + 2 + 1), one, two, three)

  reports_dropped : (at count : ℕ) → reports_at (drop n b) at count ≡ reports_at b (n + at) count
  reports_dropped at count =
      let further : (i : ℕ) → n + (at + 4 * i) ≡ n + at + 4 * i = λ i. omega arith in
      reports_same (drop n b) b at (n + at) count (λ i h. u32_dropped (at + 4 * i) ∙ ap (u32_at b) (further i))

  next_byte : (at : ℕ) → byte_at (drop n b) (at + 1) ≡ byte_at b (n + at + 1)
  next_byte at = let one : n + (at + 1) ≡ n + at + 1 = omega arith in byte_dropped (at + 1) ∙ ap (byte_at b) one

  asked_dropped : (at : ℕ) → asked_at (drop n b) at ≡ asked_at b (n + at)
  unfolding asked_at
  asked_dropped at = rw (byte_dropped at, next_byte at)

  call_dropped : (at : ℕ) → call_at (drop n b) at ≡ call_at b (n + at)
  unfolding call_at
  call_dropped at =
      let two : n + (at + 2) ≡ n + at + 2 = omega arith in
      let reports = reports_dropped (at + 2) (byte_at b (n + at + 1)) in
      let one : n + (at + 1) ≡ n + at + 1 = omega arith in
      let word = u32_dropped (at + 1) ∙ ap (u32_at b) one in
      rw (byte_dropped at, next_byte at, word, reports, two)

  module _ (inside : n ≤ length b) where
    size_dropped : (at : ℕ) → size_at (drop n b) at ≡ size_at b (n + at)
    size_dropped at = go (dec_le (n + at + asked_at b (n + at)) (length b))
      where
        long : length (drop n b) + n ≡ length b
        long = omega (arith, length-drop n b)

        go : Dec (n + at + asked_at b (n + at) ≤ length b) → size_at (drop n b) at ≡ size_at b (n + at)
        go (yes h) =
            size_whole (drop n b) at (omega (arith, long, asked_dropped at)) ∙ asked_dropped at ∙ sym (size_whole b (n + at) h)
        go (no h) =
            size_cut (drop n b) at (omega (arith, long, asked_dropped at)) ∙ sym (size_cut b (n + at) (omega arith))

    calls_dropped : (most at : ℕ) → calls_from most (drop n b) at ≡ calls_from most b (n + at)
    unfolding calls_from
    calls_dropped zero at = refl
    calls_dropped (suc most) at =
        let place : n + (at + size_at b (n + at)) ≡ n + at + size_at b (n + at) = omega arith in
        rw (size_dropped at, call_dropped at, calls_dropped most (at + size_at b (n + at)), place)

-- A whole call at the front of a log, and the calls behind it.
pub calls_step : (b : List ℕ) (k : Kind) (n : ℕ) → kind_of (byte_at b 0) ≡ Some k → n ≡ asked_by k (byte_at b 1) → 1 ≤ n → n ≤ length b →
    calls_of b ≡ call_in k (take n b) ∷ calls_of (drop n b)
unfolding calls_of
calls_step b k n e asked some inside =
    let known : asked_at b 0 ≡ n = asked_known b 0 k e ∙ sym asked in
    let size : size_at b 0 ≡ n = size_whole b 0 (omega arith) ∙ known in
    let more : length b ≡ suc (length b - 1) = omega arith in
    let behind : n + 0 ≡ 0 + size_at b 0 = omega arith in
    ap (λ (m : ℕ). calls_from m b 0) more
    ∙ calls_next b 0 (length b - 1) (λ z. omega arith)
    ∙ ap₂ (λ (c : Call) (l : List Call). c ∷ l) (call_taken b n k e asked) (
    calls_enough (length b - 1) (length (drop n b)) b (0 + size_at b 0) (omega arith) (omega (arith, length-drop n b))
    ∙ ap (calls_from (length (drop n b)) b) (sym behind)
    ∙ sym (calls_dropped b n inside (length (drop n b)) 0)
    )

-- No call at the front of a log ends it: its kind is unknown, or it is cut short.
pub calls_unknown : (b : List ℕ) → kind_of (byte_at b 0) ≡ None → calls_of b ≡ []
unfolding calls_of
calls_unknown b e = calls_none b 0 (length b) (size_unknown b 0 e)

pub calls_cut : (b : List ℕ) (k : Kind) → kind_of (byte_at b 0) ≡ Some k → length b < asked_by k (byte_at b 1) → calls_of b ≡ []
unfolding calls_of
calls_cut b k e short = calls_none b 0 (length b) (size_cut b 0 (omega (arith, asked_known b 0 k e)))
