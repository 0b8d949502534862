-- The least shares are kept first, one task after the other: what is kept after each step is a split of the tasks
-- without a critical share, and where no more can be kept it is the first of the sets that can be held.
use Prim.Native.Nat.{ℕ, ◌+◌, ◌-◌, ◌≤◌, ◌<◌}
use mathlib.Core.Path.{◌≡◌, refl, sym, ap, ◌∙◌}
use mathlib.Core.Logic.{◌⊎◌, inl, inr}
use mathlib.Core.Bool.{Bool, true, false, cond, ◌||◌, or-false, or-true, false≢true}
use mathlib.Core.List.Memᴰ
use mathlib.Core.List.{List, [], ◌∷◌, Memᴰ}
use native.Mathlib.Omega.{arith}
use native.Mathlib.Decide.{dec_lt, ℕ_discrete}
use lib.Dec.{eqb}
use lib.ListN.{length, get_or, set, take, length-set}
use lib.Seq.{ext_get_or, get_or-set_same, get_or-set_other}
use borrow.Author.Tests.{eq-eqb, ne_eqb}
use Rattle.std.specs.Prelude.{filter}
use Rattle.std.specs.Cmp.{both_ways}
use Rattle.std.proofs.lemmas.Bool.{false_from_ne_true}
use Rattle.basics.specs.Lists.{range, kept_if, is_in}
use Rattle.basics.proofs.Lists.{filter_agree, filter_none}
use Rattle.basics.proofs.Members.{filter-has, filter_from, is_in_lem, in_is}
use Rattle.shares.specs.declared.share.Share.{Share}
use Rattle.shares.specs.Totals.{no_processors, share_at, critical_total}
use Rattle.keeping.specs.Kept.{processors_for, typical_share_at, left_over, kept_share, with_kept}
use Rattle.keeping.specs.Running.{critical_share_at, without, total_with_task}
use Rattle.keeping.specs.means.Keeping.{kept_line, NotAfter, Next, none, found, Keepable}
use Rattle.keeping.proofs.Parts.{part_rising, filter_part, Rising, range_rising}
use Rattle.keeping.proofs.Greedy.{Split, first_held_lem}
use Rattle.keeping.proofs.Laws.{with_length, with_share_lem, with_typical}
use Rattle.keeping.proofs.Running.{low_from, low_has, one_more_kept}

-- One task more that a test keeps.
abbrev pub also : (ℕ → Bool) → ℕ → ℕ → Bool
also test x i = test i || eqb i x

also_old : (test : ℕ → Bool) (x i : ℕ) → (i ≡ x → ⊥) → also test x i ≡ test i
also_old test x i other = ap (λ (t : Bool). test i || t) (ne_eqb i x other) ∙ or-false (test i)

also_new : (test : ℕ → Bool) (x : ℕ) → also test x x ≡ true
also_new test x = ap (λ (t : Bool). test x || t) (eq-eqb x x refl) ∙ or-true (test x)

-- What it takes is added.
pub filter_also : (share : ℕ → ℕ) (test : ℕ → Bool) (x : ℕ) (numbers : List ℕ) → Rising numbers → Memᴰ x numbers → test x ≡ false →
    processors_for share (filter (also test x) numbers) ≡ share x + processors_for share (filter test numbers)
filter_also share test x [] rising m out = absurd (Memᴰ.not-nil m)
filter_also share test x (i ∷ numbers) rising m out = go (filter_also share test x numbers rising.1) (Memᴰ.cases_cons m)
  where
    -- Behind x nothing changes.
    same : (l : List ℕ) → ((j : ℕ) → Memᴰ j l → x < j) → filter (also test x) l ≡ filter test l
    same l above = filter_agree (also test x) test l (λ j n. also_old test x j (λ e. let more = above j n in omega arith))

    kept : (t : Bool) (l : List ℕ) → processors_for share (kept_if t i l) ≡ cond t (share i) 0 + processors_for share l
    kept true l = refl
    kept false l = omega arith

    go : (Memᴰ x numbers → test x ≡ false →
        processors_for share (filter (also test x) numbers) ≡ share x + processors_for share (filter test numbers)) →
        (x ≡ i) ⊎ Memᴰ x numbers →
        processors_for share (filter (also test x) (i ∷ numbers)) ≡ share x + processors_for share (filter test (i ∷ numbers))
    go rest (inl here) =
        omega (
          arith,
          kept (also test x i) (filter (also test x) numbers),
          ap {B = ℕ} (λ (t : Bool). cond t (share i) 0) (ap (also test x) (sym here) ∙ also_new test x),
          kept (test i) (filter test numbers),
          ap {B = ℕ} (λ (t : Bool). cond t (share i) 0) (ap test (sym here) ∙ out),
          ap (processors_for share) (same numbers (λ j n. omega (arith, rising.0 j n, here))),
          ap share here,
        )
    go rest (inr later) =
        omega (
          arith,
          kept (also test x i) (filter (also test x) numbers),
          ap {B = ℕ} (λ (t : Bool). cond t (share i) 0) (also_old test x i (λ e. let more = rising.0 x later in omega arith)),
          kept (test i) (filter test numbers),
          rest later out,
        )

-- So there is one more.
ones : (l : List ℕ) → processors_for (λ i. 1) l ≡ length l
ones [] = refl
ones (i ∷ l) = omega (arith, ones l)

pub also_length : (test : ℕ → Bool) (x : ℕ) (numbers : List ℕ) → Rising numbers → Memᴰ x numbers → test x ≡ false →
    length (filter (also test x) numbers) ≡ length (filter test numbers) + 1
also_length test x numbers rising m out =
    omega (arith, filter_also (λ i. 1) test x numbers rising m out, ones (filter (also test x) numbers), ones (filter test numbers))

-- Two lines of shares that agree are one.
lines_same : (a b : List Share) → length a ≡ length b → ((i : ℕ) → share_at a i ≡ share_at b i) → a ≡ b
unfolding share_at
lines_same a b long same = ext_get_or no_processors a b long (λ i inside. same i)

-- A line with one share put in.
line_set : (line : List Share) (x : ℕ) (s : Share) → x < length line → (i : ℕ) →
    ((i ≡ x) × (share_at (set line x s) i ≡ s)) ⊎ ((i ≡ x → ⊥) × (share_at (set line x s) i ≡ share_at line i))
unfolding share_at
line_set line x s inside i = go (ℕ_discrete i x)
  where
    go : Dec (i ≡ x) → ((i ≡ x) × (get_or (set line x s) i no_processors ≡ s))
        ⊎ ((i ≡ x → ⊥) × (get_or (set line x s) i no_processors ≡ get_or line i no_processors))
    go (yes e) = inl (e, ap (λ (j : ℕ). get_or (set line x s) j no_processors) e ∙ get_or-set_same line x s no_processors inside)
    go (no other) = inr (other, get_or-set_other line x i s no_processors other)

-- What is kept so far of the shares of n tasks on M processors: a line with the shares of the k tasks that a test
-- takes, whose critical total is within M.
pub record KeptSoFar (M n : ℕ) (shares : List Share) (k : ℕ) (line : List Share) : Type 0 where
  pub test : ℕ → Bool
  pub many : length (filter test (without n shares)) ≡ k
  pub line_is : line ≡ with_kept (filter test (without n shares)) shares
  pub sum : critical_total (take n line) ≡ critical_total (take n shares) + processors_for (typical_share_at shares) (filter test (without n shares))
  pub fits : critical_total (take n line) ≤ M
  pub split : Split (typical_share_at shares) test (without n shares)

module _ (M n : ℕ) (shares : List Share) (able : Keepable M n shares) where
  pub rising : Rising (without n shares)
  unfolding without
  rising = part_rising (filter_part _ (range 0 n)) (range_rising 0 n)

  -- At first nothing is.
  pub kept_none : KeptSoFar M n shares 0 shares
  kept_none =
      record {
        test = λ i. false;
        many = ap length empty;
        line_is = lines_same shares _ (sym (with_length _ shares)) (λ i. sym (with_share_lem _ shares i ∙ ap (λ (t : Bool). cond t (kept_share (share_at shares i)) (share_at shares i)) (ap (is_in i) empty)));
        sum = rw empty (omega arith);
        fits = able.fits;
        split =
            record {
              width = 0;
              last = 0;
              inside = λ i m e. absurd (false≢true e);
              outside = λ i m e. inl (let one = able.some_share i (low_from n shares i m).0 in omega arith);
            };
      }
    where
      empty : filter (λ i. false) (without n shares) ≡ []
      empty = filter_none (λ i. false) (without n shares) (λ i m. refl)

  module _ {k : ℕ} {line : List Share} (kept : KeptSoFar M n shares k line) where
    line_share : (i : ℕ) → share_at line i ≡ cond (is_in i (filter kept.test (without n shares))) (kept_share (share_at shares i)) (share_at shares i)
    line_share i = ap (λ (l : List Share). share_at l i) kept.line_is ∙ with_share_lem (filter kept.test (without n shares)) shares i

    pub line_typical : (i : ℕ) → typical_share_at line i ≡ typical_share_at shares i
    unfolding typical_share_at
    line_typical i =
        ap (λ (l : List Share). (share_at l i).typical) kept.line_is ∙ with_typical (filter kept.test (without n shares)) shares i

    -- A task without a critical share on the line is one of the tasks, and is not kept.
    free_from : (i : ℕ) → i < n → critical_share_at line i ≡ 0 → Memᴰ i (without n shares) × (kept.test i ≡ false)
    unfolding critical_share_at typical_share_at kept_share
    free_from i inside zero-share =
        go (is_in i (filter kept.test (without n shares))) refl (sym (ap (λ (s : Share). s.critical) (line_share i)) ∙ zero-share)
      where
        out : Memᴰ i (without n shares) → is_in i (filter kept.test (without n shares)) ≡ false → kept.test i ≡ false
        out m e = false_from_ne_true _ (λ q. false≢true (sym e ∙ in_is i _ (filter-has kept.test (without n shares) i m q)))

        go : (t : Bool) → is_in i (filter kept.test (without n shares)) ≡ t →
            (cond t (kept_share (share_at shares i)) (share_at shares i)).critical ≡ 0 →
            Memᴰ i (without n shares) × (kept.test i ≡ false)
        go true e h = absurd (let one = able.some_share i inside in omega arith)
        go false e h = let m = low_has n shares i inside h in (m, out m e)

    pub free_has : (i : ℕ) → Memᴰ i (without n shares) → kept.test i ≡ false → critical_share_at line i ≡ 0
    unfolding critical_share_at
    free_has i m out =
        ap (λ (s : Share). s.critical) (line_share i)
        ∙ ap {B = ℕ} (λ (t : Bool). (cond t (kept_share (share_at shares i)) (share_at shares i)).critical) not_in
        ∙ (low_from n shares i m).1
      where
        not_in : is_in i (filter kept.test (without n shares)) ≡ false
        not_in = false_from_ne_true _ (λ e. false≢true (sym out ∙ (filter_from kept.test (without n shares) i (is_in_lem i _ e)).1))

    -- No more can be kept.
    pub kept_all : (x total : ℕ) → M < total → Next M n line x total → line ≡ kept_line M n shares
    unfolding kept_line left_over
    kept_all x total past next =
        kept.line_is
        ∙ ap (λ (set : List ℕ). with_kept set shares)
        (sym
        (first_held_lem (typical_share_at shares) kept.test (without n shares) rising kept.split (left_over M (take n shares)) (M - critical_total (take n line))
        (let fits = kept.fits in omega (arith, kept.sum))
        (full x total past next)))
      where
        full : (y reached : ℕ) → M < reached → Next M n line y reached →
            (i : ℕ) → Memᴰ i (without n shares) → kept.test i ≡ false → M - critical_total (take n line) < typical_share_at shares i
        full y reached over (none h) i m out =
            omega (arith, h i (low_from n shares i m).0 (free_has i m out), line_typical i, kept.fits)
        full y reached over (found inside zero-share fits first) i m out = absurd (omega arith)

    -- What is found of the next task to keep.
    pub record Least (x : ℕ) : Type 0 where
      pub low : Memᴰ x (without n shares)
      pub out : kept.test x ≡ false
      pub fits : critical_total (take n line) + typical_share_at shares x ≤ M
      pub first : (j : ℕ) → Memᴰ j (without n shares) → kept.test j ≡ false → NotAfter (typical_share_at shares) x j

    pub least : (x total : ℕ) → total ≤ M → Next M n line x total → Least x
    least x total to (none h) = absurd (omega arith)
    least x total to (found inside zero-share fits first) =
        let free = free_from x inside zero-share in
        record {
          low = free.0;
          out = free.1;
          fits = omega (arith, fits, line_typical x);
          first = λ j m out.
              let later = first j (low_from n shares j m).0 (free_has j m out) in
              rw (line_typical x, line_typical j) at later;
        }

    -- One more is kept.
    module _ (x : ℕ) (there : n ≤ length line) (task : Least x) where
      inside : x < n
      inside = (low_from n shares x task.low).0

      pub split_more : Split (typical_share_at shares) (also kept.test x) (without n shares)
      split_more =
          record {
            width = typical_share_at shares x;
            last = x;
            inside = λ i m e. in_more i m e (ℕ_discrete i x);
            outside = λ i m e. out_more i m e (ℕ_discrete i x);
          }
        where
          up_to : (i : ℕ) → (typical_share_at shares i < kept.split.width) ⊎ ((typical_share_at shares i ≡ kept.split.width) × (i ≤ kept.split.last)) →
              (kept.split.width < typical_share_at shares x) ⊎ ((typical_share_at shares x ≡ kept.split.width) × (kept.split.last < x)) →
              (typical_share_at shares i < typical_share_at shares x) ⊎ ((typical_share_at shares i ≡ typical_share_at shares x) × (i ≤ x))
          up_to i (inl a) (inl b) = inl (omega arith)
          up_to i (inl a) (inr (b, _)) = inl (omega arith)
          up_to i (inr (a, _)) (inl b) = inl (omega arith)
          up_to i (inr (a, c)) (inr (b, d)) = inr (omega arith, omega arith)

          in_more : (i : ℕ) → Memᴰ i (without n shares) → also kept.test x i ≡ true → Dec (i ≡ x) →
              (typical_share_at shares i < typical_share_at shares x) ⊎ ((typical_share_at shares i ≡ typical_share_at shares x) × (i ≤ x))
          in_more i m e (yes same) = inr (ap (typical_share_at shares) same, omega arith)
          in_more i m e (no other) =
              up_to i (kept.split.inside i m (sym (also_old kept.test x i other) ∙ e)) (kept.split.outside x task.low task.out)

          out_more : (i : ℕ) → Memᴰ i (without n shares) → also kept.test x i ≡ false → Dec (i ≡ x) →
              (typical_share_at shares x < typical_share_at shares i) ⊎ ((typical_share_at shares i ≡ typical_share_at shares x) × (x < i))
          out_more i m e (yes same) = absurd (false≢true (sym e ∙ ap (also kept.test x) same ∙ also_new kept.test x))
          out_more i m e (no other) = go (task.first i m (sym (also_old kept.test x i other) ∙ e))
            where
              go : NotAfter (typical_share_at shares) x i →
                  (typical_share_at shares x < typical_share_at shares i) ⊎ ((typical_share_at shares i ≡ typical_share_at shares x) × (x < i))
              go (inl less) = inl less
              go (inr (same, before)) = inr (sym same, apart before)
                where
                  apart : x ≤ i → x < i
                  apart h = neq (dec_lt x i)
                    where
                      neq : Dec (x < i) → x < i
                      neq (yes k) = k
                      neq (no k) = absurd (other (omega arith))

      -- A task is kept now if it was before, or is this one.
      now_in : is_in x (filter (also kept.test x) (without n shares)) ≡ true
      now_in = in_is x _ (filter-has (also kept.test x) (without n shares) x task.low (also_new kept.test x))

      not_before : is_in x (filter kept.test (without n shares)) ≡ false
      not_before =
          false_from_ne_true _ (λ e. false≢true (sym task.out ∙ (filter_from kept.test (without n shares) x (is_in_lem x _ e)).1))

      others_as_before : (i : ℕ) → (i ≡ x → ⊥) →
          is_in i (filter (also kept.test x) (without n shares)) ≡ is_in i (filter kept.test (without n shares))
      others_as_before i other =
          both_ways _ _
          (λ e.
          let here = filter_from (also kept.test x) (without n shares) i (is_in_lem i _ e) in
          in_is i _ (filter-has kept.test (without n shares) i here.0 (sym (also_old kept.test x i other) ∙ here.1)))
          (λ e.
          let here = filter_from kept.test (without n shares) i (is_in_lem i _ e) in
          in_is i _ (filter-has (also kept.test x) (without n shares) i here.0 (also_old kept.test x i other ∙ here.1)))

      line_more : set line x (record { typical = typical_share_at line x; critical = typical_share_at line x })
          ≡ with_kept (filter (also kept.test x) (without n shares)) shares
      unfolding kept_share typical_share_at
      line_more =
          lines_same _ _
          (length-set line x _ ∙ ap length kept.line_is ∙ with_length _ shares ∙ sym (with_length _ shares))
          (λ i. go i (line_set line x (record { typical = (share_at line x).typical; critical = (share_at line x).typical }) (omega (arith, inside)) i))
        where
          go : (i : ℕ) →
              ((i ≡ x) × (share_at (set line x (record { typical = (share_at line x).typical; critical = (share_at line x).typical })) i
              ≡ record { typical = (share_at line x).typical; critical = (share_at line x).typical }))
              ⊎ ((i ≡ x → ⊥) × (share_at (set line x (record { typical = (share_at line x).typical; critical = (share_at line x).typical })) i ≡ share_at line i)) →
              share_at (set line x (record { typical = (share_at line x).typical; critical = (share_at line x).typical })) i
              ≡ share_at (with_kept (filter (also kept.test x) (without n shares)) shares) i
          go i (inl (same, e)) =
              e
              ∙ ap kept_share (line_share x ∙ ap (λ (t : Bool). cond t (kept_share (share_at shares x)) (share_at shares x)) not_before)
              ∙ ap (λ (t : Bool). cond t (kept_share (share_at shares x)) (share_at shares x)) (sym now_in)
              ∙ sym (with_share_lem _ shares x)
              ∙ ap (share_at (with_kept (filter (also kept.test x) (without n shares)) shares)) (sym same)
          go i (inr (other, e)) =
              e
              ∙ line_share i
              ∙ ap (λ (t : Bool). cond t (kept_share (share_at shares i)) (share_at shares i)) (sym (others_as_before i other))
              ∙ sym (with_share_lem _ shares i)

      grown : critical_total (take n (set line x (record { typical = typical_share_at line x; critical = typical_share_at line x })))
          ≡ critical_total (take n line) + typical_share_at line x
      unfolding total_with_task kept_share typical_share_at
      grown = one_more_kept n line there x inside (free_has x task.low task.out)

      kept_with : KeptSoFar M n shares (k + 1) (set line x (record { typical = typical_share_at line x; critical = typical_share_at line x }))
      kept_with =
          record {
            test = also kept.test x;
            many = also_length kept.test x (without n shares) rising task.low task.out ∙ ap (λ (j : ℕ). j + 1) kept.many;
            line_is = line_more;
            sum =
                omega (
                  arith,
                  grown,
                  filter_also (typical_share_at shares) kept.test x (without n shares) rising task.low task.out,
                  line_typical x,
                  kept.sum,
                );
            fits = omega (arith, grown, line_typical x, task.fits);
            split = split_more;
          }

    pub kept_more : n ≤ length line → (x total : ℕ) → total ≤ M → Next M n line x total → (typical critical : ℕ) →
        typical ≡ typical_share_at line x → critical ≡ typical_share_at line x →
        KeptSoFar M n shares (k + 1) (set line x (record { typical = typical; critical = critical }))
    kept_more there x total to next typical critical same same' = rw (same, same') (kept_with x there (least x total to next))

    -- From the line the next task can be sought.
    pub line_able : Keepable M n line
    line_able =
        record {
          few = able.few;
          small = able.small;
          some_share = λ i inside. rw (line_typical i) (able.some_share i inside);
          within = λ i inside. rw (line_typical i) (able.within i inside);
          fits = kept.fits;
        }

    pub line-length : length line ≡ length shares
    line-length = ap length kept.line_is ∙ with_length _ shares
