-- Totals by rows: they are lowered by one typical share of a task after the other, and come to the least over all its
-- shares.
use Prim.Native.Nat.{ℕ, zero, suc, ◌+◌, ◌-◌, ◌≤◌, ◌<◌, min}
use mathlib.Core.Path.{◌≡◌, refl, sym, ap, ◌∙◌}
use mathlib.Core.Bool.{Bool, true, false, cond, ◌||◌, or-true}
use mathlib.Core.List.{List, [], ◌++◌}
use native.Mathlib.Omega.{arith}
use native.Mathlib.Decide.{dec_le, dec_lt, ℕ_discrete}
use native.Mathlib.Nat.{min-eq_left, min-eq_right}
use lib.Dec.{leb, ltb, eqb}
use lib.ListN.{length, get_or, set, replicate, length-set, length-replicate, get_or-replicate}
use lib.Seq.{get_or-set_same, get_or-set_other}
use borrow.Author.Tests.{le-leb, lt-leb, lt-ltb, le-ltb, eq-eqb, ne_eqb}
use Rattle.std.proofs.lemmas.List.{get_or_append_left, get_or-append_right, length-append}
use Rattle.shares.specs.Offer.{tabulate}
use Rattle.shares.proofs.Offers.{tabulate_at, tabulate-length, tabulated}
use Rattle.allocation.specs.means.Selection.{best_share, total_with, total_at, padded, lowered, Small}
use Rattle.allocation.proofs.Lines.{tabulate_same, table_at, table_within, with_same}
use Rattle.allocation.proofs.Optimal.{best_from, best_to, with_bound, with_at_most, with_positive, with_best}

-- Numbers as a table.
table_of : (n : ℕ) (totals : List ℕ) → length totals ≡ n → totals ≡ tabulate (total_at totals) 0 n
unfolding total_at
table_of n totals long = tabulated (λ t. get_or totals t 0) totals 0 n long (λ i inside. let e : 0 + i ≡ i = omega arith in ap (λ (j : ℕ). get_or totals j 0) (sym e))

-- A store in a table.
store : (g h : ℕ → ℕ) (n k x : ℕ) → k < n → ((t : ℕ) → (k ≡ t → ⊥) → g t ≡ h t) → x ≡ h k → set (tabulate g 0 n) k x ≡ tabulate h 0 n
store g h n k x inside same here =
    tabulated h (set (tabulate g 0 n) k x) 0 n (length-set (tabulate g 0 n) k x ∙ tabulate-length g 0 n) (λ i within. go i within (ℕ_discrete k i))
  where
    go : (i : ℕ) → i < n → Dec (k ≡ i) → get_or (set (tabulate g 0 n) k x) i 0 ≡ h (0 + i)
    go i within (yes e) =
        let place : 0 + i ≡ k = omega arith in
        ap (λ (j : ℕ). get_or (set (tabulate g 0 n) k x) j 0) (sym e)
        ∙ get_or-set_same (tabulate g 0 n) k x 0 (omega (arith, tabulate-length g 0 n))
        ∙ here
        ∙ ap h (sym place)
    go i within (no apart) =
        let place : 0 + i ≡ i = omega arith in
        get_or-set_other (tabulate g 0 n) k i x 0 (λ e. apart (sym e)) ∙ tabulate_at g 0 n i within ∙ ap g place ∙ same i apart ∙ ap h (sym place)

-- Padding: numbers of which none is a total, and the totals behind them.
module _ (M : ℕ) (totals : List ℕ) where
  abbrev pad : ℕ → ℕ
  pad j = cond (ltb j 63) (M + 1) (total_at totals (j - 63))

  ahead : (j : ℕ) → j < 63 → pad j ≡ M + 1
  ahead j less = ap {B = ℕ} (λ (t : Bool). cond t (M + 1) (total_at totals (j - 63))) (lt-ltb j 63 less)

  from_there : (j : ℕ) → 63 ≤ j → pad j ≡ total_at totals (j - 63)
  from_there j from = ap {B = ℕ} (λ (t : Bool). cond t (M + 1) (total_at totals (j - 63))) (le-ltb j 63 from)

  pub padded_is : (cells : List ℕ) → cells ≡ totals → length totals ≡ 65 → replicate 63 (M + 1) ++ (cells ++ []) ≡ padded M totals
  unfolding padded total_at
  padded_is cells same long =
      tabulated pad (replicate 63 (M + 1) ++ (cells ++ [])) 0 128
      (rw (same, length-append (replicate 63 (M + 1)) (totals ++ []), length-append totals [], length-replicate 63 (M + 1)) (omega arith))
      (λ i within.
      let place : 0 + i ≡ i = omega arith in
      ap (λ (l : List ℕ). get_or (replicate 63 (M + 1) ++ (l ++ [])) i 0) same ∙ go i within (dec_lt i 63) ∙ ap pad (sym place))
    where
      go : (i : ℕ) → i < 128 → Dec (i < 63) → get_or (replicate 63 (M + 1) ++ (totals ++ [])) i 0 ≡ pad i
      go i within (yes less) =
          get_or_append_left (replicate 63 (M + 1)) (totals ++ []) 0 i (rw (length-replicate 63 (M + 1)) less)
          ∙ get_or-replicate 63 i (M + 1) 0 less
          ∙ sym (ahead i less)
      go i within (no not_less) =
          get_or-append_right (replicate 63 (M + 1)) (totals ++ []) 63 i 0 (length-replicate 63 (M + 1)) (omega arith)
          ∙ get_or_append_left totals [] 0 (i - 63) (omega arith)
          ∙ sym (from_there i (omega arith))

  -- What padded totals say.
  pub padded_at : (t : ℕ) → t < 65 → total_at (padded M totals) (63 + t) ≡ total_at totals t
  unfolding padded
  padded_at t within =
      let place : 63 + t - 63 ≡ t = omega arith in
      table_at pad 128 (63 + t) (omega arith) ∙ from_there (63 + t) (omega arith) ∙ ap (total_at totals) place

  pub padded_before : (j : ℕ) → j < 63 → total_at (padded M totals) j ≡ M + 1
  unfolding padded
  padded_before j less = table_at pad 128 j (omega arith) ∙ ahead j less

  pub padded-small : M ≤ 64 → Small totals → Small (padded M totals)
  unfolding padded total_at
  padded-small few small =
      table_within _ 0 128 65 (λ j. go (ltb j 63) j)
    where
      go : (t : Bool) (j : ℕ) → cond t (M + 1) (get_or totals (j - 63) 0) ≤ 65
      go true j = omega arith
      go false j = small (j - 63)

-- One share: the totals are lowered one after the other.
module _ (a critical : ℕ) (rest : ℕ → ℕ) (totals : List ℕ) where
  -- The total at t, once those below are lowered.
  unfoldable pub once : ℕ → ℕ → ℕ
  once below t = cond (eqb t 0 || leb below t) (total_at totals t) (min (total_at totals t) (critical + rest (63 + t - a)))

  still : (below t : ℕ) → below ≤ t → once below t ≡ total_at totals t
  unfolding once
  still below t past = rw (le-leb below t past, or-true (eqb t 0))

  at_none : (below : ℕ) → once below 0 ≡ total_at totals 0
  unfolding once
  at_none below = refl

  new : (below t : ℕ) → 1 ≤ t → t < below → once below t ≡ min (total_at totals t) (critical + rest (63 + t - a))
  unfolding once
  new below t one before = rw (ne_eqb t 0 (λ e. omega arith), lt-leb below t before)

  unfoldable pub partway : ℕ → List ℕ
  partway below = tabulate (once below) 0 65

  pub lowered_none : length totals ≡ 65 → totals ≡ partway 1
  unfolding partway
  lowered_none long = table_of 65 totals long ∙ tabulate_same (total_at totals) (once 1) 65 (λ t within. sym (none t (dec_le 1 t)))
    where
      none : (t : ℕ) → Dec (1 ≤ t) → once 1 t ≡ total_at totals t
      none t (yes one) = still 1 t one
      none t (no zero-total) = let e : t ≡ 0 = omega arith in rw e (at_none 1)

  others : (below t : ℕ) → 1 ≤ below → (below ≡ t → ⊥) → once below t ≡ once (below + 1) t
  others below t from apart = go (dec_le 1 t) (dec_lt t below)
    where
      go : Dec (1 ≤ t) → Dec (t < below) → once below t ≡ once (below + 1) t
      go (yes one) (yes before) = new below t one before ∙ sym (new (below + 1) t one (omega arith))
      go (yes one) (no past) = still below t (omega arith) ∙ sym (still (below + 1) t (beyond (dec_le (below + 1) t)))
        where
          beyond : Dec (below + 1 ≤ t) → below + 1 ≤ t
          beyond (yes k) = k
          beyond (no k) = absurd (apart (omega arith))
      go (no zero-total) _ = let e : t ≡ 0 = omega arith in rw e (at_none below ∙ sym (at_none (below + 1)))

  -- The total that the next step lowers is still as it was.
  as_it_was : (below : ℕ) → below < 65 → get_or (partway below) below 0 ≡ total_at totals below
  unfolding partway total_at
  as_it_was below within = table_at (once below) 65 below within ∙ still below below (omega arith)

  stored : (below x : ℕ) → 1 ≤ below → below < 65 → x ≡ min (total_at totals below) (critical + rest (63 + below - a)) →
      set (partway below) below x ≡ partway (below + 1)
  unfolding partway
  stored below x from within e =
      store (once below) (once (below + 1)) 65 below x within (λ t. others below t from) (e ∙ sym (new (below + 1) below from (omega arith)))

  pub lowered_more : (below : ℕ) (line : List ℕ) {x j : ℕ} → 1 ≤ below → below < 65 → line ≡ partway below →
      x ≡ min (get_or line below 0) (critical + rest j) → j ≡ 63 + below - a → set line below x ≡ partway (below + 1)
  lowered_more below line {x} {j} from within so_far e place =
      rw so_far
      (stored below x from within
      (e
      ∙ ap (λ (l : List ℕ). min (get_or l below 0) (critical + rest j)) so_far
      ∙ ap (λ (y : ℕ). min y (critical + rest j)) (as_it_was below within)
      ∙ ap (λ (i : ℕ). min (total_at totals below) (critical + rest i)) place))

  pub lowered-all : partway 65 ≡ lowered a critical rest totals
  unfolding partway lowered
  lowered-all = tabulate_same _ _ 65 (λ t within. go t within (dec_le 1 t))
    where
      go : (t : ℕ) → t < 65 → Dec (1 ≤ t) → once 65 t ≡ cond (eqb t 0) (total_at totals t) (min (total_at totals t) (critical + rest (63 + t - a)))
      go t within (yes one) =
          new 65 t one within
          ∙ sym (ap {B = ℕ} (λ (e : Bool). cond e (total_at totals t) (min (total_at totals t) (critical + rest (63 + t - a)))) (ne_eqb t 0 (λ e. omega arith)))
      go t within (no zero-total) = let e : t ≡ 0 = omega arith in rw e (at_none 65)

-- All shares of a task: the totals once they are lowered by the shares up to k.
module _ (M : ℕ) (offer rest : ℕ → ℕ) where
  unfoldable pub up_to : ℕ → ℕ → ℕ
  up_to zero t = M + 1
  up_to (suc k) t = cond (leb (suc k) t) (min (up_to k t) (offer (suc k) + rest (t - suc k))) (up_to k t)

  pub up_to_none : (x : ℕ) → x ≡ M + 1 → replicate 65 x ≡ tabulate (up_to 0) 0 65
  unfolding up_to
  up_to_none x cap = tabulated (λ t. M + 1) (replicate 65 x) 0 65 (length-replicate 65 x) (λ i within. get_or-replicate 65 i x 0 within ∙ cap)

  -- What the totals are at t, once they are lowered so far: at most M + 1, at most what any of the shares gives, and M
  -- + 1 or what one gives.
  record Lowered (k t x : ℕ) : Type 0 where
    pub bound : x ≤ M + 1
    pub most : (a : ℕ) → 1 ≤ a → a ≤ k → a ≤ t → x ≤ offer a + rest (t - a)
    pub one : x ≤ M → (a : ℕ) × ((1 ≤ a) × (a ≤ t) × (x ≡ offer a + rest (t - a)))

  lower_at : (k t : ℕ) → Lowered k t (up_to k t)
  unfolding up_to
  lower_at zero t =
      record { bound = omega arith; most = λ a one last inside. absurd (omega arith); one = λ within. absurd (omega arith) }
  lower_at (suc k) t = go (dec_le (suc k) t) (lower_at k t)
    where
      go : Dec (suc k ≤ t) → Lowered k t (up_to k t) →
          Lowered (suc k) t (cond (leb (suc k) t) (min (up_to k t) (offer (suc k) + rest (t - suc k))) (up_to k t))
      go (no past) before =
          rw (lt-leb (suc k) t (omega arith))
          (record { bound = before.bound; most = λ a one last inside. before.most a one (omega arith) inside; one = before.one })
      go (yes here) before = rw (le-leb (suc k) t here) (smaller (dec_le (up_to k t) new))
        where
          new : ℕ
          new = offer (suc k) + rest (t - suc k)

          most : (x : ℕ) → x ≤ up_to k t → x ≤ new → (a : ℕ) → 1 ≤ a → a ≤ suc k → a ≤ t → Dec (a ≤ k) → x ≤ offer a + rest (t - a)
          most x old this a one last inside (yes before-it) = omega (arith, before.most a one before-it inside)
          most x old this a one last inside (no it) = let same : a ≡ suc k = omega arith in rw same this

          smaller : Dec (up_to k t ≤ new) → Lowered (suc k) t (min (up_to k t) new)
          smaller (yes less) =
              rw (min-eq_left less)
              (record {
                bound = before.bound;
                most = λ a one last inside. most (up_to k t) (omega arith) less a one last inside (dec_le a k);
                one = before.one;
              })
          smaller (no more) =
              let less : new ≤ up_to k t = omega arith in
              rw (min-eq_right less)
              (record {
                bound = omega (arith, before.bound);
                most = λ a one last inside. most new less (omega arith) a one last inside (dec_le a k);
                one = λ within. (suc k, (omega arith, here, refl));
              })

  -- Lowered by the shares up to M they are the totals of the task and the tasks after it, where nothing is offered
  -- above M.
  module _ (past : (a : ℕ) → M < a → a ≤ 64 → offer a ≡ M + 1) (t : ℕ) (to : t ≤ 64) where
    low : Lowered M t (up_to M t)
    low = lower_at M t

    no_more : up_to M t ≤ total_with M offer rest t
    no_more = go (dec_le (total_with M offer rest t) M)
      where
        go : Dec (total_with M offer rest t ≤ M) → up_to M t ≤ total_with M offer rest t
        go (no above) = omega (arith, low.bound)
        go (yes within) =
            offered_by (best_share offer rest t) (best_from M offer rest t) (best_to M offer rest t (with_positive M offer rest t within))
            (with_best M offer rest t within) (dec_le (best_share offer rest t) M)
          where
            offered_by : (a : ℕ) → 1 ≤ a → a ≤ t → total_with M offer rest t ≡ offer a + rest (t - a) → Dec (a ≤ M) → up_to M t ≤ total_with M offer rest t
            offered_by a one inside e (yes few) = omega (arith, low.most a one few inside)
            offered_by a one inside e (no many) = absurd (omega (arith, past a (omega arith) (omega arith)))

    no_less : total_with M offer rest t ≤ up_to M t
    no_less = go (dec_le (up_to M t) M)
      where
        go : Dec (up_to M t ≤ M) → total_with M offer rest t ≤ up_to M t
        go (no above) = omega (arith, with_bound M offer rest t)
        go (yes within) =
            let found = low.one within in
            omega (arith, with_at_most M offer rest t found.0 found.1.0 found.1.1, found.1.2)

    up_to_all : up_to M t ≡ total_with M offer rest t
    up_to_all = omega (arith, no_more, no_less)

-- One share more, with padded totals of the tasks after the task.
module _ (M : ℕ) (offer after : ℕ → ℕ) (before : (j : ℕ) → j < 63 → after j ≡ M + 1) where
  -- What the padded totals say at t.
  abbrev pub behind : ℕ → ℕ
  behind t = after (63 + t)

  more_at : (k t : ℕ) → k < 64 → t < 65 →
      cond (eqb t 0) (up_to M offer behind k t) (min (up_to M offer behind k t) (offer (suc k) + after (63 + t - suc k))) ≡ up_to M offer behind (suc k) t
  unfolding up_to
  more_at k t few within = go (dec_le (suc k) t) (dec_le 1 t)
    where
      go : Dec (suc k ≤ t) → Dec (1 ≤ t) →
          cond (eqb t 0) (up_to M offer behind k t) (min (up_to M offer behind k t) (offer (suc k) + after (63 + t - suc k)))
          ≡ cond (leb (suc k) t) (min (up_to M offer behind k t) (offer (suc k) + behind (t - suc k))) (up_to M offer behind k t)
      go (yes here) _ =
          let place : 63 + t - suc k ≡ 63 + (t - suc k) = omega arith in
          rw (ne_eqb t 0 (λ e. omega arith), le-leb (suc k) t here, place)
      go (no past) (yes one) =
          let most = (lower_at M offer behind k t).bound in
          let enough : up_to M offer behind k t ≤ offer (suc k) + (M + 1) = omega arith in
          rw (ne_eqb t 0 (λ e. omega arith), lt-leb (suc k) t (omega arith), before (63 + t - suc k) (omega arith), min-eq_left enough)
      go (no past) (no zero-total) =
          let e : t ≡ 0 = omega arith in
          rw (eq-eqb t 0 e, lt-leb (suc k) t (omega arith))

  next_share : (k : ℕ) → k < 64 → lowered (suc k) (offer (suc k)) after (tabulate (up_to M offer behind k) 0 65) ≡ tabulate (up_to M offer behind (suc k)) 0 65
  unfolding lowered
  next_share k few =
      tabulate_same _ _ 65
      (λ t within.
      ap (λ (x : ℕ). cond (eqb t 0) x (min x (offer (suc k) + after (63 + t - suc k)))) (table_at (up_to M offer behind k) 65 t within)
      ∙ more_at k t few within)

  pub up_to_more : (a : ℕ) (totals next : List ℕ) → 1 ≤ a → a ≤ 64 → totals ≡ tabulate (up_to M offer behind (a - 1)) 0 65 →
      next ≡ lowered a (offer a) after totals → next ≡ tabulate (up_to M offer behind (a + 1 - 1)) 0 65
  up_to_more a totals next one few so_far step =
      let here : a ≡ suc (a - 1) = omega arith in
      let count : a + 1 - 1 ≡ suc (a - 1) = omega arith in
      step
      ∙ ap (lowered a (offer a) after) so_far
      ∙ ap (λ (x : ℕ). lowered x (offer x) after (tabulate (up_to M offer behind (a - 1)) 0 65)) here
      ∙ next_share (a - 1) (omega arith)
      ∙ ap (λ (k : ℕ). tabulate (up_to M offer behind k) 0 65) (sym count)

-- All of them.
pub up_to_end : (M : ℕ) (offer rest after : ℕ → ℕ) → ((a : ℕ) → M < a → a ≤ 64 → offer a ≡ M + 1) →
    ((t : ℕ) → t < 65 → after (63 + t) ≡ rest t) →
    tabulate (up_to M offer (λ t. after (63 + t)) M) 0 65 ≡ tabulate (total_with M offer rest) 0 65
up_to_end M offer rest after past same =
    tabulate_same _ _ 65
    (λ t within.
    up_to_all M offer (λ x. after (63 + x)) past t (omega arith)
    ∙ with_same M offer (λ x. after (63 + x)) rest t (λ x below. same x (omega arith)))
