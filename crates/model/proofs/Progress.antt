-- The invariant of the deadline theorem for one job: each full tick uses up a share of the work, each partial one a
-- tick of the span. A tick on which the job is alive is full if at least as many nodes are ready as its share, else
-- partial.
use Prim.Native.Nat.{ℕ, ◌+◌, ◌*◌, ◌-◌, ◌≤◌, ◌<◌}
use mathlib.Core.Path.{◌≡◌, refl, ap, sym, ◌∙◌}
use mathlib.Core.Bool.{Bool, true, false, not, cond}
use mathlib.Core.List.{List, []}
use mathlib.Core.Logic.{◌⊎◌, inl, inr}
use native.Mathlib.Omega.{arith}
use native.Mathlib.Decide.{dec_le}
use Rattle.model.specs.Budget.{sum_below, Chain, alone, along, Keeps}
use Rattle.basics.specs.Lists.{bit, count}
use Rattle.model.proofs.Sums.{sum_same, sum_add, sum_zero, sum_at_lem, count_some, count_lowest, lowest_all}
use Rattle.model.proofs.Chains.{Earlier, along_le, along_same, longer_before}
use Rattle.model.proofs.JobTick.{ended, ready, runs, next, remaining, Alive, alive_same, runs_same, ready_or_waits, some_ready, unended_less, less_unended, next_within, sum_next}

-- A job of which each node v ran on c v ticks, over f₁ full ticks with share a, f₂ full ticks with share b and p
-- partial ticks. No node ran more than its length. A full tick ran as many nodes as its share, a partial one at least
-- one. Each partial tick took one tick off what is left along every chain that still has work left.
pub record Progress (k : ℕ) (precedes : ℕ → ℕ → Bool) (len : ℕ → ℕ) (a b span : ℕ) (c : ℕ → ℕ) (f₁ f₂ p : ℕ) : Type 0 where
  pub within : (v : ℕ) → v < k → c v ≤ len v
  pub spent : a * f₁ + b * f₂ + p ≤ sum_below k c
  pub chains :
      (u : ℕ) (rest : List ℕ) → Chain k precedes u rest → 1 ≤ along (remaining len c) u rest →
      along (remaining len c) u rest + p ≤ span

-- At its release a job has run nothing.
pub begin :
    {k : ℕ} {precedes : ℕ → ℕ → Bool} {work span : ℕ} {len : ℕ → ℕ} (a b : ℕ) →
    Keeps k precedes work span len → Progress k precedes len a b span (λ _. 0) 0 0 0
begin {k} {precedes} {work} {span} {len} a b keeps =
    record {
      within = λ v l. omega arith;
      spent = omega (arith, sum_zero k);
      chains =
          λ u rest chain some.
          omega (arith, along_le (remaining len (λ _. 0)) len (λ v l. omega arith) chain, keeps.span u rest chain);
    }

-- A node with a length has not ended at the release.
pub begin_unended :
    {k : ℕ} {precedes : ℕ → ℕ → Bool} {work span : ℕ} {len : ℕ → ℕ} →
    Keeps k precedes work span len → (v : ℕ) → v < k → ended len (λ _. 0) v ≡ false
begin_unended {len} keeps v l = less_unended len (λ _. 0) v (keeps.positive v l)

module _ {k : ℕ} {precedes : ℕ → ℕ → Bool} {len : ℕ → ℕ} {a b span : ℕ} {c : ℕ → ℕ} {f₁ f₂ p : ℕ} where
  -- Only the counts of the nodes below k matter.
  pub carried :
      (d : ℕ → ℕ) → ((v : ℕ) → v < k → c v ≡ d v) →
      Progress k precedes len a b span c f₁ f₂ p → Progress k precedes len a b span d f₁ f₂ p
  carried d same g =
      record {
        within = λ v l. omega (arith, same v l, g.within v l);
        spent = omega (arith, sum_same k c d same, g.spent);
        chains = λ u rest chain some.
            let e = along_same (remaining len c) (remaining len d) (λ v l. ap (λ n. len v - n) (same v l)) chain in
            omega (arith, g.chains u rest chain (omega arith));
      }

  -- What was run and what is left make up the lengths.
  pub run_and_left :
      Progress k precedes len a b span c f₁ f₂ p → sum_below k c + sum_below k (remaining len c) ≡ sum_below k len
  run_and_left g =
      sym (sum_add k c (remaining len c)) ∙ sum_same k (λ v. c v + remaining len c v) len (λ v l. omega (arith, g.within v l))

  -- While the job is alive, a tick is left of some chain and of the work.
  pub bounds :
      {work : ℕ} → Keeps k precedes work span len → Progress k precedes len a b span c f₁ f₂ p → Alive k (ended len c) →
      (p + 1 ≤ span) × (a * f₁ + b * f₂ + p + 1 ≤ work)
  bounds keeps g alive =
      let v = alive.node in
      let less : c v < len v = unended_less len c v alive.unended in
      let left : len v - c v ≤ sum_below k (remaining len c) = sum_at_lem k (remaining len c) v alive.below in
      let chain : len v - c v + p ≤ span = g.chains v [] (alone alive.below) (omega arith) in
      (omega arith, omega (arith, run_and_left g, keeps.work, g.spent))

-- What a tick makes of the numbers of full and partial ticks: one of them grows by one, that of the partial ticks or
-- that of the full ticks in the mode, critical or not, in which the tick ran. Each node v has run on d v ticks after
-- it.
pub record Ticked
    (k : ℕ)
    (precedes : ℕ → ℕ → Bool)
    (len : ℕ → ℕ)
    (a b span : ℕ)
    (critical : Bool)
    (d : ℕ → ℕ)
    (f₁ f₂ p : ℕ)
    : Type 0 where
  pub full₁ : ℕ
  pub full₂ : ℕ
  pub partial : ℕ
  pub one_more : full₁ + full₂ + partial ≡ f₁ + f₂ + p + 1
  pub full₁_most : full₁ ≤ f₁ + 1
  pub partial_most : partial ≤ p + 1
  pub if_typical : critical ≡ false → full₂ ≡ f₂
  pub if_critical : critical ≡ true → full₁ ≡ f₁
  pub progress : Progress k precedes len a b span d full₁ full₂ partial

module _
    {k : ℕ}
    {precedes : ℕ → ℕ → Bool}
    {len : ℕ → ℕ}
    {a b span : ℕ}
    {c : ℕ → ℕ}
    {f₁ f₂ p : ℕ}
    (s : ℕ)
    (g : Progress k precedes len a b span c f₁ f₂ p)
  where
    falls : (v : ℕ) → v < k → remaining len (next s k precedes len c) v ≤ remaining len c v
    falls v l = omega arith

    full_tick :
        (g₁ g₂ : ℕ) → a * g₁ + b * g₂ ≤ a * f₁ + b * f₂ + s → s ≤ count (ready k precedes (ended len c)) k →
        Progress k precedes len a b span (next s k precedes len c) g₁ g₂ p
    full_tick g₁ g₂ most many =
        record {
          within = λ v l. next_within s k precedes len c v (g.within v l);
          spent = omega (arith, sum_next s k precedes len c, count_lowest s (ready k precedes (ended len c)) k, g.spent);
          chains = λ u rest chain some.
              let less = along_le (remaining len (next s k precedes len c)) (remaining len c) falls chain in
              omega (arith, g.chains u rest chain (omega arith));
        }

    moves :
        count (ready k precedes (ended len c)) k < s →
        (v : ℕ) → v < k → 1 ≤ remaining len (next s k precedes len c) v →
        (remaining len (next s k precedes len c) v < remaining len c v) ⊎ Earlier k precedes (λ x. 1 ≤ remaining len c x) v
    moves few v l some =
        go (ready_or_waits k precedes (ended len c) v (less_unended len c v (omega arith)))
      where
        go :
            (ready k precedes (ended len c) v ≡ true) ⊎ Earlier k precedes (λ x. ended len c x ≡ false) v →
            (remaining len (next s k precedes len c) v < remaining len c v) ⊎ Earlier k precedes (λ x. 1 ≤ remaining len c x) v
        go (inl h) = inl (omega (arith, ap bit (lowest_all s (ready k precedes (ended len c)) k few v l ∙ h)))
        go (inr x) =
            inr
            (record {
              node = x.node;
              below = x.below;
              before = x.before;
              holds = omega (arith, unended_less len c x.node x.holds);
            })

    partial_tick :
        1 ≤ count (ready k precedes (ended len c)) k → count (ready k precedes (ended len c)) k < s →
        Progress k precedes len a b span (next s k precedes len c) f₁ f₂ (p + 1)
    partial_tick some few =
        record {
          within = λ v l. next_within s k precedes len c v (g.within v l);
          spent = omega (arith, sum_next s k precedes len c, count_lowest s (ready k precedes (ended len c)) k, g.spent);
          chains = λ u rest chain left.
              let w = longer_before (remaining len c) (remaining len (next s k precedes len c)) falls (moves few) chain left in
              omega (arith, g.chains w.head w.rest w.chain (omega (arith, w.more)), w.more);
        }

    -- A tick of a job that is alive, with the share of its mode: a for typical, b for critical.
    pub tick :
        ((u v : ℕ) → v < k → precedes u v ≡ true → u < v) →
        (critical : Bool) → s ≡ cond critical b a → Alive k (ended len c) →
        Ticked k precedes len a b span critical (next s k precedes len c) f₁ f₂ p
    tick downwards critical share alive = go (dec_le s (count (ready k precedes (ended len c)) k))
      where
        one : (t : Bool) → bit (not t) + bit t ≡ 1
        one true = refl
        one false = refl

        grows : (t : Bool) → s ≡ cond t b a → a * (f₁ + bit (not t)) + b * (f₂ + bit t) ≤ a * f₁ + b * f₂ + s
        grows true e = omega arith
        grows false e = omega arith

        go :
            Dec (s ≤ count (ready k precedes (ended len c)) k) →
            Ticked k precedes len a b span critical (next s k precedes len c) f₁ f₂ p
        go (yes many) =
            record {
              full₁ = f₁ + bit (not critical);
              full₂ = f₂ + bit critical;
              partial = p;
              one_more = omega (arith, one critical);
              full₁_most = omega (arith, one critical);
              partial_most = omega arith;
              if_typical = λ h. omega (arith, ap bit h);
              if_critical = λ h. omega (arith, one critical, ap bit h);
              progress = full_tick (f₁ + bit (not critical)) (f₂ + bit critical) (grows critical share) many;
            }
        go (no few) =
            let r = some_ready k precedes downwards (ended len c) alive in
            record {
              full₁ = f₁;
              full₂ = f₂;
              partial = p + 1;
              one_more = omega arith;
              full₁_most = omega arith;
              partial_most = omega arith;
              if_typical = λ _. refl;
              if_critical = λ _. refl;
              progress = partial_tick (count_some (ready k precedes (ended len c)) k r.0 r.1 r.2) (omega arith);
            }

    -- The same for ended nodes and counts that are kept in some other way.
    pub tick_as :
        (done : ℕ → Bool) (d : ℕ → ℕ) →
        ((v : ℕ) → v < k → done v ≡ ended len c v) →
        ((v : ℕ) → v < k → d v ≡ c v + bit (runs s k precedes done v)) →
        ((u v : ℕ) → v < k → precedes u v ≡ true → u < v) →
        (critical : Bool) → s ≡ cond critical b a → Alive k done →
        Ticked k precedes len a b span critical d f₁ f₂ p
    tick_as done d same counts downwards critical share alive =
        let t = tick downwards critical share (alive_same same alive) in
        record {
          full₁ = t.full₁;
          full₂ = t.full₂;
          partial = t.partial;
          one_more = t.one_more;
          full₁_most = t.full₁_most;
          partial_most = t.partial_most;
          if_typical = t.if_typical;
          if_critical = t.if_critical;
          progress =
              carried d
              (λ v l. sym (counts v l ∙ ap (λ x. c v + bit x) (runs_same k precedes s done (ended len c) same v l)))
              t.progress;
        }
