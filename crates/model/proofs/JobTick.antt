-- One job over one tick: which nodes are ended, ready and running, and what each has run after the tick.
-- Predecessors and ended nodes are tests here, so that nothing depends on how a state keeps them.
use Prim.Native.Nat.{ℕ, ◌+◌, ◌-◌, ◌≤◌, ◌<◌}
use mathlib.Core.Path.{◌≡◌, refl, ap, ap₂, ◌∙◌, sym}
use mathlib.Core.Bool.{Bool, true, false, not, ◌&&◌, ◌||◌, true≢false, false≢true, or-false}
use mathlib.Core.Logic.{◌↔◌, ◌⊎◌, inl, inr}
use native.Mathlib.Omega.{arith}
use native.Mathlib.Nat.{add-zero}
use native.Mathlib.Decide.{ℕ_discrete}
use lib.Dec.{leb, eqb}
use borrow.Author.Tests.{leb-true, leb-false, le-leb, lt-leb, eq-eqb, ne_eqb}
use Rattle.model.specs.Budget.{sum_below}
use Rattle.basics.specs.Lists.{all_below, bit, count}
use Rattle.basics.proofs.Below.{all_at, all_same, all_fails}
use Rattle.model.proofs.Sums.{lowest, LeastFailing, least_failing, sum_add, sum_bits, lowest_passes, lowest_same}
use Rattle.model.proofs.Chains.{Earlier}

-- Whether node v has run its length, where c counts the ticks that each node ran.
unfoldable pub ended : (ℕ → ℕ) → (ℕ → ℕ) → ℕ → Bool
ended len c v = leb (len v) (c v)

-- Whether node v is not done and all its predecessors among the k nodes are.
unfoldable pub ready : ℕ → (ℕ → ℕ → Bool) → (ℕ → Bool) → ℕ → Bool
ready k precedes done v = not (done v) && all_below k (λ u. not (precedes u v) || done u)

-- Whether node v is among the s lowest ready ones.
abbrev pub runs : ℕ → ℕ → (ℕ → ℕ → Bool) → (ℕ → Bool) → ℕ → Bool
runs s k precedes done = lowest s (ready k precedes done)

-- What node v has run after a tick with share s.
abbrev pub next : ℕ → ℕ → (ℕ → ℕ → Bool) → (ℕ → ℕ) → (ℕ → ℕ) → ℕ → ℕ
next s k precedes len c v = c v + bit (runs s k precedes (ended len c) v)

-- What node v has still to run.
abbrev pub remaining : (ℕ → ℕ) → (ℕ → ℕ) → ℕ → ℕ
remaining len c v = len v - c v

-- Some node below k is not done.
pub record Alive (k : ℕ) (done : ℕ → Bool) : Type 0 where
  pub node : ℕ
  pub below : node < k
  pub unended : done node ≡ false

module _ {k : ℕ} {done : ℕ → Bool} where
  pub alive_some : all_below k done ≡ false → Alive k done
  alive_some e = let w = least_failing k done e in record { node = w.at; below = w.below; unended = w.fails }

  pub some_alive : Alive k done → all_below k done ≡ false
  some_alive w = all_fails k done w.node w.below w.unended

  -- Either some node is not done, or all are.
  pub alive_or_done : Alive k done ⊎ (all_below k done ≡ true)
  alive_or_done = go (all_below k done) refl
    where
      go : (t : Bool) → all_below k done ≡ t → Alive k done ⊎ (all_below k done ≡ true)
      go true e = inr e
      go false e = inl (alive_some e)

  -- None is left just where each node is done.
  pub not_alive_iff_done : (¬ Alive k done) ↔ ((v : ℕ) → v < k → done v ≡ true)
  not_alive_iff_done = (done_of alive_or_done, λ all w. true≢false (sym (all w.node w.below) ∙ w.unended))
    where
      done_of : Alive k done ⊎ (all_below k done ≡ true) → ¬ Alive k done → (v : ℕ) → v < k → done v ≡ true
      done_of (inl w) h v l = absurd (h w)
      done_of (inr all) h v l = all_at k done all v l

pub alive_same : {k : ℕ} {d e : ℕ → Bool} → ((v : ℕ) → v < k → d v ≡ e v) → Alive k d → Alive k e
alive_same h w = record { node = w.node; below = w.below; unended = sym (h w.node w.below) ∙ w.unended }

module _ (k : ℕ) (precedes : ℕ → ℕ → Bool) where
  pub ready_same :
      (d e : ℕ → Bool) → ((u : ℕ) → u < k → d u ≡ e u) → (v : ℕ) → v < k → ready k precedes d v ≡ ready k precedes e v
  unfolding ready
  ready_same d e h v l =
      ap₂ (λ x y. not x && y) (h v l)
      (all_same k (λ u. not (precedes u v) || d u) (λ u. not (precedes u v) || e u) (λ u b. ap (λ x. not (precedes u v) || x) (h u b)))

  pub runs_same :
      (s : ℕ) (d e : ℕ → Bool) → ((u : ℕ) → u < k → d u ≡ e u) → (v : ℕ) → v < k → runs s k precedes d v ≡ runs s k precedes e v
  runs_same s d e h v l =
      lowest_same s v (ready k precedes d) (ready k precedes e) (λ u b. ready_same d e h u (omega arith))

  pub ready_undone : (done : ℕ → Bool) (v : ℕ) → ready k precedes done v ≡ true → done v ≡ false
  unfolding ready
  ready_undone done v e = go (done v) e
    where
      go : (t : Bool) → (not t && all_below k (λ u. not (precedes u v) || done u)) ≡ true → t ≡ false
      go true h = absurd (false≢true h)
      go false h = refl

  pub ready_or_waits :
      (done : ℕ → Bool) (v : ℕ) → done v ≡ false → (ready k precedes done v ≡ true) ⊎ Earlier k precedes (λ u. done u ≡ false) v
  unfolding ready
  ready_or_waits done v e = rw e (go (all_below k (λ u. not (precedes u v) || done u)) refl)
    where
      missing : (x y : Bool) → (not x || y) ≡ false → (x ≡ true) × (y ≡ false)
      missing true y h = (refl, h)
      missing false y h = absurd (true≢false h)

      go :
          (t : Bool) → all_below k (λ u. not (precedes u v) || done u) ≡ t →
          (t ≡ true) ⊎ Earlier k precedes (λ u. done u ≡ false) v
      go true all = inl refl
      go false some =
          let w = least_failing k (λ u. not (precedes u v) || done u) some in
          let m = missing (precedes w.at v) (done w.at) w.fails in
          inr (record { node = w.at; below = w.below; before = m.0; holds = m.1 })

  -- The least node that is not done is ready, where predecessors come before their successors.
  pub some_ready :
      ((u v : ℕ) → v < k → precedes u v ≡ true → u < v) →
      (done : ℕ → Bool) → Alive k done → (v : ℕ) × (v < k) × (ready k precedes done v ≡ true)
  some_ready downwards done alive =
      let w = least_failing k done (some_alive alive) in
      go w (ready_or_waits done w.at w.fails)
    where
      go :
          (w : LeastFailing k done) →
          (ready k precedes done w.at ≡ true) ⊎ Earlier k precedes (λ u. done u ≡ false) w.at →
          (v : ℕ) × (v < k) × (ready k precedes done v ≡ true)
      go w (inl h) = (w.at, w.below, h)
      go w (inr x) =
          absurd (true≢false (sym (w.others x.node (downwards x.node w.at w.below x.before)) ∙ x.holds))

module _ (len c : ℕ → ℕ) (v : ℕ) where
  pub unended_less : ended len c v ≡ false → c v < len v
  unfolding ended
  unended_less e = leb-false (len v) (c v) e

  pub less_unended : c v < len v → ended len c v ≡ false
  unfolding ended
  less_unended h = lt-leb (len v) (c v) h

  pub ended_equal : c v ≤ len v → ended len c v ≡ true → c v ≡ len v
  unfolding ended
  ended_equal h e = omega (arith, leb-true (len v) (c v) e)

  pub equal_ended : c v ≡ len v → ended len c v ≡ true
  unfolding ended
  equal_ended e = le-leb (len v) (c v) (omega arith)

pub done_iff_run :
    (k : ℕ) (len c : ℕ → ℕ) → ((v : ℕ) → v < k → c v ≤ len v) →
    ((v : ℕ) → v < k → ended len c v ≡ true) ↔ ((v : ℕ) → v < k → c v ≡ len v)
done_iff_run k len c h = (λ e v l. ended_equal len c v (h v l) (e v l), λ e v l. equal_ended len c v (e v l))

pub ended_same : (len c d : ℕ → ℕ) (v : ℕ) → c v ≡ d v → ended len c v ≡ ended len d v
unfolding ended
ended_same len c d v e = ap (leb (len v)) e

-- A count n that grows by one where t says so: it has reached l if it had before, or if this brings it up to l.
ended_step : (l n : ℕ) (t : Bool) → (t ≡ true → n < l) → leb l (n + bit t) ≡ (leb l n || (t && eqb (n + bit t) l))
ended_step l n false h = rw add-zero (sym (or-false (leb l n)))
ended_step l n true h = rw (lt-leb l n (h refl)) (go (ℕ_discrete (n + 1) l))
  where
    go : Dec (n + 1 ≡ l) → leb l (n + 1) ≡ eqb (n + 1) l
    go (yes e) = le-leb l (n + 1) (omega arith) ∙ sym (eq-eqb (n + 1) l e)
    go (no e) = lt-leb l (n + 1) (omega (arith, h refl)) ∙ sym (ne_eqb (n + 1) l e)

module _ (s k : ℕ) (precedes : ℕ → ℕ → Bool) (len c : ℕ → ℕ) where
  pub runs_less : (v : ℕ) → runs s k precedes (ended len c) v ≡ true → c v < len v
  runs_less v e =
      unended_less len c v (ready_undone k precedes (ended len c) v (lowest_passes s (ready k precedes (ended len c)) v e))

  pub next_within : (v : ℕ) → c v ≤ len v → next s k precedes len c v ≤ len v
  next_within v h = go (runs s k precedes (ended len c) v) (runs_less v)
    where
      go : (t : Bool) → (t ≡ true → c v < len v) → c v + bit t ≤ len v
      go true less = omega (arith, less refl)
      go false less = omega arith

  pub ended_next :
      (v : ℕ) →
      ended len (next s k precedes len c) v
      ≡ (ended len c v || (runs s k precedes (ended len c) v && eqb (next s k precedes len c v) (len v)))
  unfolding ended
  ended_next v = ended_step (len v) (c v) (runs s k precedes (ended len c) v) (runs_less v)

  pub sum_next : sum_below k (next s k precedes len c) ≡ sum_below k c + count (runs s k precedes (ended len c)) k
  sum_next =
      omega (arith, sum_add k c (λ v. bit (runs s k precedes (ended len c) v)), sum_bits k (runs s k precedes (ended len c)))
