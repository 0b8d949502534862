-- S5.7: what the planner holds is the smaller of the true share or total and M + 1.
use Prim.Native.Nat.{ℕ, ◌+◌, ◌-◌, ◌≤◌, ◌<◌}
use mathlib.Core.Path.{◌≡◌, refl, sym, ap, ◌∙◌, subst}
use mathlib.Core.Bool.{Bool, true, false}
use mathlib.Core.List.Memᴰ
use mathlib.Core.List.{List, [], ◌∷◌, map, Memᴰ}
use native.Mathlib.Omega.{arith}
use native.Mathlib.Decide.{dec_le}
use lib.Dec.{T}
use lib.ListN.{get_or, drop}
use borrow.Author.Tests.{eqb-true, eq-eqb}
use Rattle.basics.specs.Order.{capped_at}
use Rattle.basics.proofs.Members.{filter-has, filter_from}
use Rattle.basics.proofs.Order.{capped_is}
use Rattle.sheet.specs.declared.task.Task.{Task}
use Rattle.sheet.specs.declared.task.TaskSet.{TaskSet}
use Rattle.sheet.specs.Format.{task_in}
use Rattle.sheet.specs.Level.{is_low}
use Rattle.reader.specs.Reading.{read_answer}
use Rattle.shares.specs.declared.share.Share.{Share}
use Rattle.shares.specs.Offer.{critical_at}
use Rattle.shares.specs.Totals.{typical_total, critical_total}
use Rattle.shares.proofs.Least.{least_at_most}
use Rattle.shares.proofs.Levels.{critical_low, critical_high, critical_bound, low_critical_own}
use Rattle.allocation.specs.Choice.{low_options, high_options, options_of, choices}
use Rattle.allocation.specs.Way.{HighPair}
use Rattle.allocation.specs.Allocation.{tasks_of}
use Rattle.allocation.specs.Lawful.{LawfulTask, LawfulSet}
use Rattle.allocation.specs.Held.{options_up_to, critical_shares, critical_totals, uncapped_share, uncapped_total, share_held, total_held, HeldInBytes}
use Rattle.allocation.specs.means.Selection.{cell_at, total_at, missing_offer, offered, least_total, shares_at, offers_of, offers_up_to, totals_for}
use Rattle.allocation.proofs.Optimal.{EachOffer, Below, Takes, takes_choice, choice_takes, total_least, total_bound, select_sound}
use Rattle.allocation.proofs.Options.{low_from, high_from_lem, high_has, options_low, options_high, low_share_positive, offer_of_lem}
use Rattle.allocation.proofs.Lines.{lines_at, lines_last, entry_totals, offers_length}
use Rattle.allocation.proofs.Sets.{cell_is, offers_there, offers_at, each_from, set_offers}
use Rattle.allocation.proofs.Accepted.{sheet_lawful}
use Rattle.std.specs.Prelude.{Ok}
use Rattle.sheet.specs.Format.{task_set_of}

-- A task, with as many processors in the critical mode as one likes.
module _ (M N : ℕ) (t : Task) (more : M ≤ N) where
  up_low : is_low t.level ≡ true → options_up_to M N t ≡ low_options M t.figures
  unfolding options_up_to
  up_low low = rw low

  up_high : is_low t.level ≡ false → options_up_to M N t ≡ high_options N t.figures
  unfolding options_up_to
  up_high high = rw high

  -- What it may take within M it may take.
  options_more : (s : Share) → Memᴰ s (options_of M t) → Memᴰ s (options_up_to M N t)
  options_more s m = go (is_low t.level) refl
    where
      go : (l : Bool) → is_low t.level ≡ l → Memᴰ s (options_up_to M N t)
      go true low = rw (up_low low) (subst (Memᴰ s) (options_low M t low) m)
      go false high =
          let pair = high_from_lem M t.figures s (subst (Memᴰ s) (options_high M t high) m) in
          let within = pair.within in
          rw (up_high high)
          (high_has N t.figures s
          (record { positive = pair.positive; ordered = pair.ordered; within = omega arith; passing = pair.passing }))

  -- Its offer says no more than anything that it may take.
  up_below : LawfulTask t → Below 64 (options_up_to M N t) (critical_at M t)
  up_below lawful = go (is_low t.level) refl
    where
      by_pair : (s : Share) → HighPair N t.figures s → is_low t.level ≡ false → Dec (s.critical ≤ M) → critical_at M t s.typical ≤ s.critical
      by_pair s pair high (yes within) =
          rw (critical_high M t high)
          (least_at_most M t.figures s.typical s.critical pair.ordered within (subst T (sym pair.passing) tt))
      by_pair s pair high (no past) = omega (arith, critical_bound M t s.typical)

      go : (l : Bool) → is_low t.level ≡ l → Below 64 (options_up_to M N t) (critical_at M t)
      go true low =
          rw (up_low low)
          (record {
            positive = λ s m. let pair = low_from M t.figures s m in rw pair.typical (low_share_positive M t lawful low pair.has);
            least = λ s m to.
                let pair = low_from M t.figures s m in
                rw (critical_low M t low, pair.typical, low_critical_own M t.figures pair.has) (omega arith);
          })
      go false high =
          rw (up_high high)
          (record {
            positive = λ s m. (high_from_lem N t.figures s m).positive;
            least = λ s m to. by_pair s (high_from_lem N t.figures s m) high (dec_le s.critical M);
          })

  -- The offer's number at typical share a.
  offer_is : LawfulTask t → (a : ℕ) → 1 ≤ a → a ≤ 64 → critical_at M t a ≡ capped_at (M + 1) (uncapped_share M N t a)
  unfolding uncapped_share critical_shares
  offer_is lawful a one to =
      capped_is (M + 1) (critical_shares M N t a) (critical_at M t a) (critical_bound M t a)
      (λ y m.
      let image = Memᴰ.of_map (λ (s : Share). s.critical) _ m in
      let found = filter_from _ (options_up_to M N t) image.0 image.1 in
      let here : image.0.typical ≡ a = eqb-true _ a found.1 in
      let most = (up_below lawful).least image.0 found.0 (omega arith) in
      omega (arith, ap (critical_at M t) here, image.2))
      (λ below.
      Memᴰ.map (λ (s : Share). s.critical)
      (filter-has _ (options_up_to M N t) (offered (critical_at M t) a)
      (options_more _ ((offer_of_lem M t lawful).offers a one to (omega arith))) (eq-eqb a a refl)))

-- An option of each task is one of each with more processors.
takes_more : (M N : ℕ) → M ≤ N → (tasks : List Task) (choice : List Share) → Takes (map (options_of M) tasks) choice →
    Takes (map (options_up_to M N) tasks) choice
takes_more M N more [] [] t = tt
takes_more M N more [] (s ∷ choice) t = absurd t
takes_more M N more (task ∷ tasks) [] t = absurd t
takes_more M N more (task ∷ tasks) (s ∷ choice) (m, t) = (options_more M N task more s m, takes_more M N more tasks choice t)

module _ (set : TaskSet) (lawful : LawfulSet set) where
  abbrev offers : List (ℕ → ℕ)
  offers = offers_up_to set.count (offers_of set)

  cell_at_lem : (i : ℕ) → i < set.count → (a : ℕ) → 1 ≤ a → a ≤ 64 →
      cell_at (get_or (offers_of set) i missing_offer) a ≡ critical_at set.processors (task_in set i) a
  cell_at_lem i inside a one to =
      ap (λ (offer : List ℕ). cell_at offer a) (offers_at set lawful i inside)
      ∙ cell_is set.processors (task_in set i) lawful.few_processors (lawful.lawful i inside) a one to

  -- What is held for the tasks from i on.
  held_is : (i t : ℕ) → i ≤ set.count → t ≤ 64 → total_held (totals_for set) (set.count - i) t ≡ least_total set.processors (drop i offers) t
  unfolding total_held totals_for total_at
  held_is i t inside to =
      let few = lawful.few_tasks in
      let all = offers_length set.count (offers_of set) (offers_there set lawful) in
      let place : set.count - (set.count - i) ≡ i = omega arith in
      rw (
        ← lines_last set.processors set.count offers all,
        lines_at set.processors set.count offers all set.count (set.count - i) (omega arith) (omega arith),
        place,
      )
      (entry_totals set.processors (drop i offers) t to)

  module _ (N : ℕ) (more : set.processors ≤ N) where
    total_is : (i t : ℕ) → i ≤ set.count → t ≤ 64 →
        least_total set.processors (drop i offers) t ≡ capped_at (set.processors + 1) (uncapped_total set.processors N (drop i (tasks_of set)) t)
    unfolding uncapped_total critical_totals
    total_is i t inside to =
        capped_is (set.processors + 1) (critical_totals set.processors N (drop i (tasks_of set)) t) (least_total set.processors (drop i offers) t) (total_bound set.processors (drop i offers) t)
        (λ y m.
        let image = Memᴰ.of_map critical_total _ m in
        let found = filter_from _ (choices (map (options_up_to set.processors N) (drop i (tasks_of set)))) image.0 image.1 in
        let here : typical_total image.0 ≡ t = eqb-true _ t found.1 in
        let least = total_least set.processors below image.0 (choice_takes (map (options_up_to set.processors N) (drop i (tasks_of set))) image.0 found.0) (omega arith) in
        omega (arith, ap (least_total set.processors (drop i offers)) here, image.2))
        (λ less.
        let sound = select_sound (set_offers set lawful i inside) t to (omega arith) in
        subst (λ (x : ℕ). Memᴰ x (critical_totals set.processors N (drop i (tasks_of set)) t)) sound.critical
        (Memᴰ.map critical_total
        (filter-has _ (choices (map (options_up_to set.processors N) (drop i (tasks_of set)))) (shares_at set.processors (drop i offers) t)
        (takes_choice (map (options_up_to set.processors N) (drop i (tasks_of set))) _ (takes_more set.processors N more (drop i (tasks_of set)) _ sound.takes)) (eq-eqb _ t sound.typical))))
      where
        below : EachOffer (Below 64) (map (options_up_to set.processors N) (drop i (tasks_of set))) (drop i offers)
        below =
            each_from set lawful (Below 64) (options_up_to set.processors N)
            (λ j within.
            let up = up_below set.processors N (task_in set j) more (lawful.lawful j within) in
            record {
              positive = up.positive;
              least = λ s m small.
                  rw (cell_at_lem j within s.typical (up.positive s m) small) (up.least s m small);
            })
            i inside

pub held : (set : TaskSet) → LawfulSet set → HeldInBytes set (offers_of set) (totals_for set)
unfolding share_held cell_at
held set lawful =
    record {
      share = λ N i a more inside one to.
          cell_at_lem set lawful i inside a one to
          ∙ offer_is set.processors N (task_in set i) more (lawful.lawful i inside) a one to;
      total = λ N i t more inside to. held_is set lawful i t inside to ∙ total_is set lawful N more i t inside to;
    }

-- For every sheet that the reader accepts.
pub sheet_held : (sheet : List ℕ) → read_answer sheet ≡ Ok tt → HeldInBytes (task_set_of sheet) (offers_of (task_set_of sheet)) (totals_for (task_set_of sheet))
sheet_held sheet accepted = held (task_set_of sheet) (sheet_lawful sheet accepted)
