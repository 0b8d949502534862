-- S14.5: a mask says which nodes are named and nothing else; and a task is known by its count, its times and its masks.
use Prim.Native.Nat.{ℕ, suc, ◌<◌}
use mathlib.Core.Bool.{Bool, true, false, ◌||◌}
use mathlib.Core.List.{List, ◌∷◌}
use mathlib.Core.Path.{◌≡◌, refl, ap, ap₂, sym, ◌∙◌}
use lib.Dec.{eqb, eqb-suc-zero}
use borrow.Author.Tests.{eqb-true}
use Rattle.basics.specs.Lists.{is_in, cells_from}
use Rattle.basics.proofs.Lists.{filter_ext_below}
use Rattle.basics.proofs.Cells.{cells_same}
use Rattle.nodes.specs.Sets.{set_of}
use Rattle.chains.specs.Chains.{budget_of}
use Rattle.chains.proofs.Laws.{budget_same}
use Rattle.graph_text.specs.Graph.{Graph, node_of, time_of, mask_of, masks_of}
use Rattle.importer.specs.Task.{scaled, overload_time_of, figures_of, task_from}
use Rattle.importer.specs.Laws.{MaskKept, MasksKept, SameTask}

-- Lists that name the same nodes have the same mask.
mask_same : (ps qs : List ℕ) → ((j : ℕ) → is_in (suc j) ps ≡ is_in (suc j) qs) → mask_of ps ≡ mask_of qs
unfolding mask_of
mask_same ps qs same = ap set_of (filter_ext_below (λ j. is_in (suc j) ps) (λ j. is_in (suc j) qs) 32 (λ j h. same j))

pub mask_kept : (p : ℕ) (predecessors : List ℕ) → MaskKept p predecessors
mask_kept p predecessors =
    record {
      dummy = mask_same (0 ∷ predecessors) predecessors (λ j. ap (λ (t : Bool). t || is_in (suc j) predecessors) (eqb-suc-zero j));
      again = λ named. mask_same (p ∷ predecessors) predecessors (λ j. go j named (eqb (suc j) p) refl);
    }
  where
    go : (j : ℕ) → is_in p predecessors ≡ true → (t : Bool) → eqb (suc j) p ≡ t →
        (t || is_in (suc j) predecessors) ≡ is_in (suc j) predecessors
    go j named true e = sym (ap (λ (i : ℕ). is_in i predecessors) (eqb-true (suc j) p e) ∙ named)
    go j named false e = refl

-- Two graphs of as many nodes, with the same times, whose nodes name the same nodes.
module _ (g h : Graph) (counts : g.count ≡ h.count) (times : (v : ℕ) → v < g.count → time_of g v ≡ time_of h v)
    (names : (v j : ℕ) → v < g.count → is_in (suc j) (node_of g v).predecessors ≡ is_in (suc j) (node_of h v).predecessors) where
  masks_same : masks_of g ≡ masks_of h
  unfolding masks_of
  masks_same =
      cells_same (λ v. mask_of (node_of g v).predecessors) (λ v. mask_of (node_of h v).predecessors) 0 0 32 g.count
      (λ v l. mask_same (node_of g v).predecessors (node_of h v).predecessors (λ j. names v j l))
      ∙ ap (cells_from 0 32 (λ v. mask_of (node_of h v).predecessors) 0) counts

  -- The budgets of what both make of their times.
  budgets_same : (f : ℕ → ℕ) → budget_of (masks_of g) (λ v. f (time_of g v)) g.count ≡ budget_of (masks_of h) (λ v. f (time_of h v)) h.count
  budgets_same f =
      budget_same (masks_of g) (λ v. f (time_of g v)) (λ v. f (time_of h v)) g.count (λ v l. ap f (times v l))
      ∙ ap₂ (λ (masks : List ℕ) (k : ℕ). budget_of masks (λ v. f (time_of h v)) k) masks_same counts

pub masks_kept : MasksKept
unfolding MasksKept
masks_kept = mask_kept

pub same_task : SameTask
unfolding SameTask task_from figures_of overload_time_of
same_task g h t counts times names =
    let masks = masks_same g h counts times names in
    let nominal = budgets_same g h counts times names (λ x. x) in
    let overload = budgets_same g h counts times names (scaled t.percentage) in
    cc
