-- What holds of every import. Each law is proved in proofs/.
use Rattle.std.specs.Prelude.{ℕ, suc, ◌≤◌, ◌<◌, true, not, List, ◌∷◌, ◌++◌, ◌≡◌, length, Some}
use Rattle.basics.specs.Lists.{is_in}
use Rattle.sheet.specs.declared.refusal.Refusal.TheVariants.{NotHeavy}
use Rattle.std.specs.Prelude.{Ok}
use Rattle.sheet.specs.Refusal.{refused_if}
use Rattle.sheet.specs.Format.{offset_of, length_of}
use Rattle.sheet.specs.Rules.{is_heavy, in_order}
use Rattle.reader.specs.Reading.{record_answer}
use Rattle.model.specs.Claim.{KeepsBudget}
use Rattle.chains.specs.Laws.{GreatestAlong}
use Rattle.graph_text.specs.Graph.{Graph, graph_of, node_of, time_of, mask_of, masks_of}
use Rattle.importer.specs.declared.terms.Terms.{Terms}
use Rattle.importer.specs.Task.{overload_time_of, figures_of, task_from}
use Rattle.importer.specs.Import.{import_answer, imported_record}

-- S14.8: the figures of every graph, at every percentage from 100 on, keep the rules of S2.10, CO − CN ≥ LO − LN among them.
unfoldable pub FiguresInOrder : Type 0
FiguresInOrder = (g : Graph) (t : Terms) → 100 ≤ t.percentage → in_order (figures_of g t) ≡ true

-- S14.8: wherever the record of an accepted import stands in a sheet as the record of task i, the reader refuses that task for no
-- other cause than 6, that it is not heavy.
unfoldable pub ReaderTakes : Type 0
ReaderTakes =
    (text : List ℕ) (t : Terms) (room : ℕ) (g : Graph) (front back : List ℕ) (i : ℕ) →
    import_answer text t room ≡ Ok tt →
    graph_of text ≡ Some g →
    offset_of (front ++ (imported_record text t ++ back)) i ≡ length front →
    length_of (front ++ (imported_record text t ++ back)) i ≡ length (imported_record text t) →
    record_answer (front ++ (imported_record text t ++ back)) i ≡ refused_if (not (is_heavy (figures_of g t))) (NotHeavy i)

-- What the budgets of an imported task are to its graph's times: LN and LO are the greatest sums along its chains, and the times of the
-- nodes keep the nominal budget, their overload times the overload budget (S10.6).
pub record BudgetsFit (g : Graph) (t : Terms) : Type 0 where
  pub nominal_span : GreatestAlong (masks_of g) (time_of g) g.count (figures_of g t).nominal.span
  pub overload_span : GreatestAlong (masks_of g) (overload_time_of g t.percentage) g.count (figures_of g t).overload.span
  pub nominal : KeepsBudget (task_from g t) (figures_of g t).nominal (time_of g)
  pub overload : KeepsBudget (task_from g t) (figures_of g t).overload (overload_time_of g t.percentage)

-- S14.8, of every accepted import.
unfoldable pub TimesKeepBudgets : Type 0
TimesKeepBudgets =
    (text : List ℕ) (t : Terms) (room : ℕ) (g : Graph) →
    import_answer text t room ≡ Ok tt → graph_of text ≡ Some g → BudgetsFit g t

-- S14.5: predecessor 0, and one that is named already, change no mask.
pub record MaskKept (p : ℕ) (predecessors : List ℕ) : Type 0 where
  pub dummy : mask_of (0 ∷ predecessors) ≡ mask_of predecessors
  pub again : is_in p predecessors ≡ true → mask_of (p ∷ predecessors) ≡ mask_of predecessors

-- S14.5, of all predecessors.
unfoldable pub MasksKept : Type 0
MasksKept = (p : ℕ) (predecessors : List ℕ) → MaskKept p predecessors

-- S14.5: two graphs of as many nodes, with the same times, whose nodes name the same nodes, become the same task. How often a predecessor
-- is named, in which order, and whether entry 0 is, do not matter.
unfoldable pub SameTask : Type 0
SameTask =
    (g h : Graph) (t : Terms) →
    g.count ≡ h.count →
    ((v : ℕ) → v < g.count → time_of g v ≡ time_of h v) →
    ((v j : ℕ) → v < g.count → is_in (suc j) (node_of g v).predecessors ≡ is_in (suc j) (node_of h v).predecessors) →
    task_from g t ≡ task_from h t
