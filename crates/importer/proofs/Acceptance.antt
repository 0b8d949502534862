-- What an accepted import says of its graph and its terms, since no cause of 17, 18 and 19 holds.
use Prim.Native.Nat.{ℕ, ◌≤◌}
use mathlib.Core.Bool.{Bool, true, false, not, ◌&&◌, ◌||◌}
use mathlib.Core.List.{List}
use mathlib.Core.Path.{◌≡◌, sym, ap, ◌∙◌}
use lib.Dec.{eqb, leb}
use borrow.Author.Tests.{leb-true, eqb-true}
use Rattle.basics.specs.Numbers.{within}
use Rattle.basics.proofs.Logic.{within_bounds}
use Rattle.sheet.specs.declared.refusal.Refusal.{Refusal}
use Rattle.sheet.specs.declared.refusal.Refusal.TheVariants.{BadText, BadGraph, FigureOutside}
use Rattle.std.specs.Prelude.{Ok, Option, Some}
use Rattle.std.proofs.lemmas.Bool.{and_parts}
use Rattle.sheet.specs.Refusal.{Answer, refused_if, ◌or_else◌}
use Rattle.sheet.specs.Level.{is_high}
use Rattle.sheet.proofs.Faults.{both_accepted, rule_kept}
use Rattle.sheet.specs.Rules.{in_range}
use Rattle.graph_text.specs.Graph.{Graph, graph_of, is_rising}
use Rattle.importer.specs.declared.terms.Terms.{Terms}
use Rattle.importer.specs.Task.{terms_lawful, figures_of}
use Rattle.importer.specs.Import.{room_for, is_asked_well, graph_lawful, answer_for, import_answer}

-- A rule in front of other causes that let pass.
pub first_kept_lem : (rule : Bool) (r : Refusal) (later : Answer) → (refused_if (not rule) r or_else later) ≡ Ok tt →
    (rule ≡ true) × (later ≡ Ok tt)
first_kept_lem rule r later e =
    let both = both_accepted (refused_if (not rule) r) later e in
    (rule_kept rule r both.0, both.1)

-- Terms that are lawful.
pub record LawfulTerms (t : Terms) : Type 0 where
  pub level : t.level ≤ 1
  pub percentage : 100 ≤ t.percentage
  pub most : t.percentage ≤ 400
  pub low : is_high t.level ≡ false → t.percentage ≡ 100

pub terms_kept : (t : Terms) → terms_lawful t ≡ true → LawfulTerms t
unfolding terms_lawful
terms_kept t h =
    let parts = and_parts (leb t.level 1 && within 100 400 t.percentage) (is_high t.level || eqb t.percentage 100) h in
    let ranged = and_parts (leb t.level 1) (within 100 400 t.percentage) parts.0 in
    let bounds = within_bounds 100 400 t.percentage ranged.1 in
    record {
      level = leb-true t.level 1 ranged.0;
      percentage = bounds.0;
      most = bounds.1;
      low = λ e. eqb-true t.percentage 100 (rw e at parts.1);
    }

-- What an accepted import keeps.
pub record Kept (g : Graph) (t : Terms) : Type 0 where
  pub terms : LawfulTerms t
  pub some_nodes : 1 ≤ g.count
  pub few_nodes : g.count ≤ 32
  pub rising : is_rising g ≡ true
  pub ranged : in_range t.level (figures_of g t) ≡ true

graph_kept : (g : Graph) (t : Terms) (room : ℕ) → answer_for (Some g) t room ≡ Ok tt → Kept g t
unfolding is_asked_well graph_lawful
graph_kept g t room e =
    let asked = first_kept_lem (is_asked_well g t room) BadText _ e in
    let lawful = first_kept_lem (graph_lawful g) BadGraph _ asked.1 in
    let graph = and_parts (within 1 32 g.count) (is_rising g) lawful.0 in
    let counted = within_bounds 1 32 g.count graph.0 in
    record {
      terms = terms_kept t (and_parts (terms_lawful t) (leb (room_for g.count) room) asked.0).0;
      some_nodes = counted.0;
      few_nodes = counted.1;
      rising = graph.1;
      ranged = rule_kept (in_range t.level (figures_of g t)) FigureOutside lawful.1;
    }

pub accepted_kept : (text : List ℕ) (t : Terms) (room : ℕ) (g : Graph) →
    import_answer text t room ≡ Ok tt → graph_of text ≡ Some g → Kept g t
unfolding import_answer
accepted_kept text t room g e said = graph_kept g t room (sym (ap (λ (o : Option Graph). answer_for o t room) said) ∙ e)
