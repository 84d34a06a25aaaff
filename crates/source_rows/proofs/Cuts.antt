-- Graphs that agree in all standing objects have the same relations between two scopes.
use Rattle.std.proofs.Common.{ℕ}
use Rattle.std.specs.Prelude.{◌↔◌}
use Rattle.itpg_base.specs.Graphs.{Graph, Stands}
use Rattle.itpg_base.specs.Points.{Point}
use Rattle.path_ast.specs.Terms.{PathTerm}
use Rattle.path_ast.proofs.Pairs.{starts_at, ends_at}
use Rattle.label_scope.specs.declared.scope.Scope.{Scope}
use Rattle.label_scope.specs.Scopes.{Has, IsWithin}
use Rattle.label_scope.specs.Narrowing.{Cut}
use Rattle.source_rows.specs.Near.{Agree}
use Rattle.source_rows.proofs.Agreeing.{moved, turned}
use Rattle.source_rows.proofs.Nearing.{all_agree}

within_moved : (scope : Scope) (g h : Graph) → Agree g h → (o : ℕ) → Stands g o → IsWithin scope g o → IsWithin scope h o
within_moved scope g h agree o stands within = moved (λ (a : ℕ). Unit {0}) g h agree (λ x. Has scope x.labels) o tt stands within

cut_moved : (p : PathTerm) (a b : Scope) (g h : Graph) → Agree g h → (x y : Point) → Cut g p a b x y → Cut h p a b x y
cut_moved p a b g h agree x y cut = record {
  leads = (all_agree p g h x y agree).0 cut.leads;
  source = within_moved a g h agree x.object (starts_at p g x y cut.leads).stands cut.source;
  target = within_moved b g h agree y.object (ends_at p g x y cut.leads).stands cut.target;
}

pub cuts_agree : (p : PathTerm) (a b : Scope) (g h : Graph) (x y : Point) → Agree g h → Cut g p a b x y ↔ Cut h p a b x y
cuts_agree p a b g h x y agree = ((λ c. cut_moved p a b g h agree x y c), (λ c. cut_moved p a b h g (turned (λ (o : ℕ). Unit {0}) g h agree) x y c))
