-- A repetition of many times leads no further than one of up to 2 ^ 60 times.
use Rattle.std.proofs.Common.{ℕ, ◌≤◌, ◌^◌, Option, Some, None, arith}
use Rattle.itpg_base.specs.Graphs.{Graph, Good}
use Rattle.itpg_base.specs.Points.{Point, IsAt}
use Rattle.itpg_base.proofs.ShortWalks.{short_walk}
use Rattle.path_ast.specs.Terms.{PathTerm, Repetition}
use Rattle.path_ast.specs.Meaning.{Rel}
use Rattle.path_ast.proofs.Pairs.{ends_at}
use Rattle.label_scope.specs.declared.scope.Scope.TheVariants.{All}
use Rattle.label_scope.proofs.Within.{within_all}
use Rattle.path_eval.specs.Powers.{IsInside}
use Rattle.path_eval.specs.Powers.Lawful.{few_inside}

inside : (g : Graph) (x : Point) → Good g → IsAt g x → IsInside g All x
inside g x good at = record { good = good; at = at; within = within_all g x at }

pub within_many : (p : PathTerm) (g : Graph) (m : Option ℕ) (x y : Point) → Good g → Rel (Repetition p 0 m) g x y → Rel (Repetition p 0 (Some (2 ^ 60))) g x y
within_many p g m x y good h =
    let short = short_walk (few_inside g All) (Rel p g) (λ u v step. inside g v good (ends_at p g u v step)) x h.1.0 y (inside g x good h.0) h.1.2 in
    let few = short.1 in
    (h.0, (short.0, (omega arith, omega (arith, few)), short.2))

pub of_any : (p : PathTerm) (g : Graph) (n : ℕ) (x y : Point) → Rel (Repetition p 0 (Some n)) g x y → Rel (Repetition p 0 None) g x y
of_any p g n x y h = (h.0, (h.1.0, (omega arith, tt), h.1.2))

pub of_more : (p : PathTerm) (g : Graph) (n m : ℕ) (x y : Point) → n ≤ m → Rel (Repetition p 0 (Some n)) g x y → Rel (Repetition p 0 (Some m)) g x y
of_more p g n m x y below h = let few = h.1.1.1 in (h.0, (h.1.0, (omega arith, omega (arith, below, few)), h.1.2))
