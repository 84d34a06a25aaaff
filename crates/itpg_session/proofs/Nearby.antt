-- What is found for a query from one object: one thing, and rows of declared objects alone.
use Rattle.std.proofs.Common.{◌≡◌, ◌⊎◌, inl, inr, ℕ, ◌<◌, List, length, refl, ap}
use Rattle.std.proofs.lemmas.Option.{slice_get_within}
use Rattle.itpg_base.specs.Graphs.{Graph, Good, Stands}
use Rattle.itpg_base.specs.Points.{Point, IsAt}
use Rattle.itpg_base.proofs.Objects.{there}
use Rattle.path_ast.specs.Terms.{PathTerm, QueryTerm}
use Rattle.path_ast.specs.Meaning.{Rel}
use Rattle.path_ast.proofs.Pairs.{starts_at, ends_at}
use Rattle.relation_rows.specs.declared.rows.Row.{Row}
use Rattle.relation_rows.specs.Rows.{between}
use Rattle.relation_rows.specs.Answered.{Answered, pairs, times}
use Rattle.relation_rows.proofs.Alike.{in_relation, row_start}
use Rattle.row_printer.specs.Texts.{AreDeclared}
use Rattle.path_eval.specs.Nearby.{FromObject, AreRowsFrom, IsTooWideNear}
use Rattle.itpg_session.specs.Questions.{HasRowsFrom}
use Rattle.itpg_session.specs.Replies.{Reply, Silent, Bad, Refused, Wide, Rows, Counted, Shown, OfPin, PerWatch, IsFoundNear}

-- the laws of rows from one object
pub record NearLaws : Type 0 where
  pub exists : (g : Graph) (limit : ℕ) (p : PathTerm) (o : ℕ) → Good g → Stands g o → IsTooWideNear g limit p o ⊎ ((IsTooWideNear g limit p o → ⊥) × ((rows : List Row) × AreRowsFrom g p o rows))
  pub one : (g : Graph) (p : PathTerm) (o : ℕ) (a b : List Row) → AreRowsFrom g p o a → AreRowsFrom g p o b → a ≡ b

pub not_wide : (g : Graph) (limit : ℕ) (q : QueryTerm) (o : ℕ) (x : Answered) → HasRowsFrom g limit q o x → IsTooWideNear g limit q.path o → ⊥
not_wide g limit q o (pairs x) a wide = a.0 wide
not_wide g limit q o (times x) a wide = absurd a

module _ (laws : NearLaws) (g : Graph) (limit : ℕ) (q : QueryTerm) (o : ℕ) where
  one_rows_from : (x y : Answered) → HasRowsFrom g limit q o x → HasRowsFrom g limit q o y → x ≡ y
  one_rows_from (pairs x) (pairs y) a b = ap pairs (laws.one g q.path o x y a.1 b.1)
  one_rows_from (pairs x) (times y) a b = absurd b
  one_rows_from (times x) y a b = absurd a

  pub one_found_near : (x y : Reply) → IsFoundNear g limit q o x → IsFoundNear g limit q o y → x ≡ y
  one_found_near Silent y a b = absurd a
  one_found_near (Bad c) y a b = absurd a
  one_found_near (Refused r) y a b = absurd a
  one_found_near (Counted c) y a b = absurd a
  one_found_near (Shown i f) y a b = absurd a
  one_found_near (OfPin i x) y a b = absurd a
  one_found_near (PerWatch f) y a b = absurd a
  one_found_near Wide Silent a b = absurd b
  one_found_near Wide (Bad c) a b = absurd b
  one_found_near Wide (Refused r) a b = absurd b
  one_found_near Wide (Counted c) a b = absurd b
  one_found_near Wide (Shown i f) a b = absurd b
  one_found_near Wide (OfPin i x) a b = absurd b
  one_found_near Wide (PerWatch f) a b = absurd b
  one_found_near Wide Wide a b = refl
  one_found_near Wide (Rows y) a b = absurd (not_wide g limit q o y b a)
  one_found_near (Rows x) Silent a b = absurd b
  one_found_near (Rows x) (Bad c) a b = absurd b
  one_found_near (Rows x) (Refused r) a b = absurd b
  one_found_near (Rows x) (Counted c) a b = absurd b
  one_found_near (Rows x) (Shown i f) a b = absurd b
  one_found_near (Rows x) (OfPin i y) a b = absurd b
  one_found_near (Rows x) (PerWatch f) a b = absurd b
  one_found_near (Rows x) Wide a b = absurd (not_wide g limit q o x a b)
  one_found_near (Rows x) (Rows y) a b = ap Rows (one_rows_from x y a b)

  pub some_found_near : Good g → Stands g o → (reply : Reply) × IsFoundNear g limit q o reply
  some_found_near good stands = elim (laws.exists g limit q.path o good stands) [
    | inl wide ↦ (Wide, wide)
    | inr rows ↦ (Rows (pairs rows.1.0), (rows.0, rows.1.1))
  ]

-- ---- declared objects

few : (g : Graph) (x : Point) → IsAt g x → x.object < length g.objects
few g x at = let s = there g.objects x.object _ at.stands in slice_get_within g.objects x.object s.0 s.1

pub near_declared : (g : Graph) (limit : ℕ) (q : QueryTerm) (o : ℕ) (answer : Answered) → HasRowsFrom g limit q o answer → AreDeclared (length g.objects) answer
near_declared g limit q o (times rows) n = absurd n
near_declared g limit q o (pairs rows) (fits, n) = λ r among.
    let row = n.each r among in
    let pair = in_relation (FromObject o (Rel q.path g)) r (record { object = r.source.0; moment = _ }) (record { object = r.target.0; moment = _ }) row
    (record { source = refl; target = refl; pair = row_start (between (FromObject o (Rel q.path g)) r.source.0 r.target.0) r.band row }) in
    (few g _ (starts_at q.path g _ _ pair.1), few g _ (ends_at q.path g _ _ pair.1))
