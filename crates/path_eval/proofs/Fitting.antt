-- Members that fit, and members of which one is wide, put together from parts.
use Rattle.std.proofs.Common.{◌≡◌, ℕ, List, ◌∷◌, inl, inr, Result, Ok, Err, subst}
use Rattle.itpg_base.specs.Graphs.{Graph}
use Rattle.itpg_base.specs.Points.{Point, Relation}
use Rattle.relation_rows.specs.declared.rows.Row.{Row}
use Rattle.relation_rows.specs.declared.rows.RelFault.{RelFault}
use Rattle.relation_rows.specs.declared.rows.RelFault.TheVariants.{Memory, Wide}
use Rattle.relation_rows.specs.Rows.{Fits}
use Rattle.relation_rows.specs.Answers.{Gives}
use Rattle.relation_rows.proofs.Alike.{rows_alike, wide_alike}
use Rattle.label_scope.specs.Members.{Member}
use Rattle.plan_cache.specs.RightRows.{member_relation, AllFit}
use Rattle.path_eval.specs.Evaluated.{SomeIsWide}
use Rattle.path_eval.proofs.MembersWithin.{wide_own}
use Rattle.path_eval.specs.Working.{WorksOutAs}

module _ (g : Graph) (limit : ℕ) where
  pub fit_own : (own : Member) (rest : List Member) → Fits (member_relation g own) limit → AllFit g limit rest → AllFit g limit (own ∷ rest)
  fit_own own rest fits all m (inl same) = subst (λ (n : Member). Fits (member_relation g n) limit) same fits
  fit_own own rest fits all m (inr among) = all m among

  -- what a call of a relation gives is what the member is, and the others fit
  pub works_out : (own : Member) (rest : List Member) (R : Relation) → ((x y : Point) → R x y → member_relation g own x y) → ((x y : Point) → member_relation g own x y → R x y)
      → AllFit g limit rest → (result : Result (List Row) RelFault) → Gives result R limit → WorksOutAs result (member_relation g own) g limit (own ∷ rest)
  works_out own rest R f b all (Ok rows) h =
      let rows_are = rows_alike R (member_relation g own) f b rows h.0 in
      (rows_are, fit_own own rest (rows, rows_are, h.1) all)
  works_out own rest R f b all (Err Memory) h = tt
  works_out own rest R f b all (Err Wide) h = wide_own g limit own rest (wide_alike R (member_relation g own) f b limit h)

  -- the same relation, and other members in place of these
  pub works_out_as : (R S : Relation) (ms ns : List Member) → ((x y : Point) → R x y → S x y) → ((x y : Point) → S x y → R x y) → ms ≡ ns
      → (result : Result (List Row) RelFault) → WorksOutAs result R g limit ms → WorksOutAs result S g limit ns
  works_out_as R S ms ns f b same (Ok rows) h = (rows_alike R S f b rows h.0, subst (AllFit g limit) same h.1)
  works_out_as R S ms ns f b same (Err Memory) h = tt
  works_out_as R S ms ns f b same (Err Wide) h = subst (SomeIsWide g limit) same h
