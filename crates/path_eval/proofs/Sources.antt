-- The rows of a path from an object are those on its neighbourhood.
use Rattle.std.proofs.Common.{◌≡◌, ◌⊎◌, inl, inr, ℕ, zero, suc, ◌<◌, List, [], ◌∷◌, ◌++◌, length, replicate, Option, Some, None, refl, sym, ap, ◌∙◌, subst}
use Rattle.std.specs.Prelude.{◌↔◌, slice_get, IsSomeAnd}
use Rattle.std.proofs.lemmas.Option.{slice_get_within}
use Rattle.itpg_base.specs.Graphs.{Graph, Good, Stands}
use Rattle.itpg_base.specs.Points.{Point}
use Rattle.itpg_base.specs.declared.object_number.ObjNo.{ObjNo}
use Rattle.itpg_graph.specs.Edges.{AreNumbers, HasNumber}
use Rattle.itpg_graph.specs.GraphParts.{only_of}
use Rattle.itpg_graph.proofs.GraphParts.{only_is}
use Rattle.itpg_edit.specs.declared.edit.Edit.{Edit}
use Rattle.itpg_edit.specs.Next.{Next}
use Rattle.relation_rows.specs.declared.rows.Row.{Row}
use Rattle.relation_rows.specs.Rows.{NormalRows}
use Rattle.relation_rows.specs.Relations.{IsOneOf, IsBetween}
use Rattle.relation_rows.proofs.Alike.{rows_alike, wide_alike, rows_hold, hold_only}
use Rattle.path_ast.specs.Terms.{PathTerm}
use Rattle.path_ast.specs.Meaning.{Rel}
use Rattle.label_scope.specs.declared.scope.Scope.TheVariants.{All}
use Rattle.label_scope.specs.Narrowing.{Cut}
use Rattle.label_scope.specs.Members.{Member, worked}
use Rattle.label_scope.proofs.Within.{cut_all}
use Rattle.plan_cache.specs.Nodes.{PlanNode, Kept, Table, IsNodeOf}
use Rattle.plan_cache.specs.KeptRows.{AddsFree}
use Rattle.plan_cache.specs.RightRows.{member_relation, AllFit, IsTableRight}
use Rattle.source_rows.specs.Steps.{path_steps}
use Rattle.source_rows.specs.Reach.{Reach}
use Rattle.source_rows.specs.Near.{IsNear, Agree}
use Rattle.source_rows.specs.Touched.{IsUntouched}
use Rattle.source_rows.proofs.Nearing.{neighbourhood, path_within}
use Rattle.source_rows.proofs.NearLists.{near_list, one_part}
use Rattle.source_rows.proofs.Parts.{only_alike}
use Rattle.source_rows.proofs.Agreeing.{turned}
use Rattle.source_rows.proofs.Cuts.{cuts_agree}
use Rattle.source_rows.proofs.Edits.{edit_rows, edit_near}
use Rattle.condition_eval.proofs.Listed.{number_among}
use Rattle.path_eval.specs.Evaluated.{SomeIsWide}
use Rattle.path_eval.specs.Nearby.{FromObject, AreRowsFrom, IsTooWideNear}
use Rattle.path_eval.proofs.Finite.{fit_apart, fit_or_wide, rows_from}

-- ---- what is wide near an object

-- on graphs that agree the same members are wide
pub wide_agree : (g h : Graph) → Agree g h → (limit : ℕ) (members : List Member) → SomeIsWide g limit members → SomeIsWide h limit members
wide_agree g h agree limit members w =
    let m = w.member in
    record {
      member = m;
      among = w.among;
      wide = wide_alike (member_relation g m) (member_relation h m)
          (λ x y. (cuts_agree m.path m.sources m.targets g h x y agree).0) (λ x y. (cuts_agree m.path m.sources m.targets g h x y agree).1) limit w.wide;
    }

pub fits_near : (g near : Graph) (limit : ℕ) (p : PathTerm) (o : ℕ) → IsNear g o (path_steps p) near → AllFit near limit (worked p All All) → ¬ IsTooWideNear g limit p o
fits_near g near limit p o is fit = λ w.
    fit_apart near limit (worked p All All) fit (subst (λ (k : Graph). SomeIsWide k limit (worked p All All)) (one_part g (Reach g o (path_steps p)) w.near near w.is is) w.wide)

pub near_of_list : (g : Graph) (o : ℕ) (bound : Option ℕ) (objects : List ObjNo) → AreNumbers (Reach g o bound) objects → IsNear g o bound (only_of g objects)
near_of_list g o bound objects are = only_alike g (only_of g objects) (HasNumber objects) (Reach g o bound) (λ a. (are.only a, are.whole a)) (only_is g objects)

-- the same of a copy of the list, where a path has so many steps
pub near_is : (g near : Graph) (p : PathTerm) (o : ℕ) (bound : Option ℕ) (objects copy : List ObjNo) → bound ≡ path_steps p → AreNumbers (Reach g o bound) objects → copy ≡ objects → near ≡ only_of g copy → IsNear g o (path_steps p) near
near_is g near p o bound objects copy steps are same is =
    subst (λ (n : Option ℕ). IsNear g o n near) steps
    (subst (λ (n : Graph). IsNear g o bound n) (ap (only_of g) (sym same) ∙ sym is) (near_of_list g o bound objects are))

-- a standing object has a neighbourhood
near_of : (g : Graph) → Good g → (o : ℕ) (bound : Option ℕ) → Stands g o → (near : Graph) × IsNear g o bound near
near_of g good o bound stands = let all = near_list g o bound good stands in (only_of g all.0, near_of_list g o bound all.0 all.1)

-- the path is too wide near it, or it isn't and has rows from it
pub wide_or_rows : (g : Graph) (limit : ℕ) (p : PathTerm) (o : ℕ) → Good g → Stands g o → IsTooWideNear g limit p o ⊎ ((¬ IsTooWideNear g limit p o) × ((rows : List Row) × AreRowsFrom g p o rows))
wide_or_rows g limit p o good stands =
    let near = near_of g good o (path_steps p) stands in
    elim (fit_or_wide near.0 limit (worked p All All)) [
      | inl fit ↦ inr (fits_near g near.0 limit p o near.1 fit, rows_from g p o)
      | inr wide ↦ inl (record { near = near.0; is = near.1; wide = wide })
    ]

-- ---- the rows on the neighbourhood, cut to the object

one_source : (o : ObjNo) (k : ℕ) → IsOneOf (o ∷ []) k → k ≡ o.0
one_source o k (p, inl e, same) = sym (subst (λ (q : ObjNo). q.0 ≡ k) (sym e) same)
one_source o k (p, inr none, same) = absurd none

module _ (p : PathTerm) (g near : Graph) (o : ObjNo) (objects : List ObjNo) (all : List Row) (is : IsNear g o.0 (path_steps p) near) (are : AreNumbers (Reach g o.0 (path_steps p)) objects) (normal : NormalRows (Cut near p All All) all) where
  is_from : (k : ℕ) → k ≡ o.0 → IsNear g k (path_steps p) near
  is_from k e = subst (λ i. IsNear g i (path_steps p) near) (sym e) is

  cut_from : (x y : Point) → IsBetween all (o ∷ []) objects x y → FromObject o.0 (Rel p g) x y
  cut_from x y b =
      let e = one_source o x.object b.source in
      (e, (neighbourhood p g near x y (is_from x.object e)).1 (hold_only (Cut near p All All) all normal x y b.held).leads)

  from_cut : (x y : Point) → FromObject o.0 (Rel p g) x y → IsBetween all (o ∷ []) objects x y
  from_cut x y h = record {
    held = rows_hold (Cut near p All All) all normal x y (cut_all p near x y ((neighbourhood p g near x y (is_from x.object h.0)).0 h.1));
    source = (o, inl refl, sym h.0);
    target = number_among objects y.object (are.whole y.object (subst (λ k. Reach g k (path_steps p) y.object) h.0 (path_within p g x y h.1)));
  }

  pub rows_near : (rows : List Row) → NormalRows (IsBetween all (o ∷ []) objects) rows → AreRowsFrom g p o.0 rows
  rows_near = rows_alike (IsBetween all (o ∷ []) objects) (FromObject o.0 (Rel p g)) cut_from from_cut

-- ---- after an edit that touches nothing there

module _ (g new : Graph) (edit : Edit) (p : PathTerm) (o : ℕ) (good : Good g) (stands : Stands g o) (next : Next g edit new) (apart : IsUntouched g edit o (path_steps p)) where
  pub rows_stay : (rows : List Row) → AreRowsFrom g p o rows → AreRowsFrom new p o rows
  rows_stay = rows_alike (FromObject o (Rel p g)) (FromObject o (Rel p new)) (λ x y h. (h.0, (there x y h.0).0 h.1)) (λ x y h. (h.0, (there x y h.0).1 h.1))
    where
      there : (x y : Point) → x.object ≡ o → Rel p g x y ↔ Rel p new x y
      there x y e = edit_rows g new edit good next p x y (subst (Stands g) (sym e) stands) (subst (λ k. IsUntouched g edit k (path_steps p)) (sym e) apart)

  pub wide_before : (limit : ℕ) → IsTooWideNear new limit p o → IsTooWideNear g limit p o
  wide_before limit w =
      let was = near_of g good o (path_steps p) stands in
      record {
        near = was.0;
        is = was.1;
        wide = wide_agree w.near was.0 (turned (λ (a : ℕ). Unit {0}) was.0 w.near (edit_near g new edit good next o (path_steps p) stands apart was.0 w.near was.1 w.is)) limit (worked p All All) w.wide;
      }

-- ---- a new table of plans

nothing_kept : (more k : ℕ) (rows : List Row) → slice_get (let x : List Kept = replicate more None in x) k ≡ Some (Some rows) → ⊥
nothing_kept zero k rows e = let never : ⊥ = cc in never
nothing_kept (suc more) zero rows e = let never : ⊥ = cc in never
nothing_kept (suc more) (suc k) rows e = nothing_kept more k rows e

-- where nothing was kept, nothing is after nodes were added
pub new_right : (g : Graph) (limit : ℕ) (old new : Table) → old.kept ≡ [] → AddsFree old.kept new.kept → IsTableRight g limit new
new_right g limit old new none free = λ k rows e.
    let is : new.kept ≡ replicate free.0 None = free.1 ∙ ap (λ (kept : List Kept). kept ++ replicate free.0 None) none in
    absurd (nothing_kept free.0 k rows (subst (λ (kept : List Kept). slice_get kept k ≡ Some (Some rows)) is e))

pub node_there : (nodes : List PlanNode) (k : ℕ) (m : Member) → IsNodeOf nodes k m → k < length nodes
node_there nodes k m h = at (slice_get nodes k) refl h
  where
    at : (o : Option PlanNode) → slice_get nodes k ≡ o → IsSomeAnd o (λ n. n.member ≡ m) → k < length nodes
    at None e h = absurd h
    at (Some n) e h = slice_get_within nodes k n e
