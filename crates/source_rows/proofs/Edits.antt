-- What each edit leaves.
use Rattle.std.proofs.Common.{◌≡◌, ◌⊎◌, inl, inr, ℕ, [], ◌∷◌, Option, refl, sym, ◌∙◌, subst, true≢false}
use Rattle.std.specs.Prelude.{IsTrue, IsSomeAnd, ◌↔◌}
use Rattle.std.proofs.lemmas.Bool.Decides.{eqb_tells}
use Rattle.itpg_base.specs.Graphs.{Graph, Good, Object, Stands, Named, HasEnd}
use Rattle.itpg_base.specs.Points.{Point}
use Rattle.itpg_base.proofs.Objects.{there, here, get_kept, get_other}
use Rattle.itpg_graph.specs.Changes.{new_node, new_edge, with_object, dropped}
use Rattle.itpg_graph.proofs.Goodness.{pushed, push_is, push_keeps, changed_is, changed_other, changed_here}
use Rattle.itpg_edit.specs.declared.edit.Edit.{Edit}
use Rattle.itpg_edit.specs.declared.edit.Edit.TheVariants.{Begin, Extend, AddNode, AddEdge, Live, Gone, Put, Clear, Remove}
use Rattle.itpg_edit.specs.Next.{Next}
use Rattle.path_ast.specs.Terms.{PathTerm}
use Rattle.path_ast.specs.Meaning.{Rel}
use Rattle.source_rows.specs.Steps.{path_steps}
use Rattle.source_rows.specs.Reach.{Reach}
use Rattle.source_rows.specs.Near.{IsNear, Agree}
use Rattle.source_rows.specs.Touched.{IsTouched, IsUntouched}
use Rattle.source_rows.proofs.Bounds.{upto_none}
use Rattle.source_rows.proofs.Untouched.{LeavesOthers, same_reach, near_agree, rows_same}

-- a standing edge with this end
abbrev HasEndOf : ℕ → Object → Type 0
HasEndOf a x = IsTrue x.standing × IsSomeAnd x.ends (λ n. (n.source ≡ a) ⊎ (n.target ≡ a))

push_leaves : (g : Graph) (x : Object) (T : ℕ → Type 0) → ((a : ℕ) → ¬ T a → ¬ HasEndOf a x) → LeavesOthers g (pushed g x) T
push_leaves g x T refutes = record {
  begun = refl;
  entries = λ a stands apart. let t = there g.objects a _ stands in get_kept g.objects (x ∷ []) a t.0 t.1 ∙ sym t.1;
  edges = λ e a stands apart. (push_keeps g x (HasEndOf a) e, (λ h. elim (push_is g x (HasEndOf a) e h) [ inl k ↦ k | inr k ↦ absurd (refutes a apart k.1) ]));
}

change_leaves : (g : Graph) (o : ℕ) (f : Object → Object) (T : ℕ → Type 0) → T o → ((a : ℕ) (x : Object) → HasEndOf a x ↔ HasEndOf a (f x)) → LeavesOthers g (with_object g o f) T
change_leaves g o f T touched keeps = record {
  begun = refl;
  entries = λ a stands apart. get_other g.objects o a f (λ e. apart (subst T (sym e) touched));
  edges = λ e a stands apart. (to e a, back e a);
}
  where
    to : (e a : ℕ) → HasEnd g e a → HasEnd (with_object g o f) e a
    to e a h = elim (eqb_tells e o) [
      | inl same ↦
          let t = there g.objects o (HasEndOf a) (subst (λ i. HasEnd g i a) same.1 h) in
          subst (λ i. HasEnd (with_object g o f) i a) (sym same.1) (changed_here g o f (HasEndOf a) t.0 t.1 ((keeps a t.0).0 t.2))
      | inr other ↦ changed_other g o f (HasEndOf a) e other.1 h
    ]

    back : (e a : ℕ) → HasEnd (with_object g o f) e a → HasEnd g e a
    back e a h = elim (changed_is g o f (HasEndOf a) e h) [
      | inl k ↦ k.1
      | inr k ↦
          let t = there g.objects o (λ x. HasEndOf a (f x)) k.1 in
          subst (λ i. HasEnd g i a) (sym k.0) (here g.objects o (HasEndOf a) t.0 t.1 ((keeps a t.0).1 t.2))
    ]

drop_leaves : (g : Graph) (o : ℕ) (T : ℕ → Type 0) → T o → ((a : ℕ) → HasEnd g o a → T a) → LeavesOthers g (with_object g o dropped) T
drop_leaves g o T touched ends = record {
  begun = refl;
  entries = λ a stands apart. get_other g.objects o a dropped (λ e. apart (subst T (sym e) touched));
  edges = λ e a stands apart. (to e a apart, back e a);
}
  where
    to : (e a : ℕ) → ¬ T a → HasEnd g e a → HasEnd (with_object g o dropped) e a
    to e a apart h = elim (eqb_tells e o) [
      | inl same ↦ absurd (apart (ends a (subst (λ i. HasEnd g i a) same.1 h)))
      | inr other ↦ changed_other g o dropped (HasEndOf a) e other.1 h
    ]

    back : (e a : ℕ) → HasEnd (with_object g o dropped) e a → HasEnd g e a
    back e a h = elim (changed_is g o dropped (HasEndOf a) e h) [
      | inl k ↦ k.1
      | inr k ↦ let t = there g.objects o (λ x. HasEndOf a (dropped x)) k.1 in absurd (true≢false (sym t.2.0))
    ]

-- an edit touches every object, or it leaves the others
edit_leaves : (g h : Graph) (edit : Edit) → Next g edit h → ((a : ℕ) → IsTouched g edit a) ⊎ LeavesOthers g h (IsTouched g edit)
edit_leaves g h (Begin name lo hi) next = inl (λ a. tt)
edit_leaves g h (Extend lo hi) next = inl (λ a. tt)
edit_leaves g h (AddNode id labels) next =
    let T = IsTouched g (AddNode id labels) in
    inr (subst (λ n. LeavesOthers g n T) (sym next) (push_leaves g (new_node id labels) T (λ a apart has. has.1)))
edit_leaves g h (AddEdge id labels source target) next =
    let T = IsTouched g (AddEdge id labels source target) in
    inr (subst (λ n. LeavesOthers g n T) (sym next.4) (push_leaves g (new_edge id labels next.0 next.1) T (λ a apart has. elim (has.1) [
      | inl e ↦ apart (inr (inl (subst (λ i. Named g i source) e next.2)))
      | inr e ↦ apart (inr (inr (subst (λ i. Named g i target) e next.3)))
    ])))
edit_leaves g h (Live id from to) next =
    let T = IsTouched g (Live id from to) in
    inr (subst (λ n. LeavesOthers g n T) (sym next.2.is) (change_leaves g next.0 (λ x. record x { live = next.2.live }) T next.1 (λ a x. ((λ k. k), (λ k. k)))))
edit_leaves g h (Gone id from to) next =
    let T = IsTouched g (Gone id from to) in
    inr (subst (λ n. LeavesOthers g n T) (sym next.2.is) (change_leaves g next.0 (λ x. record x { live = next.2.live; properties = next.2.properties }) T next.1 (λ a x. ((λ k. k), (λ k. k)))))
edit_leaves g h (Put id prop value from to) next =
    let T = IsTouched g (Put id prop value from to) in
    inr (subst (λ n. LeavesOthers g n T) (sym next.2.is) (change_leaves g next.0 (λ x. record x { properties = next.2.properties }) T next.1 (λ a x. ((λ k. k), (λ k. k)))))
edit_leaves g h (Clear id prop from to) next =
    let T = IsTouched g (Clear id prop from to) in
    inr (subst (λ n. LeavesOthers g n T) (sym next.2.is) (change_leaves g next.0 (λ x. record x { properties = next.2.properties }) T next.1 (λ a x. ((λ k. k), (λ k. k)))))
edit_leaves g h (Remove id) next =
    let T = IsTouched g (Remove id) in
    inr (subst (λ n. LeavesOthers g n T) (sym next.2) (drop_leaves g next.0 T (inl next.1) (λ a has. inr (next.0, next.1, has))))

module _ (g h : Graph) (edit : Edit) (good : Good g) (next : Next g edit h) (o : ℕ) (bound : Option ℕ) (stands : Stands g o) (apart : IsUntouched g edit o bound) where
  pub here_too : Reach g o bound o
  here_too = (stands, inl ([], upto_none bound, refl))

  pub leaves : LeavesOthers g h (IsTouched g edit)
  leaves = elim (edit_leaves g h edit next) [ inl all ↦ absurd (apart o here_too (all o)) | inr k ↦ k ]

  pub edit_reach : (a : ℕ) → Reach g o bound a ↔ Reach h o bound a
  edit_reach = same_reach g h good (IsTouched g edit) leaves o bound stands apart

  pub edit_near : (near near_too : Graph) → IsNear g o bound near → IsNear h o bound near_too → Agree near near_too
  edit_near = near_agree g h good (IsTouched g edit) leaves o bound stands apart

pub edit_rows : (g h : Graph) (edit : Edit) → Good g → Next g edit h → (p : PathTerm) (x y : Point) → Stands g x.object → IsUntouched g edit x.object (path_steps p) → Rel p g x y ↔ Rel p h x y
edit_rows g h edit good next p x y stands apart = rows_same g h good (IsTouched g edit) (leaves g h edit good next x.object (path_steps p) stands apart) p x y stands apart
