-- An edit takes no object's number away.
use Rattle.std.proofs.Common.{◌≡◌, ℕ, ◌≤◌, [], ◌∷◌, ◌++◌, length, ap, length-append, arith}
use Rattle.itpg_base.specs.Graphs.{Graph, Object, changed_at}
use Rattle.itpg_base.proofs.Objects.{length-changed_at}
use Rattle.itpg_edit.specs.declared.edit.Edit.{Edit}
use Rattle.itpg_edit.specs.declared.edit.Edit.TheVariants.{Begin, Extend, AddNode, AddEdge, Live, Gone, Put, Clear, Remove}
use Rattle.itpg_edit.specs.Next.{Next}

same_number : (g new : Graph) (o : ℕ) (f : Object → Object) → new ≡ record g { objects = changed_at g.objects o f } → length g.objects ≤ length new.objects
same_number g new o f is = let e = length-changed_at g.objects o f in let n = ap (λ (h : Graph). length h.objects) is in omega (arith, e, n)

one_more : (g new : Graph) (x : Object) → new ≡ record g { objects = g.objects ++ x ∷ [] } → length g.objects ≤ length new.objects
one_more g new x is = let e = length-append g.objects (x ∷ []) in let n = ap (λ (h : Graph). length h.objects) is in omega (arith, e, n)

pub next_number : (g new : Graph) (edit : Edit) → Next g edit new → length g.objects ≤ length new.objects
next_number g new (Begin name lo hi) a = let n = ap (λ (h : Graph). length h.objects) a in omega (arith, n)
next_number g new (Extend lo hi) a = let n = ap (λ (h : Graph). length h.objects) a in omega (arith, n)
next_number g new (AddNode id labels) a = one_more g new _ a
next_number g new (AddEdge id labels source target) a = one_more g new _ a.4
next_number g new (Live id from to) a = same_number g new a.0 _ a.2.is
next_number g new (Gone id from to) a = same_number g new a.0 _ a.2.is
next_number g new (Put id prop value from to) a = same_number g new a.0 _ a.2.is
next_number g new (Clear id prop from to) a = same_number g new a.0 _ a.2.is
next_number g new (Remove id) a = same_number g new a.0 _ a.2
