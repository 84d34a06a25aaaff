-- The lists of objects by label after each change.
use Rattle.std.proofs.Common.{◌≡◌, ◌≢◌, ℕ, List, [], ◌∷◌, ◌++◌, inl, inr, length, Option, Some, sym, ap, ◌∙◌, subst, arith}
use Rattle.std.specs.Prelude.{slice_get, slice_set, IsTrue, Contains}
use Rattle.std.proofs.lemmas.Option.{slice_get_within}
use Rattle.itpg_base.specs.Words.{Word}
use Rattle.itpg_base.specs.Graphs.{Graph, Object}
use Rattle.itpg_base.specs.declared.object_number.ObjNo.{ObjNo}
use Rattle.itpg_base.proofs.Objects.{there, here, get_last, same_some}
use Rattle.itpg_base.proofs.Searches.{contains}
use Rattle.itpg_graph.specs.Changes.{with_object, without, dropped}
use Rattle.itpg_graph.specs.Edges.{HasNumber, AreNumbers}
use Rattle.itpg_graph.specs.Links.{LosesIfRising}
use Rattle.itpg_graph.specs.WithLabel.{StandsWith}
use Rattle.itpg_graph.specs.LabelLists.{AreHeld}
use Rattle.itpg_graph.specs.Stores.{graph_of}
use Rattle.itpg_graph.specs.declared.stored.Opened.{Opened}
use Rattle.itpg_graph.proofs.Goodness.{KeepsShape, pushed, push_is, push_keeps, changed_is, changed_keeps, changed_old, changed_other}
use Rattle.itpg_graph.proofs.Linked.{numbers_alike, no_numbers}
use Rattle.itpg_graph.proofs.Rising.{pushed_has, has_pushed, pushed_rising}
use Rattle.itpg_graph.proofs.Views.{written, dropped_view}

-- a graph without an object
pub none_held : (g : Graph) (lists : Word → List ObjNo) → g.objects ≡ [] → ((label : Word) → lists label ≡ []) → AreHeld g lists
none_held g lists none empty = record { each = λ label. subst (AreNumbers (StandsWith g label)) (sym (empty label)) (no_numbers (StandsWith g label) (λ k h. let t = there g.objects k _ h in let lt = slice_get_within g.objects k t.0 t.1 in let zero_long = ap length none in omega arith)) }

-- a new object
module _ (g : Graph) (x : Object) (stands : IsTrue x.standing) (number : ObjNo) (next : number.0 ≡ length g.objects) where
  abbrev now : Graph
  now = pushed g x

  own_list : (label : Word) → Contains x.labels label → (list : List ObjNo) → AreNumbers (StandsWith g label) list → AreNumbers (StandsWith now label) (list ++ number ∷ [])
  own_list label has list numbers = record {
    whole = λ k h. elim (push_is g x _ k h) [
      | inl before ↦ pushed_has list number k (inl (numbers.whole k before))
      | inr new ↦ pushed_has list number k (inr (new.0 ∙ sym next))
    ];
    only = λ k h. elim (has_pushed list number k h) [
      | inl before ↦ push_keeps g x _ k (numbers.only k before)
      | inr new ↦ subst (λ j. StandsWith now label j) (sym (new ∙ next)) (here (g.objects ++ x ∷ []) (length g.objects) _ x (get_last g.objects x) (stands, has))
    ];
    rising = pushed_rising list number numbers.rising (λ k h. let t = there g.objects k _ (numbers.only k h) in let lt = slice_get_within g.objects k t.0 t.1 in omega arith);
  }

  other_list : (label : Word) → (Contains x.labels label → ⊥) → (list : List ObjNo) → AreNumbers (StandsWith g label) list → AreNumbers (StandsWith now label) list
  other_list label out list = numbers_alike (StandsWith g label) (StandsWith now label) list
      (λ k h. push_keeps g x _ k h)
      (λ k h. elim (push_is g x _ k h) [ inl was ↦ was | inr new ↦ absurd (out new.1.1) ])

  pub labels_push : (was lists : Word → List ObjNo) → AreHeld g was → ((label : Word) → Contains x.labels label → lists label ≡ was label ++ number ∷ [])
      → ((label : Word) → (Contains x.labels label → ⊥) → lists label ≡ was label) → AreHeld now lists
  labels_push was lists held grown others = record {
    each = λ label. elim (contains x.labels label) [
      | inl has ↦ subst (AreNumbers (StandsWith now label)) (sym (grown label has)) (own_list label has (was label) (held.each label))
      | inr out ↦ subst (AreNumbers (StandsWith now label)) (sym (others label out)) (other_list label out (was label) (held.each label))
    ];
  }

-- a change that leaves labels alone
pub labels_changed : (g : Graph) (o : ℕ) (f : Object → Object) (lists : Word → List ObjNo) → KeepsShape f → AreHeld g lists → AreHeld (with_object g o f) lists
labels_changed g o f lists shape held = record {
  each = λ label. numbers_alike (StandsWith g label) (StandsWith (with_object g o f) label) (lists label)
      (λ k h. changed_keeps g o f _ k h (λ x q. (subst IsTrue (sym (shape.standing x)) q.0, subst (λ labels. Contains labels label) (sym (shape.labels x)) q.1)))
      (λ k h. changed_old g o f _ k h (λ x q. (subst IsTrue (shape.standing x) q.0, subst (λ labels. Contains labels label) (shape.labels x) q.1)))
      (held.each label);
}

pub labels_same : (g : Graph) (was lists : Word → List ObjNo) → AreHeld g was → ((label : Word) → lists label ≡ was label) → AreHeld g lists
labels_same g was lists held same = record { each = λ label. subst (AreNumbers (StandsWith g label)) (sym (same label)) (held.each label) }

pub labels_written : (opened : Option Opened) (objects : List Object) (o : ℕ) (s new : Object) (f : Object → Object) (lists : Word → List ObjNo) → slice_get objects o ≡ Some s → new ≡ f s → KeepsShape f
    → AreHeld (graph_of opened objects) lists → AreHeld (graph_of opened (slice_set objects o new)) lists
labels_written opened objects o s new f lists at is shape held = subst (λ g. AreHeld g lists) (sym (written opened objects o s new f at is)) (labels_changed (graph_of opened objects) o f lists shape held)

-- an object is dropped, and its number is taken out of the list of each of its labels
module _ (g : Graph) (o : ℕ) (x : Object) (at : slice_get g.objects o ≡ Some x) where
  still_has : (label : Word) (k : ℕ) → StandsWith (without g o) label k → (k ≢ o) × StandsWith g label k
  still_has label k h = elim (changed_is g o dropped _ k h) [ inl old ↦ old | inr new ↦ let s = there g.objects o _ new.1 in let never : ⊥ = cc (s.2.0) in absurd never ]

  own_label : (label : Word) → StandsWith g label o → Contains x.labels label
  own_label label h = let s = there g.objects o _ h in subst (λ labels. Contains labels label) (ap (λ y. y.labels) (same_some _ _ _ s.1 at)) s.2.1

  pub labels_dropped : (was lists : Word → List ObjNo) → AreHeld g was → ((label : Word) → Contains x.labels label → LosesIfRising (was label) o (lists label))
      → ((label : Word) → (Contains x.labels label → ⊥) → lists label ≡ was label) → AreHeld (without g o) lists
  labels_dropped was lists held loses others = record {
    each = λ label. elim (contains x.labels label) [
      | inl has ↦
          let numbers = held.each label in
          numbers_alike (λ k. HasNumber (was label) k × (k ≢ o)) (StandsWith (without g o) label) (lists label)
          (λ k h. changed_other g o dropped _ k h.1 (numbers.only k h.0))
          (λ k h. let old = still_has label k h in (numbers.whole k old.1, old.0))
          (loses label has numbers.rising)
      | inr out ↦ subst (AreNumbers (StandsWith (without g o) label)) (sym (others label out)) (numbers_alike (StandsWith g label) (StandsWith (without g o) label) (was label)
          (λ k h. changed_other g o dropped _ k (λ same. out (own_label label (subst (StandsWith g label) same h))) h)
          (λ k h. (still_has label k h).1)
          (held.each label))
    ];
  }

pub gone_labels : (opened : Option Opened) (objects : List Object) (o : ℕ) (s : Object) → slice_get objects o ≡ Some s → (gone : Object) → gone ≡ dropped s → (was lists : Word → List ObjNo)
    → AreHeld (graph_of opened objects) was → ((label : Word) → Contains s.labels label → LosesIfRising (was label) o (lists label)) → ((label : Word) → (Contains s.labels label → ⊥) → lists label ≡ was label)
    → AreHeld (graph_of opened (slice_set objects o gone)) lists
gone_labels opened objects o s at gone falls was lists held loses others =
    subst (λ g. AreHeld g lists) (sym (dropped_view opened objects o s at gone falls)) (labels_dropped (graph_of opened objects) o s at was lists held loses others)
