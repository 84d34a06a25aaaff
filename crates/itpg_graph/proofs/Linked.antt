-- The lists of edges after each change.
use Rattle.std.proofs.Common.{◌≡◌, ◌≢◌, ℕ, ◌<◌, List, [], ◌∷◌, ◌++◌, ◌⊎◌, inl, inr, length, Option, Some, None, refl, sym, ap, ◌∙◌, subst, arith, length-append}
use Rattle.std.specs.Prelude.{slice_get, IsTrue, IsSomeAnd}
use Rattle.std.proofs.lemmas.Option.{slice_get_within}
use Rattle.std.proofs.lemmas.Bool.Decides.{eqb_tells}
use Rattle.itpg_base.specs.Words.{Word}
use Rattle.itpg_base.specs.Graphs.{Graph, Object, Ends, Good, HasEnd, changed_at}
use Rattle.itpg_base.specs.declared.object_number.ObjNo.{ObjNo}
use Rattle.itpg_base.proofs.Objects.{there, here, get_push, get_last, get_changed, get_other, length-changed_at, same_some}
use Rattle.itpg_graph.specs.Changes.{new_object, with_object, without, dropped}
use Rattle.itpg_graph.specs.Edges.{LeadsBy, HasNumber, AreNumbers}
use Rattle.itpg_graph.specs.Links.{AreLinks, LosesNumber}
use Rattle.itpg_graph.proofs.Goodness.{KeepsShape, pushed, push_is, push_keeps, changed_is, changed_keeps, changed_old, changed_other}
use Rattle.itpg_graph.proofs.Lists.{there_within}
use Rattle.itpg_graph.proofs.Rising.{pushed_has, has_pushed, pushed_rising}

-- the same numbers for another set that has them
pub numbers_alike : (S T : ℕ → Type 0) (xs : List ObjNo) → ((k : ℕ) → S k → T k) → ((k : ℕ) → T k → S k) → AreNumbers S xs → AreNumbers T xs
numbers_alike S T xs there back n = record { whole = λ k h. n.whole k (back k h); only = λ k h. there k (n.only k h); rising = n.rising }

pub no_numbers : (S : ℕ → Type 0) → ((k : ℕ) → S k → ⊥) → AreNumbers S []
no_numbers S none = record { whole = λ k h. absurd (none k h); only = λ k h. absurd h; rising = tt }

-- one of the two ends
abbrev pub IsEnd : (Ends → ℕ) → Type 0
IsEnd end = (n : Ends) (a : ℕ) → end n ≡ a → (n.source ≡ a) ⊎ (n.target ≡ a)

pub source_is_end : IsEnd (λ n. n.source)
source_is_end n a e = inl e

pub target_is_end : IsEnd (λ n. n.target)
target_is_end n a e = inr e

module _ (end : Ends → ℕ) (is_end : IsEnd end) (g : Graph) (good : Good g) where
  some_end : (ends : Option Ends) (a : ℕ) → IsSomeAnd ends (λ n. end n ≡ a) → IsSomeAnd ends (λ n. (n.source ≡ a) ⊎ (n.target ≡ a))
  some_end None a h = h
  some_end (Some n) a h = is_end n a h

  pub leads_end : (o e : ℕ) → LeadsBy end g o e → HasEnd g e o
  leads_end o e h = let s = there g.objects e _ h in here g.objects e _ s.0 s.1 (s.2.0, some_end s.0.ends o s.2.1)

  -- both are numbers of objects
  leads_below : (o e : ℕ) → LeadsBy end g o e → o < length g.objects
  leads_below o e h = let s = there g.objects o _ (good.ends_stand e o (leads_end o e h)) in slice_get_within g.objects o s.0 s.1

  edge_below : (o e : ℕ) → LeadsBy end g o e → e < length g.objects
  edge_below o e h = let s = there g.objects e _ h in slice_get_within g.objects e s.0 s.1

  -- a new node
  pub links_node : (name : Word) (labels : List Word) (lists : List (List ObjNo)) → AreLinks end g lists → AreLinks end (pushed g (new_object name labels None)) (lists ++ [] ∷ [])
  links_node name labels lists links =
      let x = new_object name labels None in
      let back : (o k : ℕ) → LeadsBy end (pushed g x) o k → LeadsBy end g o k = λ o k h. elim (push_is g x _ k h) [ inl old ↦ old | inr new ↦ absurd new.1.1 ] in
      record {
        each = λ o list e. elim (get_push lists [] o list e) [
          | inl old ↦ numbers_alike (LeadsBy end g o) (LeadsBy end (pushed g x) o) list (λ k h. push_keeps g x _ k h) (λ k h. back o k h) (links.each o list old)
          | inr new ↦ subst (AreNumbers (LeadsBy end (pushed g x) o)) (sym new.1) (no_numbers _ (λ k h. let lt = leads_below o k (back o k h) in let at = new.0 in let c = links.count in omega arith))
        ];
        count = let c = links.count in omega (arith, length-append lists ([] ∷ []), length-append g.objects (x ∷ []));
      }

  -- a new edge
  pub links_edge : (name : Word) (labels : List Word) (n : Ends) (number : ObjNo) (lists : List (List ObjNo)) → number.0 ≡ length g.objects → end n < length g.objects → AreLinks end g lists
      → AreLinks end (pushed g (new_object name labels (Some n))) (changed_at lists (end n) (λ list. list ++ number ∷ []) ++ [] ∷ [])
  links_edge name labels n number lists next below links =
      let x = new_object name labels (Some n) in
      let add : List ObjNo → List ObjNo = λ list. list ++ number ∷ [] in
      let other : (o k : ℕ) → o ≢ end n → LeadsBy end (pushed g x) o k → LeadsBy end g o k = λ o k apart h. elim (push_is g x _ k h) [ inl old ↦ old | inr new ↦ absurd (apart (sym new.1.1)) ] in
      record {
        each = λ o list e. elim (get_push (changed_at lists (end n) add) [] o list e) [
          | inl old ↦ elim (eqb_tells o (end n)) [
            | inl same ↦
                let c = links.count in
                let was = there_within lists (end n) (omega arith) in
                let is : add was.0 ≡ list = same_some _ _ _ (get_changed lists (end n) add was.0 was.1) (subst (λ k. slice_get (changed_at lists (end n) add) k ≡ Some list) same.1 old) in
                let numbers = links.each (end n) was.0 was.1 in
                let own : AreNumbers (LeadsBy end (pushed g x) (end n)) (add was.0) = record {
                  whole = λ k h. elim (push_is g x _ k h) [
                    | inl before ↦ pushed_has was.0 number k (inl (numbers.whole k before))
                    | inr new ↦ pushed_has was.0 number k (inr (new.0 ∙ sym next))
                  ];
                  only = λ k h. elim (has_pushed was.0 number k h) [
                    | inl before ↦ push_keeps g x _ k (numbers.only k before)
                    | inr new ↦ subst (λ j. LeadsBy end (pushed g x) (end n) j) (sym (new ∙ next)) (here (g.objects ++ x ∷ []) (length g.objects) _ x (get_last g.objects x) (refl, refl))
                  ];
                  rising = pushed_rising was.0 number numbers.rising (λ k h. let lt = edge_below (end n) k (numbers.only k h) in omega arith);
                } in
                subst (λ k. AreNumbers (LeadsBy end (pushed g x) k) list) (sym same.1) (subst (AreNumbers (LeadsBy end (pushed g x) (end n))) is own)
            | inr apart ↦ numbers_alike (LeadsBy end g o) (LeadsBy end (pushed g x) o) list (λ k h. push_keeps g x _ k h) (λ k h. other o k apart.1 h) (links.each o list (sym (get_other lists (end n) o add apart.1) ∙ old))
          ]
          | inr new ↦
              let long = length-changed_at lists (end n) add in
              let c = links.count in
              let at = new.0 in
              subst (AreNumbers (LeadsBy end (pushed g x) o)) (sym new.1) (no_numbers _ (λ k h. let lt = leads_below o k (other o k (λ same. omega arith) h) in omega arith))
        ];
        count = let c = links.count in omega (arith, length-append (changed_at lists (end n) add) ([] ∷ []), length-changed_at lists (end n) add, length-append g.objects (x ∷ []));
      }

-- a change that leaves ends alone
pub links_changed : (end : Ends → ℕ) (g : Graph) (o : ℕ) (f : Object → Object) (lists : List (List ObjNo)) → KeepsShape f → AreLinks end g lists → AreLinks end (with_object g o f) lists
links_changed end g o f lists shape links = record {
  each = λ p list e. numbers_alike (LeadsBy end g p) (LeadsBy end (with_object g o f) p) list
      (λ k h. changed_keeps g o f _ k h (λ x q. (subst IsTrue (sym (shape.standing x)) q.0, subst (λ n. IsSomeAnd n (λ n. end n ≡ p)) (sym (shape.ends x)) q.1)))
      (λ k h. changed_old g o f _ k h (λ x q. (subst IsTrue (shape.standing x) q.0, subst (λ n. IsSomeAnd n (λ n. end n ≡ p)) (shape.ends x) q.1)))
      (links.each p list e);
  count = links.count ∙ sym (length-changed_at g.objects o f);
}

module _ (end : Ends → ℕ) (g : Graph) (o : ℕ) (x : Object) (at : slice_get g.objects o ≡ Some x) where
  -- an edge that still leads was one before, and another
  still_leads : (p k : ℕ) → LeadsBy end (without g o) p k → (k ≢ o) × LeadsBy end g p k
  still_leads p k h = elim (changed_is g o dropped _ k h) [ inl old ↦ old | inr new ↦ let s = there g.objects o _ new.1 in let never : ⊥ = cc (s.2.0) in absurd never ]

  -- a node is dropped
  pub links_without_node : x.ends ≡ None → (lists : List (List ObjNo)) → AreLinks end g lists → AreLinks end (without g o) lists
  links_without_node none lists links = record {
    each = λ p list e. numbers_alike (LeadsBy end g p) (LeadsBy end (without g o) p) list
        (λ k h. changed_other g o dropped _ k (λ same. no_edge p (subst (LeadsBy end g p) same h)) h)
        (λ k h. (still_leads p k h).1)
        (links.each p list e);
    count = links.count ∙ sym (length-changed_at g.objects o dropped);
  }
    where
      nothing : (ends : Option Ends) (p : ℕ) → ends ≡ None → IsSomeAnd ends (λ n. end n ≡ p) → ⊥
      nothing None p e h = h
      nothing (Some n) p e h = let never : ⊥ = cc in never

      no_edge : (p : ℕ) → LeadsBy end g p o → ⊥
      no_edge p h = let s = there g.objects o _ h in nothing s.0.ends p (ap (λ y. y.ends) (same_some _ _ _ s.1 at) ∙ none) s.2.1

  -- an edge is dropped, and its number is taken out of the list at its end
  pub links_without_edge : (n : Ends) → x.ends ≡ Some n → (lists new : List (List ObjNo)) → end n < length g.objects → LosesNumber lists (end n) o new → AreLinks end g lists → AreLinks end (without g o) new
  links_without_edge n ends lists new below loses links = record {
    each = λ p list e. elim (eqb_tells p (end n)) [
      | inl same ↦
          let c = links.count in
          let was = there_within lists (end n) (omega arith) in
          let numbers = links.each (end n) was.0 was.1 in
          let lost = loses.own was.0 list was.1 (subst (λ k. slice_get new k ≡ Some list) same.1 e) numbers.rising in
          subst (λ k. AreNumbers (LeadsBy end (without g o) k) list) (sym same.1) (numbers_alike (λ k. HasNumber was.0 k × (k ≢ o)) (LeadsBy end (without g o) (end n)) list
          (λ k h. changed_other g o dropped _ k h.1 (numbers.only k h.0))
          (λ k h. let old = still_leads (end n) k h in (numbers.whole k old.1, old.0))
          lost)
      | inr apart ↦ numbers_alike (LeadsBy end g p) (LeadsBy end (without g o) p) list
          (λ k h. changed_other g o dropped _ k (λ same. apart.1 (own_end p (subst (LeadsBy end g p) same h))) h)
          (λ k h. (still_leads p k h).1)
          (links.each p list (sym (loses.others p apart.1) ∙ e))
    ];
    count = loses.count ∙ links.count ∙ sym (length-changed_at g.objects o dropped);
  }
    where
      the_end : (ends : Option Ends) (p : ℕ) → ends ≡ Some n → IsSomeAnd ends (λ m. end m ≡ p) → p ≡ end n
      the_end None p e h = absurd h
      the_end (Some m) p e h = let same : m ≡ n = cc in sym h ∙ ap end same

      own_end : (p : ℕ) → LeadsBy end g p o → p ≡ end n
      own_end p h = let s = there g.objects o _ h in the_end s.0.ends p (ap (λ y. y.ends) (same_some _ _ _ s.1 at) ∙ ends) s.2.1
