-- What an edit leaves right of what the follows keep, and what is right of one follow more or less.
use Rattle.std.proofs.Common.{◌≡◌, inl, inr, ⊎_elim, ℕ, zero, suc, List, [], ◌∷◌, ◌++◌, Bool, true, false, length, refl, sym, ap, subst, ◌∙◌}
use Rattle.std.specs.Prelude.{slice_get, IsSomeAnd}
use Rattle.std.specs.List.{AllZip}
use Rattle.std.specs.Prelude.{Option, nat_eq, if◌then◌else◌}
use Rattle.std.specs.Cmp.Lexicographic.{pointwise}
use Rattle.itpg_base.specs.Words.{Word}
use Rattle.itpg_base.specs.Graphs.{Graph, Good, Stands}
use Rattle.itpg_base.specs.Lists.{Among}
use Rattle.itpg_base.proofs.Lists.{among_append}
use Rattle.itpg_base.specs.declared.object_number.ObjNo.{ObjNo}
use Rattle.itpg_graph.specs.Edges.{AreNumbers}
use Rattle.itpg_edit.specs.declared.edit.Edit.{Edit}
use Rattle.itpg_edit.specs.Next.{Next}
use Rattle.path_ast.specs.Terms.{PathTerm, QueryTerm}
use Rattle.relation_rows.specs.declared.rows.Row.{Row}
use Rattle.relation_rows.specs.Answered.{Answered, pairs, times}
use Rattle.source_rows.specs.Steps.{path_steps}
use Rattle.source_rows.specs.Reach.{Reach}
use Rattle.source_rows.specs.Touched.{Meets, AreTouched, IsUntouched}
use Rattle.source_rows.specs.declared.touched.Touched.{Touched}
use Rattle.source_rows.specs.Follows.{Follow, Entry, new_follow, with_entry, without, AreUnmet, IsUnmet}
use Rattle.path_eval.specs.Nearby.{AreRowsFrom, IsTooWideNear}
use Rattle.itpg_session.specs.Questions.{HasRowsFrom}
use Rattle.itpg_session.specs.Keeping.{IsEntryRight, AreFollowsRight}
use Rattle.itpg_session.specs.Following.{TouchesSome, IsSpared, IsToSpare}

-- the laws of what an edit that touches nothing near an object leaves
pub record SparingLaws : Type 0 where
  pub list : (g new : Graph) (edit : Edit) (o : ℕ) (bound : Option ℕ) (objects : List ObjNo) → Good g → Stands g o → Next g edit new → IsUntouched g edit o bound → AreNumbers (Reach g o bound) objects → AreNumbers (Reach new o bound) objects
  pub stands : (g new : Graph) (edit : Edit) (o : ℕ) (bound : Option ℕ) → Good g → Stands g o → Next g edit new → IsUntouched g edit o bound → Stands new o
  pub rows : (g new : Graph) (edit : Edit) (p : PathTerm) (o : ℕ) (rows : List Row) → Good g → Stands g o → Next g edit new → IsUntouched g edit o (path_steps p) → AreRowsFrom g p o rows → AreRowsFrom new p o rows
  pub fits : (g new : Graph) (edit : Edit) (limit : ℕ) (p : PathTerm) (o : ℕ) → Good g → Stands g o → Next g edit new → IsUntouched g edit o (path_steps p) → IsTooWideNear new limit p o → IsTooWideNear g limit p o

-- ---- an edit

module _ (laws : SparingLaws) (g new : Graph) (edit : Edit) (limit : ℕ) (good : Good g) (next : Next g edit new) where
  rows_after : (q : QueryTerm) (o : ℕ) (rows : Answered) → Stands g o → IsUntouched g edit o (path_steps q.path) → HasRowsFrom g limit q o rows → HasRowsFrom new limit q o rows
  rows_after q o (pairs rows) stands untouched has = (λ wide. has.0 (laws.fits g new edit limit q.path o good stands next untouched wide), laws.rows g new edit q.path o rows good stands next untouched has.1)
  rows_after q o (times rows) stands untouched has = absurd has

  entry_after : (q : QueryTerm) (e : Entry) → (TouchesSome g edit e.objects → ⊥) → IsEntryRight g limit q e → IsEntryRight new limit q e
  entry_after q e none right =
      let untouched : IsUntouched g edit e.source (path_steps q.path) = (λ a reached touched. none (a, right.reach.whole a reached, touched)) in
      record {
        stands = laws.stands g new edit e.source (path_steps q.path) good right.stands next untouched;
        reach = laws.list g new edit e.source (path_steps q.path) e.objects good right.stands next untouched right.reach;
        rows = rows_after q e.source e.rows right.stands untouched right.rows;
      }

  pub right_spared : (fs hs : List Follow) → AllZip (IsSpared g edit) fs hs → AreFollowsRight g limit fs → AreFollowsRight new limit hs
  right_spared [] [] all right f e a b = absurd a
  right_spared [] (h ∷ hs) all right f e a b = absurd all
  right_spared (x ∷ fs) [] all right f e a b = absurd all
  right_spared (x ∷ fs) (h ∷ hs) all right f e (inl is) b =
      let kept = (all.0.entries e).0 (subst (λ (y : Follow). Among y.entries e) (sym is) b) in
      subst (λ (q : QueryTerm). IsEntryRight new limit q e) (sym all.0.query ∙ ap (λ (y : Follow). y.query) is) (entry_after x.query e kept.1 (right x e (inl refl) kept.0))
  right_spared (x ∷ fs) (h ∷ hs) all right f e (inr a) b = right_spared fs hs all.1 (λ y d c k. right y d (inr c) k) f e a b

-- what isn't met of what is touched is spared
module _ (g : Graph) (edit : Edit) (touched : Touched) (are : AreTouched g edit touched) where
  met_touches : (objects : List ObjNo) → TouchesSome g edit objects → Meets touched objects
  met_touches objects h = (h.0, h.1, (are h.0).1 h.2)

  touches_met : (objects : List ObjNo) → Meets touched objects → TouchesSome g edit objects
  touches_met objects h = (h.0, h.1, (are h.0).0 h.2)

  unmet_one : (f h : Follow) → IsUnmet touched f h → IsSpared g edit f h
  unmet_one f h u = record {
    name = u.name;
    query = u.query;
    entries = λ e. (
      (λ a. let k = (u.entries e).0 a in (k.0, λ t. k.1 (met_touches e.objects t))),
      (λ k. (u.entries e).1 (k.0, λ t. k.1 (touches_met e.objects t))),
    );
  }

  pub unmet_spared : (fs hs : List Follow) → AreUnmet touched fs hs → AllZip (IsSpared g edit) fs hs
  unmet_spared [] [] h = tt
  unmet_spared [] (y ∷ hs) h = absurd h
  unmet_spared (x ∷ fs) [] h = absurd h
  unmet_spared (x ∷ fs) (y ∷ hs) h = (unmet_one x y h.0, unmet_spared fs hs h.1)

-- so is what is to be spared
pub spared : (g : Graph) (edit : Edit) (touched : Touched) (fs hs : List Follow) → IsToSpare g edit touched fs → AreUnmet touched fs hs → AllZip (IsSpared g edit) fs hs
spared g edit touched fs hs (inl are) h = unmet_spared g edit touched are fs hs h
spared g edit touched [] [] (inr none) h = tt
spared g edit touched [] (y ∷ hs) (inr none) h = absurd h
spared g edit touched (x ∷ fs) hs (inr none) h = let no : ⊥ = cc in absurd no

-- where nothing is followed, all is right and spared
pub none_right : (g : Graph) (limit : ℕ) (fs : List Follow) → length fs ≡ 0 → AreFollowsRight g limit fs
none_right g limit [] e = λ f d a b. absurd a
none_right g limit (x ∷ fs) e = let no : ⊥ = cc in absurd no

pub none_spared : (g : Graph) (edit : Edit) (fs : List Follow) → length fs ≡ 0 → AllZip (IsSpared g edit) fs fs
none_spared g edit [] e = tt
none_spared g edit (x ∷ fs) e = let no : ⊥ = cc in absurd no

-- ---- a follow more, a follow less, an entry more

module _ (g : Graph) (limit : ℕ) where
  pub right_more : (fs : List Follow) (name : Word) (q : QueryTerm) → AreFollowsRight g limit fs → AreFollowsRight g limit (fs ++ new_follow name q ∷ [])
  right_more fs name q right f e a b =
      ⊎_elim (λ h. right f e h b) (λ l. ⊎_elim (λ is. absurd (subst (λ (y : Follow). Among y.entries e) (sym is) b)) (λ k. absurd k) l) (among_append fs (new_follow name q ∷ []) f a)

  one_left : (t : Bool) (x : Follow) (rest left : List Follow) (f : Follow) → ((h : Follow) → Among left h → Among rest h) → Among (if t then left else x ∷ left) f → Among (x ∷ rest) f
  one_left true x rest left f on a = inr (on f a)
  one_left false x rest left f on (inl is) = inl is
  one_left false x rest left f on (inr a) = inr (on f a)

  without_among : (name : Word) (fs : List Follow) (f : Follow) → Among (without name fs) f → Among fs f
  without_among name [] f a = a
  without_among name (x ∷ fs) f a = one_left (pointwise nat_eq x.name name) x fs (without name fs) f (λ h b. without_among name fs h b) a

  pub right_less : (fs : List Follow) (name : Word) → AreFollowsRight g limit fs → AreFollowsRight g limit (without name fs)
  right_less fs name right f e a b = right f e (without_among name fs f a) b

  pub right_entered : (fs : List Follow) (i : ℕ) (d : Entry) → IsSomeAnd (slice_get fs i) (λ f. IsEntryRight g limit f.query d) → AreFollowsRight g limit fs → AreFollowsRight g limit (with_entry i d fs)
  right_entered [] i d new right f e a b = absurd a
  right_entered (x ∷ fs) zero d new right f e (inl is) b =
      let own : Among (x.entries ++ d ∷ []) e = subst (λ (y : Follow). Among y.entries e) (sym is) b in
      subst (λ (y : Follow). IsEntryRight g limit y.query e) is
      (⊎_elim (λ h. right x e (inl refl) h) (λ l. ⊎_elim (λ same. subst (λ (c : Entry). IsEntryRight g limit x.query c) same new) (λ k. absurd k) l) (among_append x.entries (d ∷ []) e own))
  right_entered (x ∷ fs) zero d new right f e (inr a) b = right f e (inr a) b
  right_entered (x ∷ fs) (suc i) d new right f e (inl is) b = right f e (inl is) b
  right_entered (x ∷ fs) (suc i) d new right f e (inr a) b = right_entered fs i d new (λ y c h k. right y c (inr h) k) f e a b
