-- The marks of plain watches: what an edit leaves of them, and that nothing else of a watch changes with its mark.
use Rattle.std.proofs.Common.{◌≡◌, inl, inr, ℕ, zero, suc, List, [], ◌∷◌, Bool, false, refl, sym, ap, ◌∙◌, subst}
use Rattle.std.specs.List.{AllZip}
use Rattle.itpg_base.specs.Lists.{Among, Ordered}
use Rattle.itpg_base.specs.declared.touch.Touch.{Touch}
use Rattle.label_scope.specs.declared.scope.Scope.TheVariants.{All}
use Rattle.label_scope.specs.Footprints.{footprint}
use Rattle.standing_queries.proofs.DecidedTouch.{decide_meets}
use Rattle.itpg_session.specs.PlainWatches.{PlainWatch, NamesDiffer, marked_at, IsMarkedAfter, AreMarkedAfter}

-- ---- after an edit each watch has exactly one mark

module _ (touch : Touch) where
  one_after : (old x y : PlainWatch) → IsMarkedAfter touch old x → IsMarkedAfter touch old y → x ≡ y
  one_after old x y a b = a.same ∙ ap (λ (mark : Bool). record old { fresh = mark }) marks ∙ sym b.same
    where
      marks : x.fresh ≡ y.fresh
      marks = elim (decide_meets (footprint old.query.path All All) touch) [
        | inl met ↦ a.gone met ∙ sym (b.gone met)
        | inr unmet ↦ a.stays unmet ∙ sym (b.stays unmet)
      ]

  some_after : (old : PlainWatch) → (new : PlainWatch) × IsMarkedAfter touch old new
  some_after old = elim (decide_meets (footprint old.query.path All All) touch) [
    | inl met ↦ (record old { fresh = false }, record { same = refl; gone = λ also. refl; stays = λ unmet. absurd (unmet met) })
    | inr unmet ↦ (old, record { same = refl; gone = λ met. absurd (unmet met); stays = λ also. refl })
  ]

  pub one_marked : (old xs ys : List PlainWatch) → AreMarkedAfter touch old xs → AreMarkedAfter touch old ys → xs ≡ ys
  one_marked [] [] [] a b = refl
  one_marked [] [] (y ∷ ys) a b = absurd b
  one_marked [] (x ∷ xs) ys a b = absurd a
  one_marked (w ∷ old) [] ys a b = absurd a
  one_marked (w ∷ old) (x ∷ xs) [] a b = absurd b
  one_marked (w ∷ old) (x ∷ xs) (y ∷ ys) a b =
      ap (λ (v : PlainWatch). v ∷ xs) (one_after w x y a.0 b.0) ∙ ap (λ (vs : List PlainWatch). y ∷ vs) (one_marked old xs ys a.1 b.1)

  pub some_marked : (old : List PlainWatch) → (new : List PlainWatch) × AreMarkedAfter touch old new
  some_marked [] = ([], tt)
  some_marked (w ∷ old) = let one = some_after w in let rest = some_marked old in (one.0 ∷ rest.0, (one.1, rest.1))

-- ---- where nothing changes but marks

abbrev pub IsRemarked : PlainWatch → PlainWatch → Type 0
IsRemarked old new = new ≡ record old { fresh = new.fresh }

abbrev pub AreRemarked : List PlainWatch → List PlainWatch → Type 0
AreRemarked old new = AllZip IsRemarked old new

pub remarked_same : (ws : List PlainWatch) → AreRemarked ws ws
remarked_same [] = tt
remarked_same (w ∷ ws) = (refl, remarked_same ws)

pub remarked_at : (i : ℕ) (mark : Bool) (ws : List PlainWatch) → AreRemarked ws (marked_at i mark ws)
remarked_at i mark [] = tt
remarked_at zero mark (w ∷ ws) = (refl, remarked_same ws)
remarked_at (suc i) mark (w ∷ ws) = (refl, remarked_at i mark ws)

pub remarked_after : (touch : Touch) (old new : List PlainWatch) → AreMarkedAfter touch old new → AreRemarked old new
remarked_after touch [] [] a = tt
remarked_after touch [] (w ∷ new) a = absurd a
remarked_after touch (v ∷ old) [] a = absurd a
remarked_after touch (v ∷ old) (w ∷ new) a = (a.0.same, remarked_after touch old new a.1)

pub among_remarked : (old new : List PlainWatch) → AreRemarked old new → (w : PlainWatch) → Among new w → (v : PlainWatch) × Among old v × IsRemarked v w
among_remarked [] [] a w h = absurd h
among_remarked [] (x ∷ new) a w h = absurd a
among_remarked (v ∷ old) [] a w h = absurd h
among_remarked (v ∷ old) (x ∷ new) a w (inl e) = (v, inl refl, subst (IsRemarked v) e a.0)
among_remarked (v ∷ old) (x ∷ new) a w (inr h) = let r = among_remarked old new a.1 w h in (r.0, inr r.1, r.2)

pub differ_remarked : (old new : List PlainWatch) → AreRemarked old new → Ordered NamesDiffer old → Ordered NamesDiffer new
differ_remarked [] [] a d = tt
differ_remarked [] (x ∷ new) a d = absurd a
differ_remarked (v ∷ old) [] a d = tt
differ_remarked (v ∷ old) (x ∷ new) a d = (
  λ y h e.
      let r = among_remarked old new a.1 y h in
      d.0 r.0 r.1 (sym (ap (λ (u : PlainWatch). u.name) a.0) ∙ e ∙ ap (λ (u : PlainWatch). u.name) r.2),
  differ_remarked old new a.1 d.1,
)

-- what holds of each watch whatever its mark holds of each still
pub each_remarked : (P : PlainWatch → Type 0) → ((w : PlainWatch) (mark : Bool) → P w → P (record w { fresh = mark })) → (old new : List PlainWatch) → AreRemarked old new
    → ((w : PlainWatch) → Among old w → P w) → (w : PlainWatch) → Among new w → P w
each_remarked P keeps old new a all w h = let r = among_remarked old new a w h in subst P (sym r.2) (keeps r.0 w.fresh (all r.0 r.1))
