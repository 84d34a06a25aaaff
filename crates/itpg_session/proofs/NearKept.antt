-- What is kept of the rows that were found from an object.
use Rattle.std.proofs.Common.{◌≡◌, ◌⊎◌, inl, inr, ℕ, zero, suc, List, [], ◌∷◌, Option, None, Some, refl, sym, ap, subst, ◌∙◌}
use Rattle.std.specs.Prelude.{◌↔◌, slice_get, IsSomeAnd, IfSome, IsNone, IsSome}
use Rattle.itpg_base.specs.Graphs.{Graph}
use Rattle.itpg_base.proofs.Lists.{append_second}
use Rattle.path_ast.specs.Terms.{QueryTerm}
use Rattle.source_rows.specs.Follows.{Follow, Entry, with_entry, IsKept, IsShort}
use Rattle.itpg_session.specs.PlainFollows.{plain_follows}
use Rattle.itpg_session.specs.Keeping.{IsEntryRight, AreFollowsRight}
use Rattle.itpg_session.specs.Machine.{Standing}
use Rattle.itpg_session.specs.Following.{GainsAt, LacksRoom, KeepsOrLacks}
use Rattle.itpg_session.proofs.FollowLists.{follows_entered}
use Rattle.itpg_session.proofs.NamedLists.{found_at}
use Rattle.itpg_session.proofs.Sparing.{right_entered}

-- what holds of the query of the follow at a place
pub of_query : (P : QueryTerm → Type 0) (fs : List Follow) (place : ℕ) (q : QueryTerm) → IsSomeAnd (slice_get fs place) (λ f. f.query ≡ q) → P q → IsSomeAnd (slice_get fs place) (λ f. P f.query)
of_query P [] place q is p = absurd is
of_query P (f ∷ fs) zero q is p = subst P (sym is) p
of_query P (f ∷ fs) (suc place) q is p = of_query P fs place q is p

-- an entry more is kept
entered_kept : (fs : List Follow) (place : ℕ) (d : Entry) → IsSomeAnd (slice_get fs place) (λ f. Unit {0}) → IsKept (with_entry place d fs) place d.source
entered_kept [] place d there = absurd there
entered_kept (f ∷ fs) zero d there = (d, append_second f.entries (d ∷ []) d (inl refl), refl)
entered_kept (f ∷ fs) (suc place) d there = entered_kept fs place d there

some_there : (P : Follow → Type 0) (fs : List Follow) (place : ℕ) → IsSomeAnd (slice_get fs place) P → IsSomeAnd (slice_get fs place) (λ f. Unit {0})
some_there P [] place h = absurd h
some_there P (f ∷ fs) zero h = tt
some_there P (f ∷ fs) (suc place) h = some_there P fs place h

-- the entry was kept, or handed back
module _ {X : Type 0} (Q : X → Type 0) (g : Graph) (limit : ℕ) (fs hs : List Follow) (place : ℕ) (d : Entry) where
  pub kept_right : (back : Option X) → (IsNone back → hs ≡ with_entry place d fs) → IfSome back (λ x. Q x × (hs ≡ fs)) → IsSomeAnd (slice_get fs place) (λ f. IsEntryRight g limit f.query d) → AreFollowsRight g limit fs → AreFollowsRight g limit hs
  kept_right None kept handed new right = subst (AreFollowsRight g limit) (sym (kept refl)) (right_entered g limit fs place d new right)
  kept_right (Some x) kept handed new right = subst (AreFollowsRight g limit) (sym handed.1) right

  pub kept_plain : (back : Option X) → (IsNone back → hs ≡ with_entry place d fs) → IfSome back (λ x. Q x × (hs ≡ fs)) → plain_follows hs ≡ plain_follows fs
  kept_plain None kept handed = ap plain_follows (kept refl) ∙ follows_entered fs place d
  kept_plain (Some x) kept handed = ap plain_follows handed.1

  pub kept_gains : (back : Option X) → (IsNone back → hs ≡ with_entry place d fs) → IfSome back (λ x. Q x × (hs ≡ fs)) → GainsAt place d.source fs hs ⊎ (hs ≡ fs)
  kept_gains None kept handed = inl (record { entry = d; of = refl; is = kept refl })
  kept_gains (Some x) kept handed = inr handed.1

  -- it is kept, or there was no room
  pub kept_or_short : (back : Option X) → (IsNone back → hs ≡ with_entry place d fs) → (IsSome back ↔ IsShort fs d.objects d.rows) → IsSomeAnd (slice_get fs place) (λ f. IsEntryRight g limit f.query d)
      → IsKept hs place d.source ⊎ IsSomeAnd (slice_get fs place) (λ f. IsEntryRight g limit f.query d × IsShort fs d.objects d.rows)
  kept_or_short None kept short new = inl (subst (λ (xs : List Follow). IsKept xs place d.source) (sym (kept refl)) (entered_kept fs place d (some_there _ fs place new)))
  kept_or_short (Some x) kept short new =
      let r = found_at (λ f. IsEntryRight g limit f.query d) fs place new in
      inr (subst (λ o. IsSomeAnd o (λ f. IsEntryRight g limit f.query d × IsShort fs d.objects d.rows)) (sym r.2) (r.3, short.0 refl))

-- so that the session keeps rows of the object, or lacks room
pub keeps_or_lacks : (old new : Standing) (place : ℕ) (d : Entry) → IsKept new.follows place d.source ⊎ IsSomeAnd (slice_get old.follows place) (λ f. IsEntryRight old.machine.graph old.limit f.query d × IsShort old.follows d.objects d.rows) → KeepsOrLacks place d.source old new
keeps_or_lacks old new place d (inl kept) = inl kept
keeps_or_lacks old new place d (inr short) =
    let r = found_at (λ f. IsEntryRight old.machine.graph old.limit f.query d × IsShort old.follows d.objects d.rows) old.follows place short in
    inr (subst (λ o. IsSomeAnd o (λ f. LacksRoom old f.query d.source)) (sym r.2) (record {
      answer = d.rows;
      rows = (r.3).0.rows;
      objects = d.objects;
      reach = (r.3).0.reach;
      short = (r.3).1;
    }))
