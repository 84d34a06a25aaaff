-- What is told of repetitions, one list behind another, and what follows of each.
use Rattle.std.proofs.Common.{◌≡◌, ℕ, List, [], ◌∷◌, ◌++◌, Option, Some, None, Result, Ok, Err, inl, inr, refl, sym, ◌∙◌, ap, subst, append_assoc, append-nil}
use Rattle.std.specs.Prelude.{OnOk}
use Rattle.itpg_base.specs.Graphs.{Graph}
use Rattle.itpg_base.specs.Lists.{Among}
use Rattle.itpg_base.proofs.Lists.{among_append, append_first, append_second}
use Rattle.path_ast.specs.Terms.{PathTerm}
use Rattle.answer_hints.specs.Repeated.{Repeating, IsFound, IsFinding, Told, told_at, told_of, top_repetitions, AreTold, TellsOf, IsCertain, AllAreGiven}

module _ (g : Graph) (limit : ℕ) where
  told_append : (rs ss : List Repeating) (xs ys : List Told) → AreTold g limit rs xs → AreTold g limit ss ys → AreTold g limit (rs ++ ss) (xs ++ ys)
  told_append [] ss xs ys a b = subst (λ (v : List Told). AreTold g limit ss (v ++ ys)) (sym a) b
  told_append (r ∷ rs) ss xs ys a b =
      let rest = a.2 in
      (a.0, a.1, (rest.0 ++ ys, told_append rs ss rest.0 ys rest.1 b, ap (λ (v : List Told). v ++ ys) rest.2 ∙ append_assoc (told_of r a.0) rest.0 ys))

  pub tells_none : (told : List Told) → TellsOf g limit [] told told
  tells_none told = ([], refl, sym (append-nil told))

  -- first what is told of the one, then of the other
  pub tells_then : (rs ss : List Repeating) (old mid new : List Told) → TellsOf g limit rs old mid → TellsOf g limit ss mid new → TellsOf g limit (rs ++ ss) old new
  tells_then rs ss old mid new a b =
      (a.0 ++ b.0, told_append rs ss a.0 b.0 a.1 b.1, b.2 ∙ ap (λ (v : List Told). v ++ b.0) a.2 ∙ append_assoc old a.0 b.0)

  pub tells_both : {T E : Type 0} (result : Result T E) (rs ss : List Repeating) (old mid new : List Told) → TellsOf g limit rs old mid → OnOk result (TellsOf g limit ss mid new)
      → OnOk result (TellsOf g limit (rs ++ ss) old new)
  tells_both (Ok v) rs ss old mid new a b = tells_then rs ss old mid new a b
  tells_both (Err e) rs ss old mid new a b = tt

  -- what is told of one repetition
  pub tells_one : (r : Repeating) (found : Option ℕ) (old new : List Told) → IsFinding g limit r found → new ≡ old ++ told_of r found → TellsOf g limit (r ∷ []) old new
  tells_one r found old new is e = (told_of r found, (found, is, ([], refl, sym (append-nil (told_of r found)))), e)

  -- behind nothing that is all
  pub told_alone : (rs : List Repeating) (old new : List Told) → old ≡ [] → TellsOf g limit rs old new → AreTold g limit rs new
  told_alone rs old new none a = subst (AreTold g limit rs) (sym (a.2 ∙ ap (λ (v : List Told). v ++ a.0) none)) a.1

  -- ---- what follows of each

  certain_of : (rs : List Repeating) (told : List Told) → AreTold g limit rs told → (t : Told) → Among told t
      → (r : Repeating) × Among rs r × IsFound g limit r t.times × (t ≡ told_at r t.times)
  certain_of [] told a t h = absurd (subst (λ (v : List Told). Among v t) a h)
  certain_of (r ∷ rs) told a t h =
      let rest = a.2 in
      elim (among_append (told_of r a.0) rest.0 t (subst (λ (v : List Told). Among v t) rest.2 h)) [
        | inl here ↦ of_one a.0 a.1 here
        | inr later ↦ let c = certain_of rs rest.0 rest.1 t later in (c.0, inr c.1, c.2, c.3)
      ]
    where
      of_one : (found : Option ℕ) → IsFinding g limit r found → Among (told_of r found) t → (s : Repeating) × Among (r ∷ rs) s × IsFound g limit s t.times × (t ≡ told_at s t.times)
      of_one None is here = absurd here
      of_one (Some k) is (inl e) =
          let same : k ≡ t.times = ap (λ (v : Told). v.times) e in
          (r, inl refl, subst (λ (n : ℕ). IsFound g limit r n) same is, sym e ∙ ap (told_at r) same)
      of_one (Some k) is (inr h) = absurd h

  pub certain : (p : PathTerm) (told : List Told) → AreTold g limit (top_repetitions p) told → (t : Told) → Among told t → IsCertain g p t
  certain p told a t h = let c = certain_of (top_repetitions p) told a t h in (c.0, c.1, c.2.enough, c.3)

  given_of : (one : (r : Repeating) (j k : ℕ) → IsFound g limit r j → IsFound g limit r k → j ≡ k) (rs : List Repeating) (told : List Told) → AreTold g limit rs told
      → (r : Repeating) (k : ℕ) → Among rs r → IsFound g limit r k → Among told (told_at r k)
  given_of one [] told a r k i f = absurd i
  given_of one (s ∷ rs) told a r k (inl e) f =
      let rest = a.2 in
      subst (λ (v : List Told). Among v (told_at r k)) (sym rest.2) (append_first (told_of s a.0) rest.0 (told_at r k) (of_one a.0 a.1))
    where
      of_one : (found : Option ℕ) → IsFinding g limit s found → Among (told_of s found) (told_at r k)
      of_one None is = absurd (is k (subst (λ (v : Repeating). IsFound g limit v k) (sym e) f))
      of_one (Some j) is = inl (ap (told_at s) (one s j k is (subst (λ (v : Repeating). IsFound g limit v k) (sym e) f)) ∙ ap (λ (v : Repeating). told_at v k) e)
  given_of one (s ∷ rs) told a r k (inr i) f =
      let rest = a.2 in
      subst (λ (v : List Told). Among v (told_at r k)) (sym rest.2) (append_second (told_of s a.0) rest.0 (told_at r k) (given_of one rs rest.0 rest.1 r k i f))

  pub given : (one : (r : Repeating) (j k : ℕ) → IsFound g limit r j → IsFound g limit r k → j ≡ k) (p : PathTerm) (told : List Told)
      → AreTold g limit (top_repetitions p) told → AllAreGiven g limit p told
  given one p told a = λ r k i f. given_of one (top_repetitions p) told a r k i f
