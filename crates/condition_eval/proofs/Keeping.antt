-- Those of rising objects of which a test holds at each moment, one after the other.
use Rattle.std.proofs.Common.{◌≡◌, ◌↔◌, ⊎_elim, ℕ, ◌+◌, ◌<◌, ◌≤◌, ℤ, List, [], ◌∷◌, ◌++◌, length, slice_index_or, take, true, false, true≢false, sym, ◌∙◌, subst}
use Rattle.std.specs.Prelude.{Bool, IsTrue}
use Rattle.std.proofs.lemmas.List.{take_more, take_all}
use Rattle.itpg_base.specs.declared.object_number.ObjNo.{ObjNo}
use Rattle.itpg_base.specs.Graphs.{Graph}
use Rattle.itpg_base.specs.Lists.{Among}
use Rattle.itpg_base.proofs.Lists.{among_append, append_first, append_second, append_ordered, ordered_at}
use Rattle.path_ast.specs.Terms.{TestTerm, Conjunction}
use Rattle.path_ast.specs.Meaning.{Sat}
use Rattle.relation_rows.specs.declared.times.OneRow.{OneRow}
use Rattle.relation_rows.specs.Relations.{Rise, IsOneOf}
use Rattle.relation_rows.proofs.Runs.{times_alike}
use Rattle.condition_eval.specs.Filtered.{AreThoseWith}
use Rattle.condition_eval.specs.Marking.{AreMarks}
use Rattle.condition_eval.specs.Tested.{HoldsAt}
use Rattle.condition_eval.proofs.Marked.{point}

none_taken : (xs : List ObjNo) (o : ObjNo) → Among (take 0 xs) o → ⊥
none_taken [] o h = h
none_taken (x ∷ xs) o h = h

module _ (c : TestTerm) (g : Graph) (objects : List ObjNo) (rise : Rise objects) where
  pub none_kept : (kept : List ObjNo) → kept ≡ [] → AreThoseWith c g (take 0 objects) kept
  none_kept kept e = subst (λ (v : List ObjNo). AreThoseWith c g (take 0 objects) v) (sym e)
      (record { rise = tt; there = λ o i. absurd i; holds = λ o i. absurd i; whole = λ o i. absurd (none_taken objects o i) })

  module _ (i : ℕ) (d : ObjNo) (lt : i < length objects) (kept : List ObjNo) (f : AreThoseWith c g (take i objects) kept) (b : Bool) (same : (t : ℤ) → IsTrue b ↔ Sat c g (point (slice_index_or objects i d) t)) where
    abbrev one : ObjNo
    one = slice_index_or objects i d

    more : take (i + 1) objects ≡ take i objects ++ one ∷ []
    more = take_more objects i d lt

    pub one_left : b ≡ false → AreThoseWith c g (take (i + 1) objects) kept
    one_left out = subst (λ (v : List ObjNo). AreThoseWith c g v kept) (sym more) (record {
      rise = f.rise;
      there = λ o h. append_first (take i objects) (one ∷ []) o (f.there o h);
      holds = f.holds;
      whole = λ o h t s. ⊎_elim
          (λ a. f.whole o a t s)
          (λ a. ⊎_elim (λ (e : one ≡ o). absurd (true≢false (sym ((same t).1 (subst (λ (v : ObjNo). Sat c g (point v t)) (sym e) s)) ∙ out))) (λ k. absurd k) a)
          (among_append (take i objects) (one ∷ []) o h);
    })

    -- the next one is behind all that are kept
    kept_below : (o p : ObjNo) → Among kept o → Among (one ∷ []) p → o.0 < p.0
    kept_below o p h k = ⊎_elim
        (λ (q : one ≡ p). subst (λ (v : ObjNo). o.0 < v.0) q (ordered_at (λ (o p : ObjNo). o.0 < p.0) objects i d rise lt o (f.there o h)))
        (λ n. absurd n)
        k

    pub one_kept : b ≡ true → (next : List ObjNo) → next ≡ kept ++ slice_index_or objects i d ∷ [] → AreThoseWith c g (take (i + 1) objects) next
    one_kept inside next e = subst (λ (v : List ObjNo). AreThoseWith c g (take (i + 1) objects) v) (sym e) (subst (λ (v : List ObjNo). AreThoseWith c g v (kept ++ one ∷ [])) (sym more) (record {
      rise = append_ordered (λ (o p : ObjNo). o.0 < p.0) kept (one ∷ []) f.rise (λ o k. absurd k, tt) kept_below;
      there = λ o h. ⊎_elim (λ a. append_first (take i objects) (one ∷ []) o (f.there o a)) (λ a. append_second (take i objects) (one ∷ []) o a) (among_append kept (one ∷ []) o h);
      holds = λ o h t. ⊎_elim (λ a. f.holds o a t) (λ a. ⊎_elim (λ (q : one ≡ o). subst (λ (v : ObjNo). Sat c g (point v t)) q ((same t).0 inside)) (λ n. absurd n) a) (among_append kept (one ∷ []) o h);
      whole = λ o h t s. ⊎_elim (λ a. append_first kept (one ∷ []) o (f.whole o a t s)) (λ a. append_second kept (one ∷ []) o a) (among_append (take i objects) (one ∷ []) o h);
    }))

  pub all_kept : (i : ℕ) (kept : List ObjNo) → length objects ≤ i → AreThoseWith c g (take i objects) kept → AreThoseWith c g objects kept
  all_kept i kept le = subst (λ (v : List ObjNo). AreThoseWith c g v kept) (take_all i objects le)

-- the marks of a test on those of which another holds are marks of both on all
pub filtered_marks : (g : Graph) (c d : TestTerm) (objects those : List ObjNo) (marks : List OneRow) → AreThoseWith c g objects those → AreMarks those (HoldsAt d g) marks → AreMarks objects (HoldsAt (Conjunction c d) g) marks
filtered_marks g c d objects those marks kept =
    times_alike (λ o t. IsOneOf those o × HoldsAt d g (record { object = o; moment = t })) (λ o t. IsOneOf objects o × HoldsAt (Conjunction c d) g (record { object = o; moment = t }))
    (λ o t h.
    let p = h.0 in
    let k = h.1 in
    let holds = subst (λ (v : ℕ). Sat c g (record { object = v; moment = t })) p.2 (kept.holds p.0 p.1 t) in
    ((p.0, kept.there p.0 p.1, p.2), (k.0, (holds, k.1))))
    (λ o t h.
    let p = h.0 in
    let k = h.1 in
    let s = k.1 in
    ((p.0, kept.whole p.0 p.1 t (subst (λ (v : ℕ). Sat c g (record { object = v; moment = t })) (sym p.2) s.0), p.2), (k.0, s.1)))
    marks
