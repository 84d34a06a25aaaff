-- What is kept of single sources, as it lies in a table: the look-up, one more, what stays, and the sums.
use Rattle.std.proofs.Common.{◌≡◌, ◌⊎◌, inl, inr, ℕ, ◌+◌, ◌≤◌, Bool, true, false, cond, List, [], ◌∷◌, ◌++◌, length, Option, Some, None, refl, sym, ◌∙◌, ap, subst, arith, true≢false}
use Rattle.std.specs.Prelude.{nat_eq, IsTrue, ◌↔◌}
use Rattle.std.specs.List.{sum_by}
use Rattle.std.specs.Map.{lookup, values_of}
use Rattle.std.specs.Map.Calls.{RetainsPairs}
use Rattle.std.proofs.lemmas.Bool.Decides.{eqb_tells}
use Rattle.std.proofs.lemmas.List.Sums.{sum_by-cons, sum_by_push}
use Rattle.indexmap.specs.IndexMap.{insert_entry}
use Rattle.itpg_base.specs.Lists.{Among}
use Rattle.itpg_base.specs.declared.object_number.ObjNo.{ObjNo}
use Rattle.relation_rows.specs.Answered.{Answered}
use Rattle.source_rows.specs.Follows.{Entry, entry, HasRows, HasSource}
use Rattle.source_rows.specs.Entries.{Kept, entry_of, entries_of}
use Rattle.source_rows.specs.Touched.{Meets}
use Rattle.source_rows.specs.declared.touched.Touched.{Touched}

-- what is found under a source is among the entries
pub found_rows : (es : List (ℕ × Kept)) (source : ℕ) (k : Kept) → lookup (nat_eq source) es ≡ Some k → HasRows (entries_of es) source k.rows
found_rows [] source k e = let none : ⊥ = cc in absurd none
found_rows (p ∷ es) source k e = elim (eqb_tells source p.0) [
  | inl h ↦
      let is : Some p.1 ≡ Some k = subst (λ (b : Bool). cond b (Some p.1) (lookup (nat_eq source) es) ≡ Some k) h.0 e in
      let same : p.1 ≡ k = cc in
      (entry_of p, inl refl, sym h.1, ap (λ (v : Kept). v.rows) same)
  | inr h ↦
      let rest = found_rows es source k (subst (λ (b : Bool). cond b (Some p.1) (lookup (nat_eq source) es) ≡ Some k) h.0 e) in
      (rest.0, inr rest.1, rest.2, rest.3)
]

-- and where nothing is found none is of the source
pub none_found : (es : List (ℕ × Kept)) (source : ℕ) → lookup (nat_eq source) es ≡ None → HasSource (entries_of es) source → ⊥
none_found [] source e h = h.1
none_found (p ∷ es) source e h = elim (eqb_tells source p.0) [
  | inl k ↦
      let is : Some p.1 ≡ None = subst (λ (b : Bool). cond b (Some p.1) (lookup (nat_eq source) es) ≡ None) k.0 e in
      let none : ⊥ = cc in none
  | inr k ↦ elim (h.1) [
    | inl first ↦ k.1 (sym (ap (λ (v : Entry). v.source) first ∙ h.2))
    | inr more ↦ none_found es source (subst (λ (b : Bool). cond b (Some p.1) (lookup (nat_eq source) es) ≡ None) k.0 e) (h.0, more, h.2)
  ]
]

pub rows_source : (entries : List Entry) (source : ℕ) (rows : Answered) → HasRows entries source rows → HasSource entries source
rows_source entries source rows h = (h.0, h.1, h.2)

pub not_listed : (es : List (ℕ × Kept)) (source : ℕ) → (HasSource (entries_of es) source → ⊥) → lookup (nat_eq source) es ≡ None
not_listed es source none = by_found (lookup (nat_eq source) es) refl
  where
    by_found : (o : Option Kept) → lookup (nat_eq source) es ≡ o → o ≡ None
    by_found None e = refl
    by_found (Some k) e = absurd (none (rows_source (entries_of es) source k.rows (found_rows es source k e)))

-- one more
pub entries_more : (es : List (ℕ × Kept)) (p : ℕ × Kept) → entries_of (es ++ p ∷ []) ≡ entries_of es ++ entry_of p ∷ []
entries_more [] p = refl
entries_more (q ∷ es) p = ap (λ (v : List Entry). entry_of q ∷ v) (entries_more es p)

-- those that list no touched object stay
pub record AreRetained (touched : Touched) (es kept : List (ℕ × Kept)) : Type 0 where
  pub stay : (e : Entry) → Among (entries_of kept) e ↔ (Among (entries_of es) e × (Meets touched e.objects → ⊥))
  pub less : (weight : Entry → ℕ) → sum_by weight (entries_of kept) ≤ sum_by weight (entries_of es)
  pub all : length es ≤ length kept → kept ≡ es

-- what stays where a test lets those go that list a touched object
module _ {F : Type 0} (T : F → ℕ → Kept → Bool → Kept → F → Type 0) (touched : Touched) (f : F)
    (says : (k : ℕ) (v : Kept) (b : Bool) (w : Kept) (g : F) → T f k v b w g → (IsTrue b ↔ (Meets touched v.objects → ⊥)) × (w ≡ v) × (g ≡ f)) where
  abbrev IsFree : ℕ × Kept → Type 0
  IsFree p = Meets touched p.1.objects → ⊥

  -- the first of the table stays in front of those of the rest that stay, or goes
  abbrev IsStep : ℕ × Kept → List (ℕ × Kept) → List (ℕ × Kept) → Type 0
  IsStep p rest kept = ((kept ≡ p ∷ rest) × IsFree p) ⊎ ((kept ≡ rest) × (IsFree p → ⊥))

  step : (p : ℕ × Kept) (es kept : List (ℕ × Kept)) → RetainsPairs T f (p ∷ es) kept → (rest : List (ℕ × Kept)) × RetainsPairs T f es rest × IsStep p rest kept
  step p es kept (b, w, g, rest, call, more, is) =
      let said = says p.0 p.1 b w g call in
      (rest, subst (λ (h : F). RetainsPairs T h es rest) said.2 more, by_answer b (said.0, said.1) is)
    where
      by_answer : (b : Bool) → (IsTrue b ↔ (Meets touched p.1.objects → ⊥)) × (w ≡ p.1) → kept ≡ cond b ((p.0, w) ∷ rest) rest → IsStep p rest kept
      by_answer true s is = inl (is ∙ ap (λ (v : Kept). (p.0, v) ∷ rest) s.1, s.0.0 refl)
      by_answer false s is = inr (is, λ free. true≢false (sym (s.0.1 free)))

  pub stays : (es kept : List (ℕ × Kept)) → RetainsPairs T f es kept → (e : Entry) → Among (entries_of kept) e → Among (entries_of es) e × (Meets touched e.objects → ⊥)
  stays [] kept h e a = absurd (subst (λ (ks : List (ℕ × Kept)). Among (entries_of ks) e) h a)
  stays (p ∷ es) kept h e a =
      let s = step p es kept h in
      let rest : Among (entries_of s.0) e → Among (entries_of (p ∷ es)) e × (Meets touched e.objects → ⊥) = λ b. let old = stays es s.0 s.1 e b in (inr old.0, old.1) in
      elim (s.2) [
        | inl k ↦ elim (subst (λ (ks : List (ℕ × Kept)). Among (entries_of ks) e) k.0 a) [
          | inl first ↦ (inl first, subst (λ (v : Entry). Meets touched v.objects → ⊥) first k.1)
          | inr more ↦ rest more
        ]
        | inr k ↦ rest (subst (λ (ks : List (ℕ × Kept)). Among (entries_of ks) e) k.0 a)
      ]

  pub stayed : (es kept : List (ℕ × Kept)) → RetainsPairs T f es kept → (e : Entry) → Among (entries_of es) e → (Meets touched e.objects → ⊥) → Among (entries_of kept) e
  stayed [] kept h e a free = absurd a
  stayed (p ∷ es) kept h e a free =
      let s = step p es kept h in
      elim (s.2) [
        | inl k ↦ subst (λ (ks : List (ℕ × Kept)). Among (entries_of ks) e) (sym k.0) (elim a [ inl first ↦ inl first | inr more ↦ inr (stayed es s.0 s.1 e more free) ])
        | inr k ↦ subst (λ (ks : List (ℕ × Kept)). Among (entries_of ks) e) (sym k.0) (elim a [
          | inl first ↦ absurd (k.1 (subst (λ (v : Entry). Meets touched v.objects → ⊥) (sym first) free))
          | inr more ↦ stayed es s.0 s.1 e more free
        ])
      ]

  -- of what is counted of each no more is left
  pub no_more : (weight : Entry → ℕ) (es kept : List (ℕ × Kept)) → RetainsPairs T f es kept → sum_by weight (entries_of kept) ≤ sum_by weight (entries_of es)
  no_more weight [] kept h = let e = ap (λ (ks : List (ℕ × Kept)). sum_by weight (entries_of ks)) h in omega (arith, e)
  no_more weight (p ∷ es) kept h =
      let s = step p es kept h in
      let less = no_more weight es s.0 s.1 in
      let all = sum_by-cons weight (entry_of p) (entries_of es) in
      elim (s.2) [
        | inl k ↦ (let e = ap (λ (ks : List (ℕ × Kept)). sum_by weight (entries_of ks)) k.0 in let more = sum_by-cons weight (entry_of p) (entries_of s.0) in omega (arith, e, more, all, less))
        | inr k ↦ (let e = ap (λ (ks : List (ℕ × Kept)). sum_by weight (entries_of ks)) k.0 in omega (arith, e, all, less))
      ]

  fewer : (es kept : List (ℕ × Kept)) → RetainsPairs T f es kept → length kept ≤ length es
  fewer [] kept h = let e = ap length h in omega (arith, e)
  fewer (p ∷ es) kept h =
      let s = step p es kept h in
      let less = fewer es s.0 s.1 in
      elim (s.2) [ inl k ↦ (let e = ap length k.0 in omega (arith, e, less)) | inr k ↦ (let e = ap length k.0 in omega (arith, e, less)) ]

  -- where as many are left, nothing went
  pub all_stayed : (es kept : List (ℕ × Kept)) → RetainsPairs T f es kept → length es ≤ length kept → kept ≡ es
  all_stayed [] kept h le = h
  all_stayed (p ∷ es) kept h le =
      let s = step p es kept h in
      let less = fewer es s.0 s.1 in
      elim (s.2) [
        | inl k ↦ k.0 ∙ ap (λ (v : List (ℕ × Kept)). p ∷ v) (all_stayed es s.0 s.1 (let e = ap length k.0 in omega (arith, e, le)))
        | inr k ↦ absurd (let e = ap length k.0 in omega (arith, e, le, less))
      ]

  pub retained : (es kept : List (ℕ × Kept)) → RetainsPairs T f es kept → AreRetained touched es kept
  retained es kept h = record {
    stay = λ e. (stays es kept h e, λ k. stayed es kept h e k.0 k.1);
    less = λ weight. no_more weight es kept h;
    all = all_stayed es kept h;
  }

-- a source of which nothing is found is put last
put_last : (es : List (ℕ × Kept)) (source : ℕ) (k : Kept) → lookup (nat_eq source) es ≡ None → insert_entry nat_eq es source k ≡ es ++ (source, k) ∷ []
put_last [] source k e = refl
put_last (p ∷ es) source k e = elim (eqb_tells source p.0) [
  | inl h ↦
      let is : Some p.1 ≡ None = subst (λ (b : Bool). cond b (Some p.1) (lookup (nat_eq source) es) ≡ None) h.0 e in
      let none : ⊥ = cc in absurd none
  | inr h ↦
      let rest = put_last es source k (subst (λ (b : Bool). cond b (Some p.1) (lookup (nat_eq source) es) ≡ None) h.0 e) in
      rw h.0 (ap (λ (v : List (ℕ × Kept)). p ∷ v) rest)
]

pub put_entry : (es new : List (ℕ × Kept)) (source : ℕ) (k : Kept) (objects : List ObjNo) (rows : Answered) → (HasSource (entries_of es) source → ⊥) → k ≡ record { objects = objects; rows = rows }
    → new ≡ insert_entry nat_eq es source k → entries_of new ≡ entries_of es ++ entry source objects rows ∷ []
put_entry es new source k objects rows none is put =
    ap entries_of (put ∙ put_last es source k (not_listed es source none)) ∙ entries_more es (source, k)
    ∙ ap (λ (v : Kept). entries_of es ++ entry_of (source, v) ∷ []) is

-- the sums after that
pub sum_put : (weight : Entry → ℕ) (old new : List Entry) (e : Entry) (sum count : ℕ) → new ≡ old ++ e ∷ [] → sum ≡ sum_by weight old → count ≡ weight e → sum + count ≡ sum_by weight new
sum_put weight old new e sum count put s c = omega (arith, ap (sum_by weight) put, sum_by_push weight old e, s, c)

-- what is counted of each value of the table
pub count_values : (count : Kept → ℕ) (weight : Entry → ℕ) → ((p : ℕ × Kept) → count p.1 ≡ weight (entry_of p)) → (es : List (ℕ × Kept)) → sum_by count (values_of es) ≡ sum_by weight (entries_of es)
count_values count weight same [] = refl
count_values count weight same (p ∷ es) =
    omega (arith, same p, count_values count weight same es, sum_by-cons count p.1 (values_of es), sum_by-cons weight (entry_of p) (entries_of es))
