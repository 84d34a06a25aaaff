-- The members that are said to be kept.
use Rattle.std.proofs.Common.{◌≡◌, ◌↔◌, ℕ, zero, suc, ◌+◌, ◌<◌, Bool, List, [], ◌∷◌, ◌++◌, ◌⊎◌, length, slice_get, slice_index_or, Some, None, inl, inr, refl, sym, ap, subst, ◌∙◌, arith}
use Rattle.std.specs.Prelude.{IsSome, IsTrue}
use Rattle.std.proofs.lemmas.Bool.{false≢true}
use Rattle.itpg_base.proofs.Objects.{there, here}
use Rattle.label_scope.specs.Members.{Member}
use Rattle.relation_rows.specs.declared.rows.Row.{Row}
use Rattle.plan_cache.specs.declared.operations.PlanNo.{PlanNo}
use Rattle.plan_cache.specs.Nodes.{PlanNode, Kept, Table, IsNodeOf}
use Rattle.plan_cache.specs.Former.{number_at, AreFormer}
use Rattle.question_costs.specs.Kept.{is_kept_at, HasRelation, AreAllKept, AreKeptOnly}

first_mark : (b : Bool) (marks : List Bool) (k : ℕ) → k < length marks → is_kept_at (marks ++ b ∷ []) k ≡ is_kept_at marks k
first_mark b [] k l = absurd (let none : ⊥ = omega arith in none)
first_mark b (c ∷ marks) zero l = refl
first_mark b (c ∷ marks) (suc k) l = first_mark b marks k (omega arith)

last_mark : (b : Bool) (marks : List Bool) → is_kept_at (marks ++ b ∷ []) (length marks) ≡ b
last_mark b [] = refl
last_mark b (c ∷ marks) = last_mark b marks

at_end : (k e : ℕ) → k < e + 1 → (k < e) ⊎ (k ≡ e)
at_end zero zero l = inr refl
at_end zero (suc e) l = inl (omega arith)
at_end (suc k) zero l = absurd (let none : ⊥ = omega arith in none)
at_end (suc k) (suc e) l = elim (at_end k e (omega arith)) [ inl h ↦ inl (omega arith) | inr f ↦ inr (ap suc f) ]

pub number_got : (numbers : List PlanNo) (k : ℕ) (d : PlanNo) → k < length numbers → (slice_index_or numbers k d).0 ≡ number_at numbers k
number_got [] k d l = absurd (let none : ⊥ = omega (arith, l) in none)
number_got (x ∷ numbers) zero d l = refl
number_got (x ∷ numbers) (suc k) d l = number_got numbers k d (omega (arith, l))

-- the first marks, so many, are right
abbrev pub AreRight : List Kept → List PlanNo → ℕ → List Bool → Type 0
AreRight kept numbers n marks = (k : ℕ) → k < n → IsTrue (is_kept_at marks k) ↔ HasRelation kept (number_at numbers k)

pub one_more_mark : (kept : List Kept) (numbers : List PlanNo) (marks : List Bool) (b : Bool) (n : ℕ) → length marks ≡ n → AreRight kept numbers n marks
    → IsTrue b ↔ HasRelation kept (number_at numbers n) → AreRight kept numbers (n + 1) (marks ++ b ∷ [])
one_more_mark kept numbers marks b n long are this = λ k l. by k (at_end k n l)
  where
    by : (k : ℕ) → (k < n) ⊎ (k ≡ n) → IsTrue (is_kept_at (marks ++ b ∷ []) k) ↔ HasRelation kept (number_at numbers k)
    by k (inl m) = subst (λ (v : Bool). IsTrue v ↔ HasRelation kept (number_at numbers k)) (sym (first_mark b marks k (omega (arith, m, long)))) (are k m)
    by k (inr e) =
        subst (λ (v : ℕ). IsTrue (is_kept_at (marks ++ b ∷ []) v) ↔ HasRelation kept (number_at numbers v)) (sym e)
        (subst (λ (v : ℕ). IsTrue (is_kept_at (marks ++ b ∷ []) v) ↔ HasRelation kept (number_at numbers n)) long
        (subst (λ (v : Bool). IsTrue v ↔ HasRelation kept (number_at numbers n)) (sym (last_mark b marks)) this))

none_behind : (marks : List Bool) (k : ℕ) → IsTrue (is_kept_at marks k) → k < length marks
none_behind [] k h = absurd (false≢true h)
none_behind (b ∷ marks) zero h = omega arith
none_behind (b ∷ marks) (suc k) h = let l = none_behind marks k h in omega (arith, l)

there_below : (nodes : List PlanNode) (k : ℕ) (m : Member) → IsNodeOf nodes k m → k < length nodes
there_below [] k m h = absurd h
there_below (n ∷ nodes) zero m h = omega arith
there_below (n ∷ nodes) (suc k) m h = let l = there_below nodes k m h in omega (arith, l)

kept_below : (kept : List Kept) (k : ℕ) (rows : List Row) → slice_get kept k ≡ Some (Some rows) → k < length kept
kept_below [] k rows e = absurd (let none : ⊥ = cc in none)
kept_below (v ∷ kept) zero rows e = omega arith
kept_below (v ∷ kept) (suc k) rows e = let l = kept_below kept k rows e in omega (arith, l)

rows_of : (v : Kept) → IsSome v → (rows : List Row) × (v ≡ Some rows)
rows_of (Some rows) h = (rows, refl)
rows_of None h = absurd (false≢true h)

rows_there : (kept : List Kept) (k : ℕ) → HasRelation kept k → (rows : List Row) × (slice_get kept k ≡ Some (Some rows))
rows_there kept k h =
    let v = there kept k (λ v. IsSome v) h in
    let rows = rows_of v.0 v.2 in
    (rows.0, v.1 ∙ ap (λ (w : Kept). Some w) rows.1)

rows_here : (kept : List Kept) (k : ℕ) (rows : List Row) → slice_get kept k ≡ Some (Some rows) → HasRelation kept k
rows_here kept k rows e = here kept k (λ v. IsSome v) (Some rows) e refl

module _ (nodes : List PlanNode) (table : Table) (each : length table.kept ≡ length table.nodes) (numbers : List PlanNo) (many : length numbers ≡ length nodes)
    (former : AreFormer table.nodes nodes numbers) (marks : List Bool) (long : length marks ≡ length numbers) (right : AreRight table.kept numbers (length numbers) marks) where
  pub only_kept : AreKeptOnly nodes (Some table) marks
  only_kept k m is h =
      let low = none_behind marks k h in
      let known : k < length numbers = omega (arith, low, long) in
      let found = rows_there table.kept (number_at numbers k) ((right k known).0 h) in
      let below : number_at numbers k < length table.nodes = (let l = kept_below table.kept (number_at numbers k) found.0 found.1 in omega (arith, l, each)) in
      (found.0, (number_at numbers k, (former k m known is).known below, found.1))

  pub all_kept : AreAllKept nodes (Some table) marks
  all_kept k m is h =
      let low = there_below nodes k m is in
      let known : k < length numbers = omega (arith, low, many) in
      let same : h.1.0 ≡ number_at numbers k = (former k m known is).whole h.1.0 h.1.1 in
      (right k known).1 (subst (λ (v : ℕ). HasRelation table.kept v) same (rows_here table.kept h.1.0 h.0 h.1.2))
