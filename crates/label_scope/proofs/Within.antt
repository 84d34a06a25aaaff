-- A path leads between objects that are within its scopes.
use Rattle.std.proofs.Common.{◌≡◌, ◌⊎◌, ⊎_elim, ℕ, zero, suc, ◌<◌, List, [], ◌∷◌, Bool, true, false, inl, inr, length, refl, sym, subst, arith}
use Rattle.std.specs.Prelude.{slice_get, IsTrue}
use Rattle.itpg_base.specs.Decided.{Decided}
use Rattle.itpg_base.specs.Graphs.{Graph, Object, Good, ObjectIs}
use Rattle.itpg_base.specs.Points.{Point, Relation, IsAt}
use Rattle.itpg_base.proofs.Objects.{there, here, same_some}
use Rattle.itpg_base.proofs.Searches.{if_some}
use Rattle.path_ast.specs.Terms.{PathTerm, OfTest, Forward, Backward, Next, Previous, Sequence, Choice, Repetition, TestTerm, IsNode, IsEdge, HasLabel, HasValue, IsBelow, DoesExist, Condition, Conjunction, Disjunction, Negation}
use Rattle.itpg_base.specs.Walks.{IsWalk}
use Rattle.path_ast.specs.Meaning.{Rel, Sat, keeps_object}
use Rattle.path_ast.proofs.Pairs.{keeps, starts_at, ends_at}
use Rattle.label_scope.specs.declared.scope.Scope.{Scope}
use Rattle.label_scope.specs.declared.scope.Scope.TheVariants.{All}
use Rattle.label_scope.specs.Scopes.{Has, IsWithin, met, joined, met_where, source_scope, test_scope, target_scope}
use Rattle.label_scope.specs.Narrowing.{Cut, both_where, narrowed}
use Rattle.label_scope.proofs.Lists.{first}
use Rattle.label_scope.proofs.Scopes.{has_met, met_has_first, has_joined_first, has_joined_second, decide_has}
use Rattle.label_scope.proofs.ByProperty.{joined_has}

-- an object that stands is within every object
pub within_all : (g : Graph) (x : Point) → IsAt g x → IsWithin All g x.object
within_all g x at = let t = there g.objects x.object _ at.stands in here g.objects x.object _ t.0 t.1 tt

pub within_met : (g : Graph) (o : ℕ) (a b : Scope) → IsWithin a g o → IsWithin b g o → IsWithin (met a b) g o
within_met g o a b h k =
    let s = there g.objects o _ h in
    let t = there g.objects o _ k in
    let same : t.0 ≡ s.0 = same_some _ _ _ t.1 s.1 in
    here g.objects o _ s.0 s.1 (has_met a b s.0.labels s.2 (subst (λ (x : Object). Has b x.labels) same t.2))

each_object : (g : Graph) (o : ℕ) (P Q : Object → Type 0) → ((x : Object) → P x → Q x) → ObjectIs g o P → ObjectIs g o Q
each_object g o P Q each h = let t = there g.objects o P h in here g.objects o Q t.0 t.1 (each t.0 t.2)

pub met_within_first : (g : Graph) (o : ℕ) (a b : Scope) → IsWithin (met a b) g o → IsWithin a g o
met_within_first g o a b h = each_object g o _ _ (λ x k. met_has_first a b x.labels k) h

pub within_joined_first : (g : Graph) (o : ℕ) (a b : Scope) → IsWithin a g o → IsWithin (joined a b) g o
within_joined_first g o a b h = each_object g o _ _ (λ x k. has_joined_first a b x.labels k) h

pub within_joined_second : (g : Graph) (o : ℕ) (a b : Scope) → IsWithin b g o → IsWithin (joined a b) g o
within_joined_second g o a b h = each_object g o _ _ (λ x k. has_joined_second a b x.labels k) h

pub joined_within : (g : Graph) (o : ℕ) (a b : Scope) → IsWithin (joined a b) g o → IsWithin a g o ⊎ IsWithin b g o
joined_within g o a b h =
    let t = there g.objects o _ h in
    ⊎_elim (λ k. inl (here g.objects o _ t.0 t.1 k)) (λ k. inr (here g.objects o _ t.0 t.1 k)) (joined_has a b t.0.labels t.2)

pub within_met_where : (g : Graph) (o : ℕ) (k : Bool) (a b : Scope) → IsWithin a g o → (IsTrue k → IsWithin b g o) → IsWithin (met_where k a b) g o
within_met_where g o true a b h more = within_met g o a b h (more refl)
within_met_where g o false a b h more = h

pub decide_within_scope : (scope : Scope) (g : Graph) (o : ℕ) → Decided (IsWithin scope g o)
decide_within_scope scope g o = if_some (slice_get g.objects o) (λ x. Has scope x.labels) (λ x. decide_has scope x.labels)

-- the last step of a walk of one step or more
last_step : (R : Relation) (x : Point) (zs : List Point) (y : Point) → 0 < length zs → IsWalk R x zs y → (z : Point) × R z y
last_step R x [] y some walk = absurd (omega (arith, some))
last_step R x (z ∷ []) y some walk = (x, subst (R x) walk.1 walk.0)
last_step R x (z ∷ w ∷ rest) y some walk = last_step R z (w ∷ rest) y (omega arith) walk.1

first_step : (R : Relation) (x : Point) (zs : List Point) (y : Point) → 0 < length zs → IsWalk R x zs y → (z : Point) × R x z
first_step R x [] y some walk = absurd (omega (arith, some))
first_step R x (z ∷ rest) y some walk = (z, walk.0)

mutual
  pub source_within : (p : PathTerm) (g : Graph) (x y : Point) → Good g → Rel p g x y → IsWithin (source_scope p) g x.object
  source_within (OfTest c) g x y good h = test_within c g x good h.0 h.2
  source_within Forward g x y good h = within_all g x h.0
  source_within Backward g x y good h = within_all g x h.0
  source_within Next g x y good h = within_all g x h.0
  source_within Previous g x y good h = within_all g x h.0
  source_within (Sequence p q) g x y good h =
      within_met_where g x.object (keeps_object p) (source_scope p) (source_scope q) (source_within p g x h.0 good h.1)
      (λ k. subst (IsWithin (source_scope q) g) (sym (keeps p g x h.0 k h.1)) (source_within q g h.0 y good h.2))
  source_within (Choice p q) g x y good (inl h) = within_joined_first g x.object (source_scope p) (source_scope q) (source_within p g x y good h)
  source_within (Choice p q) g x y good (inr h) = within_joined_second g x.object (source_scope p) (source_scope q) (source_within q g x y good h)
  source_within (Repetition p zero m) g x y good h = within_all g x h.0
  source_within (Repetition p (suc n) m) g x y good h =
      let step = first_step (Rel p g) x h.1.0 y (let least = h.1.1.0 in omega (arith, least)) h.1.2 in
      source_within p g x step.0 good step.1

  pub test_within : (c : TestTerm) (g : Graph) (x : Point) → Good g → IsAt g x → Sat c g x → IsWithin (test_scope c) g x.object
  test_within IsNode g x good at h = within_all g x at
  test_within IsEdge g x good at h = within_all g x at
  test_within (HasLabel label) g x good at h = each_object g x.object _ _ (λ o k. (label, k, first label [])) h
  test_within (HasValue prop value) g x good at h = within_all g x at
  test_within (IsBelow k) g x good at h = within_all g x at
  test_within DoesExist g x good at h = within_all g x at
  test_within (Condition p) g x good at h = source_within p g x h.0 good h.1
  test_within (Conjunction c d) g x good at h = within_met g x.object (test_scope c) (test_scope d) (test_within c g x good at h.0) (test_within d g x good at h.1)
  test_within (Disjunction c d) g x good at (inl h) = within_joined_first g x.object (test_scope c) (test_scope d) (test_within c g x good at h)
  test_within (Disjunction c d) g x good at (inr h) = within_joined_second g x.object (test_scope c) (test_scope d) (test_within d g x good at h)
  test_within (Negation c) g x good at h = within_all g x at

pub target_within : (p : PathTerm) (g : Graph) (x y : Point) → Good g → Rel p g x y → IsWithin (target_scope p) g y.object
target_within (OfTest c) g x y good h = subst (λ (z : Point). IsWithin (test_scope c) g z.object) (sym h.1) (test_within c g x good h.0 h.2)
target_within Forward g x y good h = within_all g y h.1
target_within Backward g x y good h = within_all g y h.1
target_within Next g x y good h = within_all g y h.1
target_within Previous g x y good h = within_all g y h.1
target_within (Sequence p q) g x y good h =
    within_met_where g y.object (keeps_object q) (target_scope q) (target_scope p) (target_within q g h.0 y good h.2)
    (λ k. subst (IsWithin (target_scope p) g) (keeps q g h.0 y k h.2) (target_within p g x h.0 good h.1))
target_within (Choice p q) g x y good (inl h) = within_joined_first g y.object (target_scope p) (target_scope q) (target_within p g x y good h)
target_within (Choice p q) g x y good (inr h) = within_joined_second g y.object (target_scope p) (target_scope q) (target_within q g x y good h)
target_within (Repetition p zero m) g x y good h = within_all g y (ends_at (Repetition p zero m) g x y h)
target_within (Repetition p (suc n) m) g x y good h =
    let step = last_step (Rel p g) x h.1.0 y (let least = h.1.1.0 in omega (arith, least)) h.1.2 in
    target_within p g step.0 y good step.1

-- where the path keeps its object, this is within both scopes
narrow_cut : (p : PathTerm) (a b : Scope) (g : Graph) (x y : Point) (k : Bool) → (IsTrue k → x.object ≡ y.object) → Cut g p a b x y → Cut g p (both_where k a b).sources (both_where k a b).targets x y
narrow_cut p a b g x y true same h = record {
  leads = h.leads;
  source = within_met g x.object a b h.source (subst (IsWithin b g) (sym (same refl)) h.target);
  target = within_met g y.object b a h.target (subst (IsWithin a g) (same refl) h.source);
}
narrow_cut p a b g x y false same h = h

pub narrowed_cut : (p : PathTerm) (a b : Scope) (g : Graph) (x y : Point) → Good g → Cut g p a b x y → Cut g p (narrowed p a b).sources (narrowed p a b).targets x y
narrowed_cut p a b g x y good h =
    narrow_cut p (met a (source_scope p)) (met b (target_scope p)) g x y (keeps_object p) (λ k. keeps p g x y k h.leads) (record {
      leads = h.leads;
      source = within_met g x.object a (source_scope p) h.source (source_within p g x y good h.leads);
      target = within_met g y.object b (target_scope p) h.target (target_within p g x y good h.leads);
    })

wide_cut : (p : PathTerm) (a b : Scope) (g : Graph) (x y : Point) (k : Bool) → Cut g p (both_where k a b).sources (both_where k a b).targets x y → Cut g p a b x y
wide_cut p a b g x y true h = record { leads = h.leads; source = met_within_first g x.object a b h.source; target = met_within_first g y.object b a h.target }
wide_cut p a b g x y false h = h

pub widened_cut : (p : PathTerm) (a b : Scope) (g : Graph) (x y : Point) → Cut g p (narrowed p a b).sources (narrowed p a b).targets x y → Cut g p a b x y
widened_cut p a b g x y h =
    let w = wide_cut p (met a (source_scope p)) (met b (target_scope p)) g x y (keeps_object p) h in
    record { leads = w.leads; source = met_within_first g x.object a (source_scope p) w.source; target = met_within_first g y.object b (target_scope p) w.target }

pub cut_all : (p : PathTerm) (g : Graph) (x y : Point) → Rel p g x y → Cut g p All All x y
cut_all p g x y h = record { leads = h; source = within_all g x (starts_at p g x y h); target = within_all g y (ends_at p g x y h) }
