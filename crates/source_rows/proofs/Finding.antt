-- What a walk finds, step by step.
use Rattle.std.proofs.Common.{◌≡◌, ◌⊎◌, inl, inr, ℕ, zero, suc, ◌≤◌, ◌<◌, List, [], ◌∷◌, ◌++◌, length, Option, Some, None, Bool, true, ◌==◌, refl, sym, ◌∙◌, subst, ap, arith, length-append}
use Rattle.std.specs.Prelude.{◌↔◌, unwrap_or}
use Rattle.std.proofs.lemmas.Bool.{eqb-true}
use Rattle.std.proofs.lemmas.Option.{slice_get_within}
use Rattle.itpg_base.proofs.ShortWalks.{short_walk}
use Rattle.itpg_base.specs.Graphs.{Graph, Good, Stands, HasEnd, ObjectIs}
use Rattle.itpg_base.specs.Walks.{IsWalk, AreFewer}
use Rattle.itpg_base.proofs.Objects.{there, here}
use Rattle.itpg_base.specs.declared.object_number.ObjNo.{ObjNo}
use Rattle.itpg_graph.specs.Edges.{LeadsFrom, LeadsTo, HasNumber, AreNumbers}
use Rattle.itpg_graph.proofs.Linked.{numbers_alike}
use Rattle.itpg_graph.specs.Kinds.{ends_of}
use Rattle.itpg_graph.proofs.Asked.{end_leads, from_end, to_end, edge_ends, ends_edge, node_ends}
use Rattle.source_rows.specs.Reach.{IsStep, IsReached, Reach}
use Rattle.source_rows.specs.Found.{Found, IsSeen, Gains, IsNext, IsEndOf, IsFound}
use Rattle.source_rows.proofs.Walking.{walk_join}
use Rattle.source_rows.proofs.Untouched.{reached_stands}
use Rattle.source_rows.proofs.Gaining.{either}

-- the steps from an edge are to its ends
pub edge_steps : (g : Graph) → Good g → (o : ℕ) (s t : ObjNo) → Stands g o → ObjectIs g o (λ x. ends_of (Some (s, t)) ≡ x.ends) → (a : ℕ) → IsStep g o a ↔ ((a ≡ s.0) ⊎ (a ≡ t.0))
edge_steps g good o s t stands ends a = (to, back)
  where
    no_node : HasEnd g a o → ⊥
    no_node h =
        let n = there g.objects o _ (good.ends_stand a o h) in
        let m = there g.objects o _ ends in
        let same : Some n.0 ≡ Some m.0 = sym n.1 ∙ m.1 in
        let none : n.0.ends ≡ None = n.2.1 in
        let some : ends_of (Some (s, t)) ≡ m.0.ends = m.2 in
        let never : ⊥ = cc in never

    to : IsStep g o a → (a ≡ s.0) ⊎ (a ≡ t.0)
    to (inl h) = absurd (no_node h)
    to (inr h) = either sym sym (edge_ends g o s t ends a h)

    back : (a ≡ s.0) ⊎ (a ≡ t.0) → IsStep g o a
    back h = inr (ends_edge g o s t stands ends a (either sym sym h))

-- the steps from a node are to the edges that leave it or come into it
pub node_steps : (g : Graph) (o : ℕ) → ObjectIs g o (λ x. ends_of None ≡ x.ends) → (out into : List ObjNo) → AreNumbers (LeadsFrom g o) out → AreNumbers (LeadsTo g o) into → (a : ℕ) → IsStep g o a ↔ (HasNumber out a ⊎ HasNumber into a)
node_steps g o ends out into leaving coming a = (to, back)
  where
    to : IsStep g o a → HasNumber out a ⊎ HasNumber into a
    to (inl h) = either (leaving.whole a) (coming.whole a) (end_leads g o a h)
    to (inr h) = absurd (node_ends g o ends a h)

    back : HasNumber out a ⊎ HasNumber into a → IsStep g o a
    back (inl h) = inl (from_end g o a (leaving.only a h))
    back (inr h) = inl (to_end g o a (coming.only a h))

-- a walk of at most one step more has a last step, or is of none
last_step : {P : Type 0} (R : P → P → Type 0) (x : P) (zs : List P) (y : P) (n : ℕ) → length zs ≤ suc n → IsWalk R x zs y → (x ≡ y) ⊎ ((b : P) × (ws : List P) × (length ws ≤ n) × IsWalk R x ws b × R b y)
last_step R x [] y n le walk = inl walk
last_step R x (z ∷ []) y n le walk = inr (x, [], omega arith, refl, subst (λ v. R x v) walk.1 walk.0)
last_step R x (z ∷ (w ∷ zs)) y zero le walk = absurd (omega (arith, le))
last_step R x (z ∷ (w ∷ zs)) y (suc n) le walk = elim (last_step R z (w ∷ zs) y n (omega (arith, le)) walk.1) [
  | inl e ↦ inr (x, [], omega arith, refl, subst (λ v. R x v) e walk.0)
  | inr k ↦ inr (k.0, z ∷ k.1, (let le = k.2 in omega (arith, le)), (walk.0, k.3), k.4)
]

reached_more : (g : Graph) (o n b a : ℕ) → IsReached g o (Some n) b → IsStep g b a → IsReached g o (Some (suc n)) a
reached_more g o n b a r step = (
  r.0 ++ a ∷ [],
  (let e = length-append r.0 (a ∷ []) in let le = r.1 in omega (arith, e, le)),
  walk_join (IsStep g) o r.0 b (a ∷ []) a r.2 (step, refl),
)

reached_still : (g : Graph) (o n a : ℕ) → IsReached g o (Some n) a → IsReached g o (Some (suc n)) a
reached_still g o n a r = (r.0, (let le = r.1 in omega (arith, le)), r.2)

pub reached_none : (g : Graph) (o a : ℕ) → IsReached g o (Some 0) a ↔ (o ≡ a)
reached_none g o a = ((λ r. by_walk r.0 r.1 r.2), (λ e. ([], omega arith, e)))
  where
    by_walk : (zs : List ℕ) → length zs ≤ 0 → IsWalk (IsStep g) o zs a → o ≡ a
    by_walk [] le walk = walk
    by_walk (z ∷ zs) le walk = absurd (omega (arith, le))

pub reached_one_more : (g : Graph) (o n a : ℕ) → IsReached g o (Some (suc n)) a ↔ (IsReached g o (Some n) a ⊎ ((b : ℕ) × IsReached g o (Some n) b × IsStep g b a))
reached_one_more g o n a = (
  (λ r. elim (last_step (IsStep g) o r.0 a n r.1 r.2) [
    | inl e ↦ inl ([], omega arith, e)
    | inr k ↦ inr (k.0, (k.1, k.2, k.3), k.4)
  ]),
  (λ h. elim h [ inl r ↦ reached_still g o n a r | inr k ↦ reached_more g o n k.0 a k.1 k.2 ]),
)

pub reached_all : (g : Graph) (o a : ℕ) → IsReached g o None a ↔ ((n : ℕ) × IsReached g o (Some n) a)
reached_all g o a = ((λ r. (length r.0, (r.0, omega arith, r.2))), (λ k. (k.1.0, tt, k.1.2)))

-- the start alone
pub found_start : (g : Graph) (o : ℕ) (empty f : Found) → ((a : ℕ) → IsSeen empty a → ⊥) → empty.fresh ≡ [] → Gains (λ a. a ≡ o) empty f → IsFound g o 0 f
found_start g o empty f none refutes gains = record {
  exact = λ a. (to a, back a);
  fresh = λ a h. elim (gains.only a h) [
    | inl k ↦ absurd (subst (λ xs. HasNumber xs a) refutes k)
    | inr k ↦ (gains.seen a).1 (inr k)
  ];
  closed = λ a b h step. elim (gains.listed a h) [ inl k ↦ absurd (none a k) | inr k ↦ inl k ];
}
  where
    to : (a : ℕ) → IsSeen f a → IsReached g o (Some 0) a
    to a h = elim ((gains.seen a).0 h) [ inl k ↦ absurd (none a k) | inr k ↦ ([], omega arith, sym k) ]

    back : (a : ℕ) → IsReached g o (Some 0) a → IsSeen f a
    back a r = (gains.seen a).1 (inr (by_walk r.0 r.1 r.2))
      where
        by_walk : (zs : List ℕ) → length zs ≤ 0 → IsWalk (IsStep g) o zs a → a ≡ o
        by_walk [] le walk = sym walk
        by_walk (z ∷ zs) le walk = absurd (omega (arith, le))

-- one step on
pub found_more : (g : Graph) (o n : ℕ) (f new : Found) → IsFound g o n f → Gains (IsNext g f.fresh) (record f { fresh = [] }) new → IsFound g o (suc n) new
found_more g o n f new was gains = record {
  exact = λ a. (to a, back a);
  fresh = λ a h. elim (gains.only a h) [ inl k ↦ absurd k | inr k ↦ (gains.seen a).1 (inr k) ];
  closed = λ a b h step. elim (gains.listed a h) [
    | inl k ↦ elim (was.closed a b k step) [
      | inl j ↦ inr ((gains.seen b).1 (inr (a, j, step)))
      | inr j ↦ inr ((gains.seen b).1 (inl j))
    ]
    | inr k ↦ inl k
  ];
}
  where
    to : (a : ℕ) → IsSeen new a → IsReached g o (Some (suc n)) a
    to a h = elim ((gains.seen a).0 h) [
      | inl k ↦ reached_still g o n a ((was.exact a).0 k)
      | inr k ↦ reached_more g o n k.0 a ((was.exact k.0).0 (was.fresh k.0 k.1)) k.2
    ]

    back : (a : ℕ) → IsReached g o (Some (suc n)) a → IsSeen new a
    back a r = elim (last_step (IsStep g) o r.0 a n r.1 r.2) [
      | inl e ↦ (gains.seen a).1 (inl ((was.exact a).1 ([], omega arith, e)))
      | inr k ↦
          let b : IsSeen f k.0 = (was.exact k.0).1 (k.1, k.2, k.3) in
          elim (was.closed k.0 a b k.4) [
            | inl j ↦ (gains.seen a).1 (inr (k.0, j, k.4))
            | inr j ↦ (gains.seen a).1 (inl j)
          ]
    ]

-- where nothing is fresh all was found
closed_walk : (g : Graph) (o n : ℕ) (f : Found) → IsFound g o n f → f.fresh ≡ [] → (a : ℕ) (zs : List ℕ) (b : ℕ) → IsSeen f a → IsWalk (IsStep g) a zs b → IsSeen f b
closed_walk g o n f was none a [] b h walk = subst (IsSeen f) walk h
closed_walk g o n f was none a (z ∷ zs) b h walk = elim (was.closed a z h walk.0) [
  | inl k ↦ absurd (subst (λ xs. HasNumber xs a) none k)
  | inr k ↦ closed_walk g o n f was none z zs b k walk.1
]

pub found_all : (g : Graph) (o n m : ℕ) (f : Found) → IsFound g o n f → f.fresh ≡ [] → n ≤ m → IsFound g o m f
found_all g o n m f was none le = record {
  exact = λ a. (
    (λ h. let r = (was.exact a).0 h in (r.0, (let few = r.1 in omega (arith, few, le)), r.2)),
    (λ r. closed_walk g o n f was none o r.0 a ((was.exact o).1 ([], omega arith, refl)) r.2),
  );
  fresh = was.fresh;
  closed = was.closed;
}

-- with the ends of the fresh edges it is what is reached
pub found_reach : (g : Graph) → Good g → (o n : ℕ) (bound : Option ℕ) (f new : Found) → Stands g o → ((a : ℕ) → IsReached g o (Some n) a ↔ IsReached g o bound a) → IsFound g o n f → ((a : ℕ) → IsSeen new a ↔ (IsSeen f a ⊎ IsEndOf g f.fresh a)) → (a : ℕ) → IsSeen new a ↔ Reach g o bound a
found_reach g good o n bound f new stands same was ends a = (to, back)
  where
    reached : (e : ℕ) → IsSeen f e → IsReached g o bound e
    reached e h = (same e).0 ((was.exact e).0 h)

    stands_end : (e : ℕ) → HasEnd g e a → Stands g a
    stands_end e h = let t = there g.objects a _ (good.ends_stand e a h) in here g.objects a _ t.0 t.1 t.2.0

    to : IsSeen new a → Reach g o bound a
    to h = elim ((ends a).0 h) [
      | inl k ↦ (reached_stands g good o bound a stands (reached a k), inl (reached a k))
      | inr k ↦ (stands_end k.0 k.2, inr (k.0, reached k.0 (was.fresh k.0 k.1), k.2))
    ]

    seen : (e : ℕ) → IsReached g o bound e → IsSeen f e
    seen e r = (was.exact e).1 ((same e).1 r)

    back : Reach g o bound a → IsSeen new a
    back r = elim (r.1) [
      | inl k ↦ (ends a).1 (inl (seen a k))
      | inr k ↦ elim (was.closed k.0 a (seen k.0 k.1) (inr k.2)) [
        | inl j ↦ (ends a).1 (inr (k.0, j, k.2))
        | inr j ↦ (ends a).1 (inl j)
      ]
    ]

-- from what was found on, any number of steps
below_all : (g : Graph) → Good g → (a b : ℕ) → IsStep g a b → b < length g.objects
below_all g good a b (inl h) = let t = there g.objects b _ h in slice_get_within g.objects b t.0 t.1
below_all g good a b (inr h) = let t = there g.objects b _ (good.ends_stand a b h) in slice_get_within g.objects b t.0 t.1

few_objects : (g : Graph) → AreFewer (length g.objects) (λ a. a < length g.objects) (λ a. a)
few_objects g = record { below = λ a h. h; apart = λ a b h k e. e }

pub unbounded_reach : (g : Graph) → Good g → (o a : ℕ) → Stands g o → IsReached g o (Some (length g.objects)) a ↔ IsReached g o None a
unbounded_reach g good o a stands = (
  (λ r. (r.0, tt, r.2)),
  (λ r.
      let at = there g.objects o _ stands in
      let short = short_walk (few_objects g) (IsStep g) (below_all g good) o r.0 a (slice_get_within g.objects o at.0 at.1) r.2 in
      (short.0, (let lt = short.1 in omega (arith, lt)), short.2)),
)

pub bound_reach : (g : Graph) → Good g → (o : ℕ) → Stands g o → (bound : Option ℕ) (a : ℕ) → IsReached g o (Some (unwrap_or bound (length g.objects))) a ↔ IsReached g o bound a
bound_reach g good o stands None a = unbounded_reach g good o a stands
bound_reach g good o stands (Some n) a = ((λ r. r), (λ r. r))

-- each object that was found stands
pub found_stands : (g : Graph) → Good g → (o n : ℕ) (f : Found) → Stands g o → IsFound g o n f → (a : ℕ) → HasNumber f.fresh a → Stands g a
found_stands g good o n f stands was a h = reached_stands g good o (Some n) a stands ((was.exact a).0 (was.fresh a h))

-- what was found with the ends is what is reached
pub found_near : (g : Graph) → Good g → (o n count : ℕ) (bound : Option ℕ) (f new : Found) → Stands g o → n ≡ unwrap_or bound count → count ≡ length g.objects → IsFound g o n f → ((a : ℕ) → IsSeen new a ↔ (IsSeen f a ⊎ IsEndOf g f.fresh a)) → (objects : List ObjNo) → AreNumbers (IsSeen new) objects → AreNumbers (Reach g o bound) objects
found_near g good o n count bound f new stands e d was ends objects are =
    let same : (a : ℕ) → IsReached g o (Some n) a ↔ IsReached g o bound a =
    λ a. subst (λ k. IsReached g o (Some k) a ↔ IsReached g o bound a) (sym (e ∙ ap (λ c. unwrap_or bound c) d)) (bound_reach g good o stands bound a) in
    let reach = found_reach g good o n bound f new stands same was ends in
    numbers_alike (IsSeen new) (Reach g o bound) objects (λ a. (reach a).0) (λ a. (reach a).1) are

-- what a test of emptiness says of an equal list
pub empty_of : {X : Type 0} (xs ys : List X) (b : Bool) → b ≡ (length xs == 0) → b ≡ true → xs ≡ ys → ys ≡ []
empty_of [] ys b e t same = sym same
empty_of (x ∷ xs) ys b e t same = let long = eqb-true (length (x ∷ xs)) 0 (sym e ∙ t) in absurd (omega arith)
