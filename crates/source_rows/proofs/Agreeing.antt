-- Two graphs that agree on all that is near a point have the same quadruples from it.
use Rattle.std.proofs.Common.{◌≡◌, inl, inr, ℕ, suc, ◌+◌, List, [], ◌∷◌, ◌++◌, length, Option, Some, refl, sym, subst, arith, length-append}
use Rattle.std.specs.Prelude.{IsTrue, IsSomeAnd, max, slice_get}
use Rattle.itpg_base.specs.Graphs.{Graph, Begun, Object, Stands, ObjectIs}
use Rattle.itpg_base.specs.Points.{Point, Relation, IsAt}
use Rattle.itpg_base.specs.Walks.{IsWalk}
use Rattle.itpg_base.specs.Spans.{Within}
use Rattle.itpg_base.proofs.Objects.{there, here, same_some}
use Rattle.path_ast.specs.Terms.{PathTerm, OfTest, Forward, Backward, Next, Previous, Sequence, Choice, Repetition, TestTerm, IsNode, IsEdge, HasLabel, HasValue, IsBelow, DoesExist, Condition, Conjunction, Disjunction, Negation}
use Rattle.path_ast.specs.Meaning.{Rel, Sat}
use Rattle.source_rows.specs.Steps.{together, path_steps, test_steps, IsUpTo}
use Rattle.source_rows.specs.Reach.{IsStep, IsReached}
use Rattle.source_rows.specs.Near.{AgreeOn}
use Rattle.source_rows.proofs.Bounds.{upto_none, upto_sum, upto_left, upto_right, upto_times, IsUpToTimes, times_none, times_more}
use Rattle.source_rows.proofs.Walking.{reached_join, reached_wider, IsReachedTimes, walk_join, path_reached}

pub turned : (S : ℕ → Type 0) (g h : Graph) → AgreeOn S g h → AgreeOn S h g
turned S g h agree = record { begun = sym agree.begun; same = λ o x s. let e = agree.same o x s in (e.1, e.0) }

module _ (S : ℕ → Type 0) (g h : Graph) (agree : AgreeOn S g h) where
  -- what is so of a standing object of the set is so in the other graph
  pub moved : (P : Object → Type 0) (o : ℕ) → S o → Stands g o → ObjectIs g o P → ObjectIs h o P
  moved P o s stands is =
      let t = there g.objects o (λ x. IsTrue x.standing) stands in
      let u = there g.objects o P is in
      let same : t.0 ≡ u.0 = same_some t.0 u.0 (slice_get g.objects o) t.1 u.1 in
      let k = (agree.same o t.0 s).0 (record { is = t.1; stands = t.2 }) in
      here h.objects o P t.0 k.is (subst P (sym same) u.2)

  pub stands_moved : (o : ℕ) → S o → Stands g o → Stands h o
  stands_moved o s stands = moved (λ x. IsTrue x.standing) o s stands stands

  pub at_moved : (x : Point) → S x.object → IsAt g x → IsAt h x
  at_moved x s at = record {
    stands = stands_moved x.object s at.stands;
    within = subst (λ b. IsSomeAnd b (λ (c : Begun). Within x.moment c.horizon)) agree.begun at.within;
  }

-- all that is reached in so many steps is in the set
abbrev pub IsRoomy : (ℕ → Type 0) → Graph → Option ℕ → ℕ → Type 0
IsRoomy S g bound o = (a : ℕ) → IsReached g o bound a → S a

abbrev IsRoomyTimes : (ℕ → Type 0) → Graph → ℕ → Option ℕ → ℕ → Type 0
IsRoomyTimes S g k bound o = (a : ℕ) → IsReachedTimes g o bound k a → S a

roomy_here : (S : ℕ → Type 0) (g : Graph) (bound : Option ℕ) (o : ℕ) → IsRoomy S g bound o → S o
roomy_here S g bound o room = room o ([], upto_none bound, refl)

roomy_less : (S : ℕ → Type 0) (g : Graph) (m n : Option ℕ) (o : ℕ) → ((i : ℕ) → IsUpTo m i → IsUpTo n i) → IsRoomy S g n o → IsRoomy S g m o
roomy_less S g m n o wider room a r = room a (reached_wider g o a m n wider r)

-- behind what is reached in the first steps there is room for the others
roomy_behind : (S : ℕ → Type 0) (g : Graph) (m n sum : Option ℕ) (o a : ℕ) → ((i j : ℕ) → IsUpTo m i → IsUpTo n j → IsUpTo sum (i + j)) → IsRoomy S g sum o → IsReached g o m a → IsRoomy S g n a
roomy_behind S g m n sum o a both room r c q = room c (reached_join g o a c m n sum both r q)

first_of_sum : (m n : Option ℕ) (i : ℕ) → IsUpTo m i → IsUpTo (together (λ i j. i + j) m n) i
first_of_sum m n i h = subst (λ k. IsUpTo (together (λ i j. i + j) m n) k) (let e : i + 0 ≡ i = omega arith in e) (upto_sum m n i 0 h (upto_none n))

-- along a walk
module _ (S : ℕ → Type 0) (g h : Graph) (bound : Option ℕ) (R Q : Relation) (leads : (x y : Point) → R x y → IsReached g x.object bound y.object) (leads_too : (x y : Point) → Q x y → IsReached h x.object bound y.object) (each : (x y : Point) → IsRoomy S g bound x.object → IsRoomy S h bound x.object → R x y → Q x y) where
  now : (f : Graph) (k : ℕ) (o : ℕ) → IsRoomyTimes S f (suc k) bound o → IsRoomy S f bound o
  now f k o room a r = room a (r.0, one (length r.0) r.1, r.2)
    where
      one : (n : ℕ) → IsUpTo bound n → IsUpToTimes bound (suc k) n
      one n u = subst (λ i. IsUpToTimes bound (suc k) i) (let e : n + 0 ≡ n = omega arith in e) (times_more bound k n 0 u (times_none bound k))

  later : (f : Graph) (k : ℕ) (o z : ℕ) → IsRoomyTimes S f (suc k) bound o → IsReached f o bound z → IsRoomyTimes S f k bound z
  later f k o z room r a q =
      room a (
        r.0 ++ q.0,
        subst (λ i. IsUpToTimes bound (suc k) i) (sym (length-append r.0 q.0)) (times_more bound k (length r.0) (length q.0) r.1 q.1),
        walk_join (IsStep f) o r.0 z q.0 a r.2 q.2,
      )

  walk_moved : (x : Point) (zs : List Point) (y : Point) → IsRoomyTimes S g (length zs) bound x.object → IsRoomyTimes S h (length zs) bound x.object → IsWalk R x zs y → IsWalk Q x zs y
  walk_moved x [] y room room_too walk = walk
  walk_moved x (z ∷ zs) y room room_too walk =
      let step : Q x z = each x z (now g (length zs) x.object room) (now h (length zs) x.object room_too) walk.0 in (
        step,
        walk_moved z zs y
            (later g (length zs) x.object z.object room (leads x z walk.0))
            (later h (length zs) x.object z.object room_too (leads_too x z step)) walk.1,
      )

mutual
  -- two graphs that agree on a set have the same quadruples from each point from which the path can't leave the set
  pub rel_moved : (p : PathTerm) (S : ℕ → Type 0) (g h : Graph) → AgreeOn S g h → (x y : Point) → IsRoomy S g (path_steps p) x.object → IsRoomy S h (path_steps p) x.object → Rel p g x y → Rel p h x y
  rel_moved (OfTest c) S g h agree x y room room_too r =
      let s = roomy_here S g (test_steps c) x.object room in
      (at_moved S g h agree x s r.0, r.1, sat_moved c S g h agree x room room_too r.0 r.2)
  rel_moved Forward S g h agree x y room room_too r =
      let s = roomy_here S g (Some 1) x.object room in
      let t = room y.object (path_reached Forward g x y r) in (
        at_moved S g h agree x s r.0,
        at_moved S g h agree y t r.1,
        (
          r.2.0,
          elim (r.2.1) [
            | inl source ↦ inl (moved S g h agree _ y.object t r.1.stands source)
            | inr target ↦ inr (moved S g h agree _ x.object s r.0.stands target)
          ],
        ),
      )
  rel_moved Backward S g h agree x y room room_too r =
      let s = roomy_here S g (Some 1) x.object room in
      let t = room y.object (path_reached Backward g x y r) in (
        at_moved S g h agree x s r.0,
        at_moved S g h agree y t r.1,
        (
          r.2.0,
          elim (r.2.1) [
            | inl target ↦ inl (moved S g h agree _ y.object t r.1.stands target)
            | inr source ↦ inr (moved S g h agree _ x.object s r.0.stands source)
          ],
        ),
      )
  rel_moved Next S g h agree x y room room_too r =
      let s = roomy_here S g (Some 0) x.object room in
      (at_moved S g h agree x s r.0, at_moved S g h agree y (subst S (sym r.2.0) s) r.1, r.2)
  rel_moved Previous S g h agree x y room room_too r =
      let s = roomy_here S g (Some 0) x.object room in
      (at_moved S g h agree x s r.0, at_moved S g h agree y (subst S (sym r.2.0) s) r.1, r.2)
  rel_moved (Sequence p q) S g h agree x y room room_too r =
      let m = path_steps p in
      let n = path_steps q in
      let sum = together (λ i j. i + j) m n in
      let first : Rel p h x r.0 = rel_moved p S g h agree x r.0 (roomy_less S g m sum x.object (first_of_sum m n) room) (roomy_less S h m sum x.object (first_of_sum m n) room_too) r.1 in (
        r.0,
        first,
        rel_moved q S g h agree r.0 y
            (roomy_behind S g m n sum x.object r.0.object (upto_sum m n) room (path_reached p g x r.0 r.1))
            (roomy_behind S h m n sum x.object r.0.object (upto_sum m n) room_too (path_reached p h x r.0 first)) r.2,
      )
  rel_moved (Choice p q) S g h agree x y room room_too (inl r) =
      let m = path_steps p in
      let n = path_steps q in
      inl (rel_moved p S g h agree x y (roomy_less S g m (together max m n) x.object (upto_left m n) room) (roomy_less S h m (together max m n) x.object (upto_left m n) room_too) r)
  rel_moved (Choice p q) S g h agree x y room room_too (inr r) =
      let m = path_steps p in
      let n = path_steps q in
      inr (rel_moved q S g h agree x y (roomy_less S g n (together max m n) x.object (upto_right m n) room) (roomy_less S h n (together max m n) x.object (upto_right m n) room_too) r)
  rel_moved (Repetition p n m) S g h agree x y room room_too r =
      let body = path_steps p in
      let room_times : (f : Graph) → IsRoomy S f (path_steps (Repetition p n m)) x.object → IsRoomyTimes S f (length r.1.0) body x.object =
      λ f wide a k. wide a (k.0, upto_times body m (length r.1.0) (length k.0) r.1.1.1 k.1, k.2) in (
        at_moved S g h agree x (roomy_here S g (path_steps (Repetition p n m)) x.object room) r.0,
        (r.1.0, r.1.1, walk_moved S g h body (Rel p g) (Rel p h) (path_reached p g) (path_reached p h) (rel_moved p S g h agree) x r.1.0 y (room_times g room) (room_times h room_too) r.1.2),
      )

  pub sat_moved : (c : TestTerm) (S : ℕ → Type 0) (g h : Graph) → AgreeOn S g h → (x : Point) → IsRoomy S g (test_steps c) x.object → IsRoomy S h (test_steps c) x.object → IsAt g x → Sat c g x → Sat c h x
  sat_moved IsNode S g h agree x room room_too at is = moved S g h agree _ x.object (roomy_here S g (Some 0) x.object room) at.stands is
  sat_moved IsEdge S g h agree x room room_too at is = moved S g h agree _ x.object (roomy_here S g (Some 0) x.object room) at.stands is
  sat_moved (HasLabel label) S g h agree x room room_too at is = moved S g h agree _ x.object (roomy_here S g (Some 0) x.object room) at.stands is
  sat_moved (HasValue prop value) S g h agree x room room_too at is = moved S g h agree _ x.object (roomy_here S g (Some 0) x.object room) at.stands is
  sat_moved (IsBelow k) S g h agree x room room_too at is = is
  sat_moved DoesExist S g h agree x room room_too at is = moved S g h agree _ x.object (roomy_here S g (Some 0) x.object room) at.stands is
  sat_moved (Condition p) S g h agree x room room_too at is = (is.0, rel_moved p S g h agree x is.0 room room_too is.1)
  sat_moved (Conjunction c d) S g h agree x room room_too at is =
      let m = test_steps c in
      let n = test_steps d in (
        sat_moved c S g h agree x (roomy_less S g m (together max m n) x.object (upto_left m n) room) (roomy_less S h m (together max m n) x.object (upto_left m n) room_too) at is.0,
        sat_moved d S g h agree x (roomy_less S g n (together max m n) x.object (upto_right m n) room) (roomy_less S h n (together max m n) x.object (upto_right m n) room_too) at is.1,
      )
  sat_moved (Disjunction c d) S g h agree x room room_too at (inl is) =
      let m = test_steps c in
      let n = test_steps d in
      inl (sat_moved c S g h agree x (roomy_less S g m (together max m n) x.object (upto_left m n) room) (roomy_less S h m (together max m n) x.object (upto_left m n) room_too) at is)
  sat_moved (Disjunction c d) S g h agree x room room_too at (inr is) =
      let m = test_steps c in
      let n = test_steps d in
      inr (sat_moved d S g h agree x (roomy_less S g n (together max m n) x.object (upto_right m n) room) (roomy_less S h n (together max m n) x.object (upto_right m n) room_too) at is)
  -- the other way round, from the second graph to the first
  sat_moved (Negation c) S g h agree x room room_too at fails =
      λ is. fails (sat_moved c S h g (turned S g h agree) x room_too room (at_moved S g h agree x (roomy_here S g (test_steps c) x.object room) at) is)
