-- What is kept, and the watches that it stands for.
use Rattle.std.proofs.Common.{◌≡◌, ◌↔◌, ◌⊎◌, ⊎_elim, inl, inr, ℕ, zero, suc, ◌+◌, ◌<◌, ◌≤◌, Bool, true, false, cond, List, ◌∷◌, [], ◌++◌, length, map, take, drop, set, get_or, Option, Some, None, refl, sym, ◌∙◌, ap, subst, arith, true≢false, length-set}
use Rattle.std.proofs.lemmas.List.{length-map, map-append, take_all, length-append}
use Rattle.std.proofs.lemmas.Option.{slice_get_read}
use Rattle.std.specs.Prelude.{nat_eq, slice_get, slice_set, option_map, is_some, IfSome, IsSome, IsNone, IsSomeAnd, IsTrue}
use Rattle.std.specs.List.{remove, zip}
use Rattle.std.specs.Cmp.Lexicographic.{pointwise}
use Rattle.itpg_base.specs.Words.{Word}
use Rattle.itpg_base.specs.Graphs.{changed_at}
use Rattle.itpg_base.proofs.Objects.{word_same, word_refl, there, here, same_some}
use Rattle.itpg_base.specs.Decided.{Decided}
use Rattle.itpg_base.specs.declared.touch.Touch.{Touch}
use Rattle.label_scope.specs.Touching.{Meets}
use Rattle.path_ast.specs.declared.ast.Query.{Query}
use Rattle.path_ast.specs.Terms.{QueryTerm, query_term}
use Rattle.itpg_base.specs.Lists.{Among}
use Rattle.relation_rows.specs.declared.answered.Answer.{Answer}
use Rattle.relation_rows.specs.Answered.{pairs, times, answered}
use Rattle.itpg_base.proofs.Lists.{among_append}
use Rattle.relation_rows.proofs.Partitions.{among_more, front_among, rest_among}
use Rattle.standing_queries.specs.declared.kept.Kept.{Kept}
use Rattle.standing_queries.specs.Watches.{Watch, MayBeWatched, IsWatched, IsOnlyPlace, asks_for_both, IsOfKind, no_rows, new_watch, without, IsFresh, Keeps}
use Rattle.standing_queries.specs.Stores.{watch_of, watches_of, IsSound, AreSound, IsSettled, AreStored}
use Rattle.standing_queries.specs.Touched.{IsTouched, IsTouchedAt}
use Rattle.standing_queries.proofs.DecidedTouch.{decide_meets}
use Rattle.standing_queries.proofs.Pairs.{got, zip_get, zip_length, zip_remove, zip_set, zip_push, zip_second, zip_among, zip_first}
use Rattle.standing_queries.proofs.Named.{get_among, place_among, one_place}
use Rattle.standing_queries.proofs.Watching.{map_among, said_at, named_at, watched_in, taken_out, changed, set_mapped, some_mapped, sound_none, sound_more, sound_without, sound_changed}

-- what is among a list of which an element was set, or taken out
set_among : {X : Type 0} (xs : List X) (i : ℕ) (z x : X) → Among (set xs i z) x → (z ≡ x) ⊎ Among xs x
set_among [] i z x a = inr a
set_among (y ∷ ys) zero z x a = ⊎_elim (λ e. inl e) (λ b. inr (inr b)) a
set_among (y ∷ ys) (suc i) z x a = ⊎_elim (λ e. inr (inl e)) (λ b. ⊎_elim (λ e. inl e) (λ c. inr (inr c)) (set_among ys i z x b)) a

remove_among : {X : Type 0} (xs : List X) (i : ℕ) (x : X) → Among (remove xs i) x → Among xs x
remove_among xs i x a = ⊎_elim (λ b. front_among xs i x b) (λ b. rest_among xs (suc i) x b) (among_append (take i xs) (drop (suc i) xs) x a)

pub got_among : {X : Type 0} (xs : List X) (i : ℕ) (x : X) → slice_get xs i ≡ Some x → Among xs x
got_among [] i x e = absurd (let none : ⊥ = cc in none)
got_among (y ∷ ys) zero x e = inl (let is : y ≡ x = cc in is)
got_among (y ∷ ys) (suc i) x e = inr (got_among ys i x e)

-- what isn't marked needs nothing
pub unsettled : (k : Kept) → k.settled ≡ false → IsSettled k
unsettled k e t = absurd (true≢false (sym t ∙ e))

-- nothing is kept at first
pub stored_none : AreStored [] []
stored_none = record { paired = refl; sound = sound_none; settled = λ k a. absurd a }

-- what is kept stands for these watches
module _ (qs : List Query) (ks : List Kept) (ws : List Watch) (v : watches_of qs ks ≡ ws) (s : AreStored qs ks) where
  pub as_many : length ws ≡ length ks
  as_many = let l = length-map (zip qs ks) watch_of in let z = zip_length qs ks s.paired in let e = ap length v in omega arith

  pub within_queries : (i : ℕ) → i < length ws → i < length qs
  within_queries i lt = let many = as_many in let p = s.paired in omega arith

  pub within_items : (i : ℕ) → i < length ws → i < length ks
  within_items i lt = let many = as_many in omega arith

  -- what is read at a place
  pub kept_read : (i : ℕ) (k : Kept) → i < length ws → k ≡ get_or ks i k → slice_get ks i ≡ Some k
  kept_read i k lt e = let many = as_many in slice_get_read ks (length ks) i k refl (omega arith) e

  pub query_read : (i : ℕ) (q : Query) → i < length ws → q ≡ get_or qs i q → slice_get qs i ≡ Some q
  query_read i q lt e = slice_get_read qs (length qs) i q refl (within_queries i lt) e

  at_both : (i : ℕ) (q : Query) (k : Kept) → slice_get qs i ≡ Some q → slice_get ks i ≡ Some k → slice_get ws i ≡ Some (watch_of (q, k))
  at_both i q k d e = subst (λ (w : List Watch). slice_get w i ≡ Some (watch_of (q, k))) v (named_at watch_of (zip qs ks) i (q, k) (zip_get qs ks i q k d e))

  -- the watch of what is kept at a place
  pub of_kept : (i : ℕ) (k : Kept) → i < length ws → slice_get ks i ≡ Some k → (q : Query) × (slice_get qs i ≡ Some q) × (slice_get ws i ≡ Some (watch_of (q, k)))
  of_kept i k lt e = let q = got qs i (within_queries i lt) in (q.0, q.1, at_both i q.0 k q.1 e)

  pub of_query : (i : ℕ) (q : Query) → i < length ws → slice_get qs i ≡ Some q → (k : Kept) × (slice_get ks i ≡ Some k) × (slice_get ws i ≡ Some (watch_of (q, k)))
  of_query i q lt d =
      let many = as_many in
      let k = got ks i (omega arith) in (k.0, k.1, at_both i q k.0 d k.1)

  pub sound_at : (i : ℕ) (w : Watch) → slice_get ws i ≡ Some w → IsSound w
  sound_at i w e = (subst AreSound v s.sound).each w (get_among ws i w e)

  -- a fact of it that says nothing of the query
  pub kept_has : (i : ℕ) (k : Kept) (P : Watch → Type 0) → i < length ws → k ≡ get_or ks i k → ((q : Query) → P (watch_of (q, k))) → IsSomeAnd (slice_get ws i) P
  kept_has i k P lt e has = let w = of_kept i k lt (kept_read i k lt e) in here ws i P (watch_of (w.0, k)) w.2 (has w.0)

  pub sound_kept : (i : ℕ) (k : Kept) (P : Watch → Type 0) → i < length ws → k ≡ get_or ks i k → ((q : Query) → IsSound (watch_of (q, k)) → P (watch_of (q, k))) → IsSomeAnd (slice_get ws i) P
  sound_kept i k P lt e has =
      let w = of_kept i k lt (kept_read i k lt e) in
      here ws i P (watch_of (w.0, k)) w.2 (has w.0 (sound_at i (watch_of (w.0, k)) w.2))

  pub query_has : (i : ℕ) (q : Query) (P : Watch → Type 0) → i < length ws → q ≡ get_or qs i q → ((k : Kept) → P (watch_of (q, k))) → IsSomeAnd (slice_get ws i) P
  query_has i q P lt e has = let w = of_query i q lt (query_read i q lt e) in here ws i P (watch_of (q, w.0)) w.2 (has w.0)

  pub sound_query : (i : ℕ) (q : Query) → i < length ws → q ≡ get_or qs i q → MayBeWatched (query_term q)
  sound_query i q lt e =
      let w = of_query i q lt (query_read i q lt e) in
      (sound_at i (watch_of (q, w.0)) w.2).asks

  -- where what is kept at a place is changed
  module _ (i : ℕ) (k z : Kept) (g : Watch → Watch) (lt : i < length ws) (e : slice_get ks i ≡ Some k) (goes : (q : Query) → watch_of (q, z) ≡ g (watch_of (q, k))) where
    pub set_kept : watches_of qs (set ks i z) ≡ changed_at ws i g
    set_kept =
        let w = of_kept i k lt e in
        ap (map watch_of) (zip_set qs ks i w.0 z w.1)
        ∙ changed watch_of (zip qs ks) i (w.0, k) (w.0, z) g (zip_get qs ks i w.0 k w.1 e) (goes w.0)
        ∙ ap (λ (us : List Watch). changed_at us i g) v

    pub stored_kept : ((w : Watch) → (g w).name ≡ w.name) → ((w : Watch) → slice_get ws i ≡ Some w → IsSound w → IsSound (g w)) → IsSettled z → AreStored qs (set ks i z)
    stored_kept named sound settled = record {
      paired = (let p = s.paired in let l = length-set ks i z in omega arith);
      sound = subst AreSound (sym set_kept) (sound_changed g named i ws (subst AreSound v s.sound) (λ w at. sound w at (sound_at i w at)));
      settled = λ u a. ⊎_elim (λ (e : z ≡ u). subst IsSettled e settled) (λ b. s.settled u b) (set_among ks i z u a);
    }

  pub all_queries : map query_term qs ≡ map (λ (w : Watch). w.query) ws
  all_queries = zip_first (λ p. query_term p.0) query_term (λ p. refl) qs ks s.paired ∙ of_watches (zip qs ks) ∙ ap (map (λ (w : Watch). w.query)) v
    where
      of_watches : (ps : List (Query × Kept)) → map (λ (p : Query × Kept). query_term p.0) ps ≡ map (λ (w : Watch). w.query) (map watch_of ps)
      of_watches [] = refl
      of_watches (p ∷ ps) = ap (λ (us : List QueryTerm). query_term p.0 ∷ us) (of_watches ps)

  pub each_query : (q : Query) → Among qs q → MayBeWatched (query_term q)
  each_query q a = let p = zip_among qs ks q s.paired a in (s.sound.each (watch_of (q, p.0)) (map_among watch_of (zip qs ks) (q, p.0) p.1)).asks

  -- where a touch was asked of what is kept at a place
  module _ (i : ℕ) (k z : Kept) (touch : Touch) (lt : i < length ws) (e : slice_get ks i ≡ Some k) (same : z ≡ record k { now = z.now; settled = z.settled })
      (gone : Meets k.foot touch → z.now ≡ None) (stays : (Meets k.foot touch → ⊥) → z.now ≡ k.now) where
    is_touched : (q : Query) → IsTouched touch (watch_of (q, k)) (watch_of (q, z))
    is_touched q = record {
      same = ap (λ (u : Kept). watch_of (q, u)) same;
      gone = λ met. ap (option_map answered) (gone met);
      stays = λ unmet. ap (option_map answered) (stays unmet);
    }

    pub touched_there : IsTouchedAt i touch ws (watches_of qs (set ks i z))
    touched_there =
        let w = of_kept i k lt e in (
          watch_of (w.0, k),
          watch_of (w.0, z),
          w.2,
          is_touched w.0,
          ap (map watch_of) (zip_set qs ks i w.0 z w.1) ∙ set_mapped watch_of (zip qs ks) i (w.0, z) ∙ ap (λ (us : List Watch). slice_set us i (watch_of (w.0, z))) v,
        )

    pub touched_stored : (IsTrue z.settled → IsTrue k.settled × (z.now ≡ k.now)) → AreStored qs (set ks i z)
    touched_stored settled =
        stored_kept i k z (λ (w : Watch). record w { now = option_map answered z.now }) lt e (λ q. ap (λ (u : Kept). watch_of (q, u)) same) (λ w. refl)
        (λ w at sound. record { asks = sound.asks; kind = sound.kind; kept_kind = still_of_kind w at sound (decide_meets k.foot touch) })
        (λ t.
        let before = settled t in
        let base : z.base ≡ k.base = ap (λ (u : Kept). u.base) same in
        ap (option_map answered) before.1 ∙ s.settled k (kept_among k e) before.0 ∙ ap (λ (a : Answer). Some (answered a)) (sym base))
      where
        kept_among : (u : Kept) → slice_get ks i ≡ Some u → Among ks u
        kept_among u at = got_among ks i u at

        still_of_kind : (w : Watch) → slice_get ws i ≡ Some w → IsSound w → Decided (Meets k.foot touch) → IfSome (option_map answered z.now) (IsOfKind w.query)
        still_of_kind w at sound (inl met) = subst (λ o. IfSome (option_map answered o) (IsOfKind w.query)) (sym (gone met)) tt
        still_of_kind w at sound (inr unmet) =
            let own = of_kept i k lt e in
            let is : w ≡ watch_of (own.0, k) = same_some w (watch_of (own.0, k)) (slice_get ws i) at own.2 in
            let kept : w.now ≡ option_map answered z.now = ap (λ (u : Watch). u.now) is ∙ sym (ap (option_map answered) (stays unmet)) in
            subst (λ o. IfSome o (IsOfKind w.query)) kept sound.kept_kind

  -- the answer that is lent of what is kept at a place
  module _ {B : Type 0} (now_of : B → Answer) (i : ℕ) (k : Kept) (lt : i < length ws) (read : k ≡ get_or ks i k) where
    pub lent_kept : (r : Option B) → option_map now_of r ≡ k.now → IsSomeAnd (slice_get ws i) (λ w. w.now ≡ option_map (λ b. answered (now_of b)) r)
    lent_kept r is = kept_has i k (λ w. w.now ≡ option_map (λ b. answered (now_of b)) r) lt read (λ q. ap (option_map answered) (sym is) ∙ as_one r)
      where
        as_one : (o : Option B) → option_map answered (option_map now_of o) ≡ option_map (λ b. answered (now_of b)) o
        as_one None = refl
        as_one (Some b) = refl

    pub lent_kind : (r : Option B) → option_map now_of r ≡ k.now → IfSome r (λ b. IsSomeAnd (slice_get ws i) (λ w. IsOfKind w.query (answered (now_of b))))
    lent_kind None is = tt
    lent_kind (Some b) is =
        sound_kept i k (λ w. IsOfKind w.query (answered (now_of b))) lt read
        (λ q sound. let now = sym (ap (option_map answered) is) in subst (λ o. IfSome o (IsOfKind (watch_of (q, k)).query)) now sound.kept_kind)

  -- the base of what is marked
  pub settled_here : (i : ℕ) (k : Kept) → i < length ws → k ≡ get_or ks i k → IsTrue k.settled → IsSomeAnd (slice_get ws i) (λ w. (w.base ≡ answered k.base) × (w.now ≡ Some (answered k.base)))
  settled_here i k lt read t =
      let is = s.settled k (got_among ks i k (kept_read i k lt read)) t in
      kept_has i k (λ w. (w.base ≡ answered k.base) × (w.now ≡ Some (answered k.base))) lt read (λ q. (refl, is))

  -- the search for a name
  pub found_here : (name : Word) (i : ℕ) (k : Kept) → i < length ks → k ≡ get_or ks i k → pointwise nat_eq k.name name ≡ true → IsSomeAnd (slice_get ws i) (λ w. w.name ≡ name)
  found_here name i k lt e t = let many = as_many in kept_has i k (λ w. w.name ≡ name) (omega arith) e (λ q. word_same k.name name t)

  pub only_here : (name : Word) (i : ℕ) → IsSomeAnd (slice_get ws i) (λ w. w.name ≡ name) → IsOnlyPlace ws name i
  only_here name i at other too =
      let that = there ws other (λ w. w.name ≡ name) too in
      let this = there ws i (λ w. w.name ≡ name) at in
      one_place (λ (u : Watch). u.name) ws other i that.0 this.0 (subst AreSound v s.sound).differ that.1 this.1 (that.2 ∙ sym this.2)

  pub nowhere : (name : Word) (i : ℕ) → length ks ≤ i → ((x : Kept) → Among (take i ks) x → x.name ≡ name → ⊥) → IsWatched ws name → ⊥
  nowhere name i le before h =
      let w = watched_in watch_of (zip qs ks) name (subst (λ (us : List Watch). IsWatched us name) (sym v) h) in
      before w.0.1 (subst (λ (xs : List Kept). Among xs w.0.1) (sym (take_all i ks le)) (zip_second qs ks w.0 w.1)) w.2

  -- one less
  module _ (name : Word) (i : ℕ) (at : IsSomeAnd (slice_get ws i) (λ w. w.name ≡ name)) where
    pub removed : watches_of (remove qs i) (remove ks i) ≡ without name ws
    removed =
        let p = some_mapped watch_of (zip qs ks) i (λ w. w.name ≡ name) (subst (λ (us : List Watch). IsSomeAnd (slice_get us i) (λ x. x.name ≡ name)) (sym v) at) in
        ap (map watch_of) (zip_remove qs ks i s.paired) ∙ taken_out watch_of (zip qs ks) i p.0 name p.1 p.2 s.sound.differ ∙ ap (without name) v

    pub removed_stored : AreStored (remove qs i) (remove ks i)
    removed_stored = record {
      paired = as_long qs ks i s.paired;
      sound = subst AreSound (sym removed) (sound_without name ws (subst AreSound v s.sound));
      settled = λ k a. s.settled k (remove_among ks i k a);
    }
      where
        as_long : (xs : List Query) (ys : List Kept) (j : ℕ) → length xs ≡ length ys → length (remove xs j) ≡ length (remove ys j)
        as_long [] [] zero l = refl
        as_long [] [] (suc j) l = refl
        as_long [] (y ∷ ys) j l = absurd (omega (arith, l))
        as_long (x ∷ xs) [] j l = absurd (omega (arith, l))
        as_long (x ∷ xs) (y ∷ ys) zero l = omega (arith, l)
        as_long (x ∷ xs) (y ∷ ys) (suc j) l = ap suc (as_long xs ys j (omega (arith, l)))

  -- one more
  module _ (q : Query) (k : Kept) (base : answered k.base ≡ no_rows (query_term q)) (none : k.now ≡ None) (fresh : k.settled ≡ false) where
    pub pushed : watches_of (qs ++ q ∷ []) (ks ++ k ∷ []) ≡ ws ++ new_watch k.name (query_term q) k.plan.0 k.foot ∷ []
    pushed =
        ap (map watch_of) (zip_push qs ks q k s.paired)
        ∙ map-append watch_of (zip qs ks) ((q, k) ∷ [])
        ∙ ap (λ (us : List Watch). us ++ watch_of (q, k) ∷ []) v
        ∙ ap (λ (w : Watch). ws ++ w ∷ []) (let now = none in rw (base, none) refl)

    pub pushed_stored : MayBeWatched (query_term q) → (IsWatched ws k.name → ⊥) → length ks < 32 → AreStored (qs ++ q ∷ []) (ks ++ k ∷ [])
    pushed_stored asks free few = record {
      paired = (let p = s.paired in let a = length-append qs (q ∷ []) in let b = length-append ks (k ∷ []) in omega arith);
      sound = subst AreSound (sym pushed)
          (sound_more ws (new_watch k.name (query_term q) k.plan.0 k.foot) (subst AreSound v s.sound)
          (record { asks = asks; kind = kind_of_none (asks_for_both (query_term q)) (query_term q) refl; kept_kind = tt })
          free (let many = as_many in omega arith));
      settled = λ u a. ⊎_elim (λ b. s.settled u b) (λ b. ⊎_elim (λ (e : k ≡ u). subst IsSettled e (unsettled k fresh)) (λ c. absurd c) b) (among_append ks (k ∷ []) u a);
    }
      where
        kind_of_none : (b : Bool) (t : QueryTerm) → asks_for_both t ≡ b → IsOfKind t (cond b (pairs []) (times []))
        kind_of_none true t e = e
        kind_of_none false t e = e

pub not_more : (items : List Kept) (name : Word) (i : ℕ) (k : Kept) → i < length items → k ≡ get_or items i k → ((x : Kept) → Among (take i items) x → x.name ≡ name → ⊥) → pointwise nat_eq k.name name ≡ false
    → (x : Kept) → Among (take (i + 1) items) x → x.name ≡ name → ⊥
not_more items name i k lt e before other x a same = ⊎_elim
    (λ b. before x b same)
    (λ (here : k ≡ x). true≢false (sym (ap (λ (v : Word). pointwise nat_eq v name) (ap (λ (v : Kept). v.name) here ∙ same) ∙ word_refl name) ∙ other))
    (among_more items i k x lt e a)

-- what was found
pub some_within : (ws : List Watch) (i : ℕ) (P : Watch → Type 0) → IsSomeAnd (slice_get ws i) P → i < length ws
some_within [] i P h = absurd h
some_within (w ∷ ws) zero P h = omega arith
some_within (w ∷ ws) (suc i) P h = let less = some_within ws i P h in omega arith

pub watched_some : (ws : List Watch) (i : ℕ) (name : Word) → IsSomeAnd (slice_get ws i) (λ w. w.name ≡ name) → IsWatched ws name
watched_some [] i name h = absurd h
watched_some (w ∷ ws) zero name h = (w, inl refl, h)
watched_some (w ∷ ws) (suc i) name h = let k = watched_some ws i name h in (k.0, inr k.1, k.2)

pub watched_found : (ws : List Watch) (name : Word) (r : Option ℕ) → IfSome r (λ i. IsSomeAnd (slice_get ws i) (λ w. w.name ≡ name)) → is_some r ≡ true → IsWatched ws name
watched_found ws name None h e = absurd (true≢false (sym e))
watched_found ws name (Some i) h e = watched_some ws i name h

-- the answer that is lent of the watch at a place, whose name it is
module _ {B : Type 0} (now_of : B → Answer) (ws : List Watch) (name : Word) (i : ℕ) (named : IsSomeAnd (slice_get ws i) (λ w. w.name ≡ name)) where
  the_watch : (w : Watch) × (slice_get ws i ≡ Some w)
  the_watch = got ws i (some_within ws i (λ w. w.name ≡ name) named)

  lent_of : (r : Option B) → IsSomeAnd (slice_get ws i) (λ w. w.now ≡ option_map (λ b. answered (now_of b)) r) → (the_watch).0.now ≡ option_map (λ b. answered (now_of b)) r
  lent_of r lent = said_at ws i (the_watch).0 (λ w. w.now ≡ option_map (λ b. answered (now_of b)) r) (the_watch).1 lent

  pub kept_answer : (r : Option B) → IsSomeAnd (slice_get ws i) (λ w. w.now ≡ option_map (λ b. answered (now_of b)) r)
      → IfSome r (λ b. IsSomeAnd (slice_get ws i) (λ w. IsOfKind w.query (answered (now_of b)))) → IfSome r (λ b. Keeps ws name (answered (now_of b)))
  kept_answer None lent kind = tt
  kept_answer (Some b) lent kind =
      let w = (the_watch).0 in
      let at = (the_watch).1 in (
        w,
        get_among ws i w at,
        said_at ws i w (λ u. u.name ≡ name) at named,
        lent_of (Some b) lent,
        said_at ws i w (λ u. IsOfKind u.query (answered (now_of b))) at kind,
      )

  pub no_answer : IsOnlyPlace ws name i → (r : Option B) → IsSomeAnd (slice_get ws i) (λ w. w.now ≡ option_map (λ b. answered (now_of b)) r) → IsNone r ↔ (IsFresh ws name → ⊥)
  no_answer only None lent = (
    λ none fresh.
        let w = (the_watch).0 in
        let other = place_among ws fresh.0 fresh.1 in
        let same : other.0 ≡ i = only other.0 (here ws other.0 (λ u. u.name ≡ name) fresh.0 other.1 fresh.2) in
        let is : fresh.0 ≡ w = same_some fresh.0 w (slice_get ws i) (subst (λ (j : ℕ). slice_get ws j ≡ Some fresh.0) same other.1) (the_watch).1 in
        let now : fresh.0.now ≡ None = ap (λ (u : Watch). u.now) is ∙ lent_of None lent in
        true≢false (sym (subst (λ o. IsSome o) now fresh.3)),
    λ unfresh. refl,
  )
  no_answer only (Some b) lent = (
    λ none. absurd (true≢false none),
    λ unfresh.
        let w = (the_watch).0 in
        let at = (the_watch).1 in
        absurd (unfresh (w, get_among ws i w at, said_at ws i w (λ u. u.name ≡ name) at named, subst (λ o. IsSome o) (sym (lent_of (Some b) lent)) refl)),
  )
